-- Cells stand for one pool at most, which `plain_at` reads off them.
use Rattle.std.proofs.Common.{◌≡◌, ℕ, ◌+◌, ◌-◌, ◌*◌, ◌/◌, ◌%◌, List, [], ◌∷◌, length, Option, refl, sym, ap, ◌∙◌, arith}
use Rattle.layout_model.specs.Pool.{size_of, live_of}
use Rattle.layout_model.specs.Plain.{PlainView, free_from, head_of, header_for, pair_of, plain_at, pool_of_words, AreLinked, StandsFor}
use Rattle.pool_core.proofs.Stands.{next_within, pair_high, pair_low}

pub free_is : (cells : List (Option ℕ)) (at : ℕ) (os : List ℕ) → AreLinked cells at os → free_from cells at (length os) (head_of os) ≡ os
free_is cells at [] l = refl
free_is cells at (o ∷ os) l = ap (λ xs. o ∷ xs) (ap (free_from cells at (length os)) l.0 ∙ free_is cells at os l.1)

pub words_tell : (cells : List (Option ℕ)) (at : ℕ) (p : PlainView) → StandsFor cells at p → pool_of_words cells at (header_for p) ≡ p
words_tell cells at p s =
    let n = next_within p.pool s.pool in
    let class : pair_of p.pool.arena p.pool.class / 4294967296 ≡ p.pool.class = pair_high p.pool.arena p.pool.class s.arena in
    let arena : pair_of p.pool.arena p.pool.class % 4294967296 ≡ p.pool.arena = pair_low p.pool.arena p.pool.class s.arena in
    let next : pair_of p.pool.next (16384 - size_of p.pool) % 4294967296 ≡ p.pool.next = pair_low p.pool.next (16384 - size_of p.pool) (omega arith) in
    let count : (p.pool.next - 48) / (16 * (p.pool.class + 1)) - live_of p.pool ≡ length p.pool.free = let sum = s.pool.live in omega arith in
    let many : (pair_of p.pool.next (16384 - size_of p.pool) % 4294967296 - 48) / (16 * (pair_of p.pool.arena p.pool.class / 4294967296 + 1)) - live_of p.pool ≡ length p.pool.free = (λ i. (next i - 48) / (16 * (class i + 1)) - live_of p.pool) ∙ count in
    let free : free_from cells at ((pair_of p.pool.next (16384 - size_of p.pool) % 4294967296 - 48) / (16 * (pair_of p.pool.arena p.pool.class / 4294967296 + 1)) - live_of p.pool) (head_of p.pool.free) ≡ p.pool.free = ap (λ k. free_from cells at k (head_of p.pool.free)) many ∙ free_is cells at p.pool.free s.linked in
    λ i. record { pool = record { class = class i; arena = arena i; free = free i; next = next i }; next = p.next; prev = p.prev }

pub plain_is : (cells : List (Option ℕ)) (at : ℕ) (p : PlainView) → StandsFor cells at p → plain_at cells at ≡ p
unfolding plain_at
plain_is cells at p s = ap (pool_of_words cells at) s.header ∙ words_tell cells at p s

pub plain_once : (cells : List (Option ℕ)) (at : ℕ) (p q : PlainView) → StandsFor cells at p → StandsFor cells at q → p ≡ q
plain_once cells at p q s t = sym (plain_is cells at p s) ∙ plain_is cells at q t
