-- Cells that stand for a pool, as the pool or the cells change.
use Rattle.std.proofs.Common.{Bool, IsTrue, ◌≡◌, ◌≢◌, ◌↔◌, ℕ, suc, ◌+◌, ◌-◌, ◌*◌, ◌/◌, ◌%◌, ◌<◌, ◌≤◌, ◌⊎◌, inl, inr, List, [], ◌∷◌, length, get_or, set, Option, None, refl, sym, ap, subst, ◌∙◌, arith}
use Rattle.std.proofs.lemmas.Bool.Decides.{eqb_tells, leb_tells}
use Rattle.std.proofs.Math.Nat.{mul-div-le, mul-le-mul_left}
use native.Mathlib.Numerals.{unary_clauses}
use Rattle.raw_region.specs.Cells.{AtHome, word_at}
use Rattle.raw_region.proofs.CallerLemmas.{home_part, home_inside}
use Rattle.extents.specs.Sums.{Has, Inserted}
use Rattle.layout_model.specs.Sizes.{size_of_class, capacity}
use Rattle.layout_model.specs.Pool.{PoolView, new_pool, starts, times, size_of, made_of, blocks_of, live_of, next_block, after_take, after_give, HasRoom, IsFull, IsPool, IsBlock}
use Rattle.layout_model.specs.Plain.{PlainView, header_of, header_for, head_of, pair_of, words_of, after_taking, after_giving, new_plain, AreLinked, StandsFor}
use Rattle.pool_core.specs.Calls.{InRun, InHeaderOrBlock, OnlyAt, TakenOf, GivenOf}
use Rattle.pool_core.proofs.Blocks.{one_here, start_at, in_use, block_inside}
use Rattle.pool_core.proofs.Moves.{took, gave, new_is_pool}
use Rattle.pool_core.proofs.Words.{home_kept, word_same, header_same, only_more, only_then}

-- ---- where blocks lie

pub has_times : (o : ℕ) (xs : List ℕ) → Has o xs → 1 ≤ times o xs
has_times o [] h = absurd h
has_times o (x ∷ xs) (inl same) = let e = one_here o xs in subst (λ y. 1 ≤ times o (y ∷ xs)) (sym same) (omega arith)
has_times o (x ∷ xs) (inr h) = let i = has_times o xs h in omega arith

pub small_size : (class : ℕ) → class < 32 → (16 ≤ size_of_class class) × (size_of_class class ≤ 512)
small_size class lt = (omega arith, omega arith)

-- a block before the next offset
pub record PlacedAt (p : PoolView) (o : ℕ) : Type 0 where
  pub place : ℕ
  pub made : place < made_of p
  pub is : o ≡ 48 + size_of p * place
  pub high : o + size_of p ≤ p.next

one_after : (s k n : ℕ) → k < n → s * k + s ≤ s * n
one_after s k n lt =
    let least : suc k ≤ n = omega arith in let more : s * suc k ≡ s * k + s = simp unary_clauses (omega arith) in
    let a = mul-le-mul_left s least in omega arith

placed : (p : PoolView) (o : ℕ) → IsPool p → 1 ≤ times o (starts (size_of p) (made_of p)) → PlacedAt p o
placed p o s h =
    let k = start_at (size_of p) (made_of p) o h in
    record { place = k.0; made = k.1.0; is = k.1.1; high = (let e = k.1.1 in let n = s.next in let a = one_after (size_of p) k.0 (made_of p) k.1.0 in omega arith) }

pub free_at : (p : PoolView) (o : ℕ) → IsPool p → Has o p.free → PlacedAt p o
free_at p o s h = let t = has_times o p.free h in let f = s.free o in placed p o s (omega arith)

pub used_at : (p : PoolView) (o : ℕ) → IsPool p → Has o (blocks_of p) → PlacedAt p o
used_at p o s h = placed p o s (in_use o p.free (starts (size_of p) (made_of p)) h).1

-- a free block is none in use
pub free_unused : (p : PoolView) (o off : ℕ) → Has o p.free → Has off (blocks_of p) → o ≢ off
free_unused p o off free used same =
    let none = (in_use off p.free (starts (size_of p) (made_of p)) used).0 in
    let some = has_times o p.free free in
    let e : times o p.free ≡ times off p.free = ap (λ x. times x p.free) same in absurd (omega arith)

-- two blocks do not meet
pub blocks_beside : (p : PoolView) (o off : ℕ) → PlacedAt p o → PlacedAt p off → o ≢ off → (o + size_of p ≤ off) ⊎ (off + size_of p ≤ o)
blocks_beside p o off a b other = elim (leb_tells (suc a.place) b.place) [
  | inl w ↦ inl (let e = a.is in let f = b.is in let m = one_after (size_of p) a.place b.place (omega arith) in omega arith)
  | inr w ↦ elim (eqb_tells a.place b.place) [
    | inl same ↦ absurd (other (a.is ∙ (ap (λ k. 48 + size_of p * k) same.1 ∙ sym b.is)))
    | inr differ ↦ let ne = differ.1 in inr (let e = a.is in let f = b.is in let m = one_after (size_of p) b.place a.place (omega arith) in omega arith)
  ]
]

pub next_within : (p : PoolView) → IsPool p → (48 ≤ p.next) × (p.next ≤ 16384)
next_within p s =
    let n = s.next in let a = mul-le-mul_left (size_of p) s.made in let d = mul-div-le 16336 (size_of p) in (omega arith, omega arith)

-- ---- frames

pub linked_kept : (old new : List (Option ℕ)) (at : ℕ) (os : List ℕ) → ((o : ℕ) → Has o os → word_at new (at + o) ≡ word_at old (at + o)) → AreLinked old at os → AreLinked new at os
linked_kept old new at [] same l = tt
linked_kept old new at (o ∷ os) same l = (same o (inl refl) ∙ l.0, linked_kept old new at os (λ x h. same x (inr h)) l.1)

-- what stands for a pool is its header, its free blocks, and all from its next offset on
abbrev pub Holds : PoolView → ℕ → Type 0
Holds p i = (i < 48) ⊎ (((o : ℕ) × (Has o p.free × InRun o (size_of p) i)) ⊎ InRun p.next (16384 - p.next) i)

run_home : (old new : List (Option ℕ)) (off n : ℕ) → ((i : ℕ) → i < n → get_or new (off + i) None ≡ get_or old (off + i) None) → AtHome old off n → AtHome new off n
run_home old new off n same was i lt = let h = was i lt in (h.0, same i lt ∙ h.1)

module _ (old new : List (Option ℕ)) (at : ℕ) (p : PlainView) (s : StandsFor old at p) (long : length new ≡ length old)
    (same : (i : ℕ) → Holds p.pool i → get_or new (at + i) None ≡ get_or old (at + i) None) where
  -- the cell at o + i of the pool
  at_in : (o i : ℕ) → Holds p.pool (o + i) → get_or new (at + o + i) None ≡ get_or old (at + o + i) None
  at_in o i h = let e : at + (o + i) ≡ at + o + i = omega arith in subst (λ k. get_or new k None ≡ get_or old k None) e (same (o + i) h)

  pub stands_kept : StandsFor new at p
  stands_kept =
      let z = small_size p.pool.class s.pool.class in
      let inside = s.inside in
      record {
        pool = s.pool;
        arena = s.arena;
        inside = omega arith;
        header = header_same old new at long (omega arith) (λ i lt. same i (inl lt)) ∙ s.header;
        linked = linked_kept old new at p.pool.free (λ o h.
            let b = free_at p.pool o s.pool h in let high = b.high in let n = next_within p.pool s.pool in
            word_same old new (at + o) long (omega arith) (λ i lt. at_in o i (inr (inl (o, (h, (omega arith, omega arith))))))) s.linked;
        home = run_home old new at 48 (λ i lt. same i (inl lt)) s.home;
        free = λ o h. run_home old new (at + o) (size_of p.pool) (λ i lt. at_in o i (inr (inl (o, (h, (omega arith, omega arith)))))) (s.free o h);
        rest = run_home old new (at + p.pool.next) (16384 - p.pool.next) (λ i lt. at_in p.pool.next i (inr (inr (omega arith, omega arith)))) s.rest;
      }

-- cells that change outside the pool
pub stands_apart : (old new : List (Option ℕ)) (at : ℕ) (p : PlainView) → StandsFor old at p → length new ≡ length old → ((i : ℕ) → InRun at 16384 i → get_or new i None ≡ get_or old i None) → StandsFor new at p
stands_apart old new at p s long same = stands_kept old new at p s long (λ i h. same (at + i) (omega arith, within i h)) where
  within : (i : ℕ) → Holds p.pool i → at + i < at + 16384
  within i (inl a) = omega arith
  within i (inr (inl b)) = let f = free_at p.pool b.0 s.pool b.1.0 in let h = f.high in let r = b.1.1.1 in let n = next_within p.pool s.pool in omega arith
  within i (inr (inr c)) = let n = next_within p.pool s.pool in let r = c.1 in omega arith

pub stands_beside : {P : ℕ → Type 0} (old new : List (Option ℕ)) (at : ℕ) (p : PlainView) → StandsFor old at p → OnlyAt P old new → ((i : ℕ) → InRun at 16384 i → P i → ⊥) → StandsFor new at p
stands_beside old new at p s o out = stands_apart old new at p s o.length (λ i r. o.kept i (out i r))

-- ---- a header that changes

module _ (old new : List (Option ℕ)) (at : ℕ) (pool : PoolView) (next prev : ℕ) (s : StandsFor old at (record { pool = pool; next = next; prev = prev })) (only : OnlyAt (InRun at 48) old new) where
  -- a free block's first word
  word_stays : (o : ℕ) → Has o pool.free → word_at new (at + o) ≡ word_at old (at + o)
  word_stays o h =
      let b = free_at pool o s.pool h in let high = b.high in let n = next_within pool s.pool in let z = small_size pool.class s.pool.class in let inside = s.inside in let is = b.is in
      word_same old new (at + o) only.length (omega arith) (λ i lt. only.kept (at + o + i) (λ r. absurd (let high = r.1 in omega arith)))

  pub stands_linked : (n m : ℕ) → header_of new at ≡ header_for (record { pool = pool; next = n; prev = m }) → StandsFor new at (record { pool = pool; next = n; prev = m })
  stands_linked n m header = record {
    pool = s.pool;
    arena = s.arena;
    inside = (let i = s.inside in let l = only.length in omega arith);
    header = header;
    linked = linked_kept old new at pool.free word_stays s.linked;
    home = home_kept old new at 48 only s.home;
    free = λ o h. home_kept old new (at + o) (size_of pool) only (s.free o h);
    rest = home_kept old new (at + pool.next) (16384 - pool.next) only s.rest;
  }

-- ---- a block that is taken

module _ (old new : List (Option ℕ)) (at class arena : ℕ) where
  abbrev plain : List ℕ → ℕ → ℕ → ℕ → PlainView
  plain free end next prev = record { pool = record { class = class; arena = arena; free = free; next = end }; next = next; prev = prev }

  -- its cells are at home, and stay so
  pub next_home : (free : List ℕ) (end next prev : ℕ) → StandsFor old at (plain free end next prev) → IsBlock class (next_block (plain free end next prev).pool) → next_block (plain free end next prev).pool + size_of_class class ≤ 16384
      → AtHome old (at + next_block (plain free end next prev).pool) (size_of_class class)
  next_home [] end next prev s b high = home_part old (at + end) (16384 - end) (at + end) (size_of_class class) s.rest (omega arith) (omega arith)
  next_home (o ∷ os) end next prev s b high = s.free o (inl refl)

  pub stands_taken : (free : List ℕ) (end next prev : ℕ) → StandsFor old at (plain free end next prev) → IsPool (after_take (plain free end next prev).pool) → OnlyAt (InRun at 48) old new
      → header_of new at ≡ header_for (after_taking (plain free end next prev)) → StandsFor new at (after_taking (plain free end next prev))
  stands_taken [] end next prev s fine only header =
      let most = next_within (after_take (plain [] end next prev).pool) fine in
      let least = next_within (plain [] end next prev).pool s.pool in
      record {
        pool = fine;
        arena = s.arena;
        inside = (let i = s.inside in let l = only.length in omega arith);
        header = header;
        linked = tt;
        home = home_kept old new at 48 only s.home;
        free = λ o h. absurd h;
        rest = home_part new (at + end) (16384 - end) (at + (end + size_of_class class)) (16384 - (end + size_of_class class)) (home_kept old new (at + end) (16384 - end) only s.rest) (omega arith) (omega arith);
      }
  stands_taken (o ∷ os) end next prev s fine only header = record {
    pool = fine;
    arena = s.arena;
    inside = (let i = s.inside in let l = only.length in omega arith);
    header = header;
    linked = linked_kept old new at os (λ x h. word_stays old new at (record { class = class; arena = arena; free = o ∷ os; next = end }) next prev s only x (inr h)) s.linked.1;
    home = home_kept old new at 48 only s.home;
    free = λ x h. home_kept old new (at + x) (size_of_class class) only (s.free x (inr h));
    rest = home_kept old new (at + end) (16384 - end) only s.rest;
  }

-- ---- a block that is given back

module _ (old new : List (Option ℕ)) (at off : ℕ) (p : PlainView) (s : StandsFor old at p) (used : Has off (blocks_of p.pool)) (only : OnlyAt (InHeaderOrBlock at off) old new) where
  other_word : (o : ℕ) → Has o p.pool.free → word_at new (at + o) ≡ word_at old (at + o)
  other_word o h =
      let b = free_at p.pool o s.pool h in let high = b.high in let n = next_within p.pool s.pool in let z = small_size p.pool.class s.pool.class in let inside = s.inside in let is = b.is in
      let apart = blocks_beside p.pool o off b (used_at p.pool off s.pool used) (free_unused p.pool o off h used) in
      word_same old new (at + o) only.length (omega arith) (λ i lt. only.kept (at + o + i) (λ r. elim r [
        | inl head ↦ absurd (let h1 = head.1 in omega arith)
        | inr block ↦ absurd (let l1 = block.0 in let h1 = block.1 in elim apart [ inl x ↦ omega arith | inr x ↦ omega arith ])
      ]))

  pub stands_given : AtHome old (at + off) (size_of p.pool) → header_of new at ≡ header_for (after_giving p off) → word_at new (at + off) ≡ head_of p.pool.free → IsPool (after_give p.pool off) → StandsFor new at (after_giving p off)
  stands_given was header word fine = record {
    pool = fine;
    arena = s.arena;
    inside = (let i = s.inside in let l = only.length in omega arith);
    header = header;
    linked = (word, linked_kept old new at p.pool.free other_word s.linked);
    home = home_kept old new at 48 only s.home;
    free = λ o h. home_kept old new (at + o) (size_of p.pool) only (elim h [ inl same ↦ subst (λ x. AtHome old (at + x) (size_of p.pool)) same was | inr h ↦ s.free o h ]);
    rest = home_kept old new (at + p.pool.next) (16384 - p.pool.next) only s.rest;
  }

-- ---- a new pool

pub stands_new : (old new : List (Option ℕ)) (at arena class : ℕ) → AtHome old at 16384 → class < 32 → arena < 4294967296 → OnlyAt (InRun at 48) old new → header_of new at ≡ header_for (new_plain arena class) → StandsFor new at (new_plain arena class)
stands_new old new at arena class was small few only header =
    let inside = home_inside old at 16384 was (omega arith) in
    let all = home_kept old new at 16384 only was in
    record {
      pool = new_is_pool arena class small;
      arena = few;
      inside = (let l = only.length in omega arith);
      header = header;
      linked = tt;
      home = home_part new at 16384 at 48 all (omega arith) (omega arith);
      free = λ o h. absurd h;
      rest = home_part new at 16384 (at + 48) 16336 all (omega arith) (omega arith);
    }

-- ---- full pools

-- the first free offset is 0 just where none is free
none_free : (p : PoolView) (free : List ℕ) → ((o : ℕ) → Has o free → 48 ≤ o) → head_of free ≡ 0 → free ≡ []
none_free p [] low e = refl
none_free p (o ∷ os) low e = let l = low o (inl refl) in absurd (omega arith)

pub full_tells : (p : PoolView) → IsPool p → ((head_of p.free ≡ 0) × (16384 - size_of p < p.next) → IsFull p) × (IsFull p → (head_of p.free ≡ 0) × (16384 - size_of p < p.next))
full_tells p s =
    let z = small_size p.class s.class in
    let sum = s.live in let n = s.next in let most = s.made in
    let d = mul-div-le 16336 (size_of p) in
    let over : 16336 < size_of p * capacity p.class + size_of p = past (size_of p) (omega arith) in (
      (λ h.
          let e = none_free p p.free (λ o m. let b = free_at p o s m in let is = b.is in omega arith) h.0 in
          let l = ap length e in let high = h.1 in
          let enough : capacity p.class ≤ made_of p = elim (leb_tells (capacity p.class) (made_of p)) [
            | inl w ↦ w.1
            | inr w ↦ let m = one_after (size_of p) (made_of p) (capacity p.class) (omega arith) in absurd (omega arith)
          ] in omega arith),
      (λ full.
          let all : made_of p ≡ capacity p.class = omega arith in
          let e : size_of p * made_of p ≡ size_of p * capacity p.class = ap (λ k. size_of p * k) all in
          (first p.free (omega arith), omega arith)),
    ) where
      past : (d : ℕ) → 1 ≤ d → 16336 < d * (16336 / d) + d
      past d some = omega arith

      first : (xs : List ℕ) → length xs ≡ 0 → head_of xs ≡ 0
      first [] e = refl
      first (x ∷ xs) e = absurd (omega arith)

-- ---- what a header tells

pub pair_low : (a b : ℕ) → a < 4294967296 → (a + 4294967296 * b) % 4294967296 ≡ a
pair_low a b lt = omega arith

pub pair_high : (a b : ℕ) → a < 4294967296 → (a + 4294967296 * b) / 4294967296 ≡ b
pair_high a b lt = omega arith

module _ (cells : List (Option ℕ)) (at : ℕ) (p : PlainView) (s : StandsFor cells at p) where
  pub word_tells : (k w : ℕ) → w ≡ get_or (header_of cells at) k 0 → w ≡ get_or (header_for p) k 0
  word_tells k w e = e ∙ ap (λ l. get_or l k 0) s.header

  pub next_tells : (ends : ℕ) → ends ≡ get_or (header_of cells at) 5 0 → ends % 4294967296 ≡ p.pool.next
  next_tells ends e = let n = next_within p.pool s.pool in ap (λ w. w % 4294967296) (word_tells 5 ends e) ∙ pair_low p.pool.next (16384 - size_of p.pool) (omega arith)

  pub greatest_tells : (ends : ℕ) → ends ≡ get_or (header_of cells at) 5 0 → ends / 4294967296 ≡ 16384 - size_of p.pool
  greatest_tells ends e = let n = next_within p.pool s.pool in ap (λ w. w / 4294967296) (word_tells 5 ends e) ∙ pair_high p.pool.next (16384 - size_of p.pool) (omega arith)

  pub full_by_words : (head ends : ℕ) → head ≡ get_or (header_of cells at) 1 0 → ends ≡ get_or (header_of cells at) 5 0 → ((head ≡ 0) × (ends / 4294967296 < ends % 4294967296) → IsFull p.pool) × (IsFull p.pool → (head ≡ 0) × (ends / 4294967296 < ends % 4294967296))
  full_by_words head ends e f =
      let t = full_tells p.pool s.pool in let h = word_tells 1 head e in let n = next_tells ends f in let g = greatest_tells ends f in
      ((λ x. t.0 (sym h ∙ x.0, (let lt = x.1 in omega arith))), (λ x. let y = t.1 x in (h ∙ y.0, (let lt = y.1 in omega arith))))

-- ---- headers that are written

six : (h : List ℕ) → length h ≡ 6 → h ≡ get_or h 0 0 ∷ get_or h 1 0 ∷ get_or h 2 0 ∷ get_or h 3 0 ∷ get_or h 4 0 ∷ get_or h 5 0 ∷ []
six [] e = absurd (omega arith)
six (a ∷ []) e = absurd (omega arith)
six (a ∷ b ∷ []) e = absurd (omega arith)
six (a ∷ b ∷ c ∷ []) e = absurd (omega arith)
six (a ∷ b ∷ c ∷ d ∷ []) e = absurd (omega arith)
six (a ∷ b ∷ c ∷ d ∷ f ∷ []) e = absurd (omega arith)
six (a ∷ b ∷ c ∷ d ∷ f ∷ g ∷ []) e = refl
six (a ∷ b ∷ c ∷ d ∷ f ∷ g ∷ x ∷ xs) e = absurd (omega arith)

pub new_live : (arena class : ℕ) → class < 32 → live_of (new_pool arena class) ≡ 0
new_live arena class small =
    let s = new_is_pool arena class small in let sum = s.live in let n = s.next in
    elim (leb_tells 1 (made_of (new_pool arena class))) [
      | inl w ↦ let m = one_after (size_of_class class) 0 (made_of (new_pool arena class)) w.1 in absurd (omega arith)
      | inr w ↦ omega arith
    ]

-- all six words, one after another
pub new_header : (h a b c d e f : List ℕ) (names ends arena class size : ℕ) → length h ≡ 6 → class < 32 → a ≡ set h 0 0 → b ≡ set a 1 0 → c ≡ set b 2 0 → d ≡ set c 3 0 → e ≡ set d 4 names → f ≡ set e 5 ends
    → names ≡ pair_of arena class → size ≡ 16384 - size_of_class class → ends ≡ pair_of 48 size → f ≡ header_for (new_plain arena class)
new_header h a b c d e f names ends arena class size long small ea eb ec ed ee ef n z m =
    let all = six h long in
    let last : f ≡ set (set (set (set (set (set h 0 0) 1 0) 2 0) 3 0) 4 names) 5 ends = cc in
    last ∙ (ap (λ l. set (set (set (set (set (set l 0 0) 1 0) 2 0) 3 0) 4 names) 5 ends) all
    ∙ (λ i. sym (new_live arena class small) i ∷ 0 ∷ 0 ∷ 0 ∷ n i ∷ (m ∙ ap (pair_of 48) z) i ∷ []))

-- ---- what `take` does

pub low_free : (p : PoolView) → IsPool p → (o : ℕ) → Has o p.free → 48 ≤ o
low_free p s o h = let b = free_at p o s h in let is = b.is in omega arith

module _ (old new : List (Option ℕ)) (at class arena : ℕ) where
  -- no block is free, and the one at the next offset is taken
  pub took_fresh : (free : List ℕ) (end next prev head off : ℕ) → StandsFor old at (plain old new at class arena free end next prev) → head ≡ get_or (header_of old at) 1 0 → head ≡ 0 → off ≡ end
      → header_of new at ≡ set (header_of old at) 5 (pair_of (end + size_of_class class) (16384 - size_of_class class))
      → (off ≡ next_block (plain old new at class arena free end next prev).pool) × (header_of new at ≡ words_of (live_of (plain old new at class arena free end next prev).pool) (after_taking (plain old new at class arena free end next prev)))
  took_fresh [] end next prev head off s e z is header = (is, header ∙ ap (λ h. set h 5 (pair_of (end + size_of_class class) (16384 - size_of_class class))) s.header)
  took_fresh (o ∷ os) end next prev head off s e z is header =
      let l = low_free (record { class = class; arena = arena; free = o ∷ os; next = end }) s.pool o (inl refl) in
      let h : head ≡ o = word_tells old at (plain old new at class arena (o ∷ os) end next prev) s 1 head e in absurd (omega arith)

  -- the first free block is taken
  pub took_free : (free : List ℕ) (end next prev head : ℕ) → StandsFor old at (plain old new at class arena free end next prev) → head ≡ get_or (header_of old at) 1 0 → head ≢ 0
      → header_of new at ≡ set (header_of old at) 1 (word_at old (at + head))
      → (head ≡ next_block (plain old new at class arena free end next prev).pool) × (header_of new at ≡ words_of (live_of (plain old new at class arena free end next prev).pool) (after_taking (plain old new at class arena free end next prev)))
  took_free [] end next prev head s e z header = absurd (z (word_tells old at (plain old new at class arena [] end next prev) s 1 head e))
  took_free (o ∷ os) end next prev head s e z header =
      let h : head ≡ o = word_tells old at (plain old new at class arena (o ∷ os) end next prev) s 1 head e in
      (h, header ∙ (ap (λ w. set (header_of old at) 1 w) (ap (λ x. word_at old (at + x)) h ∙ s.linked.0) ∙ ap (λ l. set l 1 (head_of os)) s.header))

  pub head_home : (free : List ℕ) (end next prev head : ℕ) → StandsFor old at (plain old new at class arena free end next prev) → head ≡ get_or (header_of old at) 1 0 → head ≢ 0 → AtHome old (at + head) 8
  head_home [] end next prev head s e z = absurd (z (word_tells old at (plain old new at class arena [] end next prev) s 1 head e))
  head_home (o ∷ os) end next prev head s e z =
      let h : head ≡ o = word_tells old at (plain old new at class arena (o ∷ os) end next prev) s 1 head e in
      let size = small_size class s.pool.class in
      home_part old (at + o) (size_of_class class) (at + head) 8 (s.free o (inl refl)) (omega arith) (omega arith)

module _ (old new : List (Option ℕ)) (at live off : ℕ) (p : PlainView) (s : StandsFor old at p) (room : HasRoom p.pool) (only : OnlyAt (InRun at 48) old new) where
  pub take_stands : (mid : List ℕ) → mid ≡ words_of (live_of p.pool) (after_taking p) → live ≡ get_or (header_of old at) 0 0 → header_of new at ≡ set mid 0 (live + 1) → StandsFor new at (after_taking p)
  take_stands mid m l header =
      let t = took p.pool s.pool room in
      let count : live + 1 ≡ live_of (after_take p.pool) = let w = word_tells old at p s 0 live l in let more = t.live in omega arith in
      stands_taken old new at p.pool.class p.pool.arena p.pool.free p.pool.next p.next p.prev s t.pool only
      (header ∙ (ap (λ h. set h 0 (live + 1)) m ∙ ap (λ n. words_of n (after_taking p)) count))

  pub take_done : (full : Bool) → StandsFor new at (after_taking p) → off ≡ next_block p.pool → IsTrue full ↔ IsFull (after_take p.pool) → TakenOf new at p off full
  take_done full stands is tells =
      let t = took p.pool s.pool room in
      let high = (block_inside p.pool.class (next_block p.pool) t.inside).1 in
      record {
        stands = stands;
        next = is;
        now_full = tells;
        live = t.live;
        block = subst (λ o. Inserted o (blocks_of p.pool) (blocks_of (after_take p.pool))) (sym is) t.block;
        inside = subst (λ o. IsBlock p.pool.class o) (sym is) t.inside;
        home = subst (λ o. AtHome new (at + o) (size_of p.pool)) (sym is)
            (home_kept old new (at + next_block p.pool) (size_of p.pool) only (next_home old new at p.pool.class p.pool.arena p.pool.free p.pool.next p.next p.prev s t.inside high));
      }

-- ---- what `give` does

pub live_some : (p : PoolView) (off : ℕ) → Has off (blocks_of p) → 1 ≤ live_of p
live_some p off h = some (blocks_of p) h where
  some : (xs : List ℕ) → Has off xs → 1 ≤ length xs
  some [] h = absurd h
  some (x ∷ xs) h = omega arith

module _ (old mid new : List (Option ℕ)) (at off live head : ℕ) (p : PlainView) (s : StandsFor old at p) (used : Has off (blocks_of p.pool)) (was : AtHome old (at + off) (size_of p.pool)) where
  pub block_low : 48 ≤ off
  block_low = let b = used_at p.pool off s.pool used in let is = b.is in omega arith

  pub give_only : OnlyAt (InRun (at + off) 8) old mid → OnlyAt (InRun at 48) mid new → OnlyAt (InHeaderOrBlock at off) old new
  give_only a b = only_then old mid new (only_more old mid a (λ i r. inr r)) (only_more mid new b (λ i r. inl r))

  pub give_stands : OnlyAt (InRun (at + off) 8) old mid → OnlyAt (InRun at 48) mid new → head ≡ get_or (header_of old at) 1 0 → word_at mid (at + off) ≡ head → live + 1 ≡ get_or (header_of old at) 0 0
      → header_of new at ≡ set (set (header_of old at) 1 off) 0 live → StandsFor new at (after_giving p off)
  give_stands a b h word l header =
      let g = gave p.pool off s.pool used in
      let count : live ≡ live_of (after_give p.pool off) = let w = word_tells old at p s 0 (live + 1) l in let less = g.0.live in omega arith in
      let b2 = used_at p.pool off s.pool used in let is = b2.is in let high = b2.high in let n = next_within p.pool s.pool in let size = small_size p.pool.class s.pool.class in let inside = s.inside in let same = a.length in
      let kept : word_at new (at + off) ≡ word_at mid (at + off) = word_same mid new (at + off) b.length (omega arith) (λ i lt. b.kept (at + off + i) (λ r. absurd (let top = r.1 in omega arith))) in
      stands_given old new at off p s used (give_only a b) was
      (header ∙ (ap (λ h. set (set h 1 off) 0 live) s.header ∙ ap (λ n. words_of n (after_giving p off)) count))
      (kept ∙ (word ∙ word_tells old at p s 1 head h)) g.1

  pub give_done : (full empty : Bool) → StandsFor new at (after_giving p off) → live + 1 ≡ get_or (header_of old at) 0 0 → IsTrue full ↔ IsFull p.pool → IsTrue empty ↔ (live ≡ 0) → GivenOf new at p off full empty
  give_done full empty stands l f e =
      let g = gave p.pool off s.pool used in
      let count : live ≡ live_of (after_give p.pool off) = let w = word_tells old at p s 0 (live + 1) l in let less = g.0.live in omega arith in
      record {
        stands = stands;
        was_full = f;
        now_empty = subst (λ n. IsTrue empty ↔ (n ≡ 0)) count e;
        live = g.0.live;
        block = g.0.block;
        inside = g.0.inside;
      }

-- ---- the block of a live one

-- a block in use is no part of what stands for its pool
pub used_beside : (p : PoolView) (off : ℕ) → IsPool p → Has off (blocks_of p) → (i : ℕ) → Holds p i → (i < off) ⊎ (off + size_of p ≤ i)
used_beside p off s used i (inl head) = let b = used_at p off s used in let is = b.is in inl (omega arith)
used_beside p off s used i (inr (inl f)) =
    let b = free_at p f.0 s f.1.0 in let low = f.1.1.0 in let high = f.1.1.1 in
    elim (blocks_beside p f.0 off b (used_at p off s used) (free_unused p f.0 off f.1.0 used)) [ inl x ↦ inl (omega arith) | inr x ↦ inr (omega arith) ]
used_beside p off s used i (inr (inr r)) = let b = used_at p off s used in let h = b.high in let low = r.0 in inr (omega arith)

-- so its cells may go, come and change
pub stands_block : (old new : List (Option ℕ)) (at : ℕ) (p : PlainView) (off : ℕ) → StandsFor old at p → Has off (blocks_of p.pool) → length new ≡ length old
    → ((i : ℕ) → (i < at + off) ⊎ (at + off + size_of p.pool ≤ i) → get_or new i None ≡ get_or old i None) → StandsFor new at p
stands_block old new at p off s used long same = stands_kept old new at p s long (λ i h. same (at + i) (elim (used_beside p.pool off s.pool used i h) [ inl x ↦ inl (omega arith) | inr x ↦ inr (omega arith) ]))
