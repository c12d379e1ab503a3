-- What the tests need of their pool.
use Rattle.std.proofs.Common.{◌≡◌, ℕ, ◌+◌, ◌<◌, ◌≤◌, List, [], ◌∷◌, length, Option, refl, sym, ap, subst, ◌∙◌, arith}
use Rattle.raw_region.specs.Cells.{IsHome, AtHome, AllHome, zeroed}
use Rattle.raw_region.proofs.CallerLemmas.{all_home, home_zeroed, length-zeroed}
use Rattle.extents.specs.Sums.{Has}
use Rattle.extents.proofs.CallerLemmas.{has_other}
use Rattle.layout_model.specs.Sizes.{size_of_class, capacity}
use Rattle.layout_model.specs.Pool.{PoolView, starts, without, size_of, made_of, blocks_of, live_of, after_give, IsPool}
use Rattle.layout_model.specs.Plain.{StandsFor, after_giving}
use Rattle.pool_core.specs.Calls.{OnlyAt, CanGive}
use Rattle.pool_core.specs.Tests.{IsWhole, IsTestPool}
use Rattle.pool_core.proofs.Blocks.{starts_has, without_none}
use Rattle.pool_core.proofs.Moves.{gave}
use Rattle.pool_core.proofs.Words.{home_kept}

pub home_at : (cells : List (Option ℕ)) (off : ℕ) → IsWhole cells → off < 16384 → IsHome cells off
home_at cells off w lt = let e : 0 + off ≡ off = omega arith in subst (λ k. IsHome cells k) e (w.all off lt)

pub run_at : (cells : List (Option ℕ)) (off n : ℕ) → IsWhole cells → off + n ≤ 16384 → AtHome cells off n
run_at cells off n w le i lt = home_at cells (off + i) w (omega arith)

pub whole_home : (cells : List (Option ℕ)) → IsWhole cells → AllHome cells
whole_home cells w = all_home cells (subst (λ n. AtHome cells 0 n) (sym w.long) w.all)

pub whole_kept : {P : ℕ → Type 0} (old new : List (Option ℕ)) → OnlyAt P old new → IsWhole old → IsWhole new
whole_kept old new o w = record { all = home_kept old new 0 16384 o w.all; long = o.length ∙ w.long }

pub whole_new : (cells : List (Option ℕ)) → cells ≡ zeroed 16384 → IsWhole cells
whole_new cells e = record { all = subst (λ l. AtHome l 0 16384) (sym e) (home_zeroed 16384 0 16384 (omega arith)); long = ap length e ∙ length-zeroed 16384 }

no_more : (xs : List ℕ) → length xs ≡ 0 → xs ≡ []
no_more [] e = refl
no_more (x ∷ xs) e = absurd (omega arith)

-- all blocks are in use
pub all_used : (p : PoolView) → IsPool p → p.class ≡ 31 → live_of p ≡ 31 → blocks_of p ≡ starts 512 31
all_used p s c l =
    let sum = s.live in
    let most : made_of p ≤ 31 = subst (λ k. made_of p ≤ capacity k) c s.made in
    let made : made_of p ≡ 31 = omega arith in
    let none : p.free ≡ [] = no_more p.free (omega arith) in
    let size : size_of p ≡ 512 = ap size_of_class c in
    (λ i. without (none i) (starts (size i) (made i))) ∙ without_none (starts 512 31)

module _ (cells : List (Option ℕ)) (t : IsTestPool cells 31) where
  used : (o : ℕ) → Has o (starts 512 31) → Has o (blocks_of t.p.pool)
  used o h = subst (λ os. Has o os) (sym (all_used t.p.pool t.stands.pool t.class t.live)) h

  size : size_of t.p.pool ≡ 512
  size = ap size_of_class t.class

  first : Has 48 (starts 512 31)
  first = starts_has 512 31 0 (omega arith)

  second : Has 560 (starts 512 31)
  second = starts_has 512 31 1 (omega arith)

  pub give_first : CanGive cells 0 48
  give_first = record { p = t.p; stands = t.stands; used = used 48 first; home = run_at cells 48 (size_of t.p.pool) t.whole (omega arith) }

  pub first_used : Has 48 (blocks_of t.p.pool)
  first_used = used 48 first

  pub second_used : Has 560 (blocks_of (after_give t.p.pool 48))
  second_used = has_other 48 560 (blocks_of t.p.pool) (blocks_of (after_give t.p.pool 48)) (gave t.p.pool 48 t.stands.pool first_used).0.block (used 560 second) (λ e. absurd (omega arith))

  pub give_second : (new : List (Option ℕ)) → StandsFor new 0 (after_giving t.p 48) → IsWhole new → CanGive new 0 560
  give_second new s w = record { p = after_giving t.p 48; stands = s; used = second_used; home = run_at new 560 (size_of t.p.pool) w (omega arith) }
