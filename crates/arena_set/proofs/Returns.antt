-- A pool that comes back to its arena, by a write to its header.
use Rattle.std.proofs.Common.{◌≡◌, ◌≢◌, ℕ, ◌+◌, ◌<◌, ◌≤◌, inl, inr, List, ◌∷◌, length, get_or, set, Option, Some, None, refl, sym, ap, subst, ◌∙◌, arith, length-set}
use Rattle.std.proofs.lemmas.List.{get_or-set_same, get_or-set_other}
use Rattle.std.proofs.lemmas.Bool.Decides.{eqb_tells, leb_tells}
use Rattle.std.specs.Option.{ForSome}
use Rattle.raw_region.specs.Region.{RegionView}
use Rattle.layout_model.specs.Geometry.{first_pool, pool_offset}
use Rattle.links.specs.Nodes.{times}
use Rattle.links.proofs.CallerLemmas.{times-here}
use Rattle.layout_model.specs.Pool.{IsEmpty}
use Rattle.layout_model.specs.Plain.{PlainView, StandsFor, plain_at}
use Rattle.pool_core.specs.Calls.{InRun, OnlyAt}
use Rattle.pool_core.proofs.CallerLemmas.{plain_is, stands_apart}
use Rattle.arena_set.specs.Started.{Started, plain_of, started_from, started_in, started_of}
use Rattle.arena_set.specs.Arena.{ArenaView, AccountsFor, IsArena, IsSound, PoolReturns, arena_loans, arena_view, started_times}
use Rattle.arena_set.proofs.Flats.{all_gap}
use Rattle.arena_set.proofs.Pools.{gave_loans, times_other}
use Rattle.arena_set.proofs.Starteds.{accounts_only, length-started, only_beside, same_read, started_at, started_is}

module _ (r : RegionView) (free : List ℕ) (os : List (Option ℕ)) (k : ℕ) (sound : IsArena (arena_view r free os)) (lt : k < length (arena_view r free os).pools) (out : times k free ≡ 0)
    (idle : ForSome (get_or (arena_view r free os).pools k None) (λ s. IsEmpty s.pool)) (new : RegionView) (base : new.base ≡ r.base) (maker : new.maker ≡ r.maker)
    {P : ℕ → Type 0} (only : OnlyAt P r.cells new.cells) (within : (i : ℕ) → P i → InRun (pool_offset r.base k) 16384 i) where
  abbrev a : ArenaView
  a = arena_view r free os

  abbrev region_now : RegionView
  region_now = record { base = r.base; maker = r.maker; cells = new.cells }

  abbrev pools_now : List (Option Started)
  pools_now = set (a).pools k None

  abbrev told : ArenaView
  told = record { region = region_now; free = k ∷ free; pools = pools_now }

  beside : (i : ℕ) → (InRun (pool_offset r.base k) 16384 i → ⊥) → get_or new.cells i None ≡ get_or r.cells i None
  beside = only_beside (pool_offset r.base k) r.cells new.cells only within

  -- the other pools stay
  others_stand : (j : ℕ) (s : Started) → j ≢ k → get_or (a).pools j None ≡ Some s → StandsFor new.cells (pool_offset r.base j) (plain_of s)
  others_stand j s other there =
      stands_apart r.cells new.cells (pool_offset r.base j) (plain_of s) (sound.stands j s there) only.length
      (λ i q. beside i (λ p. absurd (let a1 = q.0 in let a2 = q.1 in let b1 = p.0 in let b2 = p.1 in elim (leb_tells j k) [ inl w ↦ omega arith | inr w ↦ omega arith ])))

  one_read : (j : ℕ) → j ≢ k → (o : Option ℕ) → get_or os j None ≡ o → started_in new.cells (pool_offset r.base j) o ≡ get_or (a).pools j None
  one_read j other None is = sym (started_at r.cells (first_pool r.base) os j ∙ ap (started_in r.cells (pool_offset r.base j)) is)
  one_read j other (Some n) is =
      let there = started_at r.cells (first_pool r.base) os j ∙ ap (started_in r.cells (pool_offset r.base j)) is in
      let p : PlainView = plain_at r.cells (pool_offset r.base j) in
      same_read n (plain_at new.cells (pool_offset r.base j)) p (plain_is new.cells (pool_offset r.base j) p (others_stand j (started_of n p) other there)) ∙ sym there

  inside_os : k < length os
  inside_os = let e = length-started r.cells (first_pool r.base) os in omega arith

  pools_are : started_from new.cells (first_pool r.base) (set os k None) ≡ pools_now
  pools_are =
      let none : Option ℕ = None in
      let size = length-started r.cells (first_pool r.base) os in
      started_is new.cells (first_pool r.base) (set os k None) pools_now (length-set (a).pools k None ∙ (size ∙ sym (length-set os k None))) (λ i less. elim (eqb_tells i k) [
        | inl w ↦ subst (λ j. started_in new.cells (pool_offset r.base j) (get_or (set os k None) j None) ≡ get_or pools_now j None) (sym w.1)
            (ap (started_in new.cells (pool_offset r.base k)) (get_or-set_same os k none None inside_os) ∙ sym (get_or-set_same (a).pools k None None lt))
        | inr w ↦ ap (started_in new.cells (pool_offset r.base i)) (get_or-set_other os k i none None w.1) ∙ (one_read i w.1 (get_or os i None) refl ∙ sym (get_or-set_other (a).pools k i None None w.1))
      ])

  told_is : told ≡ arena_view new (k ∷ free) (set os k None)
  told_is =
      let seen : pools_now ≡ started_from new.cells (first_pool new.base) (set os k None) = sym pools_are ∙ ap (λ b. started_from new.cells (first_pool b) (set os k None)) (sym base) in
      λ i. record { region = record { base = sym base i; maker = sym maker i; cells = new.cells }; free = k ∷ free; pools = seen i }

  told_sound : IsArena told
  told_sound = record {
    region = record { len = only.length ∙ sound.region.len; aligned = sound.region.aligned; somewhere = sound.region.somewhere };
    count = length-set (a).pools k None ∙ sound.count;
    free = λ j. elim (eqb_tells k j) [
      | inl w ↦ subst (λ i. times i (k ∷ free) + started_times (get_or pools_now i None) ≤ 1) w.1 (let h = times-here k free in let g = ap started_times (get_or-set_same (a).pools k None None lt) in omega arith)
      | inr w ↦ let h = times_other j k free w.1 in let g = ap started_times (get_or-set_other (a).pools k j None None (λ e. w.1 (sym e))) in let f = sound.free j in omega arith
    ];
    below = λ j h. subst (λ n. j < n) (sym (length-set (a).pools k None)) (elim (eqb_tells k j) [
      | inl w ↦ subst (λ i. i < length (a).pools) w.1 lt
      | inr w ↦ sound.below j (let t = times_other j k free w.1 in omega arith)
    ]);
    sound = all_gap IsSound (a).pools k sound.sound;
    accounts = subst (AccountsFor region_now) (sym (gave_loans a k sound lt out idle)) (accounts_only r region_now (arena_loans a) refl only sound.accounts);
    stands = λ j s there. elim (eqb_tells j k) [
      | inl w ↦ let e = sym (get_or-set_same (a).pools k None None lt) ∙ subst (λ i. get_or pools_now i None ≡ Some s) w.1 there in absurd (cc)
      | inr w ↦ others_stand j s w.1 (sym (get_or-set_other (a).pools k j None None w.1) ∙ there)
    ];
  }

  pub return_sound : IsArena (arena_view new (k ∷ free) (set os k None))
  return_sound = subst IsArena told_is told_sound

  pub returns : ((i : ℕ) → P i → InRun (pool_offset r.base k + 16) 8 i) → PoolReturns a (arena_view new (k ∷ free) (set os k None)) k
  returns narrow = subst (λ x. PoolReturns a x k) told_is (record { base = refl; maker = refl; long = only.length; free = refl; pools = refl; only = λ i far. only.kept i (λ p. far (narrow i p)) })

  pub return_loans : arena_loans (arena_view new (k ∷ free) (set os k None)) ≡ arena_loans a
  return_loans = ap arena_loans (sym told_is) ∙ gave_loans a k sound lt out idle
