-- Pools of an arena that are taken, started, and come back.
use Rattle.std.proofs.Common.{◌≡◌, ℕ, zero, suc, ◌+◌, ◌-◌, ◌<◌, ◌≤◌, ◌≢◌, inl, inr, List, [], ◌∷◌, ◌++◌, map, length, get_or, set, take, replicate, Option, Some, None, refl, sym, ap, subst, ◌∙◌, arith}
use Rattle.std.proofs.lemmas.List.{length-replicate, take-replicate}
use Rattle.std.proofs.lemmas.Bool.Decides.{eqb_tells}
use Rattle.std.specs.Option.{ForSome}
use Rattle.raw_region.specs.declared.maker.Maker.{Maker}
use Rattle.raw_region.specs.Cells.{AllHome}
use Rattle.raw_region.specs.Region.{RegionView}
use Rattle.layout_model.proofs.CallerLemmas.{some_pools}
use Rattle.links.specs.Nodes.{times}
use Rattle.layout_model.specs.Pool.{blocks_of, IsEmpty}
use Rattle.arena_set.specs.Started.{Started, started_from}
use Rattle.arena_set.specs.Flat.{part, flat}
use Rattle.layout_model.specs.Geometry.{total_at, first_pool, IsArenaRegion}
use Rattle.arena_set.specs.FreeChain.{IsFreeList, chain_from, free_list, numbers_from, untouched}
use Rattle.arena_set.specs.Arena.{ArenaView, new_arena, pool_loans, arena_loans, started_times, arena_view, AccountsFor, IsSound, IsArena}
use Rattle.arena_set.proofs.Flats.{all_none, part_same, flat_none, flat_empty}
use Rattle.arena_set.proofs.Rows.{row_times, row_most, row_missing, row_all, times_from}
use Rattle.arena_set.proofs.Accounts.{none_lent, all_counted}

pub times_other : (j k : ℕ) (xs : List ℕ) → k ≢ j → times j (k ∷ xs) ≡ times j xs
times_other j k xs n = elim (eqb_tells k j) [ inl w ↦ absurd (n w.1) | inr w ↦ rw w.0 (omega arith) ]

-- ---- a free pool is taken

pub took_pool : (a : ArenaView) (k : ℕ) (rest : List ℕ) → a.free ≡ k ∷ rest → IsArena a → IsArena (record { region = a.region; free = rest; pools = a.pools })
took_pool a k rest e s = record {
  region = s.region;
  count = s.count;
  free = λ j. let f = subst (λ xs. times j xs + started_times (get_or a.pools j None) ≤ 1) e (s.free j) in omega arith;
  below = λ j h. s.below j (subst (λ xs. 1 ≤ times j xs) (sym e) (omega arith));
  sound = s.sound;
  accounts = s.accounts;
  stands = s.stands;
}

-- ---- a pool comes back, or is started

-- how many pools are free beside one that is not
pub free_left : (a : ArenaView) (k : ℕ) → IsArena a → k < length a.pools → times k a.free ≡ 0 → length a.free + 1 ≤ length a.pools
free_left a k s lt out =
    let all = row_times (length a.pools) a.free s.below in
    let m = row_missing (length a.pools) (λ j. times j a.free) k (λ j. let f = s.free j in omega arith) lt out in omega arith

no_blocks : (b : ℕ) (m : Maker) (k : ℕ) (s : Started) → IsEmpty s.pool → pool_loans b m k s ≡ []
no_blocks b m k s none = empty_map _ (blocks_of s.pool) none where
  empty_map : {X : Type 0} (g : ℕ → X) (os : List ℕ) → length os ≡ 0 → map g os ≡ []
  empty_map g [] e = refl
  empty_map g (o ∷ os) e = absurd (omega arith)

no_part : (b : ℕ) (m : Maker) (k : ℕ) (o : Option Started) → ForSome o (λ s. IsEmpty s.pool) → part (pool_loans b m) k o ≡ []
no_part b m k None none = refl
no_part b m k (Some s) none = no_blocks b m k s (none s refl)

module _ (a : ArenaView) (k : ℕ) (sound : IsArena a) (lt : k < length a.pools) (out : times k a.free ≡ 0) where
  abbrev lent : List (Option Started) → List Rattle.extents.specs.Extent.Extent
  lent ps = flat (pool_loans a.region.base a.region.maker) 0 ps

  same_loans : (o : Option Started) → ForSome (get_or a.pools k None) (λ s. IsEmpty s.pool) → ForSome o (λ s. IsEmpty s.pool) → lent (set a.pools k o) ≡ lent a.pools
  same_loans o was now =
      part_same (pool_loans a.region.base a.region.maker) 0 k k a.pools (get_or a.pools k None) o (omega arith) lt refl (no_part a.region.base a.region.maker k o now ∙ sym (no_part a.region.base a.region.maker k (get_or a.pools k None) was))

  pub gave_loans : ForSome (get_or a.pools k None) (λ s. IsEmpty s.pool) → lent (set a.pools k None) ≡ arena_loans a
  gave_loans was = same_loans None was (λ s e. absurd (cc))

  module _ (s : Started) (fresh : get_or a.pools k None ≡ None) (none : IsEmpty s.pool) where
    pub started_loans : lent (set a.pools k (Some s)) ≡ arena_loans a
    started_loans = same_loans (Some s) (λ t e. let w : Some t ≡ None = sym e ∙ fresh in absurd (cc)) (λ t e. let w : s ≡ t = cc in subst (λ (u : Started). IsEmpty u.pool) w none)

-- ---- an arena of which all pools are free

pub only_none : (o : Option Started) → started_times o ≡ 0 → o ≡ None
only_none None e = refl
only_none (Some s) e = absurd (omega arith)

pub none_started : (a : ArenaView) → IsArena a → length a.free ≡ length a.pools → (j : ℕ) → j < length a.pools → get_or a.pools j None ≡ None
none_started a s all j lt =
    let sum = row_times (length a.pools) a.free s.below in
    let one = row_all (length a.pools) (λ k. times k a.free) (λ k. let f = s.free k in omega arith) (omega arith) j lt in
    let f = s.free j in only_none (get_or a.pools j None) (omega arith)

-- so it has no part of anything that is made of its pools
pub nothing_started : {Y : Type 0} (g : ℕ → Started → List Y) (a : ArenaView) → IsArena a → length a.free ≡ length a.pools → flat g 0 a.pools ≡ []
nothing_started g a s all = flat_empty g 0 a.pools (λ j lt. rw (none_started a s all j lt) refl)

pub all_free_home : (a : ArenaView) → IsArena a → length a.free ≡ length a.pools → AllHome a.region.cells
all_free_home a s all = none_lent a.region (subst (AccountsFor a.region) (nothing_started (pool_loans a.region.base a.region.maker) a s all) s.accounts)

-- no pool is started in a new one
none_at : (n j : ℕ) → started_times (get_or (replicate n None) j None) ≡ 0
none_at zero j = refl
none_at (suc n) zero = refl
none_at (suc n) (suc j) = none_at n j

pub new_is_arena : (r : RegionView) → IsArenaRegion r → AllHome r.cells → IsArena (new_arena r)
new_is_arena r s home =
    let n : ℕ = total_at r.base in let none : Option Started = None in
    record {
      region = s;
      count = length-replicate n none;
      free = λ j. let t = times_from 0 n j in let z = none_at n j in let most = t.0 in omega arith;
      below = λ j h. let t = times_from 0 n j in let b = t.1 h in let l = length-replicate n none in omega arith;
      sound = all_none IsSound n;
      accounts = subst (AccountsFor r) (sym (flat_none (pool_loans r.base r.maker) 0 n)) (all_counted r home);
      stands = λ j s there. let z = none_at n j in let e = ap started_times there in absurd (omega arith);
    }

-- ---- a new arena

-- no number is one of a pool that was started
pub none_told : (cells : List (Option ℕ)) (at n : ℕ) → started_from cells at (replicate n None) ≡ replicate n None
none_told cells at zero = refl
none_told cells at (suc n) = ap (λ ps. None ∷ ps) (none_told cells (at + 16384) n)

-- no pool of it is linked
pub new_list : (r : RegionView) (free : ℕ) → free ≡ total_at r.base → IsFreeList r 0 free 0 × (free_list r 0 free 0 ≡ numbers_from 0 (total_at r.base))
new_list r free is =
    let none : free - untouched r.base 0 ≡ 0 = omega arith in
    let all : untouched r.base 0 ≡ total_at r.base = omega arith in (
      record { linked = []; chain = tt; front = refl; count = omega arith; most = omega arith },
      (λ i. chain_from r.cells r.base (none i) 0 ++ numbers_from 0 (all i)),
    )

pub new_arena_is : (r : RegionView) (n free : ℕ) (now os : List (Option ℕ)) → n ≡ total_at r.base → free ≡ total_at r.base → now ≡ take n os → os ≡ replicate 64 None → arena_view r (free_list r 0 free 0) now ≡ new_arena r
new_arena_is r n free now os e f p all =
    let most : n ≤ 64 = let m = (some_pools r.base).1 in omega arith in
    let none : Option ℕ = None in
    let fs = (new_list r free f).1 in
    let numbers : now ≡ replicate (total_at r.base) None = p ∙ (ap (take n) all ∙ (take-replicate n 64 none most ∙ ap (λ k. replicate k none) e)) in
    let pools : started_from r.cells (first_pool r.base) now ≡ replicate (total_at r.base) None = ap (started_from r.cells (first_pool r.base)) numbers ∙ none_told r.cells (first_pool r.base) (total_at r.base) in
    λ i. record { region = r; free = fs i; pools = pools i }

-- no more pools are free than there are
pub free_most : (a : ArenaView) → IsArena a → length a.free ≤ length a.pools
free_most a s = let all = row_times (length a.pools) a.free s.below in let m = row_most (length a.pools) (λ j. times j a.free) (λ j. let f = s.free j in omega arith) in omega arith
