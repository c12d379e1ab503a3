-- What always holds of an arena's fields, after a change of one pool that is not free.
use Rattle.std.proofs.Common.{◌≡◌, ◌≢◌, ℕ, ◌+◌, ◌-◌, ◌/◌, ◌<◌, ◌≤◌, List, ◌∷◌, length, get_or, set, Option, Some, None, refl, sym, ap, subst, ◌∙◌, arith}
use Rattle.std.specs.Option.{ForSome}
use Rattle.raw_region.specs.Region.{RegionView}
use Rattle.raw_region.specs.Cells.{AtHome, word_at}
use Rattle.raw_region.proofs.CallerLemmas.{home_part}
use Rattle.layout_model.specs.Geometry.{first_pool, place_at, pool_offset, slot_at}
use Rattle.layout_model.proofs.CallerLemmas.{some_pools}
use Rattle.links.specs.Nodes.{times}
use Rattle.layout_model.specs.Pool.{IsEmpty}
use Rattle.pool_core.specs.Calls.{InRun, OnlyAt}
use Rattle.arena_set.specs.Started.{Started}
use Rattle.arena_set.specs.FreeChain.{free_list}
use Rattle.arena_set.specs.Arena.{ArenaView, IsArena, PoolChange, PoolReturns, arena_loans, arena_view}
use Rattle.arena_set.specs.Kept.{IsKept}
use Rattle.arena_set.proofs.Pools.{free_left, took_pool}
use Rattle.arena_set.proofs.Lending.{pool_fits}
use Rattle.arena_set.proofs.Acts.{idle_home}
use Rattle.arena_set.proofs.FreeChains.{counted, front, front_free, front_is, front_place, more_listed, one_more, same_list, still_listed, took_linked, took_untouched}
use Rattle.arena_set.proofs.Returns.{return_loans, return_sound, returns}

-- the header of a free pool lies in the region
pub free_fits : (r : RegionView) (free : List ℕ) (os : List (Option ℕ)) → IsArena (arena_view r free os) → (j : ℕ) → 1 ≤ times j free → pool_offset r.base j + 24 ≤ length r.cells
free_fits r free os sound j t = let f = pool_fits (arena_view r free os) j sound (sound.below j t) in omega arith

module _ (r new : RegionView) (first free used : ℕ) (os now : List (Option ℕ)) (k : ℕ) (t : Started) (kept : IsKept r first free used os)
    (sound : IsArena (arena_view new (free_list r first free used) now)) (change : PoolChange (arena_view r (free_list r first free used) os) (arena_view new (free_list r first free used) now) k t)
    (out : times k (free_list r first free used) ≡ 0) where
  pub told_same : arena_view new (free_list r first free used) now ≡ arena_view new (free_list new first free used) now
  told_same = ap (λ xs. arena_view new xs now) (sym (same_list r new first free used k kept.list change.base change.long change.beside out (free_fits r (free_list r first free used) os kept.arena)))

  pub still_kept : IsKept new first free used now
  still_kept = record {
    arena = subst IsArena told_same sound;
    list = still_listed r new first free used k kept.list change.base change.long change.beside out (free_fits r (free_list r first free used) os kept.arena);
  }

-- ---- a header that is at home

pub header_home : (a : ArenaView) (k : ℕ) → IsArena a → k < length a.pools → AtHome a.region.cells (pool_offset a.region.base k) 48
header_home a k sound lt = by_pool (get_or a.pools k None) refl where
  by_pool : (o : Option Started) → get_or a.pools k None ≡ o → AtHome a.region.cells (pool_offset a.region.base k) 48
  by_pool None e = home_part a.region.cells (pool_offset a.region.base k) 16384 (pool_offset a.region.base k) 48 (idle_home a k sound lt (pool_fits a k sound lt) e) (omega arith) (omega arith)
  by_pool (Some s) e = (sound.stands k s e).home

-- ---- a free pool is taken

module _ (r : RegionView) (first free used : ℕ) (os : List (Option ℕ)) (kept : IsKept r first free used os) (some : 1 ≤ length (free_list r first free used)) where
  abbrev before : ArenaView
  before = arena_view r (free_list r first free used) os

  more : 1 ≤ free
  more = let c = counted r first free used kept.list in omega arith

  -- one that was never taken
  module _ (none : first ≡ 0) where
    pub untouched_goes : free_list r first free used ≡ used ∷ free_list r first (free - 1) (used + 1)
    untouched_goes = (took_untouched r first free used kept.list kept.arena.region.somewhere more none).is

    pub untouched_kept : IsKept r first (free - 1) (used + 1) os
    untouched_kept = record {
      arena = took_pool before used (free_list r first (free - 1) (used + 1)) untouched_goes kept.arena;
      list = (took_untouched r first free used kept.list kept.arena.region.somewhere more none).list;
    }

  -- the first that is linked
  module _ (linked : first ≢ 0) (b o : ℕ) (b_is : b ≡ r.base) (o_is : o ≡ first_pool r.base) where
    abbrev k : ℕ
    k = front r first free used kept.list kept.arena.region.somewhere more linked

    within : k < length (before).pools
    within = kept.arena.below k (front_free r first free used kept.list kept.arena.region.somewhere more linked)

    place : first ≡ place_at r.base k
    place = front_place r first free used kept.list kept.arena.region.somewhere more linked

    pub linked_home : AtHome r.cells (first - b) 48
    linked_home =
        let off : pool_offset r.base k ≡ first - b = let p = place in let e = b_is in omega arith in
        subst (λ n. AtHome r.cells n 48) off (header_home before k kept.arena within)

    slot : (first - b - o) / 16384 ≡ slot_at r.base first
    slot = λ i. (first - b_is i - o_is i) / 16384

    pub linked_small : (first - b - o) / 16384 < 64
    linked_small =
        let e : (first - b - o) / 16384 ≡ k = slot ∙ front_is r first free used kept.list kept.arena.region.somewhere more linked in
        let c = kept.arena.count in let m = (some_pools r.base).1 in let w = within in omega arith

    module _ (now : ℕ) (word : now ≡ word_at r.cells (first - b + 16)) where
      word_is : now ≡ word_at r.cells (first - r.base + 16)
      word_is = word ∙ ap (λ x. word_at r.cells (first - x + 16)) b_is

      pub linked_goes : free_list r first free used ≡ (first - b - o) / 16384 ∷ free_list r now (free - 1) used
      linked_goes =
          (took_linked r first free used kept.list kept.arena.region.somewhere more linked).is
          ∙ (λ i. sym slot i ∷ free_list r (sym word_is i) (free - 1) used)

      pub linked_kept : IsKept r now (free - 1) used os
      linked_kept = record {
        arena = took_pool before ((first - b - o) / 16384) (free_list r now (free - 1) used) linked_goes kept.arena;
        list = subst (λ w. Rattle.arena_set.specs.FreeChain.IsFreeList r w (free - 1) used) (sym word_is) (took_linked r first free used kept.list kept.arena.region.somewhere more linked).list;
      }

-- ---- a pool comes back

module _ (r new : RegionView) (first free used : ℕ) (os : List (Option ℕ)) (k : ℕ) (kept : IsKept r first free used os) (lt : k < length (arena_view r (free_list r first free used) os).pools)
    (out : times k (free_list r first free used) ≡ 0) (idle : ForSome (get_or (arena_view r (free_list r first free used) os).pools k None) (λ s. IsEmpty s.pool))
    (base : new.base ≡ r.base) (maker : new.maker ≡ r.maker) (at : ℕ) (at_is : at ≡ pool_offset r.base k) (only : OnlyAt (InRun (at + 16) 8) r.cells new.cells) (word : word_at new.cells (at + 16) ≡ first)
    (place : ℕ) (place_is : place ≡ r.base + at) where
  abbrev free_now : List ℕ
  free_now = k ∷ free_list r first free used

  only_here : OnlyAt (InRun (pool_offset r.base k + 16) 8) r.cells new.cells
  only_here = subst (λ n. OnlyAt (InRun (n + 16) 8) r.cells new.cells) at_is only

  word_here : word_at new.cells (pool_offset r.base k + 16) ≡ first
  word_here = subst (λ n. word_at new.cells (n + 16) ≡ first) at_is word

  in_pool : (i : ℕ) → InRun (pool_offset r.base k + 16) 8 i → InRun (pool_offset r.base k) 16384 i
  in_pool i q = let low = q.0 in let high = q.1 in (omega arith, omega arith)

  beside : (i : ℕ) → (InRun (pool_offset r.base k) 16384 i → ⊥) → get_or new.cells i None ≡ get_or r.cells i None
  beside i far = only_here.kept i (λ q. far (in_pool i q))

  there : place ≡ place_at r.base k
  there = place_is ∙ ap (λ n. r.base + n) at_is

  fits : (j : ℕ) → 1 ≤ times j (free_list r first free used) → pool_offset r.base j + 24 ≤ length r.cells
  fits = free_fits r (free_list r first free used) os kept.arena

  lists : free_now ≡ free_list new place (free + 1) used
  lists = sym (one_more r new first free used k kept.list base only_here.length beside out fits word_here) ∙ ap (λ p. free_list new p (free + 1) used) (sym there)

  pub back_view : arena_view new free_now (set os k None) ≡ arena_view new (free_list new place (free + 1) used) (set os k None)
  back_view = ap (λ xs. arena_view new xs (set os k None)) lists

  pub back_kept : IsKept new place (free + 1) used (set os k None)
  back_kept = record {
    arena = subst IsArena back_view (return_sound r (free_list r first free used) os k kept.arena lt out idle new base maker only_here in_pool);
    list = subst (λ p. Rattle.arena_set.specs.FreeChain.IsFreeList new p (free + 1) used) (sym there) (more_listed r new first free used k kept.list base only_here.length beside out fits word_here);
  }

  pub back_returns : PoolReturns (arena_view r (free_list r first free used) os) (arena_view new (free_list new place (free + 1) used) (set os k None)) k
  back_returns = subst (λ x. PoolReturns (arena_view r (free_list r first free used) os) x k) back_view (returns r (free_list r first free used) os k kept.arena lt out idle new base maker only_here in_pool (λ i q. q))

  pub back_loans : arena_loans (arena_view new (free_list new place (free + 1) used) (set os k None)) ≡ arena_loans (arena_view r (free_list r first free used) os)
  back_loans = ap arena_loans (sym back_view) ∙ return_loans r (free_list r first free used) os k kept.arena lt out idle new base maker only_here in_pool

-- how many pools are free with one more
pub few_free : (r : RegionView) (first free used : ℕ) (os : List (Option ℕ)) (k : ℕ) → IsKept r first free used os → k < length (arena_view r (free_list r first free used) os).pools → times k (free_list r first free used) ≡ 0 → free + 1 ≤ 64
few_free r first free used os k kept lt out =
    let left = free_left (arena_view r (free_list r first free used) os) k kept.arena lt out in
    let c = counted r first free used kept.list in let n = kept.arena.count in let m = (some_pools r.base).1 in omega arith
