-- A heap without blocks in use is ended, and a new one is empty.
use Rattle.std.proofs.Common.{◌≡◌, ◌≢◌, ℕ, zero, suc, ◌+◌, ◌-◌, ◌≤◌, inl, inr, eqb, List, [], ◌∷◌, length, get_or, replicate, Some, None, refl, sym, ap, subst, ◌∙◌, arith}
use Rattle.std.proofs.lemmas.Bool.Decides.{eqb_tells}
use Rattle.std.proofs.lemmas.List.{get_or-map}
use Rattle.raw_region.specs.Cells.{AllHome}
use Rattle.raw_region.specs.Region.{RegionView}
use Rattle.extents.specs.Sums.{tally, Has, Removed}
use Rattle.extents.specs.Extent.{Extent, region_extent}
use Rattle.extents.proofs.CallerLemmas.{length_inserted, has-map, has_new}
use Rattle.links.specs.Nodes.{times}
use Rattle.sources.specs.Source.{SourceView, ArenaShape}
use Rattle.sources.specs.Holder.{Traded}
use Rattle.sources.proofs.CallerLemmas.{traded_gave, traded_then}
use Rattle.layout_model.specs.Layout.{Usable}
use Rattle.layout_model.specs.Sound.{is_arena, one_if}
use Rattle.layout_model.specs.Pool.{blocks_of, live_of, size_of}
use Rattle.heap_model.proofs.CallerLemmas.{arenas_are_free, empty_tables_are_kept}
use Rattle.layout_model.specs.Geometry.{total_at, pool_offset, PoolLine}
use Rattle.arena_set.specs.Arena.{ArenaView, pool_loans, block_extent, arena_loans}
use Rattle.arena_set.specs.Set.{nth_arena, SetView, empty_set, line_of as usable_line, dry_of, dry_entry, usable_times, regions_of, loans_of, IsSet}
use Rattle.arena_set.specs.Calls.{IsAt, AllIdle, HasNone, EndsOne}
use Rattle.arena_set.specs.Flat.{part}
use Rattle.arena_set.proofs.CallerLemmas.{inside, flat_empty, regions_flat}
use Rattle.py_heap.specs.Heap.{empty_heap}
use Rattle.py_heap.specs.Kept.{ClassView, State, no_pools, lines_of, tables_of, heap_of, IsKeptState}
use Rattle.py_heap.specs.Links.{addresses_of, class_of, pool_in, IsHeaded, AreLinked}
use Rattle.py_heap.proofs.Arenas.{line_there, arena_at, flat_has}
use Rattle.py_heap.proofs.Linked.{numbered_is}

-- ---- where no block is in use

-- a pool that was started has a block
some_block : (s : State) → IsKeptState s → (x : PoolLine) → Has x (lines_of s.set.arenas) → (e : Extent) × Has e (loans_of s.set.arenas)
some_block s k x h =
    let l = line_there s.set x h in
    let live : 1 ≤ live_of l.s.pool = subst (λ (y : PoolLine). 1 ≤ y.live) (sym l.is) (k.kept.orderly.pools x h).some in
    let b = first_of (blocks_of l.s.pool) live in
    let some = l.started.at.some in
    let e : Extent = block_extent l.a.region.base l.a.region.maker (pool_offset l.a.region.base l.id.pool) (size_of l.s.pool) b.0 in (
      e,
      flat_has (λ n a. arena_loans a) 1 (l.id.arena - 1) l.id.arena s.set.arenas l.a e (omega arith) l.started.at.there
          (flat_has (pool_loans l.a.region.base l.a.region.maker) 0 l.id.pool l.id.pool l.a.pools l.s e (omega arith) l.started.there (has-map _ b.0 (blocks_of l.s.pool) b.1)),
    ) where
      first_of : (os : List ℕ) → 1 ≤ length os → (o : ℕ) × Has o os
      first_of [] lt = absurd (omega arith)
      first_of (o ∷ os) lt = (o, inl refl)

none_started : (s : State) → IsKeptState s → loans_of s.set.arenas ≡ [] → lines_of s.set.arenas ≡ []
none_started s k none = empty (lines_of s.set.arenas) (λ x h. let b = some_block s k x h in subst (Has b.0) none b.1) where
  empty : (xs : List PoolLine) → ((x : PoolLine) → Has x xs → ⊥) → xs ≡ []
  empty [] never = refl
  empty (x ∷ xs) never = absurd (never x (inl refl))

-- ---- the arenas of a list

-- an arena that is counted in a list of usable ones is in it
arena_in : (n : ℕ) (us : List Usable) → 1 ≤ tally (is_arena n) us → (u : Usable) × (Has u us × (u.arena ≡ n))
arena_in n [] = λ le. absurd (omega arith)
arena_in n (u ∷ us) = elim (eqb_tells u.arena n) as (λ _. 1 ≤ one_if (eqb u.arena n) + tally (is_arena n) us → (x : Usable) × (Has x (u ∷ us) × (x.arena ≡ n))) [
  | inl w ↦ λ le. (u, (inl refl, w.1))
  | inr w ↦ rw w.0 (λ le. let r = arena_in n us (omega arith) in (r.0, (inr r.1.0, r.1.1)))
]

dry_by : (a : ArenaView) → length a.free ≡ 0 → dry_entry (Some a) ≡ Some (total_at a.region.base)
dry_by a none = elim (eqb_tells (length a.free) 0) [ inl w ↦ rw w.0 refl | inr w ↦ absurd (w.1 none) ]

usable_by : (a : ArenaView) → length a.free ≢ 0 → usable_times (Some a) ≡ 1
usable_by a some = elim (eqb_tells (length a.free) 0) [ inl w ↦ absurd (some w.1) | inr w ↦ rw w.0 refl ]

-- so each arena has all its pools free
pub all_idle : (s : State) → IsKeptState s → loans_of s.set.arenas ≡ [] → AllIdle s.set
all_idle s k none n a at =
    let free = arenas_are_free (tables_of s) k.kept (none_started s k none) in
    let ar = arena_at s.set n a k.sound_set at in let some = at.some in let count = ar.count in
    let lt = inside s.set.arenas (n - 1) a at.there in
    elim (eqb_tells (length a.free) 0) [
      | inl w ↦
          let next : n ≡ suc (n - 1) = omega arith in
          let here : get_or (dry_of s.set) (suc (n - 1)) None ≡ Some (total_at a.region.base) = get_or-map dry_entry s.set.arenas (n - 1) None None lt ∙ (ap dry_entry at.there ∙ dry_by a w.1) in
          let there = ap (λ m. get_or (dry_of s.set) m None) next ∙ here in let never = free.0 n in absurd (cc)
      | inr w ↦
          let there : nth_arena s.set.arenas n ≡ Some a = numbered_is s.set n a at in
          let once : tally (is_arena n) s.set.usable ≡ 1 = k.sound_set.listed n ∙ (ap usable_times there ∙ usable_by a w.1) in
          let u = arena_in n s.set.usable (omega arith) in
          let number : u.0.arena ≡ n = u.1.1 in
          let line : u.0 ≡ usable_line u.0.arena (nth_arena s.set.arenas u.0.arena) = k.sound_set.lines u.0 u.1.0 in
          let is : u.0 ≡ usable_line n (Some a) = line ∙ (ap (λ m. usable_line m (nth_arena s.set.arenas m)) number ∙ ap (usable_line n) there) in
          let all = free.1 (usable_line n (Some a)) (subst (λ (x : Usable). Has x s.set.usable) is u.1.0) in omega arith
    ]

-- ---- regions go

regions_some : (v : SetView) (n : ℕ) (a : ArenaView) → IsSet v → IsAt v n a → 1 ≤ length a.region.cells
regions_some v n a s at = let long = (arena_at v n a s at).region.len in omega arith

module _ (old new : SetView) (region : RegionView) (one : EndsOne old new region) (sound : IsSet old) (before now after : SourceView ArenaShape) (held0 : List Extent) (traded : Traded held0 (regions_of old.arenas) before now) where
  -- the region is one that is out
  pub can_give : Has (region_extent region) now.out × AllHome region.cells
  can_give = (traded.held (region_extent region) (has_new (region_extent region) (regions_of new.arenas) (regions_of old.arenas) one.regions), one.home)

  pub gave_one : Removed (region_extent region) now.out after.out → after.window ≡ now.window → after.shape ≡ now.shape → Traded held0 (regions_of new.arenas) before after
  gave_one out window shape =
      let some : 1 ≤ length region.cells = subst (λ (r : RegionView). 1 ≤ length r.cells) (sym one.is) (regions_some old one.n one.a sound one.at) in
      traded_then held0 (regions_of old.arenas) (regions_of new.arenas) before now after traded
      (traded_gave (regions_of old.arenas) (regions_of new.arenas) now after traded.held window shape (region_extent region) some sound.apart one.regions out)

  pub fewer : length (regions_of new.arenas) + 1 ≡ length (regions_of old.arenas)
  fewer = sym (length_inserted (region_extent region) (regions_of new.arenas) (regions_of old.arenas) one.regions)

-- a set without arenas has no regions
pub no_regions : (v : SetView) → HasNone v → regions_of v.arenas ≡ []
no_regions v none = regions_flat 1 v.arenas ∙ flat_empty (λ n a. region_extent a.region ∷ []) 1 v.arenas (λ k lt. ap (part (λ n a. region_extent a.region ∷ []) (1 + k)) (none k))

-- ---- a new heap

same_room : (n c : ℕ) → get_or (replicate n no_pools) c no_pools ≡ no_pools
same_room zero c = refl
same_room (suc n) zero = refl
same_room (suc n) (suc c) = same_room n c

none_numbered : (n : ℕ) → nth_arena [] n ≡ None
none_numbered zero = refl
none_numbered (suc n) = refl

none_linked : AreLinked [] (replicate 32 no_pools)
none_linked = record {
  headed = λ c. subst IsHeaded (sym (same_room 32 c)) (record { first = refl; count = refl });
  once = λ c p. subst (λ (v : ClassView). times p (addresses_of [] v.spots) ≤ 1) (sym (same_room 32 c)) (omega arith);
  listed = λ c s h. absurd (subst (λ (v : ClassView). Has s v.spots) (same_room 32 c) h);
  links = λ c s e. let none = ap (λ o. class_of (pool_in o s.slot)) (none_numbered s.arena) in absurd (cc);
}

pub new_heap : (s : State) (set_is : s.set ≡ empty_set) (classes : s.classes ≡ replicate 32 no_pools) (marks : s.marks ≡ []) → (s.taken ≡ 0) × (s.given ≡ 0) × (s.back ≡ 0) × (s.most ≡ 0) × (s.pooled ≡ 0) →
    IsKeptState s × (heap_of s ≡ empty_heap)
new_heap s set_is classes marks counts =
    let start : State = record { set = empty_set; classes = replicate 32 no_pools; marks = []; taken = 0; given = 0; back = 0; most = 0; pooled = 0 } in
    let same : start ≡ s = sym (λ i. record { set = set_is i; classes = classes i; marks = marks i; taken = counts.0 i; given = counts.1 i; back = counts.2 i; most = counts.3 i; pooled = counts.4 i }) in
    let kept : IsKeptState start = record {
      kept = empty_tables_are_kept;
      sound_set = record { lines = λ u h. absurd h; listed = λ n. sym (ap usable_times (none_numbered n)); arenas = tt; apart = λ x. omega arith; named = λ i a e. absurd (cc) };
      apart = λ x. omega arith;
      numbered = refl;
      few = omega arith;
      out = refl;
      lent = refl;
      marked = λ f. refl;
      full = λ c. ap (λ (v : ClassView). v.full) (same_room 32 c);
      linked = none_linked;
    } in
    subst (λ t. IsKeptState t × (heap_of t ≡ empty_heap)) same (kept, refl)
