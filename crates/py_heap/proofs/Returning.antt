-- The last block of a pool is freed, and the pool goes back to its arena.
use Rattle.std.proofs.Common.{◌≡◌, ◌≢◌, ℕ, ◌+◌, ◌-◌, ◌<◌, ◌≤◌, ◌⊎◌, Bool, true, inl, inr, List, [], ◌∷◌, ◌++◌, map, length, get_or, set, Option, Some, None, refl, sym, ap, subst, ◌∙◌, arith}
use Rattle.std.proofs.lemmas.Bool.Decides.{eqb_tells, leb_tells}
use Rattle.std.proofs.lemmas.List.{map-set, length-set, get_or-set_same, get_or-set_other}
use Rattle.raw_region.specs.Cells.{AllHome}
use Rattle.raw_region.specs.Region.{RegionView, PieceView}
use Rattle.extents.specs.Sums.{tally, Has, Removed, Replaced}
use Rattle.extents.specs.Extent.{Extent, region_extent, piece_extent, AreApart}
use Rattle.extents.proofs.CallerLemmas.{tally_has, tally_inserted, length_inserted, has_new, has_right, has_either}
use Rattle.layout_model.specs.Sizes.{capacity}
use Rattle.layout_model.specs.Unplace.{find_arena, without_arena, put_arena, is_last}
use Rattle.layout_model.proofs.CallerLemmas.{many, in_arena_is}
use Rattle.layout_model.specs.Pool.{IsEmpty}
use Rattle.heap_model.specs.Tables.{Tables, with_one_less, Spot}
use Rattle.layout_model.specs.Pool.{IsEmpty}
use Rattle.heap_model.specs.View.{places_of}
use Rattle.heap_model.specs.Kept.{has_number}
use Rattle.heap_model.specs.Laws.{IsUnplaced}
use Rattle.heap_model.specs.Changes as changes
use Rattle.heap_model.proofs.CallerLemmas.{tally_once, number_self, has_after, placed_pool, dry_arena_gets_pool, usable_arena_is_put, whole_arena_goes_back, mended_and_gone, pool_is_listed}
use Rattle.arena_set.specs.declared.pool_id.PoolId.{PoolId}
use Rattle.arena_set.specs.Started.{Started}
use Rattle.layout_model.specs.Geometry.{pool_offset, Site, in_arena, ArenaHas, PoolLine}
use Rattle.arena_set.specs.Arena.{ArenaView, started_times}
use Rattle.arena_set.specs.Set.{SetView, pool_line, pools_of, regions_of, loans_of, dry_of, IsSet}
use Rattle.arena_set.specs.Calls.{CanMend, IsStarted, CanGive, Mends, KeptAfter, PoolsLeft, RegionsLeft}
use Rattle.arena_set.specs.Rule.{PoolBack}
use Rattle.py_heap.specs.Heap.{InPool, PoolInRegion, RegionsBack}
use Rattle.py_heap.specs.Kept.{ClassView, State, no_pools, spot, spots_of, lines_of, sites_of, tables_of, heap_of, class_at, full_in, SameSums, IsKeptState}
use Rattle.py_heap.specs.Frees.{CanComeBack, ComesBack, TakesBack, SitesAfter, RegionsLess, went}
use Rattle.py_heap.proofs.Arenas.{line_at, line_there, started_there, at_once, arena_at, pool_ground, site_there, sites_cover, sites_same, sites_fewer}
use Rattle.py_heap.proofs.Lending.{pool_inside, not_full_in, lists_at}
use Rattle.py_heap.specs.Links.{pool_at, class_of, list_of, AreLinked}
use Rattle.py_heap.specs.Relinks.{OnlyLinks, SameBody}
use Rattle.py_heap.proofs.Ground.{has_same}
use Rattle.py_heap.proofs.Linked.{class_is}
use Rattle.pool_core.specs.Calls.{InRun}
use Rattle.arena_set.proofs.CallerLemmas.{inside}
use Rattle.py_heap.proofs.Freeing.{MendOf, After, home_by, mend_of}

-- a pool that went has no place
gone_place : (old new : Tables) (x : PoolLine) → ((k : ℕ) → tally (has_number k) old.started ≤ 1) → Removed x old.started new.started → get_or (places_of new) x.number None ≡ None
gone_place old new x once removed = by_place (get_or (places_of new) x.number None) refl where
  by_place : (o : Option ℕ) → get_or (places_of new) x.number None ≡ o → o ≡ None
  by_place None e = refl
  by_place (Some p) e =
      let z = placed_pool new x.number p e in
      let sum = tally_inserted (has_number x.number) x new.started old.started removed in let most = once x.number in
      let mine : has_number x.number x ≡ 1 = rw (number_self x.number) refl in
      let other : has_number x.number z.0 ≡ 1 = rw (z.1.1) (rw (number_self x.number) refl) in
      let le = tally_has (has_number x.number) z.0 new.started z.1.0 in absurd (omega arith)

-- a cell behind a header is none of a pool's word for the next one
behind_word : (b j k off : ℕ) → 48 ≤ off → off < 16384 → InRun (pool_offset b k + 16) 8 (pool_offset b j + off) → ⊥
behind_word b j k off low high run = let from = run.0 in let to = run.1 in elim (eqb_tells j k) [
  | inl w ↦ let e = w.1 in absurd (omega arith)
  | inr w ↦ let n = w.1 in elim (leb_tells j k) [ inl v ↦ let le = v.1 in absurd (omega arith) | inr v ↦ let gt = v.1 in absurd (omega arith) ]
]

-- the region of an arena that stays or goes
less_regions : (back : Option RegionView) (a b c : List Extent) → b ≡ a → RegionsLeft back b c → ((r : RegionView) → back ≡ Some r → AllHome r.cells) → RegionsLess back a c
less_regions None a b c same left home = left ∙ same
less_regions (Some r) a b c same left home = (subst (λ l. Removed (region_extent r) l c) same left, home r refl)

module _ (old : State) (k : IsKeptState old) (piece : PieceView) (id : PoolId) (can : CanMend old.set id piece)
    (set1 : SetView) (full empty : Bool) (mends : Mends old.set set1 id piece full empty) (loans : Removed (piece_extent piece) (loans_of old.set.arenas) (loans_of set1.arenas))
    (apart : AreApart (loans_of set1.arenas)) (regions : regions_of set1.arenas ≡ regions_of old.set.arenas) (same : (set1.usable ≡ old.set.usable) × (dry_of set1 ≡ dry_of old.set)) (sound : IsSet set1)
    (was_last : empty ≡ true) where
  abbrev pool : PoolLine
  pool = line_at id mends.a mends.s

  back1 : MendOf pool full empty old.set set1
  back1 = mend_of old.set set1 id piece full empty k.sound_set can mends

  one : pool.live ≡ 1
  one = (back1).now_empty.0 was_last

  pool_here : Has pool (lines_of old.set.arenas)
  pool_here = started_there old.set id mends.a mends.s mends.started

  small : pool.class < 32
  small = (k.kept.orderly.pools pool pool_here).small

  half : pool.live ≢ capacity pool.class
  half e = let o = one in let m = many pool.class small in absurd (omega arith)

  -- where it stands in its list
  split : (before : List Spot) × (after : List Spot) × (get_or (map spots_of old.classes) pool.class [] ≡ before ++ spot id ∷ after) × ((s : Spot) → Has s before → s ≢ spot id) × ((s : Spot) → Has s after → s ≢ spot id)
  split = let o = one in let m = many pool.class small in pool_is_listed (tables_of old) pool k.kept pool_here (omega arith)

  list_is : list_of old.classes pool.class ≡ (split).0 ++ spot id ∷ (split).1
  list_is = sym (lists_at old pool.class k.kept small).1 ∙ (split).2

  pub listed : Has (spot id) (list_of old.classes pool.class)
  listed = subst (Has (spot id)) (sym list_is) (has_right (spot id) (split).0 (spot id ∷ (split).1) (inl refl))

  -- it has left the list
  module _ (set2 : SetView) (only : OnlyLinks set1 set2) (v : ClassView) (spots : (before after : List Spot) → list_of old.classes pool.class ≡ before ++ spot id ∷ after → v.spots ≡ before ++ after)
      (fulls : v.full ≡ (class_at old pool.class).full) (linked : AreLinked set2.arenas (set old.classes pool.class v)) where
    abbrev mid : State
    mid = record old { set = set2; classes = set old.classes pool.class v; pooled = old.pooled - 1 }

    abbrev sound2 : IsSet set2
    sound2 = only.set

    loans2 : Removed (piece_extent piece) (loans_of old.set.arenas) (loans_of set2.arenas)
    loans2 = subst (Removed (piece_extent piece) (loans_of old.set.arenas)) (sym only.loans) loans

    apart2 : AreApart (loans_of set2.arenas)
    apart2 = subst AreApart (sym only.loans) apart

    regions2 : regions_of set2.arenas ≡ regions_of old.set.arenas
    regions2 = only.regions ∙ regions

    same2 : (set2.usable ≡ old.set.usable) × (dry_of set2 ≡ dry_of old.set)
    same2 = (only.usable ∙ same.0, only.dry ∙ same.1)

    lines2 : Replaced pool (with_one_less pool) (lines_of old.set.arenas) (lines_of set2.arenas)
    lines2 = subst (Replaced pool (with_one_less pool) (lines_of old.set.arenas)) (sym only.lines) (back1).lines

    back : MendOf pool full empty old.set set2
    back = record { lines = lines2; was_full = (back1).was_full; now_empty = (back1).now_empty; some = (back1).some; sites = only.sites ∙ (back1).sites; count = only.count ∙ (back1).count }

    -- its line is still there
    then_is : After set2 id pool
    then_is =
        let l = line_there set2 (with_one_less pool) (has_after pool (with_one_less pool) (lines_of old.set.arenas) (lines_of set2.arenas) lines2) in
        let ids : l.id ≡ id = λ i. record { arena = (l.is i).arena; pool = (l.is i).slot } in
        record { a = l.a; s = l.s; started = subst (λ (p : PoolId). IsStarted set2 p l.a l.s) ids l.started; is = sym (subst (λ (p : PoolId). line_at p l.a l.s ≡ with_one_less pool) ids l.is) }

    out : (c : ℕ) → Has (spot id) (list_of (set old.classes pool.class v) c) → ⊥
    out c h =
        let t = then_is in
        let mine : class_of (pool_at set2.arenas (spot id)) ≡ Some pool.class = class_is set2 id t.a t.s t.started ∙ ap (λ (y : PoolLine). Some y.class) (sym t.is) in
        let class : c ≡ pool.class = (let e : Some c ≡ Some pool.class = sym (linked.listed c (spot id) h) ∙ mine in cc) in
        let at : get_or (set old.classes pool.class v) c no_pools ≡ v = ap (λ j. get_or (set old.classes pool.class v) j no_pools) class ∙ get_or-set_same old.classes pool.class v no_pools (lists_at old pool.class k.kept small).0 in
        let there : Has (spot id) ((split).0 ++ (split).1) = subst (Has (spot id)) (ap (λ (w : ClassView). w.spots) at ∙ spots (split).0 (split).1 list_is) h in
        elim (has_either (spot id) (split).0 (split).1 there) [ inl g ↦ (split).3 (spot id) g refl | inr g ↦ (split).4 (spot id) g refl ]

    can_give : CanGive set2 id
    can_give = record {
      a = (then_is).a;
      pool = record {
        at = (then_is).started.at;
        inside = pool_inside set2 id (then_is).a (then_is).s (then_is).started;
        taken = let f = (arena_at set2 id.arena (then_is).a sound2 (then_is).started.at).free id.pool in let s = ap started_times (then_is).started.there in omega arith;
      };
      idle = λ s e.
          let there = (then_is).started.there in let alike : (then_is).s ≡ s = cc in
          let live = ap (λ (y : PoolLine). y.live) (then_is).is in let o = one in
          subst (λ (z : Started). IsEmpty z.pool) alike (omega arith);
    }

    home : Site
    home = record { arena = id.arena; base = (then_is).a.region.base }

    home_there : Has home (sites_of set2.arenas)
    unfolding home
    home_there = site_there set2 id.arena (then_is).a (then_is).started.at

    marked : SameSums old.marks (sites_of set2.arenas)
    marked f = k.marked f ∙ ap (tally f) (sym (back).sites)

    pub can_come : CanComeBack id mid
    unfolding home can_give
    can_come = record {
      linked = linked;
      out = out;
      give = can_give;
      marked = record { index = id.arena; there = has_same home (sites_of set2.arenas) old.marks (λ f. sym (marked f)) home_there };
    }

    module _ (new : State) (region : Option RegionView) (b : ComesBack id region mid new) where
      -- what was started is as before, without the pool
      pools_less : PoolsLeft (get_or b.gives.a.pools id.pool None) (pool_line id.arena b.gives.a.region.base id.pool) (pools_of set2.arenas) (pools_of new.set.arenas) →
          Removed (with_one_less pool) (lines_of set2.arenas) (lines_of new.set.arenas)
      pools_less left =
          let arena = at_once set2 id.arena b.gives.a (then_is).a b.gives.at (then_is).started.at in
          let there : get_or b.gives.a.pools id.pool None ≡ Some (then_is).s = subst (λ (z : ArenaView). get_or z.pools id.pool None ≡ Some (then_is).s) (sym arena) (then_is).started.there in
          let removed : Removed (pool_line id.arena b.gives.a.region.base id.pool (then_is).s) (pools_of set2.arenas) (pools_of new.set.arenas) =
          subst (λ o. PoolsLeft o (pool_line id.arena b.gives.a.region.base id.pool) (pools_of set2.arenas) (pools_of new.set.arenas)) there left in
          let line : pool_line id.arena b.gives.a.region.base id.pool (then_is).s ≡ with_one_less pool = ap (λ (z : ArenaView). line_at id z (then_is).s) arena ∙ sym (then_is).is in
          subst (λ l. Removed l (lines_of set2.arenas) (lines_of new.set.arenas)) line removed

      gone : Removed pool (lines_of old.set.arenas) (lines_of new.set.arenas)
      gone = mended_and_gone (tables_of old) pool (lines_of set2.arenas) (lines_of new.set.arenas) k.kept (back).lines (pools_less b.gives.pools)

      freed_last : changes.FreedLast pool v.spots (tables_of old) (tables_of new)
      freed_last = record {
        last = one;
        started = gone;
        left = record { before = (split).0; after = (split).1; without = spots (split).0 (split).1 list_is; with = (split).2 };
        lists = ap (map spots_of) b.classes ∙ map-set spots_of old.classes pool.class v;
        taken = b.taken;
        given = b.given;
        most = b.most;
      }

      dry_at : (t : Option ℕ) → get_or (dry_of set2) id.arena None ≡ t → get_or (dry_of old.set) id.arena None ≡ t
      dry_at t e = ap (λ ds. get_or ds id.arena None) (sym same2.1) ∙ e

      unplaced_by : (r : Option RegionView) → PoolBack id.arena r set2 new.set → new.back ≡ old.back + went r → IsUnplaced pool (tables_of old) (tables_of new)
      unplaced_by None (inl f) back_is = dry_arena_gets_pool pool v.spots f.total (tables_of old) (tables_of new) k.kept freed_last (record {
        was = dry_at (Some f.total) f.was;
        usable = f.usable ∙ ap (λ us. record { arena = id.arena; total = f.total; free = 1 } ∷ us) same2.0;
        dry = f.dry ∙ ap (λ ds. set ds id.arena None) same2.1;
        back = omega arith;
      })
      unplaced_by None (inr p) back_is = usable_arena_is_put pool v.spots p.u (tables_of old) (tables_of new) k.kept freed_last (record {
        was = ap (find_arena id.arena) (sym same2.0) ∙ p.was;
        stays = subst (λ us. (p.u.free + 1 ≢ p.u.total) ⊎ (is_last id.arena us ≡ true)) same2.0 p.stays;
        usable = p.usable ∙ ap (λ us. put_arena (record p.u { free = p.u.free + 1 }) (without_arena id.arena us)) same2.0;
        dry = p.dry ∙ same2.1;
        back = omega arith;
      })
      unplaced_by (Some r) w back_is = whole_arena_goes_back pool v.spots w.u (tables_of old) (tables_of new) k.kept freed_last (record {
        was = ap (find_arena id.arena) (sym same2.0) ∙ w.was;
        all = w.all;
        other = ap (is_last id.arena) (sym same2.0) ∙ w.other;
        usable = w.usable ∙ ap (without_arena id.arena) same2.0;
        dry = w.dry ∙ same2.1;
        back = back_is;
      })

      unplaced : IsUnplaced pool (tables_of old) (tables_of new)
      unplaced = unplaced_by region b.rule b.back_is

      -- ---- the sites

      sites_by : (r : Option RegionView) → SitesAfter r old.marks new.marks → (o : Option ArenaView) → KeptAfter b.gives.a id.pool r o → new.set.arenas ≡ set set2.arenas (id.arena - 1) o → ((q : RegionView) → r ≡ Some q → region_extent q ≡ region_extent b.gives.a.region) →
          SameSums new.marks (sites_of new.set.arenas)
      sites_by None s o kept e is f =
          let base : kept.0.region.base ≡ b.gives.a.region.base = ap (λ (x : Extent). x.place) kept.1.1.extent in
          ap (tally f) s ∙ marked f ∙ ap (tally f) (sym (sites_same set2.arenas id.arena b.gives.a kept.0 b.gives.at.some b.gives.at.there base)) ∙ ap (λ l. tally f (sites_of l)) (sym (e ∙ ap (set set2.arenas (id.arena - 1)) kept.1.0))
      sites_by (Some r) s o kept e is f =
          let base : r.base ≡ b.gives.a.region.base = ap (λ (x : Extent). x.place) (is r refl) in
          let mine : Site = record { arena = id.arena; base = b.gives.a.region.base } in
          let mine_there : Has mine (sites_of set2.arenas) = site_there set2 id.arena b.gives.a b.gives.at in
          let mine_has : ArenaHas r.base mine = (omega arith, omega arith) in
          let found : Site = record { arena = s.index; base = r.base } in
          let found_has : ArenaHas r.base found = (omega arith, omega arith) in
          let found_there : Has found (sites_of set2.arenas) = has_same found old.marks (sites_of set2.arenas) marked (has_new found new.marks old.marks s.removed) in
          let most : tally (in_arena r.base) (sites_of set2.arenas) ≤ 1 = let c = sites_cover set2 r.base sound2 in let a = sound2.apart r.base in omega arith in
          let c1 = in_arena_is r.base found found_has in let c2 = in_arena_is r.base mine mine_has in
          let alike : found ≡ mine = tally_once (in_arena r.base) (sites_of set2.arenas) found mine most found_there mine_there (omega arith) (omega arith) in
          let a = tally_inserted f found new.marks old.marks s.removed in
          let d = tally_inserted f mine (sites_of (set set2.arenas (id.arena - 1) None)) (sites_of set2.arenas) (sites_fewer set2.arenas id.arena b.gives.a b.gives.at.some b.gives.at.there) in
          let m = marked f in let g = ap f alike in let h = ap (λ l. tally f (sites_of l)) (e ∙ ap (set set2.arenas (id.arena - 1)) kept) in omega arith

      out_by : (r : Option RegionView) → RegionsLeft r (regions_of set2.arenas) (regions_of new.set.arenas) → new.back ≡ old.back + went r → length (regions_of new.set.arenas) + new.back ≡ old.given
      out_by None left is = let e = ap length left in let r = ap length regions2 in let o = k.out in omega arith
      out_by (Some r) left is = let e = length_inserted (region_extent r) (regions_of new.set.arenas) (regions_of set2.arenas) left in let s = ap length regions2 in let o = k.out in omega arith

      count_is : length new.set.arenas ≡ length old.set.arenas
      count_is = ap length b.gives.arenas ∙ length-set set2.arenas (id.arena - 1) _ ∙ (back).count

      full_is : (d : ℕ) → (class_at new d).full ≡ (class_at old d).full
      full_is d = ap (λ cs. (get_or cs d no_pools).full) b.classes ∙ elim (eqb_tells d pool.class) [
        | inl w ↦ let at : get_or (set old.classes pool.class v) d no_pools ≡ v = ap (λ j. get_or (set old.classes pool.class v) j no_pools) w.1 ∙ get_or-set_same old.classes pool.class v no_pools (lists_at old pool.class k.kept small).0 in
            ap (λ (z : ClassView). z.full) at ∙ fulls ∙ ap (λ j. (class_at old j).full) (sym w.1)
        | inr w ↦ ap (λ (z : ClassView). z.full) (get_or-set_other old.classes pool.class d v no_pools w.1)
      ]

      pub returned_kept : IsKeptState new
      returned_kept = record {
        kept = (unplaced).kept;
        sound_set = b.set;
        apart = subst AreApart (sym b.loans) apart2;
        numbered = b.given ∙ k.numbered ∙ sym count_is;
        few = let e = b.given in let f = k.few in omega arith;
        out = out_by region b.gives.regions b.back_is ∙ sym b.given;
        lent = let p = b.pooled in let l = k.lent in let i = length_inserted (piece_extent piece) (loans_of set2.arenas) (loans_of old.set.arenas) loans2 in let e = ap length b.loans in omega arith;
        marked = sites_by region b.sites b.gives.left b.gives.kept b.gives.arenas (λ q e. (b.gives.region q e).0);
        full = λ d. let t = tally_inserted (full_in d) pool (lines_of new.set.arenas) (lines_of old.set.arenas) gone in let z = not_full_in d pool half in let o = k.full d in let f = full_is d in omega arith;
        linked = b.linked;
      }

      -- the pool lies in its arena
      ground : PoolInRegion pool.place (region_extent b.gives.a.region)
      ground =
          let g = pool_ground set2 id (then_is).a sound2 (then_is).started.at (pool_inside set2 id (then_is).a (then_is).s (then_is).started) in
          let arena = at_once set2 id.arena (then_is).a b.gives.a (then_is).started.at b.gives.at in
          let place = ap (λ (y : PoolLine). y.place) (then_is).is in
          subst (λ p. PoolInRegion p (region_extent b.gives.a.region)) (sym place) (subst (λ (z : ArenaView). PoolInRegion ((then_is).a.region.base + pool_offset (then_is).a.region.base id.pool) (region_extent z.region)) arena g)

      back_by : (r : Option RegionView) → RegionsLeft r (regions_of set2.arenas) (regions_of new.set.arenas) → new.back ≡ old.back + went r → ((q : RegionView) → r ≡ Some q → region_extent q ≡ region_extent b.gives.a.region) → RegionsBack pool.place (heap_of old) (heap_of new)
      back_by None left is mine = inl (omega arith, left ∙ regions2)
      back_by (Some r) left is mine = inr (is, (region_extent r, (subst (λ l. Removed (region_extent r) l (regions_of new.set.arenas)) regions2 left, subst (PoolInRegion pool.place) (sym (mine r refl)) ground)))

      -- where its arena stays, its cells behind headers do
      left_at : get_or new.set.arenas (id.arena - 1) None ≡ b.gives.left
      left_at = ap (λ l. get_or l (id.arena - 1) None) b.gives.arenas ∙ get_or-set_same set2.arenas (id.arena - 1) b.gives.left None (inside set2.arenas (id.arena - 1) b.gives.a b.gives.at.there)

      body_by : (r : Option RegionView) (o : Option ArenaView) → KeptAfter b.gives.a id.pool r o → o ≡ b.gives.left → new.back ≡ old.back + went r → new.back ≡ old.back → SameBody (Some mends.b) (get_or new.set.arenas (id.arena - 1) None)
      body_by (Some r) o kept is back_is stays = absurd (omega arith)
      body_by None o kept is back_is stays =
          let was : SameBody (Some mends.b) (get_or set2.arenas (id.arena - 1) None) = subst (λ x. SameBody x (get_or set2.arenas (id.arena - 1) None)) mends.now.at.there (only.bodies (id.arena - 1)) in
          let same : was.0 ≡ b.gives.a = (let e = was.1.0 in let f = b.gives.at.there in cc) in
          let alike : b.gives.a.region.base ≡ mends.b.region.base = ap (λ (x : ArenaView). x.region.base) (sym same) ∙ was.1.1 in
          let base : kept.0.region.base ≡ mends.b.region.base = ap (λ (x : Extent). x.place) kept.1.1.extent ∙ alike in (
            kept.0,
            (
              left_at ∙ (sym is ∙ kept.1.0),
              base,
              λ j off low high.
                  kept.1.1.only (pool_offset mends.b.region.base j + off) (λ run. behind_word mends.b.region.base j id.pool off low high (subst (λ n. InRun (pool_offset n id.pool + 16) 8 (pool_offset mends.b.region.base j + off)) alike run))
                  ∙ (ap (λ (x : ArenaView). get_or x.region.cells (pool_offset mends.b.region.base j + off) None) (sym same) ∙ was.1.2 j off low high),
            ),
          )

      pub returned_back : InPool (piece_extent piece) pool.place → TakesBack piece region (heap_of old) (heap_of new)
      returned_back lies = record {
        freed = record {
          pool = pool.number;
          begins = pool.place;
          was = (unplaced).place;
          inside = lies;
          layout = (unplaced).layout;
          is = inl (gone_place (tables_of old) (tables_of new) pool k.kept.orderly.numbers gone);
          others = (unplaced).others;
          regions = back_by region b.gives.regions b.back_is (λ q e. (b.gives.region q e).0);
          back = subst (λ l. Removed (piece_extent piece) (loans_of old.set.arenas) l) (sym b.loans) loans2;
          bytes = λ stays. home_by old k piece (has_new (piece_extent piece) (loans_of set1.arenas) (loans_of old.set.arenas) loans) id can set1 full empty mends loans apart regions same sound new (body_by region b.gives.left b.gives.kept refl b.back_is stays);
        };
        regions = less_regions region (regions_of old.set.arenas) (regions_of set2.arenas) (regions_of new.set.arenas) regions2 b.gives.regions (λ r e. (b.gives.region r e).1);
      }
