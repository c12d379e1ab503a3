-- The first block of a new pool.
use Rattle.std.proofs.Common.{◌≡◌, ◌≢◌, ℕ, zero, suc, ◌+◌, ◌-◌, ◌<◌, Bool, inl, inr, List, [], ◌∷◌, map, length, get_or, set, Option, Some, None, refl, sym, ap, subst, ◌∙◌, arith}
use Rattle.std.proofs.lemmas.Bool.Decides.{eqb_tells}
use Rattle.std.proofs.Math.Nat.{zero-div}
use Rattle.std.proofs.lemmas.List.{get_or_past, map-set, length-set, get_or-set_same, get_or-set_other}
use Rattle.mem_base.specs.declared.history.Grant.TheVariants.{NotAsked}
use Rattle.raw_region.specs.Region.{PieceView}
use Rattle.raw_region.specs.Region.{RegionView}
use Rattle.extents.specs.Sums.{tally, Has, Inserted}
use Rattle.extents.specs.Extent.{piece_extent, AreApart}
use Rattle.extents.proofs.CallerLemmas.{tally_inserted, length_inserted}
use Rattle.layout_model.specs.Sizes.{size_of_class, capacity}
use Rattle.layout_model.proofs.CallerLemmas.{many}
use Rattle.layout_model.specs.Pool.{PoolView, live_of, new_pool, HasRoom}
use Rattle.layout_model.specs.Plain.{new_plain}
use Rattle.pool_core.proofs.CallerLemmas.{new_is_pool}
use Rattle.layout_model.specs.Geometry.{PoolLine}
use Rattle.heap_model.specs.Tables.{Spot, spot_of, with_one_more}
use Rattle.heap_model.specs.View.{places_of}
use Rattle.heap_model.specs.Laws.{IsPlaced}
use Rattle.heap_model.proofs.CallerLemmas.{spot_tells, new_pool_is_placed, places_long, started_and_lent}
use Rattle.arena_set.specs.declared.pool_id.PoolId.{PoolId}
use Rattle.arena_set.specs.Started.{Started, started_of}
use Rattle.arena_set.specs.Arena.{ArenaView, after_lending}
use Rattle.arena_set.specs.Set.{SetView, pool_line, pools_of, regions_of, loans_of, dry_of, IsSet}
use Rattle.arena_set.specs.Calls.{IsStarted, CanStart, CanLend, TakesPool, Starts, Lends}
use Rattle.arena_set.specs.Rule.{GavePool}
use Rattle.py_heap.specs.Heap.{Serves}
use Rattle.py_heap.specs.Kept.{ClassView, State, no_pools, spot, spots_of, lines_of, sites_of, tables_of, heap_of, class_at, full_in, IsKeptState}
use Rattle.py_heap.specs.Links.{pool_at, pool_in, class_of, next_of, prev_of, list_of, AreLinked}
use Rattle.py_heap.specs.Relinks.{OnlyLinks}
use Rattle.py_heap.proofs.Linked.{class_is as class_is_of, numbered_is}
use Rattle.py_heap.proofs.Relisted.{not_there, still_linked}
use Rattle.py_heap.proofs.Relinking.{changed_linked, here_pool, other_pool, same_place}
use Rattle.py_heap.proofs.Arenas.{line_at, line_there, at_once, started_once, sites_same}
use Rattle.py_heap.proofs.Lending.{LentOf, lent_of, not_full_in, lists_at}

-- a new pool has no block in use
live_new : (arena c : ℕ) → c < 32 → live_of (new_pool arena c) ≡ 0
live_new arena c small = let p = new_is_pool arena c small in let live = p.live in let z = zero-div (size_of_class c) in omega arith

module _ (old : State) (k : IsKeptState old) (c : ℕ) (small : c < 32) (none : (class_at old c).spots ≡ [])
    (set1 : SetView) (id : PoolId) (taken : TakesPool old.set set1 id) (gave : GavePool id.arena old.set set1) (regions1 : regions_of set1.arenas ≡ regions_of old.set.arenas)
    (loans1 : loans_of set1.arenas ≡ loans_of old.set.arenas) (pools1 : pools_of set1.arenas ≡ pools_of old.set.arenas) (sound1 : IsSet set1) where
  -- no pool is started there
  no_pool : get_or taken.a.pools id.pool None ≡ None
  no_pool = ap (λ ps. get_or ps id.pool None) (sym taken.pools) ∙ taken.fresh

  abbrev plain : PoolView
  plain = new_pool id.arena c

  pub can_start : CanStart set1 id
  can_start = record { a = taken.b; pool = taken.taken; fresh = taken.fresh }

  -- the pool is started
  module _ (set2 : SetView) (starts : Starts set1 set2 id (started_of old.taken (new_plain id.arena c))) (regions2 : regions_of set2.arenas ≡ regions_of set1.arenas)
      (loans2 : loans_of set2.arenas ≡ loans_of set1.arenas) (same2 : (set2.usable ≡ set1.usable) × (dry_of set2 ≡ dry_of set1)) (sound2 : IsSet set2) where
    abbrev s : Started
    s = started_of old.taken (new_plain id.arena c)

    abbrev a2 : ArenaView
    a2 = starts.b

    pub started : IsStarted set2 id a2 s
    started = starts.now

    idle : live_of plain ≡ 0
    idle = live_new id.arena c small

    class_is : plain.class ≡ c
    class_is = refl

    has_room : HasRoom plain
    has_room = let z = idle in let m = many c small in let e = ap capacity class_is in omega arith

    pub can_lend_new : CanLend set2 id
    can_lend_new = record { a = a2; s = s; started = started; room = has_room }

    -- its class's list stays
    fresh_at : pool_at old.set.arenas (spot id) ≡ None
    fresh_at = ap (λ o. pool_in o id.pool) (numbered_is old.set id.arena taken.a taken.at) ∙ no_pool

    set_same : {X : Type 0} (xs : List (Option X)) (i : ℕ) → get_or xs i None ≡ None → set xs i None ≡ xs
    set_same [] i e = refl
    set_same (x ∷ xs) zero e = ap (λ o. o ∷ xs) (sym e)
    set_same (x ∷ xs) (suc i) e = ap (λ l. x ∷ l) (set_same xs i e)

    taken_lt : id.pool < length taken.a.pools
    taken_lt = subst (λ ps. id.pool < length ps) taken.pools taken.taken.inside

    taken_pools : taken.b.pools ≡ set taken.a.pools id.pool None
    taken_pools = taken.pools ∙ sym (set_same taken.a.pools id.pool no_pool)

    pub linked1 : AreLinked set1.arenas old.classes
    linked1 =
        let there : (s : Spot) → pool_at set1.arenas s ≡ pool_at old.set.arenas s = λ s. elim (spot_tells s (spot id)) [
          | inl w ↦ ap (pool_at set1.arenas) w.1 ∙ (here_pool old.set set1 id taken.a taken.b None taken.at taken_lt taken.arenas taken_pools (ap (λ (x : RegionView). x.base) taken.region) ∙ (sym fresh_at ∙ ap (pool_at old.set.arenas) (sym w.1)))
          | inr w ↦ other_pool old.set set1 id taken.a taken.b None taken.at taken_lt taken.arenas taken_pools (ap (λ (x : RegionView). x.base) taken.region) s w.1
        ] in
        let place = same_place old.set set1 id taken.a taken.b None taken.at taken_lt taken.arenas taken_pools (ap (λ (x : RegionView). x.base) taken.region) in
        still_linked old.set.arenas set1.arenas old.classes k.linked (λ d s h. ap class_of (there s) ∙ k.linked.listed d s h) (λ d s h. place s)
        (λ d s e. inl (sym (ap class_of (there s)) ∙ e, ap next_of (there s), ap prev_of (there s), place s))

    fresh1 : pool_at set1.arenas (spot id) ≡ None
    fresh1 = ap (λ o. pool_in o id.pool) (numbered_is set1 id.arena taken.b taken.taken.at) ∙ taken.fresh

    start_lt : id.pool < length starts.a.pools
    start_lt = subst (λ (z : ArenaView). id.pool < length z.pools) (at_once set1 id.arena taken.b starts.a taken.taken.at starts.at) taken.taken.inside

    pub out2 : (d : ℕ) → Has (spot id) (list_of old.classes d) → ⊥
    out2 d h = let e = linked1.listed d (spot id) h in let f = ap class_of fresh1 in cc

    pub linked2 : AreLinked set2.arenas old.classes
    linked2 =
        let there = other_pool set1 set2 id starts.a a2 (Some s) starts.at start_lt starts.arena.arenas starts.change.pools starts.change.base in
        let place = same_place set1 set2 id starts.a a2 (Some s) starts.at start_lt starts.arena.arenas starts.change.pools starts.change.base in
        let here = here_pool set1 set2 id starts.a a2 (Some s) starts.at start_lt starts.arena.arenas starts.change.pools starts.change.base in
        let listed : (d : ℕ) (z : Spot) → Has z (list_of old.classes d) → class_of (pool_at set2.arenas z) ≡ Some d =
        λ d z h. ap class_of (there z (λ e. out2 d (subst (λ y. Has y (list_of old.classes d)) e h))) ∙ linked1.listed d z h in
        still_linked set1.arenas set2.arenas old.classes linked1 listed (λ d z h. place z) (λ d z e. elim (spot_tells z (spot id)) [
          | inl w ↦ inr (
            ap (λ y. next_of (pool_at set2.arenas y)) w.1 ∙ ap next_of here,
            ap (λ y. prev_of (pool_at set2.arenas y)) w.1 ∙ ap prev_of here,
            not_there set2 (list_of old.classes d) z d d sound2 (listed d) e (λ h. out2 d (subst (λ y. Has y (list_of old.classes d)) w.1 h)),
          )
          | inr w ↦ let t = there z w.1 in inl (sym (ap class_of t) ∙ e, ap next_of t, ap prev_of t, place z)
        ])

    -- and lends a block
    module _ (set3 : SetView) (piece : PieceView) (full : Bool) (lends : Lends set2 set3 id piece full) (loans3 : Inserted (piece_extent piece) (loans_of set2.arenas) (loans_of set3.arenas))
        (apart3 : AreApart (loans_of set3.arenas)) (regions3 : regions_of set3.arenas ≡ regions_of set2.arenas) (same3 : (set3.usable ≡ set2.usable) × (dry_of set3 ≡ dry_of set2)) (sound3 : IsSet set3)
      where
        pub linked3 : AreLinked set3.arenas old.classes
        linked3 = changed_linked set2 set3 id lends.a lends.b lends.s (after_lending lends.s) lends.started lends.change lends.arena refl refl refl old.classes linked2

        pub class_there : class_of (pool_at set3.arenas (spot id)) ≡ Some c
        class_there = class_is_of set3 id lends.b (after_lending lends.s) lends.now ∙ ap (λ (z : Started). Some z.pool.class) (sym (started_once set2 id a2 lends.a s lends.s started lends.started).1)

        lent : LentOf (line_at id a2 s) piece full set2 set3
        lent = lent_of set2 set3 id piece full a2 s sound2 started has_room lends

        pub sites3 : sites_of set3.arenas ≡ sites_of old.set.arenas
        sites3 =
            (lent).sites ∙ (ap sites_of starts.arena.arenas ∙ sites_same set1.arenas id.arena starts.a a2 starts.at.some starts.at.there starts.change.base)
            ∙ (ap sites_of taken.arenas ∙ sites_same old.set.arenas id.arena taken.a taken.b taken.at.some taken.at.there (ap (λ (x : RegionView). x.base) taken.region))

        -- and it comes to the front of its class's list
        module _ (set4 : SetView) (only : OnlyLinks set3 set4) (v : ClassView) (spots : v.spots ≡ spot id ∷ (class_at old c).spots) (fulls : v.full ≡ (class_at old c).full) (linked : AreLinked set4.arenas (set old.classes c v)) where
          abbrev new : State
          new = record old { set = set4; classes = set old.classes c v; taken = old.taken + 1; pooled = old.pooled + 1 }

          abbrev y : PoolLine
          y = with_one_more (line_at id a2 s)

          base_is : starts.a.region.base ≡ taken.a.region.base
          base_is = ap (λ (z : ArenaView). z.region.base) (sym (at_once set1 id.arena _ starts.a taken.taken.at starts.at)) ∙ ap (λ (x : RegionView). x.base) taken.region

          came : Inserted y (lines_of old.set.arenas) (lines_of set4.arenas)
          came =
              subst (Inserted y (lines_of old.set.arenas)) (sym only.lines) (
              let first_come : Inserted (line_at id a2 s) (lines_of old.set.arenas) (lines_of set2.arenas) =
              subst (λ l. Inserted (line_at id a2 s) l (lines_of set2.arenas)) pools1
              (subst (λ b. Inserted (pool_line id.arena b id.pool s) (pools_of set1.arenas) (lines_of set2.arenas)) (sym starts.change.base) starts.pools) in
              started_and_lent (tables_of old) (line_at id a2 s) (lines_of set2.arenas) (lines_of set3.arenas) k.kept refl first_come (lent).lines)

          apart_spots : (x : PoolLine) → Has x (lines_of old.set.arenas) → spot_of x ≢ spot_of y
          apart_spots x here e =
              let l = line_there old.set x here in
              let same : l.id ≡ id = λ i. record { arena = ((ap spot_of l.is ∙ e) i).arena; pool = ((ap spot_of l.is ∙ e) i).slot } in
              let st : IsStarted old.set id l.a l.s = subst (λ (p : PoolId). IsStarted old.set p l.a l.s) same l.started in
              let arena = at_once old.set id.arena l.a taken.a st.at taken.at in
              let there : get_or taken.a.pools id.pool None ≡ Some l.s = subst (λ (z : ArenaView). get_or z.pools id.pool None ≡ Some l.s) arena st.there in
              let no = no_pool in cc

          one_live : y.live ≡ 1
          one_live = let z = idle in omega arith

          pub regions_are : regions_of set4.arenas ≡ regions_of old.set.arenas
          regions_are = only.regions ∙ regions3 ∙ regions2 ∙ regions1

          loans_are : Inserted (piece_extent piece) (loans_of old.set.arenas) (loans_of set4.arenas)
          loans_are = subst (Inserted (piece_extent piece) (loans_of old.set.arenas)) (sym only.loans) (subst (λ l. Inserted (piece_extent piece) l (loans_of set3.arenas)) (loans2 ∙ loans1) loans3)

          sites_are : sites_of set4.arenas ≡ sites_of old.set.arenas
          sites_are = only.sites ∙ sites3

          count_is : length set4.arenas ≡ length old.set.arenas
          count_is = only.count ∙ (lent).count ∙ (ap length starts.arena.arenas ∙ length-set set1.arenas (id.arena - 1) (Some a2)) ∙ (ap length taken.arenas ∙ length-set old.set.arenas (id.arena - 1) _)

          placed : IsPlaced c NotAsked y (tables_of old) (tables_of new)
          placed = new_pool_is_placed c y gave.u gave.us (tables_of old) (tables_of new) small k.kept
              (record {
                none = (lists_at old c k.kept small).1 ∙ none;
                pool = (refl, class_is, sym gave.number, one_live);
                free = apart_spots;
                started = came;
                lists = map-set spots_of old.classes c v ∙ ap (set (map spots_of old.classes) c) (spots ∙ ap (λ l. spot id ∷ l) none);
                taken = refl;
              })
              (record {
                first = gave.first;
                usable = only.usable ∙ same3.0 ∙ same2.0 ∙ gave.usable;
                dry = only.dry ∙ same3.1 ∙ same2.1 ∙ gave.dry;
                given = refl;
                back = refl;
                most = refl;
              })

          full_is : (d : ℕ) → (class_at new d).full ≡ (class_at old d).full
          full_is d = elim (eqb_tells d c) [
            | inl w ↦ let at : class_at new d ≡ v = ap (λ j. get_or (set old.classes c v) j no_pools) w.1 ∙ get_or-set_same old.classes c v no_pools (lists_at old c k.kept small).0 in
                ap (λ (z : ClassView). z.full) at ∙ fulls ∙ ap (λ j. (class_at old j).full) (sym w.1)
            | inr w ↦ ap (λ (z : ClassView). z.full) (get_or-set_other old.classes c d v no_pools w.1)
          ]

          half : y.live ≢ capacity y.class
          half e = let o = one_live in let m = many c small in let k = ap capacity class_is in absurd (omega arith)

          pub new_kept : IsKeptState new
          new_kept = record {
            kept = (placed).kept;
            sound_set = only.set;
            apart = subst AreApart (sym only.loans) apart3;
            numbered = k.numbered ∙ sym count_is;
            few = k.few;
            out = let r = ap length regions_are in let o = k.out in omega arith;
            lent = let l = k.lent in let i = length_inserted (piece_extent piece) (loans_of old.set.arenas) (loans_of set4.arenas) loans_are in omega arith;
            marked = λ f. k.marked f ∙ ap (tally f) (sym sites_are);
            full = λ d. let t = tally_inserted (full_in d) y (lines_of old.set.arenas) (lines_of set4.arenas) came in let z = not_full_in d y half in let o = k.full d in let f = full_is d in omega arith;
            linked = linked;
          }

          pub new_serves : Serves c NotAsked (Some piece) (heap_of old) (heap_of new)
          new_serves = record {
            fits = (placed).fits;
            layout = (placed).layout;
            got = (
              (λ e. cc),
              record {
                pool = y.number;
                begins = y.place;
                region = (lent).region;
                placed = (placed).pool;
                is = (placed).place;
                was = inl (get_or_past (places_of (tables_of old)) old.taken None (let l = places_long (tables_of old) in omega arith));
                others = (placed).others;
                held = subst (Has (lent).region) (sym (only.regions ∙ regions3)) (lent).held;
                ground = (lent).ground;
                inside = (lent).inside;
                maker = (lent).maker;
                len = (lent).len ∙ ap size_of_class class_is;
                aligned = (lent).aligned;
                lent = loans_are;
              },
            );
          }
