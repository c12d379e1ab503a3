-- The calls that lend and free, as the lists change.
use Rattle.std.proofs.Common.{◌≡◌, ℕ, ◌+◌, ◌-◌, ◌<◌, ◌≤◌, ◌^◌, Bool, true, false, inl, List, [], ◌∷◌, ◌++◌, map, length, get_or, set, Option, Some, None, refl, sym, ap, subst, ◌∙◌, arith}
use Rattle.std.proofs.lemmas.List.{get_or-map, get_or-set_same, length-map, length-set}
use Rattle.mem_base.specs.declared.history.Grant.TheVariants.{NotAsked}
use Rattle.raw_region.specs.Region.{RegionView, PieceView}
use Rattle.extents.specs.Sums.{tally, Has, Inserted, Removed}
use Rattle.extents.specs.Extent.{piece_extent, AreApart}
use Rattle.heap_model.specs.Tables.{Spot}
use Rattle.arena_set.specs.declared.pool_id.PoolId.{PoolId}
use Rattle.arena_set.specs.Set.{SetView, loans_of, pools_of, regions_of, dry_of, IsSet}
use Rattle.arena_set.specs.Calls.{CanLend, CanMend, GivesPool, Lends, Mends, Starts, TakesPool}
use Rattle.arena_set.specs.Rule.{GavePool, PoolBack}
use Rattle.arena_set.specs.Started.{started_of}
use Rattle.layout_model.specs.Plain.{new_plain}
use Rattle.py_heap.specs.declared.pools.Pools.{Pools}
use Rattle.py_heap.specs.declared.classes.ClassPools.{ClassPools}
use Rattle.py_heap.specs.Heap.{Serves}
use Rattle.py_heap.specs.Kept.{State, class_at, heap_of, spots_of, IsKeptState}
use Rattle.py_heap.specs.State.{state_of}
use Rattle.py_heap.specs.Frees.{CanComeBack, ComesBack, SitesAfter, TakesBack, went}
use Rattle.py_heap.specs.Links.{ClassView, class_view, first_id, list_of, no_pools, spot, AreLinked}
use Rattle.py_heap.specs.Relinks.{AreMarked, CanPutFirst, PutsFirst, Unlinks}
use Rattle.py_heap.proofs.Lending as lending
use Rattle.py_heap.proofs.Lending.{count_fits, full_fits, lists_at}
use Rattle.py_heap.proofs.Fresh as fresh
use Rattle.py_heap.proofs.Freeing as freeing
use Rattle.py_heap.proofs.Giving.{given_linked}
use Rattle.py_heap.proofs.Returning as returning
use Rattle.py_heap.proofs.Lists.{refilled, refilled_linked, same_classes}

-- the spots behind the first one
pub first_split : (id : PoolId) (ss : List Spot) → Some id ≡ first_id ss → (rest : List Spot) × (ss ≡ spot id ∷ rest)
first_split id [] e = absurd (cc)
first_split id (z ∷ ss) e = let same : id ≡ record { arena = z.arena; pool = z.slot } = cc in (ss, λ i. record { arena = (sym same i).arena; slot = (sym same i).pool } ∷ ss)

-- ---- a block of the first pool is lent

module _ (p : Pools) (k : IsKeptState (state_of p)) (c : ℕ) (small : c < 32) (id : PoolId) (head : ClassPools) (read : head ≡ get_or p.classes.items c head) (is : head.first ≡ Some id) where
  split : (rest : List Spot) × (list_of (state_of p).classes c ≡ spot id ∷ rest)
  split =
      let view = lending.read_class p c head k small read in
      first_split id (list_of (state_of p).classes c) (sym is ∙ (ap (λ (v : ClassView). v.first) (sym view) ∙ (k.linked.headed c).first))

  pub can_lend_first : CanLend p.set id
  can_lend_first = lending.can_lend (state_of p) k c small id (split).0 (split).1

  module _ (set1 : SetView) (piece : PieceView) (full : Bool) (lends : Lends p.set set1 id piece full) (loans : Inserted (piece_extent piece) (loans_of p.set.arenas) (loans_of set1.arenas))
      (apart : AreApart (loans_of set1.arenas)) (regions : regions_of set1.arenas ≡ regions_of p.set.arenas) (same : (set1.usable ≡ p.set.usable) × (dry_of set1 ≡ dry_of p.set)) (sound : IsSet set1) where
    abbrev q : Pools
    q = record p { set = set1; pooled = p.pooled + 1 }

    linked1 : AreLinked set1.arenas (state_of p).classes
    linked1 = lending.lent_linked (state_of p) k c small id (split).0 (split).1 set1 piece full lends loans apart regions same sound

    classes1 : (state_of q).classes ≡ (state_of p).classes
    classes1 = same_classes p q refl sound linked1

    pub lent_marked : AreMarked set1 p.marks
    lent_marked = record { set = sound; same = λ f. k.marked f ∙ ap (tally f) (sym (lending.gave (state_of p) k c small id (split).0 (split).1 set1 piece full lends loans apart regions same sound).sites) }

    pub lent_still_linked : AreLinked set1.arenas (state_of q).classes
    lent_still_linked = subst (AreLinked set1.arenas) (sym classes1) linked1

    pub lent_listed : Has (spot id) (list_of (state_of q).classes c)
    lent_listed = subst (λ cs. Has (spot id) (list_of cs c)) (sym classes1) (subst (Has (spot id)) (sym (split).1) (inl refl))

    pub half_lent : full ≡ false → IsKeptState (state_of q) × Serves c NotAsked (Some piece) (heap_of (state_of p)) (heap_of (state_of q)) × (regions_of set1.arenas ≡ regions_of p.set.arenas)
    half_lent half =
        let e : state_of q ≡ record (state_of p) { set = set1; pooled = p.pooled + 1 } = λ i. record (state_of q) { classes = classes1 i } in
        subst (λ s. IsKeptState s × Serves c NotAsked (Some piece) (heap_of (state_of p)) (heap_of s) × (regions_of s.set.arenas ≡ regions_of p.set.arenas)) (sym e)
        (lending.one (state_of p) k c small id (split).0 (split).1 set1 piece full lends loans apart regions same sound half linked1)

    module _ (q2 : Pools) (u : Unlinks c id (state_of q) (state_of q2)) (h : ClassPools) (again : h ≡ get_or q2.classes.items c h) where
      changed : (state_of q2).classes ≡ set (state_of q).classes c u.v
      changed = u.classes

      long1 : c < length (state_of q).classes
      long1 = subst (λ cs. c < length cs) (sym classes1) (lists_at (state_of p) c k.kept small).0

      inside2 : c < length q2.classes.items
      inside2 =
          let a = ap length u.classes in let b = length-set (state_of q).classes c u.v in let d = length-map q2.classes.items (class_view q2.set.arenas) in let l = long1 in omega arith

      read2 : class_view q2.set.arenas h ≡ u.v
      read2 = ap (class_view q2.set.arenas) again ∙ (sym (get_or-map (class_view q2.set.arenas) q2.classes.items c h no_pools inside2) ∙ (ap (λ cs. get_or cs c no_pools) u.classes ∙ get_or-set_same (state_of q).classes c u.v no_pools long1))

      full_is : h.full ≡ (class_at (state_of p) c).full
      full_is = ap (λ (v : ClassView). v.full) read2 ∙ (u.full ∙ ap (λ cs. (get_or cs c no_pools).full) classes1)

      pub more_fits : h.full + 1 < 2 ^ 64
      more_fits = let f = full_fits (state_of p) c k in let e = full_is in omega arith

      module _ (s3 : State) (g : ClassPools) (g_is : g ≡ record h { full = h.full + 1 }) (told : s3.classes ≡ map (class_view q2.set.arenas) (set q2.classes.items c g)) (last : s3 ≡ record (state_of q2) { classes = s3.classes }) where
        now : s3 ≡ record (state_of q) { set = q2.set; classes = set (state_of q).classes c (record u.v { full = h.full + 1 }) }
        now = refilled (state_of q) (state_of q2) s3 c (h.full + 1) u.v q2.set.arenas q2.classes.items h long1 u.rest last u.classes refl (told ∙ ap (λ x. map (class_view q2.set.arenas) (set q2.classes.items c x)) g_is) inside2 again

        pub all_lent : full ≡ true → IsKeptState s3 × Serves c NotAsked (Some piece) (heap_of (state_of p)) (heap_of s3) × (regions_of s3.set.arenas ≡ regions_of p.set.arenas)
        all_lent all_full =
            let w : ClassView = record u.v { full = h.full + 1 } in
            let e : s3 ≡ record (state_of p) { set = q2.set; classes = set (state_of p).classes c w; pooled = p.pooled + 1 } = now ∙ (λ i. record (state_of q) { set = q2.set; classes = set (classes1 i) c w }) in
            let spots : w.spots ≡ (split).0 = u.spots [] (split).0 (ap (λ cs. list_of cs c) classes1 ∙ (split).1) in
            let linked : AreLinked q2.set.arenas (set (state_of p).classes c w) = subst (λ cs. AreLinked q2.set.arenas (set cs c w)) classes1 (refilled_linked q2.set.arenas (state_of q).classes c (h.full + 1) u.v long1 (subst (AreLinked q2.set.arenas) u.classes u.linked)) in
            subst (λ s. IsKeptState s × Serves c NotAsked (Some piece) (heap_of (state_of p)) (heap_of s) × (regions_of s.set.arenas ≡ regions_of p.set.arenas)) (sym e)
            (lending.last (state_of p) k c small id (split).0 (split).1 set1 piece full lends loans apart regions same sound q2.set u.only w spots (ap (λ n. n + 1) full_is) linked all_full)

-- ---- a block of a new pool is lent

module _ (p : Pools) (k : IsKeptState (state_of p)) (c : ℕ) (small : c < 32) (none : (class_at (state_of p) c).spots ≡ [])
    (set1 : SetView) (id : PoolId) (taken : TakesPool p.set set1 id) (gave : GavePool id.arena p.set set1) (regions1 : regions_of set1.arenas ≡ regions_of p.set.arenas)
    (loans1 : loans_of set1.arenas ≡ loans_of p.set.arenas) (pools1 : pools_of set1.arenas ≡ pools_of p.set.arenas) (sound1 : IsSet set1)
    (set2 : SetView) (starts : Starts set1 set2 id (started_of p.taken (new_plain id.arena c))) (regions2 : regions_of set2.arenas ≡ regions_of set1.arenas)
    (loans2 : loans_of set2.arenas ≡ loans_of set1.arenas) (same2 : (set2.usable ≡ set1.usable) × (dry_of set2 ≡ dry_of set1)) (sound2 : IsSet set2)
    (set3 : SetView) (piece : PieceView) (full : Bool) (lends : Lends set2 set3 id piece full) (loans3 : Inserted (piece_extent piece) (loans_of set2.arenas) (loans_of set3.arenas))
    (apart3 : AreApart (loans_of set3.arenas)) (regions3 : regions_of set3.arenas ≡ regions_of set2.arenas) (same3 : (set3.usable ≡ set2.usable) × (dry_of set3 ≡ dry_of set2)) (sound3 : IsSet set3) where
  abbrev n : Pools
  n = record p { set = set3; taken = p.taken + 1; pooled = p.pooled + 1 }

  linked_n : AreLinked set3.arenas (state_of p).classes
  linked_n = fresh.linked3 (state_of p) k c small none set1 id taken gave regions1 loans1 pools1 sound1 set2 starts regions2 loans2 same2 sound2 set3 piece full lends loans3 apart3 regions3 same3 sound3

  classes_n : (state_of n).classes ≡ (state_of p).classes
  classes_n = same_classes p n refl sound3 linked_n

  pub new_marked : AreMarked set3 p.marks
  new_marked = record { set = sound3; same = λ f. k.marked f ∙ ap (tally f) (sym (fresh.sites3 (state_of p) k c small none set1 id taken gave regions1 loans1 pools1 sound1 set2 starts regions2 loans2 same2 sound2 set3 piece full lends loans3 apart3 regions3 same3 sound3)) }

  pub new_linked : AreLinked set3.arenas (state_of n).classes
  new_linked = subst (AreLinked set3.arenas) (sym classes_n) linked_n

  pub new_can_put : CanPutFirst c id (state_of n)
  new_can_put = record {
    class = fresh.class_there (state_of p) k c small none set1 id taken gave regions1 loans1 pools1 sound1 set2 starts regions2 loans2 same2 sound2 set3 piece full lends loans3 apart3 regions3 same3 sound3;
    out = λ h. fresh.out2 (state_of p) k c small none set1 id taken gave regions1 loans1 pools1 sound1 set2 starts regions2 loans2 same2 sound2 c (subst (λ cs. Has (spot id) (list_of cs c)) classes_n h);
    room = subst (λ cs. (get_or cs c no_pools).count + 1 < 2 ^ 64) (sym classes_n) (count_fits (state_of p) c k small);
  }

  module _ (n2 : Pools) (u : PutsFirst c id (state_of n) (state_of n2)) where
    now_new : state_of n2 ≡ record (state_of p) { set = n2.set; classes = set (state_of p).classes c u.v; taken = p.taken + 1; pooled = p.pooled + 1 }
    now_new = u.rest ∙ (λ i. record (state_of n) { set = n2.set; classes = (u.classes ∙ ap (λ cs. set cs c u.v) classes_n) i })

    new_spots : u.v.spots ≡ spot id ∷ (class_at (state_of p) c).spots
    new_spots = u.spots ∙ ap (λ cs. spot id ∷ (get_or cs c no_pools).spots) classes_n

    new_full : u.v.full ≡ (class_at (state_of p) c).full
    new_full = u.full ∙ ap (λ cs. (get_or cs c no_pools).full) classes_n

    new_linked_now : AreLinked n2.set.arenas (set (state_of p).classes c u.v)
    new_linked_now = subst (AreLinked n2.set.arenas) (u.classes ∙ ap (λ cs. set cs c u.v) classes_n) u.linked

    pub new_lent : IsKeptState (state_of n2) × Serves c NotAsked (Some piece) (heap_of (state_of p)) (heap_of (state_of n2)) × (regions_of n2.set.arenas ≡ regions_of p.set.arenas)
    new_lent =
        subst (λ s. IsKeptState s × Serves c NotAsked (Some piece) (heap_of (state_of p)) (heap_of s) × (regions_of s.set.arenas ≡ regions_of p.set.arenas)) (sym now_new) (
          fresh.new_kept (state_of p) k c small none set1 id taken gave regions1 loans1 pools1 sound1 set2 starts regions2 loans2 same2 sound2 set3 piece full lends loans3 apart3 regions3 same3 sound3 n2.set u.only u.v new_spots new_full new_linked_now,
          fresh.new_serves (state_of p) k c small none set1 id taken gave regions1 loans1 pools1 sound1 set2 starts regions2 loans2 same2 sound2 set3 piece full lends loans3 apart3 regions3 same3 sound3 n2.set u.only u.v new_spots new_full new_linked_now,
          fresh.regions_are (state_of p) k c small none set1 id taken gave regions1 loans1 pools1 sound1 set2 starts regions2 loans2 same2 sound2 set3 piece full lends loans3 apart3 regions3 same3 sound3 n2.set u.only u.v new_spots new_full new_linked_now,
        )

-- ---- a block is freed

module _ (p : Pools) (k : IsKeptState (state_of p)) (piece : PieceView) (loan : Has (piece_extent piece) (loans_of p.set.arenas)) (id : PoolId) (can : CanMend p.set id piece)
    (set1 : SetView) (full empty : Bool) (mends : Mends p.set set1 id piece full empty) (loans : Removed (piece_extent piece) (loans_of p.set.arenas) (loans_of set1.arenas))
    (apart : AreApart (loans_of set1.arenas)) (regions : regions_of set1.arenas ≡ regions_of p.set.arenas) (same : (set1.usable ≡ p.set.usable) × (dry_of set1 ≡ dry_of p.set)) (sound : IsSet set1)
    (c : ℕ) (c_is : c ≡ mends.s.pool.class) where
  abbrev r : Pools
  r = record p { set = set1; pooled = p.pooled - 1 }

  linked_r : AreLinked set1.arenas (state_of p).classes
  linked_r = freeing.mended_linked (state_of p) k piece loan id can set1 full empty mends loans apart regions same sound

  classes_r : (state_of r).classes ≡ (state_of p).classes
  classes_r = same_classes p r refl sound linked_r

  pub mended_marked : AreMarked set1 p.marks
  mended_marked = record { set = sound; same = λ f. k.marked f ∙ ap (tally f) (sym (freeing.back (state_of p) k piece loan id can set1 full empty mends loans apart regions same sound).sites) }

  pub mended_still_linked : AreLinked set1.arenas (state_of r).classes
  mended_still_linked = subst (AreLinked set1.arenas) (sym classes_r) linked_r

  long_r : c < length (state_of p).classes
  long_r = subst (λ j. j < length (state_of p).classes) (sym c_is) (freeing.class_inside (state_of p) k piece loan id can set1 full empty mends loans apart regions same sound)

  pub mended_inside : c < length p.classes.items
  mended_inside = let d = length-map p.classes.items (class_view p.set.arenas) in let l = long_r in omega arith

  small : c < 32
  small = let e = k.kept.orderly.classes in let m = length-map (state_of p).classes spots_of in let l = long_r in omega arith

  pub can_put : full ≡ true → CanPutFirst c id (state_of r)
  can_put was_full = record {
    class = freeing.class_there (state_of p) k piece loan id can set1 full empty mends loans apart regions same sound ∙ ap Some (sym c_is);
    out = λ h. freeing.not_listed (state_of p) k piece loan id can set1 full empty mends loans apart regions same sound was_full c (subst (λ cs. Has (spot id) (list_of cs c)) classes_r h);
    room = subst (λ cs. (get_or cs c no_pools).count + 1 < 2 ^ 64) (sym classes_r) (count_fits (state_of p) c k small);
  }

  pub mended_listed : empty ≡ true → Has (spot id) (list_of (state_of r).classes c)
  mended_listed last = subst (λ cs. Has (spot id) (list_of cs c)) (sym classes_r) (subst (λ j. Has (spot id) (list_of (state_of p).classes j)) (sym c_is) (returning.listed (state_of p) k piece id can set1 full empty mends loans apart regions same sound last))

  pub half_freed : full ≡ false → empty ≡ false → IsKeptState (state_of r) × TakesBack piece None (heap_of (state_of p)) (heap_of (state_of r))
  half_freed half more =
      let e : state_of r ≡ record (state_of p) { set = set1; pooled = p.pooled - 1 } = λ i. record (state_of r) { classes = classes_r i } in
      subst (λ s. IsKeptState s × TakesBack piece None (heap_of (state_of p)) (heap_of s)) (sym e) (freeing.lessened (state_of p) k piece loan id can set1 full empty mends loans apart regions same sound linked_r half more)

  long_q : c < length (state_of r).classes
  long_q = subst (λ cs. c < length cs) (sym classes_r) long_r

  -- it was full
  module _ (r2 : Pools) (u : PutsFirst c id (state_of r) (state_of r2)) where
    pub put_inside : c < length r2.classes.items
    put_inside =
        let a = ap length u.classes in let b = length-set (state_of r).classes c u.v in let d = length-map r2.classes.items (class_view r2.set.arenas) in let l = long_q in omega arith

    module _ (h : ClassPools) (again : h ≡ get_or r2.classes.items c h) where
      read_put : class_view r2.set.arenas h ≡ u.v
      read_put = ap (class_view r2.set.arenas) again ∙ (sym (get_or-map (class_view r2.set.arenas) r2.classes.items c h no_pools put_inside) ∙ (ap (λ cs. get_or cs c no_pools) u.classes ∙ get_or-set_same (state_of r).classes c u.v no_pools long_q))

      full_put : h.full ≡ (class_at (state_of p) c).full
      full_put = ap (λ (v : ClassView). v.full) read_put ∙ (u.full ∙ ap (λ cs. (get_or cs c no_pools).full) classes_r)

      pub some_full : full ≡ true → 1 ≤ h.full
      some_full was_full =
          let f = freeing.full_counted (state_of p) k piece loan id can set1 full empty mends loans apart regions same sound was_full in
          subst (λ n. 1 ≤ n) (sym full_put) (subst (λ j. 1 ≤ (class_at (state_of p) j).full) (sym c_is) f)

      module _ (s3 : State) (g : ClassPools) (g_is : g ≡ record h { full = h.full - 1 }) (told : s3.classes ≡ map (class_view r2.set.arenas) (set r2.classes.items c g)) (last : s3 ≡ record (state_of r2) { classes = s3.classes }) where
        now_put : s3 ≡ record (state_of r) { set = r2.set; classes = set (state_of r).classes c (record u.v { full = h.full - 1 }) }
        now_put = refilled (state_of r) (state_of r2) s3 c (h.full - 1) u.v r2.set.arenas r2.classes.items h long_q u.rest last u.classes refl (told ∙ ap (λ x. map (class_view r2.set.arenas) (set r2.classes.items c x)) g_is) put_inside again

        pub all_freed : full ≡ true → IsKeptState s3 × TakesBack piece None (heap_of (state_of p)) (heap_of s3)
        all_freed was_full =
            let w : ClassView = record u.v { full = h.full - 1 } in
            let d : ℕ = mends.s.pool.class in
            let e : s3 ≡ record (state_of p) { set = r2.set; classes = set (state_of p).classes d w; pooled = p.pooled - 1 } = now_put ∙ (λ i. record (state_of r) { set = r2.set; classes = set (classes_r i) (c_is i) w }) in
            let spots : w.spots ≡ spot id ∷ (class_at (state_of p) d).spots = u.spots ∙ (λ i. spot id ∷ (get_or (classes_r i) (c_is i) no_pools).spots) in
            let some = some_full was_full in
            let fulls : w.full + 1 ≡ (class_at (state_of p) d).full = (let f : h.full - 1 + 1 ≡ h.full = omega arith in f) ∙ (full_put ∙ ap (λ j. (class_at (state_of p) j).full) c_is) in
            let linked : AreLinked r2.set.arenas (set (state_of p).classes d w) = subst (λ j. AreLinked r2.set.arenas (set (state_of p).classes j w)) c_is (subst (λ cs. AreLinked r2.set.arenas (set cs c w)) classes_r (refilled_linked r2.set.arenas (state_of r).classes c (h.full - 1) u.v long_q (subst (AreLinked r2.set.arenas) u.classes u.linked))) in
            subst (λ s. IsKeptState s × TakesBack piece None (heap_of (state_of p)) (heap_of s)) (sym e)
            (freeing.reopened (state_of p) k piece loan id can set1 full empty mends loans apart regions same sound r2.set u.only w spots fulls linked was_full)

  -- it is empty then
  module _ (r2 : Pools) (u : Unlinks c id (state_of r) (state_of r2)) (last : empty ≡ true) where
    abbrev d : ℕ
    d = mends.s.pool.class

    left_state : state_of r2 ≡ record (state_of p) { set = r2.set; classes = set (state_of p).classes d u.v; pooled = p.pooled - 1 }
    left_state = u.rest ∙ (λ i. record (state_of r) { set = r2.set; classes = (u.classes ∙ (λ j. set (classes_r j) (c_is j) u.v)) i })

    left_spots : (before after : List Spot) → list_of (state_of p).classes d ≡ before ++ spot id ∷ after → u.v.spots ≡ before ++ after
    left_spots before after e = u.spots before after ((λ i. list_of (classes_r i) (c_is i)) ∙ e)

    left_full : u.v.full ≡ (class_at (state_of p) d).full
    left_full = u.full ∙ (λ i. (get_or (classes_r i) (c_is i) no_pools).full)

    left_linked_now : AreLinked r2.set.arenas (set (state_of p).classes d u.v)
    left_linked_now = subst (AreLinked r2.set.arenas) (u.classes ∙ (λ j. set (classes_r j) (c_is j) u.v)) u.linked

    pub comes : CanComeBack id (state_of r2)
    comes = subst (CanComeBack id) (sym left_state) (returning.can_come (state_of p) k piece id can set1 full empty mends loans apart regions same sound last r2.set u.only u.v left_spots left_full left_linked_now)

    pub back_few : p.back ≡ r2.back
    back_few = ap (λ (s : State). s.back) (sym left_state)

    module _ (new : State) (region : Option RegionView) (b : ComesBack id region (state_of r2) new) where
      came : ComesBack id region (record (state_of p) { set = r2.set; classes = set (state_of p).classes d u.v; pooled = p.pooled - 1 }) new
      came = subst (λ s. ComesBack id region s new) left_state b

      pub gone_kept : IsKeptState new
      gone_kept = returning.returned_kept (state_of p) k piece id can set1 full empty mends loans apart regions same sound last r2.set u.only u.v left_spots left_full left_linked_now new region came

      pub gone_back : TakesBack piece region (heap_of (state_of p)) (heap_of new)
      gone_back =
          returning.returned_back (state_of p) k piece id can set1 full empty mends loans apart regions same sound last r2.set u.only u.v left_spots left_full left_linked_now new region came
          (freeing.piece_inside (state_of p) k piece loan id can set1 full empty mends loans apart regions same sound)

-- ---- a pool goes back to its arena

pub comes_back : (p q : Pools) (id : PoolId) (back : Option RegionView) → CanComeBack id (state_of p) → GivesPool p.set q.set id back → PoolBack id.arena back p.set q.set → loans_of q.set.arenas ≡ loans_of p.set.arenas → IsSet q.set
    → q.classes.items ≡ p.classes.items → SitesAfter back p.marks q.marks → q.back ≡ p.back + went back → (q.taken ≡ p.taken) × (q.given ≡ p.given) × (q.most ≡ p.most) × (q.pooled ≡ p.pooled) → ComesBack id back (state_of p) (state_of q)
comes_back p q id back come gives rule loans sound items sites back_is rest =
    let linked = given_linked p.set q.set id back come.give gives (state_of p).classes come.linked come.out in
    let same = same_classes p q items sound linked in
    record {
      gives = gives;
      rule = rule;
      loans = loans;
      set = sound;
      classes = same;
      linked = subst (AreLinked q.set.arenas) (sym same) linked;
      sites = sites;
      back_is = back_is;
      taken = rest.0;
      given = rest.1;
      most = rest.2;
      pooled = rest.3;
    }
