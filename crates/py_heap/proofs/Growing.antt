-- Room is made, and an arena comes.
use Rattle.std.proofs.Common.{◌≡◌, ℕ, zero, suc, ◌+◌, ◌-◌, ◌<◌, ◌≤◌, ◌^◌, max, ◌&&◌, true, inl, inr, List, [], ◌∷◌, ◌++◌, map, length, get_or, Some, None, refl, sym, ap, subst, ◌∙◌, arith, ◌⊎◌, replicate, Option}
use Rattle.std.proofs.lemmas.List.{get_or_append_left, get_or-map, length-map, length-append}
use Rattle.mem_base.specs.declared.history.Grant.TheVariants.{NotAsked, Granted}
use Rattle.raw_region.specs.Region.{RegionView, PieceView}
use Rattle.extents.specs.Sums.{tally, Has, Inserted}
use Rattle.extents.specs.Extent.{region_extent, piece_extent, AreApart}
use Rattle.extents.proofs.CallerLemmas.{tally-append, tally_inserted, length_inserted}
use Rattle.layout_model.specs.Layout.{Layout}
use Rattle.layout_model.specs.Place.{Placed, place, place_by, pools_of_class, granted, new_arena}
use Rattle.layout_model.specs.Asks.{is_empty, class_asks}
use Rattle.layout_model.specs.Sound.{IsSound}
use Rattle.layout_model.proofs.CallerLemmas.{granted_keeps, some_pools}
use Rattle.heap_model.specs.View.{layout_of, places_of, place_in, used_at, used_of, full_of}
use Rattle.heap_model.specs.Kept.{IsKept, AreOrderly}
use Rattle.std.specs.List.{range_with_len}
use Rattle.arena_set.specs.Flat.{AllSome}
use Rattle.layout_model.specs.Sound.{is_arena}
use Rattle.arena_set.specs.Set.{SetView, line_of, nth_arena, pools_of, regions_of, loans_of, dry_entry, usable_times, IsSet, AreNamed, region_in}
use Rattle.arena_set.proofs.CallerLemmas.{inside}
use Rattle.heap_model.specs.Tables.{Spot}
use Rattle.layout_model.specs.Geometry.{total_at, Site}
use Rattle.arena_set.specs.Arena.{ArenaView, IsArena, new_arena as first_arena}
use Rattle.arena_set.specs.Rule.{CameAlone}
use Rattle.py_heap.specs.Heap.{BeginsIfThere, Serves}
use Rattle.py_heap.specs.Kept.{State, no_pools, spots_of, lines_of, sites_of, tables_of, heap_of, class_at, full_in, IsKeptState}
use Rattle.py_heap.specs.Links.{pool_at, pool_in, place_in as place_in_arena, class_of, next_of, prev_of, list_of, AreLinked}
use Rattle.py_heap.proofs.Linked.{pool_there}
use Rattle.py_heap.proofs.Relisted.{still_linked}
use Rattle.py_heap.specs.Steps.{OnlyRoom, Comes}
use Rattle.py_heap.proofs.Arenas.{sites_more}
use Rattle.py_heap.proofs.Lending.{lists_at}

-- ---- room

set_kept : (old new : SetView) → new.usable ≡ old.usable → new.arenas ≡ old.arenas → IsSet old → IsSet new
set_kept old new usable arenas s = record {
  lines = λ u h. s.lines u (subst (Has u) usable h) ∙ ap (λ es. line_of u.arena (nth_arena es u.arena)) (sym arenas);
  listed = λ n. ap (tally (is_arena n)) usable ∙ (s.listed n ∙ ap (λ es. usable_times (nth_arena es n)) (sym arenas));
  arenas = subst (AllSome IsArena) (sym arenas) s.arenas;
  apart = subst (λ es. AreApart (regions_of es)) (sym arenas) s.apart;
  named = subst AreNamed (sym arenas) s.named;
}

module _ (old new : State) (r : OnlyRoom old new) where
  same_tables : tables_of new ≡ tables_of old
  same_tables i = record {
    usable = r.usable i;
    dry = None ∷ map dry_entry (r.arenas i);
    started = lines_of (r.arenas i);
    lists = map spots_of (r.classes i);
    taken = r.taken i;
    given = r.given i;
    back = r.back i;
    most = r.most i;
  }

  pub room_heap : heap_of new ≡ heap_of old
  room_heap i = record { layout = layout_of (same_tables i); places = places_of (same_tables i); loans = loans_of (r.arenas i); arenas = map region_in (r.arenas i) }

  pub room_kept : IsKeptState old → IsKeptState new
  room_kept k = record {
    kept = subst IsKept (sym same_tables) k.kept;
    sound_set = set_kept old.set new.set r.usable r.arenas k.sound_set;
    apart = subst (λ es. AreApart (loans_of es)) (sym r.arenas) k.apart;
    numbered = r.given ∙ k.numbered ∙ ap length (sym r.arenas);
    few = let e = r.given in let f = k.few in omega arith;
    out = let g = r.given in let b = r.back in let o = k.out in let e = ap (λ es. length (regions_of es)) r.arenas in omega arith;
    lent = r.pooled ∙ k.lent ∙ ap (λ es. length (loans_of es)) (sym r.arenas);
    marked = λ f. ap (tally f) r.marks ∙ k.marked f ∙ ap (λ es. tally f (sites_of es)) (sym r.arenas);
    full = λ c. ap (λ cs. (get_or cs c no_pools).full) r.classes ∙ k.full c ∙ ap (λ es. tally (full_in c) (lines_of es)) (sym r.arenas);
    linked = subst (AreLinked new.set.arenas) (sym r.classes) (subst (λ es. AreLinked es old.classes) (sym r.arenas) k.linked);
  }

  -- a class without pools that have a free block stays so
  pub room_none : (c : ℕ) → (class_at old c).spots ≡ [] → (class_at new c).spots ≡ []
  room_none c none = ap (λ cs. (get_or cs c no_pools).spots) r.classes ∙ none

-- ---- an arena

none_there : {X : Type 0} (x : X) (n k : ℕ) → get_or (replicate n x) k x ≡ x
none_there x zero k = refl
none_there x (suc n) zero = refl
none_there x (suc n) (suc k) = none_there x n k

module _ (old : State) (k : IsKeptState old) (r : RegionView) (set1 : SetView) (m : List Site) (none : old.set.usable ≡ []) (few : old.given + 1 < 2 ^ 32) (n base top total : ℕ) (number : n ≡ length old.set.arenas + 1)
    (base_is : base ≡ r.base) (top_is : top ≡ max old.most (old.given + 1 - old.back)) (total_is : total ≡ total_at base) (rule : CameAlone n (total_at r.base) old.set set1) (arenas : set1.arenas ≡ old.set.arenas ++ Some (first_arena r) ∷ [])
    (regions : Inserted (region_extent r) (regions_of old.set.arenas) (regions_of set1.arenas)) (loans : loans_of set1.arenas ≡ loans_of old.set.arenas) (pools : pools_of set1.arenas ≡ pools_of old.set.arenas) (sound : IsSet set1)
    (marks : Inserted (record { arena = old.given + 1; base = base }) old.marks m) where
  abbrev mid : State
  mid = record old { set = set1; marks = m; given = old.given + 1; most = top }

  number_is : n ≡ old.given + 1
  number_is = number ∙ ap (λ n. n + 1) (sym k.numbered)

  lines_are : lines_of set1.arenas ≡ lines_of old.set.arenas
  lines_are = pools

  none_usable : old.set.usable ≡ []
  none_usable = none

  layout_is : layout_of (tables_of mid) ≡ granted (layout_of (tables_of old)) (total_at r.base)
  layout_is i = record {
    usable = (rule.usable ∙ ap (λ n. record { arena = n; total = total_at r.base; free = total_at r.base } ∷ []) number_is) i;
    dry = rule.dry i;
    used = used_of (lines_are i) (map spots_of old.classes);
    full = full_of old.taken (lines_are i);
    given = old.given + 1;
    back = old.back;
    most = top_is i;
  }

  -- the new arena has no pool yet
  more_arenas : (xs : List (Option ArenaView)) (n : ℕ) (z : Spot) (d : ℕ) → get_or (xs ++ Some (first_arena r) ∷ []) n None ≡ get_or xs n None ⊎ (class_of (pool_in (get_or (xs ++ Some (first_arena r) ∷ []) n None) z.slot) ≡ None)
  more_arenas [] zero z d = inr (ap class_of (none_there None (total_at r.base) z.slot))
  more_arenas [] (suc n) z d = inl refl
  more_arenas (x ∷ xs) zero z d = inl refl
  more_arenas (x ∷ xs) (suc n) z d = more_arenas xs n z d

  arena_of : (z : Spot) (d : ℕ) → (nth_arena set1.arenas z.arena ≡ nth_arena old.set.arenas z.arena) ⊎ (class_of (pool_at set1.arenas z) ≡ None)
  arena_of z d = elim (more_arenas (None ∷ old.set.arenas) z.arena z d) [
    | inl e ↦ inl (ap (λ es. nth_arena es z.arena) arenas ∙ e)
    | inr e ↦ inr (ap (λ es. class_of (pool_at es z)) arenas ∙ e)
  ]

  pub mid_linked : AreLinked set1.arenas old.classes
  mid_linked = still_linked old.set.arenas set1.arenas old.classes k.linked
      (λ d z h. ap (λ o. class_of (pool_in o z.slot)) (there d z h) ∙ k.linked.listed d z h)
      (λ d z h. ap (λ o. place_in_arena o z.slot) (there d z h))
      (λ d z e. elim (arena_of z d) [
        | inl w ↦ inl (sym (ap (λ o. class_of (pool_in o z.slot)) w) ∙ e, ap (λ o. next_of (pool_in o z.slot)) w, ap (λ o. prev_of (pool_in o z.slot)) w, ap (λ o. place_in_arena o z.slot) w)
        | inr w ↦ absurd (cc)
      ]) where
        there : (d : ℕ) (z : Spot) → Has z (list_of old.classes d) → nth_arena set1.arenas z.arena ≡ nth_arena old.set.arenas z.arena
        there d z h =
            let p = pool_there old.set z d (k.linked.listed d z h) in
            let at = p.started.at in let some = at.some in let lt = inside old.set.arenas (z.arena - 1) p.a at.there in
            let e : z.arena ≡ suc (z.arena - 1) = omega arith in
            ap (λ es. nth_arena es z.arena) arenas ∙ (ap (λ n. get_or (None ∷ (old.set.arenas ++ Some (first_arena r) ∷ [])) n None) e ∙ (get_or_append_left old.set.arenas (Some (first_arena r) ∷ []) None (z.arena - 1) lt
            ∙ ap (λ n. get_or (None ∷ old.set.arenas) n None) (sym e)))

  pub mid_kept : IsKeptState mid
  mid_kept = record {
    kept = record {
      orderly = subst (λ l. AreOrderly l (map spots_of old.classes) old.taken) (sym lines_are) k.kept.orderly;
      sound = subst IsSound (sym layout_is) (granted_keeps (layout_of (tables_of old)) (total_at r.base) (some_pools r.base).0 (some_pools r.base).1 k.kept.sound none_usable);
    };
    sound_set = sound;
    apart = subst AreApart (sym loans) k.apart;
    numbered = let l = ap length arenas in let a = length-append old.set.arenas (Some (first_arena r) ∷ []) in let n = k.numbered in omega arith;
    few = few;
    out = let i = length_inserted (region_extent r) (regions_of old.set.arenas) (regions_of set1.arenas) regions in let o = k.out in omega arith;
    lent = k.lent ∙ ap length (sym loans);
    marked = λ f.
        let site : Site = record { arena = length old.set.arenas + 1; base = r.base } in
        let next : old.given + 1 ≡ length old.set.arenas + 1 = ap (λ n. n + 1) k.numbered in
        let same : record { arena = old.given + 1; base = base } ≡ site = λ i. record { arena = next i; base = base_is i } in
        let a = tally_inserted f (record { arena = old.given + 1; base = base }) old.marks m marks in let b = ap f same in let o = k.marked f in
        let e = ap (λ es. tally f (sites_of es)) arenas in let g = ap (tally f) (sites_more old.set.arenas (first_arena r)) in let h = tally-append f (sites_of old.set.arenas) (site ∷ []) in omega arith;
    full = λ c. k.full c ∙ ap (tally (full_in c)) (sym lines_are);
    linked = mid_linked;
  }

  pub mid_comes : Comes total r old mid
  mid_comes = subst (λ t. Comes t r old mid) (sym (total_is ∙ ap total_at base_is)) (record {
    layout = layout_is;
    places = ap (λ l. map (place_in l) (range_with_len 0 old.taken)) lines_are;
    loans = loans;
    regions = regions;
    classes = refl;
    taken = refl;
  })

  pub mid_total : total ≡ total_at r.base
  mid_total = total_is ∙ ap total_at base_is

-- ---- and gives the block

module _ (l : Layout) (c total : ℕ) (pools : pools_of_class l c ≡ []) (usable : l.usable ≡ []) where
  same_place : place (granted l total) c NotAsked ≡ place l c (Granted total)
  same_place =
      ap (λ ps. place_by (granted l total) c NotAsked ps (new_arena l total ∷ [])) pools ∙ sym (ap (λ ps. place_by l c (Granted total) ps l.usable) pools ∙ ap (place_by l c (Granted total) []) usable)

  asks : class_asks l c ≡ true
  asks = ap (λ ps. is_empty ps && is_empty l.usable) pools ∙ ap (λ us. true && is_empty us) usable

pub no_pools_listed : (s : State) (c : ℕ) → IsKept (tables_of s) → c < 32 → (class_at s c).spots ≡ [] → pools_of_class (layout_of (tables_of s)) c ≡ []
no_pools_listed s c kept small none =
    let at = lists_at s c kept small in let long = length-map s.classes spots_of in
    get_or-map (map (used_at (lines_of s.set.arenas))) (map spots_of s.classes) c [] [] (omega arith) ∙ ap (map (used_at (lines_of s.set.arenas))) (at.1 ∙ none)

pub granted_serves : (old came new : State) (c : ℕ) (total : ℕ) (r : RegionView) (piece : PieceView) → c < 32 → IsKeptState old → (class_at old c).spots ≡ [] → old.set.usable ≡ [] → total ≡ total_at r.base →
    Comes total r old came → Serves c NotAsked (Some piece) (heap_of came) (heap_of new) → Serves c (Granted total) (Some piece) (heap_of old) (heap_of new)
granted_serves old came new c total r piece small k none dry is m s =
    let l = layout_of (tables_of old) in
    let pools : pools_of_class l c ≡ [] = no_pools_listed old c k.kept small none in
    let usable : l.usable ≡ [] = dry in
    let placed : place (layout_of (tables_of came)) c NotAsked ≡ place l c (Granted total) = ap (λ z. place z c NotAsked) m.layout ∙ same_place l c total pools usable in
    let b = s.got.1 in
    record {
      fits = record { asked = sym (asks l c total pools usable); pools = subst (λ n. (63 ≤ n) × (n ≤ 64)) (sym is) (some_pools r.base) };
      layout = s.layout ∙ ap (λ (p : Placed). p.layout) placed;
      got = (
        (λ e. cc),
        record {
          pool = b.pool;
          begins = b.begins;
          region = b.region;
          placed = sym (ap (λ (p : Placed). p.pool) placed) ∙ b.placed;
          is = b.is;
          was = subst (BeginsIfThere b.pool b.begins) m.places b.was;
          others = λ j n. b.others j n ∙ ap (λ ps. get_or ps j None) m.places;
          held = b.held;
          ground = b.ground;
          inside = b.inside;
          maker = b.maker;
          len = b.len;
          aligned = b.aligned;
          lent = subst (λ es. Inserted (piece_extent piece) es (loans_of new.set.arenas)) m.loans b.lent;
        },
      );
    }
