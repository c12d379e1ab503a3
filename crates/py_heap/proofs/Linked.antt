-- Pools by their spots, and lists of them that their links tell.
use Rattle.std.proofs.Common.{◌≡◌, ◌≢◌, ℕ, zero, suc, ◌+◌, ◌-◌, ◌<◌, ◌≤◌, inl, inr, List, [], ◌∷◌, ◌++◌, map, length, get_or, Option, IfSome, IsSome, Some, None, refl, sym, ap, subst, ◌∙◌, arith}
use Rattle.std.proofs.lemmas.Bool.Decides.{eqb_tells}
use Rattle.std.proofs.lemmas.List.{append_assoc, get_or-map, length-map, map-append}
use lib.Seq.{ext_get_or}
use Rattle.extents.specs.Sums.{tally, Has}
use Rattle.extents.specs.Extent.{covers, region_extent}
use Rattle.extents.proofs.CallerLemmas.{covers_in, has_right, tally_has}
use Rattle.links.specs.Nodes.{times}
use Rattle.links.proofs.CallerLemmas.{times-append}
use Rattle.layout_model.specs.Geometry.{Site, in_arena, place_at, slot_at}
use Rattle.layout_model.proofs.CallerLemmas.{address_tells_slot, in_arena_is, pools_are_in_arenas}
use Rattle.heap_model.specs.Tables.{Spot}
use Rattle.arena_set.specs.declared.pool_id.PoolId.{PoolId}
use Rattle.arena_set.specs.Started.{Started}
use Rattle.arena_set.specs.Arena.{ArenaView}
use Rattle.arena_set.specs.Set.{nth_arena, SetView, regions_of, IsSet}
use Rattle.arena_set.specs.Calls.{IsAt, IsStarted, HasStarted}
use Rattle.py_heap.specs.declared.classes.ClassPools.{ClassPools}
use Rattle.py_heap.specs.Heap.{first_in, next_in}
use Rattle.py_heap.specs.Links.{ClassView, no_pools, spot, sites_of, pool_in, place_in, pool_at, place_of, class_of, next_of, spot_by, spots_from, spots_by, class_view, first_id, list_of, addresses_of, AreLinked}
use Rattle.py_heap.specs.Relinks.{BeginsAt, IsLink, IsPoolOf, LeadsTo}
use Rattle.py_heap.proofs.Arenas.{arena_at, region_there, site_there, sites_cover}
use Rattle.py_heap.proofs.Ground.{below_total, pool_once}
use Rattle.py_heap.proofs.Neighbours.{next_between, times_here}

-- ---- pools by their spots

pub numbered_is : (v : SetView) (n : ℕ) (a : ArenaView) → IsAt v n a → nth_arena v.arenas n ≡ Some a
numbered_is v n a at = let some = at.some in let e : n ≡ suc (n - 1) = omega arith in ap (nth_arena v.arenas) e ∙ at.there

pub at_number : (v : SetView) (n : ℕ) (a : ArenaView) → nth_arena v.arenas n ≡ Some a → IsAt v n a
at_number v zero a e = absurd (cc)
at_number v (suc n) a e = record { some = omega arith; there = let m : n ≡ suc n - 1 = omega arith in subst (λ j. get_or v.arenas j None ≡ Some a) m e }

module _ (v : SetView) (id : PoolId) (a : ArenaView) (x : Started) (st : IsStarted v id a x) where
  pub pool_is : pool_at v.arenas (spot id) ≡ Some x
  pool_is = ap (λ o. pool_in o id.pool) (numbered_is v id.arena a st.at) ∙ st.there

  pub place_is : place_of v.arenas (spot id) ≡ place_at a.region.base id.pool
  place_is = ap (λ o. place_in o id.pool) (numbered_is v id.arena a st.at)

  pub class_is : class_of (pool_at v.arenas (spot id)) ≡ Some x.pool.class
  class_is = ap class_of pool_is

-- the pool at a spot
abbrev pub id_at : Spot → PoolId
id_at s = record { arena = s.arena; pool = s.slot }

-- a pool of class c at a spot
pub record PoolAt (v : SetView) (s : Spot) (c : ℕ) : Type 0 where
  pub a : ArenaView
  pub x : Started
  pub started : IsStarted v (id_at s) a x
  pub class : x.pool.class ≡ c
  pub is : pool_at v.arenas s ≡ Some x

pub pool_there : (v : SetView) (s : Spot) (c : ℕ) → class_of (pool_at v.arenas s) ≡ Some c → PoolAt v s c
pool_there v s c e = by (nth_arena v.arenas s.arena) refl where
  by_pool : (a : ArenaView) → nth_arena v.arenas s.arena ≡ Some a → (o : Option Started) → get_or a.pools s.slot None ≡ o → PoolAt v s c
  by_pool a n None p = let w : class_of (pool_at v.arenas s) ≡ None = ap (λ o. class_of (pool_in o s.slot)) n ∙ ap class_of p in absurd (cc)
  by_pool a n (Some x) p =
      let is : pool_at v.arenas s ≡ Some x = ap (λ o. pool_in o s.slot) n ∙ p in
      let w : class_of (pool_at v.arenas s) ≡ Some x.pool.class = ap class_of is in
      record { a = a; x = x; started = record { at = at_number v s.arena a n; there = p }; class = cc; is = is }

  by : (o : Option ArenaView) → nth_arena v.arenas s.arena ≡ o → PoolAt v s c
  by None n = let w : class_of (pool_at v.arenas s) ≡ None = ap (λ o. class_of (pool_in o s.slot)) n in absurd (cc)
  by (Some a) n = by_pool a n (get_or a.pools s.slot None) refl

module _ (v : SetView) (s : Spot) (c : ℕ) (sound : IsSet v) (e : class_of (pool_at v.arenas s) ≡ Some c) where
  abbrev the_pool : PoolAt v s c
  the_pool = pool_there v s c e

  pub has_started : HasStarted v (id_at s)
  has_started = record { a = (the_pool).a; s = (the_pool).x; started = (the_pool).started }

  pub begins_at : BeginsAt v (id_at s) (place_of v.arenas s)
  begins_at = record { started = has_started; place = refl }

  spot_place : place_of v.arenas s ≡ place_at (the_pool).a.region.base s.slot
  spot_place = place_is v (id_at s) (the_pool).a (the_pool).x (the_pool).started

  pub has_place : IsPoolOf v (id_at s) (place_of v.arenas s)
  has_place = let p = spot_place in record { a = (the_pool).a; s = (the_pool).x; started = (the_pool).started; has = (omega arith, omega arith) }

  -- no pool begins at 0
  pub place_some : 1 ≤ place_of v.arenas s
  place_some = let p = spot_place in let some = (arena_at v s.arena (the_pool).a sound (the_pool).started.at).region.somewhere in omega arith

-- pools with one place are one
pub spot_once : (v : SetView) (s t : Spot) (c d : ℕ) → IsSet v → class_of (pool_at v.arenas s) ≡ Some c → class_of (pool_at v.arenas t) ≡ Some d → place_of v.arenas s ≡ place_of v.arenas t → s ≡ t
spot_once v s t c d sound e f same =
    let ids : id_at s ≡ id_at t = pool_once v (id_at s) (id_at t) (place_of v.arenas s) sound (has_place v s c sound e) (subst (IsPoolOf v (id_at t)) (sym same) (has_place v t d sound f)) in
    λ i. record { arena = (ids i).arena; slot = (ids i).pool }

-- ---- from an address to a spot

pick_site : (p : ℕ) (sites : List Site) (a : Site) → Has a sites → in_arena p a ≡ 1 → tally (in_arena p) sites ≤ 1 → spot_by sites p ≡ record { arena = a.arena; slot = slot_at a.base p }
pick_site p [] a h one most = absurd h
pick_site p (b ∷ sites) a (inl e) one most = let is : in_arena p b ≡ 1 = ap (in_arena p) e ∙ one in elim (eqb_tells (in_arena p b) 1) [
  | inl w ↦ rw w.0 (λ i. record { arena = (e i).arena; slot = slot_at (e i).base p })
  | inr w ↦ absurd (w.1 is)
]
pick_site p (b ∷ sites) a (inr h) one most = elim (eqb_tells (in_arena p b) 1) [
  | inl w ↦ let le = tally_has (in_arena p) a sites h in let is = w.1 in absurd (omega arith)
  | inr w ↦ rw w.0 (pick_site p sites a h one (omega arith))
]

pub spot_back : (v : SetView) (s : Spot) (c : ℕ) → IsSet v → class_of (pool_at v.arenas s) ≡ Some c → spot_by (sites_of v.arenas) (place_of v.arenas s) ≡ s
spot_back v s c sound e =
    let t = pool_there v s c e in
    let place = place_is v (id_at s) t.a t.x t.started in
    let w = pools_are_in_arenas t.a.region.base s.slot (below_total v (id_at s) t.a t.x sound t.started) in
    let m : Site = record { arena = s.arena; base = t.a.region.base } in
    let has = in_arena_is (place_of v.arenas s) m (omega arith, omega arith) in
    let most = sites_cover v (place_of v.arenas s) sound in let once = sound.apart (place_of v.arenas s) in
    let slot : slot_at t.a.region.base (place_of v.arenas s) ≡ s.slot = address_tells_slot t.a.region.base s.slot (place_of v.arenas s) (omega arith, omega arith) in
    pick_site (place_of v.arenas s) (sites_of v.arenas) m (site_there v s.arena t.a t.started.at) has (omega arith) ∙ (λ i. record { arena = s.arena; slot = slot i })

-- ---- the links tell the list

pub times_in : (arenas : List (Option ArenaView)) (s : Spot) (front rest : List Spot) (p : ℕ) → times p (addresses_of arenas (front ++ s ∷ rest)) ≡ times p (addresses_of arenas front) + times p (place_of arenas s ∷ addresses_of arenas rest)
times_in arenas s front rest p = ap (times p) (map-append (place_of arenas) front (s ∷ rest)) ∙ times-append p (addresses_of arenas front) (addresses_of arenas (s ∷ rest))

module _ (v : SetView) (classes : List ClassView) (sound : IsSet v) (l : AreLinked v.arenas classes) (c : ℕ) where
  -- the word of a pool of the list
  pub next_word : (front rest : List Spot) (s : Spot) → list_of classes c ≡ front ++ s ∷ rest → next_of (pool_at v.arenas s) ≡ first_in (addresses_of v.arenas rest)
  next_word front rest s is =
      let class = l.listed c s (subst (Has s) (sym is) (has_right s front (s ∷ rest) (inl refl))) in
      let once = l.once c (place_of v.arenas s) in
      let sum = ap (λ ss. times (place_of v.arenas s) (addresses_of v.arenas ss)) is ∙ times_in v.arenas s front rest (place_of v.arenas s) in
      let here : times (place_of v.arenas s) (place_of v.arenas s ∷ addresses_of v.arenas rest) ≡ times (place_of v.arenas s) (addresses_of v.arenas rest) + 1 = times_here (place_of v.arenas s) (addresses_of v.arenas rest) in
      (l.links c s class).0 ∙ (ap (λ ss. next_in (place_of v.arenas s) (addresses_of v.arenas ss)) is ∙ (ap (next_in (place_of v.arenas s)) (map-append (place_of v.arenas) front (s ∷ rest))
      ∙ next_between (place_of v.arenas s) (addresses_of v.arenas front) (addresses_of v.arenas rest) (omega arith)))

  walk : (front rest : List Spot) (s : Spot) → list_of classes c ≡ front ++ s ∷ rest → spots_from v.arenas (length (s ∷ rest)) s ≡ s ∷ rest
  walk front [] s is = refl
  walk front (t ∷ rest) s is =
      let word = next_word front (t ∷ rest) s is in
      let longer : list_of classes c ≡ (front ++ s ∷ []) ++ t ∷ rest = is ∙ sym (append_assoc front (s ∷ []) (t ∷ rest)) in
      let class = l.listed c t (subst (Has t) (sym longer) (has_right t (front ++ s ∷ []) (t ∷ rest) (inl refl))) in
      let next : spot_by (sites_of v.arenas) (next_of (pool_at v.arenas s)) ≡ t = ap (spot_by (sites_of v.arenas)) word ∙ spot_back v t c sound class in
      ap (λ ss. s ∷ ss) (ap (spots_from v.arenas (length (t ∷ rest))) next ∙ walk (front ++ s ∷ []) rest t longer)

  list_told : (ss : List Spot) → list_of classes c ≡ ss → spots_by v.arenas (length ss) (first_id ss) ≡ ss
  list_told [] is = refl
  list_told (s ∷ ss) is = walk [] ss s is

-- what is kept beside the bytes
abbrev pub head_of : ClassView → ClassPools
head_of c = record { first = c.first; count = c.count; full = c.full }

pub classes_told : (v : SetView) (classes : List ClassView) → IsSet v → AreLinked v.arenas classes → map (class_view v.arenas) (map head_of classes) ≡ classes
classes_told v classes sound l =
    let long = length-map classes head_of in let again = length-map (map head_of classes) (class_view v.arenas) in
    ext_get_or no_pools (map (class_view v.arenas) (map head_of classes)) classes (again ∙ long) (λ c lt.
    let lt0 : c < length (map head_of classes) = omega arith in let lt1 : c < length classes = omega arith in
    let h = l.headed c in
    get_or-map (class_view v.arenas) (map head_of classes) c (head_of no_pools) no_pools lt0 ∙ (ap (class_view v.arenas) (get_or-map head_of classes c no_pools (head_of no_pools) lt1)
    ∙ (λ i. record {
      spots = (ap (λ n. spots_by v.arenas n (get_or classes c no_pools).first) h.count ∙ (ap (spots_by v.arenas (length (list_of classes c))) h.first ∙ list_told v classes sound l c (list_of classes c) refl)) i;
      full = (get_or classes c no_pools).full;
      first = (get_or classes c no_pools).first;
      count = (get_or classes c no_pools).count;
    })))

-- what was told is what is kept of it
pub heads_told : (arenas : List (Option ArenaView)) (heads : List ClassPools) → map head_of (map (class_view arenas) heads) ≡ heads
heads_told arenas [] = refl
heads_told arenas (h ∷ heads) = ap (λ hs. h ∷ hs) (heads_told arenas heads)

-- ---- where a word leads

pub first_link : (v : SetView) (ss : List Spot) (w c : ℕ) → IsSet v → ((s : Spot) → Has s ss → class_of (pool_at v.arenas s) ≡ Some c) → w ≡ first_in (addresses_of v.arenas ss) → IsLink v w
first_link v [] w c sound all e = inl e
first_link v (s ∷ ss) w c sound all e = inr (id_at s, record { started = has_started v s c sound (all s (inl refl)); place = e })

pub leads_first : (v : SetView) (c : ℕ) → IsSet v → (o : Option PoolId) (ss : List Spot) → ((s : Spot) → Has s ss → class_of (pool_at v.arenas s) ≡ Some c) → (w : ℕ) → w ≡ first_in (addresses_of v.arenas ss) → LeadsTo v w o → o ≡ first_id ss
leads_first v c sound None [] all w e leads = refl
leads_first v c sound None (s ∷ ss) all w e leads = let some = place_some v s c sound (all s (inl refl)) in absurd (omega arith)
leads_first v c sound (Some b) [] all w e leads =
    let st = leads.started in let some = place_some v (spot b) st.s.pool.class sound (class_is v b st.a st.s st.started) in let p = leads.place in absurd (omega arith)
leads_first v c sound (Some b) (s ∷ ss) all w e leads =
    let st = leads.started in
    let same : spot b ≡ s = spot_once v (spot b) s st.s.pool.class c sound (class_is v b st.a st.s st.started) (all s (inl refl)) (sym leads.place ∙ e) in
    λ i. Some (record { arena = (same i).arena; pool = (same i).slot })

-- an arena has the address of a pool
pub pool_owned : (v : SetView) (id : PoolId) (p : ℕ) → IsSet v → IsPoolOf v id p → tally (covers p) (regions_of v.arenas) ≡ 1
pool_owned v id p sound is =
    let w = pools_are_in_arenas is.a.region.base id.pool (below_total v id is.a is.s sound is.started) in
    let low = is.has.0 in let high = is.has.1 in let long = (arena_at v id.arena is.a sound is.started.at).region.len in
    let here = covers_in p (region_extent is.a.region) (omega arith) (omega arith) in
    let le = tally_has (covers p) (region_extent is.a.region) (regions_of v.arenas) (region_there v id.arena is.a is.started.at) in
    let most = sound.apart p in omega arith

begun : (v : SetView) (id : PoolId) (w : ℕ) → BeginsAt v id w → IsPoolOf v id w
begun v id w b =
    let h = b.started in let at = b.place ∙ place_is v id h.a h.s h.started in
    record { a = h.a; s = h.s; started = h.started; has = (omega arith, omega arith) }

pub leads_to : (v : SetView) (w : ℕ) → IsSet v → IsLink v w → w ≢ 0 → (o : Option PoolId) → (tally (covers w) (regions_of v.arenas) ≡ 1 → IsSome o) → IfSome o (λ id. IsPoolOf v id w) → LeadsTo v w o
leads_to v w sound (inl z) some o own is = absurd (some z)
leads_to v w sound (inr l) some None own is = absurd (let n = own (pool_owned v l.0 w sound (begun v l.0 w l.1)) in cc)
leads_to v w sound (inr l) some (Some id) own is = subst (λ q. BeginsAt v q w) (pool_once v l.0 id w sound (begun v l.0 w l.1) is) l.1
