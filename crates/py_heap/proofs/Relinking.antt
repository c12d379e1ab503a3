-- What one pool's change, and new words in headers, leave of all other pools.
use Rattle.std.proofs.Common.{◌≡◌, ◌≢◌, ℕ, zero, suc, ◌+◌, ◌-◌, ◌<◌, ◌≤◌, inl, inr, List, length, get_or, set, Option, Some, None, IfSome, refl, sym, ap, subst, ◌∙◌, arith}
use Rattle.std.proofs.lemmas.Bool.Decides.{eqb_tells, leb_tells}
use Rattle.std.proofs.lemmas.List.{get_or-set_same, get_or-set_other, length-set}
use Rattle.layout_model.specs.Geometry.{pool_offset, place_at}
use Rattle.pool_core.specs.Calls.{InRun}
use Rattle.heap_model.specs.Tables.{Spot}
use Rattle.heap_model.proofs.CallerLemmas.{spot_tells}
use Rattle.arena_set.specs.declared.pool_id.PoolId.{PoolId}
use Rattle.arena_set.specs.Started.{Started}
use Rattle.arena_set.specs.Arena.{ArenaView, PoolChange}
use Rattle.arena_set.specs.Set.{nth_arena, SetView, loans_of, pools_of, regions_of, dry_of, IsSet}
use Rattle.arena_set.specs.Calls.{HasStarted, IsAt, IsStarted, Links, OneArena}
use Rattle.arena_set.proofs.CallerLemmas.{inside}
use Rattle.py_heap.specs.Links.{ClassView, spot, sites_of, pool_in, place_in, pool_at, place_of, class_of, next_of, prev_of, AreLinked}
use Rattle.py_heap.specs.Relinks.{OnlyLinks, SameBody, word_after}
use Rattle.py_heap.proofs.Arenas.{sites_same}
use Rattle.py_heap.proofs.Linked.{class_is, has_started, numbered_is, pool_is}
use Rattle.py_heap.proofs.Relisted.{still_linked}

-- ---- one arena has another pool in one place

module _ (old new : SetView) (id : PoolId) (a b : ArenaView) (o : Option Started) (at : IsAt old id.arena a) (lt : id.pool < length a.pools) (arenas : new.arenas ≡ set old.arenas (id.arena - 1) (Some b))
    (pools : b.pools ≡ set a.pools id.pool o) (base : b.region.base ≡ a.region.base) where
  here_arena : nth_arena new.arenas id.arena ≡ Some b
  here_arena =
      let some = at.some in let e : id.arena ≡ suc (id.arena - 1) = omega arith in
      ap (nth_arena new.arenas) e ∙ (ap (λ xs. get_or xs (id.arena - 1) None) arenas ∙ get_or-set_same old.arenas (id.arena - 1) (Some b) None (inside old.arenas (id.arena - 1) a at.there))

  other_arena : (n : ℕ) → n ≢ id.arena → nth_arena new.arenas n ≡ nth_arena old.arenas n
  other_arena zero n = refl
  other_arena (suc m) n = ap (λ xs. get_or xs m None) arenas ∙ get_or-set_other old.arenas (id.arena - 1) m (Some b) None (λ e. n (let some = at.some in omega arith))

  pub here_pool : pool_at new.arenas (spot id) ≡ o
  here_pool = ap (λ x. pool_in x id.pool) here_arena ∙ (ap (λ ps. get_or ps id.pool None) pools ∙ get_or-set_same a.pools id.pool o None lt)

  pub other_pool : (s : Spot) → s ≢ spot id → pool_at new.arenas s ≡ pool_at old.arenas s
  other_pool s n = elim (eqb_tells s.arena id.arena) [
    | inl w ↦
        let slot : s.slot ≢ id.pool = λ e. n (λ i. record { arena = w.1 i; slot = e i }) in
        (ap (λ x. pool_in (nth_arena new.arenas x) s.slot) w.1 ∙ (ap (λ x. pool_in x s.slot) here_arena ∙ (ap (λ ps. get_or ps s.slot None) pools ∙ get_or-set_other a.pools id.pool s.slot o None slot)))
        ∙ sym (ap (λ x. pool_in (nth_arena old.arenas x) s.slot) w.1 ∙ ap (λ x. pool_in x s.slot) (numbered_is old id.arena a at))
    | inr w ↦ ap (λ x. pool_in x s.slot) (other_arena s.arena w.1)
  ]

  pub same_place : (s : Spot) → place_of new.arenas s ≡ place_of old.arenas s
  same_place s = elim (eqb_tells s.arena id.arena) [
    | inl w ↦
        (ap (λ x. place_in (nth_arena new.arenas x) s.slot) w.1 ∙ (ap (λ x. place_in x s.slot) here_arena ∙ ap (λ x. place_at x s.slot) base))
        ∙ sym (ap (λ x. place_in (nth_arena old.arenas x) s.slot) w.1 ∙ ap (λ x. place_in x s.slot) (numbered_is old id.arena a at))
    | inr w ↦ ap (λ x. place_in x s.slot) (other_arena s.arena w.1)
  ]

-- a pool changes, and keeps its class and its links
module _ (old new : SetView) (id : PoolId) (a b : ArenaView) (s t : Started) (st : IsStarted old id a s) (change : PoolChange a b id.pool t) (arena : OneArena id.arena b old new)
    (class : t.pool.class ≡ s.pool.class) (next : t.next ≡ s.next) (prev : t.prev ≡ s.prev) (classes : List ClassView) (l : AreLinked old.arenas classes) where
  lt : id.pool < length a.pools
  lt = inside a.pools id.pool s st.there

  here_now : pool_at new.arenas (spot id) ≡ Some t
  here_now = here_pool old new id a b (Some t) st.at lt arena.arenas change.pools change.base

  others_now : (z : Spot) → z ≢ spot id → pool_at new.arenas z ≡ pool_at old.arenas z
  others_now = other_pool old new id a b (Some t) st.at lt arena.arenas change.pools change.base

  same_of : {X : Type 0} (f : Option Started → X) → f (Some t) ≡ f (Some s) → (z : Spot) → f (pool_at new.arenas z) ≡ f (pool_at old.arenas z)
  same_of f e z = elim (spot_tells z (spot id)) [
    | inl w ↦ ap (λ y. f (pool_at new.arenas y)) w.1 ∙ (ap f here_now ∙ (e ∙ (ap f (sym (pool_is old id a s st)) ∙ ap (λ y. f (pool_at old.arenas y)) (sym w.1))))
    | inr w ↦ ap f (others_now z w.1)
  ]

  pub changed_linked : AreLinked new.arenas classes
  changed_linked =
      let classes_same = same_of class_of (ap Some class) in
      let place = same_place old new id a b (Some t) st.at lt arena.arenas change.pools change.base in
      still_linked old.arenas new.arenas classes l (λ c z h. classes_same z ∙ l.listed c z h) (λ c z h. place z)
      (λ c z e. inl (sym (classes_same z) ∙ e, same_of next_of next z, same_of prev_of prev z, place z))

-- ---- nothing but links

same_body : (o : Option ArenaView) → SameBody o o
same_body None = refl
same_body (Some a) = (a, (refl, refl, λ k off low high. refl))

body_then : (o p q : Option ArenaView) → SameBody o p → SameBody p q → SameBody o q
body_then None p q x y = let z : SameBody None q = subst (λ r. SameBody r q) x y in z
body_then (Some a) p q x y =
    let z : SameBody (Some x.0) q = subst (λ r. SameBody r q) x.1.0 y in
    (z.0, (z.1.0, z.1.1 ∙ x.1.1, λ k off low high. ap (λ base. get_or z.0.region.cells (pool_offset base k + off) None) (sym x.1.1) ∙ (z.1.2 k off low high ∙ (ap (λ base. get_or x.0.region.cells (pool_offset base k + off) None) x.1.1 ∙ x.1.2 k off low high))))

pub only_none : (v : SetView) → IsSet v → OnlyLinks v v
only_none v sound = record { usable = refl; dry = refl; lines = refl; loans = refl; regions = refl; sites = refl; count = refl; set = sound; class = λ s. refl; place = λ s. refl; bodies = λ i. same_body (get_or v.arenas i None) }

pub only_then : (u v w : SetView) → OnlyLinks u v → OnlyLinks v w → OnlyLinks u w
only_then u v w x y = record {
  usable = y.usable ∙ x.usable;
  dry = y.dry ∙ x.dry;
  lines = y.lines ∙ x.lines;
  loans = y.loans ∙ x.loans;
  regions = y.regions ∙ x.regions;
  sites = y.sites ∙ x.sites;
  count = y.count ∙ x.count;
  set = y.set;
  class = λ s. y.class s ∙ x.class s;
  place = λ s. y.place s ∙ x.place s;
  bodies = λ i. body_then (get_or u.arenas i None) (get_or v.arenas i None) (get_or w.arenas i None) (x.bodies i) (y.bodies i);
}

-- one pool gets other words for its neighbours
module _ (old new : SetView) (id : PoolId) (t : Started) (links : Links old new id t) (class : t.pool.class ≡ links.s.pool.class) where
  linked_lt : id.pool < length links.a.pools
  linked_lt = inside links.a.pools id.pool links.s links.started.there

  here_linked : pool_at new.arenas (spot id) ≡ Some t
  here_linked = here_pool old new id links.a links.b (Some t) links.started.at linked_lt links.arena.arenas links.change.pools links.change.base

  others_linked : (z : Spot) → z ≢ spot id → pool_at new.arenas z ≡ pool_at old.arenas z
  others_linked = other_pool old new id links.a links.b (Some t) links.started.at linked_lt links.arena.arenas links.change.pools links.change.base

  was_there : pool_at old.arenas (spot id) ≡ Some links.s
  was_there = pool_is old id links.a links.s links.started

  same_class : (z : Spot) → class_of (pool_at new.arenas z) ≡ class_of (pool_at old.arenas z)
  same_class z = elim (spot_tells z (spot id)) [
    | inl w ↦ ap (λ y. class_of (pool_at new.arenas y)) w.1 ∙ (ap class_of here_linked ∙ (ap Some class ∙ (ap class_of (sym was_there) ∙ ap (λ y. class_of (pool_at old.arenas y)) (sym w.1))))
    | inr w ↦ ap class_of (others_linked z w.1)
  ]

  outside : (base k j off : ℕ) → 48 ≤ off → off < 16384 → InRun (pool_offset base j) 48 (pool_offset base k + off) → ⊥
  outside base k j off low high r = let r0 = r.0 in let r1 = r.1 in elim (leb_tells k j) [
    | inl w ↦ elim (leb_tells j k) [ inl x ↦ absurd (let a = w.1 in let b = x.1 in omega arith) | inr x ↦ absurd (let b = x.1 in omega arith) ]
    | inr w ↦ absurd (let a = w.1 in omega arith)
  ]

  bodies : (i : ℕ) → SameBody (get_or old.arenas i None) (get_or new.arenas i None)
  bodies i = elim (eqb_tells i (id.arena - 1)) [
    | inl w ↦
        let was : get_or old.arenas i None ≡ Some links.a = ap (λ j. get_or old.arenas j None) w.1 ∙ links.started.at.there in
        let is : get_or new.arenas i None ≡ Some links.b = ap (λ j. get_or new.arenas j None) w.1 ∙ (ap (λ xs. get_or xs (id.arena - 1) None) links.arena.arenas
        ∙ get_or-set_same old.arenas (id.arena - 1) (Some links.b) None (inside old.arenas (id.arena - 1) links.a links.started.at.there)) in
        subst (λ o. SameBody o (get_or new.arenas i None)) (sym was) (links.b, (is, links.change.base, λ k off low high. links.only (pool_offset links.a.region.base k + off) (outside links.a.region.base k id.pool off low high)))
    | inr w ↦ subst (SameBody (get_or old.arenas i None)) (sym (ap (λ xs. get_or xs i None) links.arena.arenas ∙ get_or-set_other old.arenas (id.arena - 1) i (Some links.b) None w.1)) (same_body (get_or old.arenas i None))
  ]

  pub only_links : IsSet new → (new.usable ≡ old.usable) × (dry_of new ≡ dry_of old) → pools_of new.arenas ≡ pools_of old.arenas → loans_of new.arenas ≡ loans_of old.arenas → regions_of new.arenas ≡ regions_of old.arenas → OnlyLinks old new
  only_links sound same lines loans regions = record {
    usable = same.0;
    dry = same.1;
    lines = lines;
    loans = loans;
    regions = regions;
    sites = ap sites_of links.arena.arenas ∙ sites_same old.arenas id.arena links.a links.b links.started.at.some links.started.at.there links.change.base;
    count = ap length links.arena.arenas ∙ length-set old.arenas (id.arena - 1) _;
    set = sound;
    class = same_class;
    place = same_place old new id links.a links.b (Some t) links.started.at linked_lt links.arena.arenas links.change.pools links.change.base;
    bodies = bodies;
  }

  pub word_written : (f : Option Started → ℕ) (z : Spot) → f (pool_at new.arenas z) ≡ word_after (Some id) (f (Some t)) z (f (pool_at old.arenas z))
  word_written f z = elim (spot_tells z (spot id)) [
    | inl w ↦ rw w.0 (ap (λ y. f (pool_at new.arenas y)) w.1 ∙ ap f here_linked)
    | inr w ↦ rw w.0 (ap f (others_linked z w.1))
  ]

  pub word_kept : (f : Option Started → ℕ) → f (Some t) ≡ f (Some links.s) → (z : Spot) → f (pool_at new.arenas z) ≡ f (pool_at old.arenas z)
  word_kept f e z = elim (spot_tells z (spot id)) [
    | inl w ↦ ap (λ y. f (pool_at new.arenas y)) w.1 ∙ (ap f here_linked ∙ (e ∙ (ap f (sym was_there) ∙ ap (λ y. f (pool_at old.arenas y)) (sym w.1))))
    | inr w ↦ ap f (others_linked z w.1)
  ]

-- a pool that was started still is
pub still_started : (old new : SetView) (id : PoolId) → OnlyLinks old new → HasStarted old id → HasStarted new id
still_started old new id only h = has_started new (spot id) h.s.pool.class only.set (only.class (spot id) ∙ class_is old id h.a h.s h.started)

pub some_started : (old new : SetView) (o : Option PoolId) → OnlyLinks old new → IfSome o (HasStarted old) → IfSome o (HasStarted new)
some_started old new None only h = h
some_started old new (Some id) only h = still_started old new id only h
