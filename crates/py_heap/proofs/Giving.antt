-- A pool that is in no list goes back to its arena, and the lists stay.
use Rattle.std.proofs.Common.{◌≡◌, ◌≢◌, ℕ, zero, suc, ◌-◌, ◌<◌, inl, inr, List, length, get_or, set, Option, Some, None, refl, sym, ap, subst, ◌∙◌, arith}
use Rattle.std.proofs.lemmas.Bool.Decides.{eqb_tells}
use Rattle.std.proofs.lemmas.List.{get_or-set_same, get_or-set_other}
use Rattle.raw_region.specs.Region.{RegionView}
use Rattle.extents.specs.Sums.{Has}
use Rattle.extents.specs.Extent.{Extent}
use Rattle.extents.proofs.CallerLemmas.{has_other}
use Rattle.layout_model.specs.Geometry.{PoolLine}
use Rattle.heap_model.specs.Tables.{Spot, spot_of}
use Rattle.heap_model.proofs.CallerLemmas.{spot_tells}
use Rattle.arena_set.specs.declared.pool_id.PoolId.{PoolId}
use Rattle.arena_set.specs.Started.{Started}
use Rattle.arena_set.specs.Arena.{ArenaView}
use Rattle.arena_set.specs.Set.{nth_arena, SetView, pool_line, pools_of}
use Rattle.arena_set.specs.Calls.{CanGive, GivesPool, KeptAfter, PoolsLeft}
use Rattle.arena_set.proofs.CallerLemmas.{inside}
use Rattle.py_heap.specs.Kept.{lines_of}
use Rattle.py_heap.specs.Links.{ClassView, spot, pool_in, place_in, pool_at, class_of, next_of, prev_of, list_of, AreLinked}
use Rattle.py_heap.proofs.Arenas.{at_once, line_at, line_there, started_there}
use Rattle.py_heap.proofs.Linked.{id_at, numbered_is, pool_there}
use Rattle.py_heap.proofs.Relisted.{still_linked}
use Rattle.py_heap.proofs.Relinking.{here_pool, other_pool, same_place}

module _ (old new : SetView) (id : PoolId) (back : Option RegionView) (can : CanGive old id) (g : GivesPool old new id back) (classes : List ClassView) (l : AreLinked old.arenas classes)
    (out : (c : ℕ) → Has (spot id) (list_of classes c) → ⊥) where
  other_than : (c : ℕ) (s : Spot) → Has s (list_of classes c) → s ≢ spot id
  other_than c s h e = out c (subst (λ z. Has z (list_of classes c)) e h)

  lt : id.pool < length g.a.pools
  lt = subst (λ (a : ArenaView). id.pool < length a.pools) (at_once old id.arena can.a g.a can.pool.at g.at) can.pool.inside

  -- the arena stays
  stayed : (b : ArenaView) → new.arenas ≡ set old.arenas (id.arena - 1) (Some b) → b.pools ≡ set g.a.pools id.pool None → b.region.base ≡ g.a.region.base → AreLinked new.arenas classes
  stayed b arenas pools base =
      let there = other_pool old new id g.a b None g.at lt arenas pools base in
      let here = here_pool old new id g.a b None g.at lt arenas pools base in
      let place = same_place old new id g.a b None g.at lt arenas pools base in
      still_linked old.arenas new.arenas classes l (λ c s h. ap class_of (there s (other_than c s h)) ∙ l.listed c s h) (λ c s h. place s) (λ c s e. elim (spot_tells s (spot id)) [
        | inl w ↦ let none = ap (λ z. class_of (pool_at new.arenas z)) w.1 ∙ ap class_of here in absurd (cc)
        | inr w ↦ let t = there s w.1 in inl (sym (ap class_of t) ∙ e, ap next_of t, ap prev_of t, place s)
      ])

  -- the arena is gone
  module _ (arenas : new.arenas ≡ set old.arenas (id.arena - 1) None) where
    gone : nth_arena new.arenas id.arena ≡ None
    gone =
        let some = g.at.some in let e : id.arena ≡ suc (id.arena - 1) = omega arith in
        ap (nth_arena new.arenas) e ∙ (ap (λ xs. get_or xs (id.arena - 1) None) arenas ∙ get_or-set_same old.arenas (id.arena - 1) None None (inside old.arenas (id.arena - 1) g.a g.at.there))

    others : (n : ℕ) → n ≢ id.arena → nth_arena new.arenas n ≡ nth_arena old.arenas n
    others zero n = refl
    others (suc m) n = ap (λ xs. get_or xs m None) arenas ∙ get_or-set_other old.arenas (id.arena - 1) m None None (λ e. n (let some = g.at.some in omega arith))

    -- the line of another pool is still there
    left : (o : Option Started) → PoolsLeft o (pool_line id.arena g.a.region.base id.pool) (pools_of old.arenas) (pools_of new.arenas) → (x : PoolLine) → spot_of x ≢ spot id → Has x (lines_of old.arenas) → Has x (lines_of new.arenas)
    left None same x n h = subst (Has x) (sym same) h
    left (Some s) removed x n h = has_other (pool_line id.arena g.a.region.base id.pool s) x (pools_of old.arenas) (pools_of new.arenas) removed h (λ e. n (ap spot_of e))

    -- so each pool of a list is in another arena
    elsewhere : (c : ℕ) (s : Spot) → Has s (list_of classes c) → s.arena ≢ id.arena
    elsewhere c s h e =
        let p = pool_there old s c (l.listed c s h) in
        let x = line_at (id_at s) p.a p.x in
        let here = left (get_or g.a.pools id.pool None) g.pools x (other_than c s h) (started_there old (id_at s) p.a p.x p.started) in
        let z = line_there new x here in
        let arena : z.id.arena ≡ id.arena = ap (λ (y : PoolLine). y.arena) z.is ∙ e in
        let is = sym (ap (nth_arena new.arenas) arena) ∙ numbered_is new z.id.arena z.a z.started.at in
        let none = gone in cc

    went : AreLinked new.arenas classes
    went =
        let there : (s : Spot) → s.arena ≢ id.arena → pool_at new.arenas s ≡ pool_at old.arenas s = λ s n. ap (λ o. pool_in o s.slot) (others s.arena n) in
        still_linked old.arenas new.arenas classes l (λ c s h. ap class_of (there s (elsewhere c s h)) ∙ l.listed c s h) (λ c s h. ap (λ o. place_in o s.slot) (others s.arena (elsewhere c s h))) (λ c s e. elim (eqb_tells s.arena id.arena) [
          | inl w ↦ let none = ap (λ n. class_of (pool_in (nth_arena new.arenas n) s.slot)) w.1 ∙ ap (λ o. class_of (pool_in o s.slot)) gone in absurd (cc)
          | inr w ↦ let t = there s w.1 in inl (sym (ap class_of t) ∙ e, ap next_of t, ap prev_of t, ap (λ o. place_in o s.slot) (others s.arena w.1))
        ])

  by : (r : Option RegionView) (o : Option ArenaView) → KeptAfter g.a id.pool r o → new.arenas ≡ set old.arenas (id.arena - 1) o → AreLinked new.arenas classes
  by None o kept is = stayed kept.0 (is ∙ ap (set old.arenas (id.arena - 1)) kept.1.0) kept.1.1.pools (ap (λ (x : Extent). x.place) kept.1.1.extent)
  by (Some r) o kept is = went (is ∙ ap (set old.arenas (id.arena - 1)) kept)

  pub given_linked : AreLinked new.arenas classes
  given_linked = by back g.left g.kept g.arenas
