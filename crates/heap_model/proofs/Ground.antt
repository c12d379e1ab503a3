-- Which pool has an address.
use Rattle.std.proofs.Common.{◌≡◌, ℕ, ◌+◌, ◌<◌, ◌≤◌, inl, inr, cond, eqb, List, [], ◌∷◌, get_or, Some, None, refl, sym, ap, subst, ◌∙◌, arith}
use Rattle.std.proofs.lemmas.Bool.Decides.{eqb_tells, leb_tells}
use Rattle.std.proofs.lemmas.List.{get_or_past}
use Rattle.extents.specs.Sums.{Has}
use Rattle.layout_model.proofs.CallerLemmas.{pools_are_in_arenas, address_tells_slot, in_arena_is}
use Rattle.heap_model.specs.Tables.{Tables}
use Rattle.heap_model.specs.View.{place_in, places_of}
use Rattle.heap_model.specs.Kept.{IsKept}
use Rattle.layout_model.specs.Geometry.{Site, place_at, slot_at, in_arena, ArenaHas, PoolHas, PoolLine}
use Rattle.heap_model.specs.Ground.{StandsIn, AreStanding}
use Rattle.heap_model.proofs.Pools.{tally_once, spot_once}
use Rattle.heap_model.proofs.Places.{places_long}
use Rattle.heap_model.proofs.Numbered.{numbered_at}

-- an address of a pool is one of its arena
in_its_arena : (p : ℕ) (a : Site) (x : PoolLine) → StandsIn a x → PoolHas x.place p → ArenaHas p a
in_its_arena p a x s h =
    let w = pools_are_in_arenas a.base x.slot s.slot in
    let low : place_at a.base x.slot ≤ p = subst (λ n. n ≤ p) s.place h.0 in
    let high : p < place_at a.base x.slot + 16384 = subst (λ n. p < n + 16384) s.place h.1 in
    (omega arith, omega arith)

one_arena : (sites : List Site) (t : Tables) (a b : Site) (p : ℕ) → AreStanding sites t → Has a sites → Has b sites → ArenaHas p a → ArenaHas p b → a ≡ b
one_arena sites t a b p ground ha hb ia ib =
    let one = in_arena_is p a ia in let two = in_arena_is p b ib in
    tally_once (in_arena p) sites a b (ground.apart p) ha hb (omega arith) (omega arith)

pub address_finds_pool : (sites : List Site) (t : Tables) (x : PoolLine) (a : Site) (p : ℕ) → AreStanding sites t → Has x t.started → PoolHas x.place p → Has a sites → ArenaHas p a → StandsIn a x × (x.slot ≡ slot_at a.base p)
address_finds_pool sites t x a p ground here has ha ia =
    let b = ground.pools x here in
    let same : b.0 ≡ a = one_arena sites t b.0 a p ground b.1.0 ha (in_its_arena p b.0 x b.1.1 has) ia in
    let stands : StandsIn a x = subst (λ c. StandsIn c x) same b.1.1 in
    (stands, sym (address_tells_slot a.base x.slot p (subst (λ n. PoolHas n p) stands.place has)))

pub pools_do_not_meet : (sites : List Site) (t : Tables) (x z : PoolLine) (p : ℕ) → IsKept t → AreStanding sites t → Has x t.started → Has z t.started → PoolHas x.place p → PoolHas z.place p → x ≡ z
pools_do_not_meet sites t x z p kept ground hx hz px pz =
    let b = ground.pools x hx in
    let f = address_finds_pool sites t z b.0 p ground hz pz b.1.0 (in_its_arena p b.0 x b.1.1 px) in
    let g = address_finds_pool sites t x b.0 p ground hx px b.1.0 (in_its_arena p b.0 x b.1.1 px) in
    let arena : x.arena ≡ z.arena = b.1.1.arena ∙ sym f.0.arena in
    let slot : x.slot ≡ z.slot = g.1 ∙ sym f.1 in
    spot_once t.started t.lists t.taken kept.orderly x z hx hz (λ i. record { arena = arena i; slot = slot i })

-- what has a place is a pool with that number
pick_place : (k p : ℕ) (xs : List PoolLine) → place_in xs k ≡ Some p → (x : PoolLine) × (Has x xs × (x.number ≡ k) × (x.place ≡ p))
pick_place k p [] = λ e. absurd (cc)
pick_place k p (x ∷ xs) = elim (eqb_tells x.number k) as (λ _. cond (eqb x.number k) (Some x.place) (place_in xs k) ≡ Some p → (z : PoolLine) × (Has z (x ∷ xs) × (z.number ≡ k) × (z.place ≡ p))) [
  | inl w ↦ rw w.0 (λ e. (x, (inl refl, w.1, cc)))
  | inr w ↦ rw w.0 (λ e. let r = pick_place k p xs e in (r.0, (inr r.1.0, r.1.1, r.1.2)))
]

pub placed_pool : (t : Tables) (k p : ℕ) → get_or (places_of t) k None ≡ Some p → (x : PoolLine) × (Has x t.started × (x.number ≡ k) × (x.place ≡ p))
placed_pool t k p e = elim (leb_tells t.taken k) [
  | inl w ↦ let long = places_long t in let low = w.1 in let past : get_or (places_of t) k None ≡ None = get_or_past (places_of t) k None (omega arith) in absurd (cc)
  | inr w ↦ pick_place k p t.started (sym (numbered_at (λ y. Some y.place) None t.taken k t.started w.1) ∙ e)
]

pub places_differ : (sites : List Site) (t : Tables) (j k p : ℕ) → IsKept t → AreStanding sites t → get_or (places_of t) j None ≡ Some p → get_or (places_of t) k None ≡ Some p → j ≡ k
places_differ sites t j k p kept ground e d =
    let x = placed_pool t j p e in
    let z = placed_pool t k p d in
    let px : PoolHas x.0.place p = let q = x.1.2 in (omega arith, omega arith) in
    let pz : PoolHas z.0.place p = let q = z.1.2 in (omega arith, omega arith) in
    let same = pools_do_not_meet sites t x.0 z.0 p kept ground x.1.0 z.1.0 px pz in
    sym x.1.1 ∙ (ap (λ (y : PoolLine). y.number) same ∙ z.1.1)
