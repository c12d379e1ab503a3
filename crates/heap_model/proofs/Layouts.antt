-- Which pools a layout has, and which lines of the tables they are.
use Rattle.std.proofs.Common.{◌≡◌, ℕ, inl, inr, cond, eqb, List, [], ◌∷◌, map, get_or, Some, None, refl, sym, ap, subst, ◌∙◌, arith}
use Rattle.std.proofs.lemmas.Bool.Decides.{eqb_tells, leb_tells}
use Rattle.std.proofs.lemmas.List.{get_or_past}
use Rattle.std.proofs.lemmas.List.FromFn.{length-map-range_with_len}
use Rattle.extents.specs.Sums.{Has}
use Rattle.extents.proofs.CallerLemmas.{has_right}
use Rattle.layout_model.specs.Layout.{Used, Full}
use Rattle.layout_model.specs.Sizes.{capacity}
use Rattle.layout_model.specs.Place.{HasPool, HasClass}
use Rattle.layout_model.specs.Geometry.{PoolLine}
use Rattle.heap_model.specs.Tables.{Spot, Tables}
use Rattle.heap_model.specs.View.{used_at, used_pool, full_pool, full_in, full_of, layout_of}
use Rattle.heap_model.specs.Kept.{IsKept}
use Rattle.heap_model.proofs.Pools.{used_here, full_here, listed_pool}
use Rattle.heap_model.proofs.Useds.{used_class}
use Rattle.heap_model.proofs.Numbered.{numbered_at}
use Rattle.heap_model.proofs.Placed.{is_full}
use Rattle.heap_model.proofs.Unplaced.{listed, open_split}

-- a pool that was started is one of the layout
pub layout_has : (t : Tables) (x : PoolLine) → IsKept t → Has x t.started → HasPool (layout_of t) x.class (used_pool x)
layout_has t x kept here =
    let o = kept.orderly in
    let p = o.pools x here in
    elim (eqb_tells x.live (capacity x.class)) [
      | inl w ↦ inr (numbered_at full_pool None t.taken x.number t.started p.known ∙ (full_here t.started t.lists t.taken o x here ∙ is_full x w.1), w.1)
      | inr w ↦ let r = open_split x t kept here w.1 in
          let li = listed x r.0 r.1 t kept here w.1 r.2 in
          inl (subst (Has (used_pool x)) (sym li.pools) (has_right (used_pool x) (map (used_at t.started) r.0) (used_pool x ∷ map (used_at t.started) r.1) (inl refl)))
    ]

pub class_has : (t : Tables) (x : PoolLine) → IsKept t → Has x t.started → HasClass (layout_of t) x.number x.class
class_has t x kept here = (used_pool x, (refl, layout_has t x kept here))

-- the line of a pool
pub record LineOf (t : Tables) (c : ℕ) (p : Used) : Type 0 where
  pub x : PoolLine
  pub here : Has x t.started
  pub class : x.class ≡ c
  pub is : used_pool x ≡ p

unmapped : (f : Spot → Used) (p : Used) (l : List Spot) → Has p (map f l) → (s : Spot) × (Has s l × (f s ≡ p))
unmapped f p [] h = absurd h
unmapped f p (s ∷ l) (inl e) = (s, (inl refl, e))
unmapped f p (s ∷ l) (inr h) = let r = unmapped f p l h in (r.0, (inr r.1.0, r.1.1))

-- the pool that is full is one with that number
pick_full : (k : ℕ) (f : Full) (xs : List PoolLine) → full_in xs k ≡ Some f → (x : PoolLine) × (Has x xs × (x.number ≡ k) × (full_pool x ≡ Some f))
pick_full k f [] = λ e. absurd (cc)
pick_full k f (x ∷ xs) = elim (eqb_tells x.number k) as (λ _. cond (eqb x.number k) (full_pool x) (full_in xs k) ≡ Some f → (z : PoolLine) × (Has z (x ∷ xs) × (z.number ≡ k) × (full_pool z ≡ Some f))) [
  | inl w ↦ rw w.0 (λ e. (x, (inl refl, w.1, e)))
  | inr w ↦ rw w.0 (λ e. let r = pick_full k f xs e in (r.0, (inr r.1.0, r.1.1, r.1.2)))
]

full_is : (x : PoolLine) (f : Full) → full_pool x ≡ Some f → (x.live ≡ capacity x.class) × (record { class = x.class; arena = x.arena } ≡ f)
full_is x f = elim (eqb_tells x.live (capacity x.class)) as (λ _. full_pool x ≡ Some f → (x.live ≡ capacity x.class) × (record { class = x.class; arena = x.arena } ≡ f)) [
  | inl w ↦ rw w.0 (λ e. (w.1, cc))
  | inr w ↦ rw w.0 (λ e. absurd (cc))
]

-- a pool of the layout was started
pub line_of_pool : (t : Tables) (c : ℕ) (p : Used) → IsKept t → HasPool (layout_of t) c p → LineOf t c p
line_of_pool t c p kept (inl h) =
    let s = unmapped (used_at t.started) p (get_or t.lists c []) (subst (Has p) (used_class t.started t.lists c) h) in
    let z = listed_pool t.started t.lists t.taken kept.orderly c s.0 s.1.0 in
    record { x = z.0; here = z.1.0; class = z.1.2; is = sym (used_here t.started t.lists t.taken kept.orderly z.0 z.1.0) ∙ (ap (used_at t.started) z.1.1 ∙ s.1.1) }
line_of_pool t c p kept (inr h) = elim (leb_tells t.taken p.pool) [
  | inl w ↦ let low = w.1 in let long = length-map-range_with_len (full_in t.started) 0 t.taken in let past : get_or (full_of t.taken t.started) p.pool None ≡ None = get_or_past (full_of t.taken t.started) p.pool None (omega arith) in let full = h.0 in absurd (cc)
  | inr w ↦
      let r = pick_full p.pool (record { class = c; arena = p.arena }) t.started (sym (numbered_at full_pool None t.taken p.pool t.started w.1) ∙ h.0) in
      let f = full_is r.0 (record { class = c; arena = p.arena }) r.1.2 in
      let class : r.0.class ≡ c = ap (λ (g : Full). g.class) f.1 in
      let arena : r.0.arena ≡ p.arena = ap (λ (g : Full). g.arena) f.1 in
      let live : r.0.live ≡ p.live = f.0 ∙ (ap capacity class ∙ sym h.1) in
      record { x = r.0; here = r.1.0; class = class; is = λ i. record { pool = r.1.1 i; arena = arena i; live = live i } }
]
