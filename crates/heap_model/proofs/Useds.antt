-- The lists of the classes after a pool changed, came or went.
use Rattle.std.proofs.Common.{◌≡◌, ◌≢◌, ℕ, zero, suc, ◌<◌, inl, inr, false, List, [], ◌∷◌, map, length, get_or, set, refl, sym, ap, subst, ◌∙◌, arith}
use Rattle.std.proofs.lemmas.Bool.Decides.{eqb_tells}
use Rattle.std.proofs.lemmas.List.{ext_get_or, get_or-set_same, get_or-set_other, length-set, length-map, set-get_or}
use Rattle.extents.specs.Sums.{Has, Inserted, Removed, Replaced}
use Rattle.layout_model.specs.Layout.{Used}
use Rattle.layout_model.specs.Geometry.{PoolLine}
use Rattle.heap_model.specs.Tables.{Spot, spot_of, same_spot}
use Rattle.heap_model.specs.View.{used_at, used_of, used_pool}
use Rattle.heap_model.proofs.Picks.{pick_kept, map_same}
use Rattle.heap_model.proofs.Pools.{replaced_steps, spot_tells}

other_spot : (a b : Spot) → a ≢ b → same_spot a b ≡ false
other_spot a b n = elim (spot_tells a b) [ inl w ↦ absurd (n w.1) | inr w ↦ w.0 ]

-- what is at another spot stays
pub used_come : (y : PoolLine) (old new : List PoolLine) → Inserted y old new → (s : Spot) → spot_of y ≢ s → used_at new s ≡ used_at old s
used_come y old new i s n = pick_kept (λ x. same_spot (spot_of x) s) used_pool _ y old new i (other_spot (spot_of y) s n)

pub used_gone : (x : PoolLine) (old new : List PoolLine) → Removed x old new → (s : Spot) → spot_of x ≢ s → used_at new s ≡ used_at old s
used_gone x old new r s n = sym (used_come x new old r s n)

pub used_replaced : (x y : PoolLine) (old new : List PoolLine) → Replaced x y old new → spot_of y ≡ spot_of x → (s : Spot) → spot_of x ≢ s → used_at new s ≡ used_at old s
used_replaced x y old new r same s n =
    let m = replaced_steps x y old new r in
    used_come y m.0 new m.1.1 s (λ e. n (sym same ∙ e)) ∙ used_gone x old m.0 m.1.0 s n

-- the list of one class
pub used_class : (xs : List PoolLine) (lists : List (List Spot)) (d : ℕ) → get_or (used_of xs lists) d [] ≡ map (used_at xs) (get_or lists d [])
used_class xs [] d = refl
used_class xs (l ∷ lists) zero = refl
used_class xs (l ∷ lists) (suc d) = used_class xs lists d

-- one class's list is replaced, and what stands at the spots of the others stays
pub used_set : (old new : List PoolLine) (lists : List (List Spot)) (c : ℕ) (ks : List Spot) → c < length lists →
    ((d : ℕ) (s : Spot) → d ≢ c → Has s (get_or lists d []) → used_at new s ≡ used_at old s) →
    used_of new (set lists c ks) ≡ set (used_of old lists) c (map (used_at new) ks)
used_set old new lists c ks inside others =
    let us : List (List Used) = used_of old lists in
    let long : length us ≡ length lists = length-map lists (map (used_at old)) in
    let long2 : length (used_of new (set lists c ks)) ≡ length lists = length-map (set lists c ks) (map (used_at new)) ∙ length-set lists c ks in
    ext_get_or [] _ _ (long2 ∙ sym (length-set us c (map (used_at new) ks) ∙ long)) (λ d h.
    used_class new (set lists c ks) d ∙ elim (eqb_tells d c) [
      | inl w ↦ subst (λ e. map (used_at new) (get_or (set lists c ks) e []) ≡ get_or (set us c (map (used_at new) ks)) e []) (sym w.1)
          (ap (map (used_at new)) (get_or-set_same lists c ks [] inside) ∙ sym (get_or-set_same us c (map (used_at new) ks) [] (omega arith)))
      | inr w ↦ ap (map (used_at new)) (get_or-set_other lists c d ks [] w.1) ∙ (map_same (used_at new) (used_at old) (get_or lists d []) (λ s g. others d s w.1 g)
          ∙ (sym (used_class old lists d) ∙ sym (get_or-set_other us c d (map (used_at new) ks) [] w.1)))
    ])

-- and where that class keeps its list too
pub used_kept : (old new : List PoolLine) (lists : List (List Spot)) (c : ℕ) → c < length lists →
    ((d : ℕ) (s : Spot) → d ≢ c → Has s (get_or lists d []) → used_at new s ≡ used_at old s) →
    used_of new lists ≡ set (used_of old lists) c (map (used_at new) (get_or lists c []))
used_kept old new lists c inside others =
    ap (used_of new) (sym (set-get_or lists c [])) ∙ used_set old new lists c (get_or lists c []) inside others
