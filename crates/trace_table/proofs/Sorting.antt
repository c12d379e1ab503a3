-- Lists that are sorted and whose elements differ.
use Rattle.std.proofs.Common.{◌≡◌, ◌≢◌, ℕ, suc, ◌<◌, false, List, [], ◌∷◌, length, get_or, refl, subst, arith}
use Rattle.std.proofs.Common.{true≢false, inl, inr}
use Rattle.std.specs.declared.cmp.Ordering.{Ordering}
use Rattle.std.specs.declared.cmp.Ordering.TheVariants.{Less, Equal, Greater}
use Rattle.std.specs.Ordering.{is_lt, ordering_reverse}
use Rattle.std.specs.Cmp.{IsTotalOrder}
use Rattle.std.specs.List.{AllPairs}
use Rattle.std.specs.List.Sorted.{IsPermutation, IsSorted}
use Rattle.std.proofs.lemmas.List.Sorted.{Contains-permutation, ranks_by, sorted_far}
use Rattle.extents.specs.Sums.{Has}
use Rattle.extents.proofs.CallerLemmas.{has_at}
use Rattle.snapshot_model.specs.Order.{Rises}

module _ {X : Type 0} where
  -- where a member stands
  pub place_of : (x : X) (xs : List X) → Has x xs → (k : ℕ) × (k < length xs) × (get_or xs k x ≡ x)
  place_of x [] h = absurd h
  place_of x (y ∷ ys) (inl e) = (0, omega arith, e)
  place_of x (y ∷ ys) (inr h) = let r = place_of x ys h in (suc r.0, omega arith, r.2)

  pub has_moved : (x : X) (xs ys : List X) → IsPermutation xs ys → Has x xs → Has x ys
  has_moved x xs ys p h =
      let r = Contains-permutation xs ys x p (place_of x xs h) in
      subst (λ (z : X). Has z ys) r.2 (has_at ys r.0 x r.1)

-- what is not below and does not tie is above
less_from : (o q : Ordering) → o ≡ ordering_reverse q → is_lt q ≡ false → o ≢ Equal → o ≡ Less
less_from Less q e below differs = refl
less_from Equal q e below differs = absurd (differs refl)
less_from Greater Less e below differs = absurd (true≢false below)
less_from Greater Equal e below differs = absurd (cc)
less_from Greater Greater e below differs = absurd (cc)

module _ {X : Type 0} {R : X → X → Ordering} (o : IsTotalOrder R) where
  pub pairs_rise : (xs : List X) → IsSorted R xs → AllPairs (λ a b. R a b ≢ Equal) xs → AllPairs (λ a b. R a b ≡ Less) xs
  pairs_rise xs sorted apart i j d lt within =
      less_from (R (get_or xs i d) (get_or xs j d)) (R (get_or xs j d) (get_or xs i d)) (o.antisymm _ _)
      (sorted_far (λ a b. is_lt (R a b)) (ranks_by o (λ x. x)) xs sorted i j d (omega (arith, lt)) within) (apart i j d lt within)

pub rises_so : {X : Type 0} (R : X → X → Ordering) (xs : List X) → AllPairs (λ a b. R a b ≡ Less) xs → Rises R xs
rises_so R [] h = tt
rises_so {X} R (x ∷ xs) h = (
  λ y m. let at = place_of y xs m in subst (λ (z : X). R x z ≡ Less) at.2 (h 0 (suc at.0) y (omega arith) (omega (arith, at.1))),
  rises_so R xs (λ i j d lt within. h (suc i) (suc j) d (omega (arith, lt)) (omega (arith, within))),
)
