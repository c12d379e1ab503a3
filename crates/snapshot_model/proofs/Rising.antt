-- Lists that are put in order: they keep their members, and they rise where no two of these tie.
use Rattle.std.proofs.Common.{◌≡◌, suc, Bool, true, false, cond, List, [], ◌∷◌, map, length, refl, sym, ap, ◌∙◌}
use Rattle.std.proofs.Common.{subst, inl, inr}
use Rattle.std.specs.declared.cmp.Ordering.{Ordering}
use Rattle.std.specs.declared.cmp.Ordering.TheVariants.{Less, Equal, Greater}
use Rattle.std.specs.Ordering.{ordering_reverse, is_lt}
use Rattle.std.specs.Cmp.{IsTotalOrder}
use Rattle.std.proofs.lemmas.Cmp.{back_total}
use Rattle.extents.specs.Sums.{Has}
use Rattle.snapshot_model.specs.Order.{Rises, Falls, put_in, rising, falling}

-- no element ties with one that follows it
abbrev pub AreApart : {X : Type 0} → (X → X → Ordering) → List X → Type 0
AreApart R [] = Unit {0}
AreApart {X} R (x ∷ xs) = ((y : X) → Has y xs → R x y ≡ Equal → ⊥) × AreApart R xs

module _ {X : Type 0} where
  pub from_map : {Y : Type 0} (g : X → Y) (y : Y) (xs : List X) → Has y (map g xs) → (x : X) × Has x xs × (y ≡ g x)
  from_map g y [] h = absurd h
  from_map g y (x ∷ xs) (inl e) = (x, inl refl, sym e)
  from_map g y (x ∷ xs) (inr h) = let r = from_map g y xs h in (r.0, inr r.1, r.2)

  -- elements that come from others tie only where these do
  pub apart_map :
      {Y : Type 0} (R : X → X → Ordering) (S : Y → Y → Ordering) (g : X → Y)
      → ((a b : X) → S (g a) (g b) ≡ Equal → R a b ≡ Equal) → (xs : List X) → AreApart R xs → AreApart S (map g xs)
  apart_map R S g ties [] apart = tt
  apart_map R S g ties (x ∷ xs) apart = (
    λ y h tied. let r = from_map g y xs h in apart.0 r.0 r.1 (ties x r.0 (ap (S (g x)) (sym r.2) ∙ tied)),
    apart_map R S g ties xs apart.1,
  )

-- ---- the members

module _ {X : Type 0} (R : X → X → Ordering) where
  put_has : (x : X) (ys : List X) → Has x (put_in R x ys)
  put_has x [] = inl refl
  put_has x (y ∷ ys) = by (is_lt (R x y)) (put_has x ys)
    where
      by : (b : Bool) → Has x (put_in R x ys) → Has x (cond b (x ∷ y ∷ ys) (y ∷ put_in R x ys))
      by true h = inl refl
      by false h = inr h

  put_keeps : (x z : X) (ys : List X) → Has z ys → Has z (put_in R x ys)
  put_keeps x z [] h = absurd h
  put_keeps x z (y ∷ ys) h = by (is_lt (R x y)) (put_keeps x z ys) h
    where
      by : (b : Bool) → (Has z ys → Has z (put_in R x ys)) → Has z (y ∷ ys)
          → Has z (cond b (x ∷ y ∷ ys) (y ∷ put_in R x ys))
      by true later h = inr h
      by false later (inl e) = inl e
      by false later (inr h) = inr (later h)

  put_from : (x z : X) (ys : List X) → Has z (put_in R x ys) → Has z (x ∷ ys)
  put_from x z [] h = h
  put_from x z (y ∷ ys) h = by (is_lt (R x y)) (put_from x z ys) h
    where
      by : (b : Bool) → (Has z (put_in R x ys) → Has z (x ∷ ys)) → Has z (cond b (x ∷ y ∷ ys) (y ∷ put_in R x ys))
          → Has z (x ∷ y ∷ ys)
      by true later h = h
      by false later (inl e) = inr (inl e)
      by false later (inr h) = elim (later h) [ inl e ↦ inl e | inr k ↦ inr (inr k) ]

  pub rising_has : (z : X) (xs : List X) → Has z xs → Has z (rising R xs)
  rising_has z [] h = h
  rising_has z (x ∷ xs) (inl e) = subst (λ (v : X). Has v (put_in R x (rising R xs))) e (put_has x (rising R xs))
  rising_has z (x ∷ xs) (inr h) = put_keeps x z (rising R xs) (rising_has z xs h)

  pub has_rising : (z : X) (xs : List X) → Has z (rising R xs) → Has z xs
  has_rising z [] h = h
  has_rising z (x ∷ xs) h = elim (put_from x z (rising R xs) h) [ inl e ↦ inl e | inr k ↦ inr (has_rising z xs k) ]

  put_length : (x : X) (ys : List X) → length (put_in R x ys) ≡ suc (length ys)
  put_length x [] = refl
  put_length x (y ∷ ys) = by (is_lt (R x y)) (put_length x ys)
    where
      by : (b : Bool) → length (put_in R x ys) ≡ suc (length ys)
          → length (cond b (x ∷ y ∷ ys) (y ∷ put_in R x ys)) ≡ suc (suc (length ys))
      by true e = refl
      by false e = ap suc e

  pub rising_length : (xs : List X) → length (rising R xs) ≡ length xs
  rising_length [] = refl
  rising_length (x ∷ xs) = put_length x (rising R xs) ∙ ap suc (rising_length xs)

-- ---- the order

module _ {X : Type 0} {R : X → X → Ordering} (o : IsTotalOrder R) where
  -- in front of what it is below
  put_first : (x y : X) (ys : List X) → R x y ≡ Less → Rises R (y ∷ ys) → Rises R (x ∷ y ∷ ys)
  put_first x y ys less r = (below, r)
    where
      below : (z : X) → Has z (y ∷ ys) → R x z ≡ Less
      below z (inl d) = subst (λ (v : X). R x v ≡ Less) d less
      below z (inr h) = o.trans x y z less (r.0 z h)

  -- behind what is below it
  put_later : (x y : X) (ys : List X) → R x y ≡ Greater → Rises R (y ∷ ys) → Rises R (put_in R x ys)
      → Rises R (y ∷ put_in R x ys)
  put_later x y ys greater r rest = (above, rest)
    where
      above : (z : X) → Has z (put_in R x ys) → R y z ≡ Less
      above z h = elim (put_from R x z ys h) [
        | inl d ↦ subst (λ (v : X). R y v ≡ Less) d (o.antisymm y x ∙ ap ordering_reverse greater)
        | inr k ↦ r.0 z k
      ]

  put_rises : (x : X) (ys : List X) → ((y : X) → Has y ys → R x y ≡ Equal → ⊥) → Rises R ys → Rises R (put_in R x ys)
  put_rises x [] apart r = ((λ y h. absurd h), tt)
  put_rises x (y ∷ ys) apart r = by (R x y) refl (put_rises x ys (λ z h. apart z (inr h)) r.1)
    where
      by : (v : Ordering) → R x y ≡ v → Rises R (put_in R x ys) → Rises R (cond (is_lt v) (x ∷ y ∷ ys) (y ∷ put_in R x ys))
      by Less e rest = put_first x y ys e r
      by Equal e rest = absurd (apart y (inl refl) e)
      by Greater e rest = put_later x y ys e r rest

  pub rising_rises : (xs : List X) → AreApart R xs → Rises R (rising R xs)
  rising_rises [] apart = tt
  rising_rises (x ∷ xs) apart =
      put_rises x (rising R xs) (λ y h. apart.0 y (has_rising R y xs h)) (rising_rises xs apart.1)

-- what rises the other way round falls, and back
pub falls_of_rises : {X : Type 0} (R : X → X → Ordering) (xs : List X) → Rises (λ a b. R b a) xs → Falls R xs
falls_of_rises R [] r = tt
falls_of_rises R (x ∷ xs) r = (r.0, falls_of_rises R xs r.1)

pub falls_back : {X : Type 0} (R : X → X → Ordering) (xs : List X) → Rises R xs → Falls (λ a b. R b a) xs
falls_back R [] r = tt
falls_back R (x ∷ xs) r = (r.0, falls_back R xs r.1)

pub falling_falls :
    {X : Type 0} {R : X → X → Ordering} (o : IsTotalOrder R) (xs : List X) → AreApart (λ a b. R b a) xs
    → Falls R (falling R xs)
falling_falls {R = R} o xs apart = falls_of_rises R (falling R xs) (rising_rises (back_total o) xs apart)
