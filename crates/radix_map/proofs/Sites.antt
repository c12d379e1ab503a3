-- The arenas that begin in the first MiB, by the entries of these.
use Rattle.std.proofs.Common.{◌≡◌, ℕ, zero, suc, ◌<◌, ◌≤◌, ◌⊎◌, inl, inr, [], ◌∷◌, ◌++◌, Option, Some, None, refl, sym, ap, subst, ◌∙◌, arith}
use Rattle.std.proofs.lemmas.List.{append-nil}
use Rattle.extents.specs.Sums.{Has, Inserted}
use Rattle.extents.proofs.CallerLemmas.{has_left, has_right, has_either, inserted_last, inserted_left}
use Rattle.layout_model.specs.Geometry.{Site}
use Rattle.radix_map.specs.declared.entry.Part.{Part}
use Rattle.radix_map.specs.declared.entry.Entry.{Entry}
use Rattle.radix_map.specs.Map.{site_at, begun, sites_below}

pub same_or : (a b : ℕ) → (a ≡ b) ⊎ (a ≡ b → ⊥)
same_or zero zero = inl refl
same_or zero (suc b) = inr (λ e. omega (arith, e))
same_or (suc a) zero = inr (λ e. omega (arith, e))
same_or (suc a) (suc b) = elim (same_or a b) [ inl e ↦ inl (ap suc e) | inr other ↦ inr (λ e. other (omega (arith, e))) ]

pub le_or : (a b : ℕ) → (a ≤ b) ⊎ (b < a)
le_or zero b = inl (omega arith)
le_or (suc a) zero = inr (omega arith)
le_or (suc a) (suc b) = elim (le_or a b) [ inl e ↦ inl (omega (arith, e)) | inr e ↦ inr (omega (arith, e)) ]

-- an arena begins in a MiB
pub record Begun (f : ℕ → Entry) (s : Site) : Type 0 where
  pub at : ℕ
  pub part : Part
  pub first : (f at).first ≡ Some part
  pub site : s ≡ site_at at part

pub has_begun : (f : ℕ → Entry) (m : ℕ) (p : Part) (n : ℕ) → m < n → (f m).first ≡ Some p → Has (site_at m p) (sites_below f n)
unfolding sites_below
has_begun f m p zero below is = absurd (omega arith)
has_begun f m p (suc n) below is =
    elim (same_or m n) [
      | inl e ↦ has_right (site_at m p) (sites_below f n) (begun n (f n).first) (subst (λ k. Has (site_at m p) (begun k (f k).first)) e (subst (λ o. Has (site_at m p) (begun m o)) (sym is) (inl refl)))
      | inr other ↦ let lt : m < n = elim (le_or n m) [ inl le ↦ absurd (other (omega (arith, le, below))) | inr lt ↦ lt ] in has_left (site_at m p) (sites_below f n) (begun n (f n).first) (has_begun f m p n lt is)
    ]

begun_of : (f : ℕ → Entry) (s : Site) (n : ℕ) (o : Option Part) → (f n).first ≡ o → Has s (begun n o) → Begun f s
begun_of f s n None is has = absurd has
begun_of f s n (Some p) is (inl e) = record { at = n; part = p; first = is; site = sym e }
begun_of f s n (Some p) is (inr other) = absurd other

pub begun_has : (f : ℕ → Entry) (s : Site) (n : ℕ) → Has s (sites_below f n) → Begun f s
unfolding sites_below
begun_has f s zero has = absurd has
begun_has f s (suc n) has =
    elim (has_either s (sites_below f n) (begun n (f n).first) has) [ inl h ↦ begun_has f s n h | inr h ↦ begun_of f s n (f n).first refl h ]

pub same_sites : (f g : ℕ → Entry) (n : ℕ) → ((k : ℕ) → k < n → (g k).first ≡ (f k).first) → sites_below g n ≡ sites_below f n
unfolding sites_below
same_sites f g zero same = refl
same_sites f g (suc n) same =
    ap (λ l. l ++ begun n (g n).first) (same_sites f g n (λ k lt. same k (omega (arith, lt)))) ∙ ap (λ o. sites_below f n ++ begun n o) (same n (omega arith))

pub no_sites : (f : ℕ → Entry) (n : ℕ) → ((k : ℕ) → (f k).first ≡ None) → sites_below f n ≡ []
unfolding sites_below
no_sites f zero none = refl
no_sites f (suc n) none = ap (λ l. l ++ begun n (f n).first) (no_sites f n none) ∙ ap (λ o. begun n o) (none n)

pub one_more : (f g : ℕ → Entry) (m : ℕ) (p : Part) (n : ℕ) → m < n → (f m).first ≡ None → (g m).first ≡ Some p
    → ((k : ℕ) → (k ≡ m → ⊥) → (g k).first ≡ (f k).first) → Inserted (site_at m p) (sites_below f n) (sites_below g n)
unfolding sites_below
one_more f g m p zero below was is others = absurd (omega arith)
one_more f g m p (suc n) below was is others =
    elim (same_or m n) [
      | inl e ↦
          let same = same_sites f g n (λ k lt. others k (λ o. omega (arith, lt, o, e))) in
          let old : sites_below f n ++ begun n (f n).first ≡ sites_below f n = subst (λ k. sites_below f n ++ begun n (f k).first ≡ sites_below f n) e (ap (λ o. sites_below f n ++ begun n o) was ∙ append-nil (sites_below f n)) in
          let new : sites_below g n ++ begun n (g n).first ≡ sites_below f n ++ site_at m p ∷ [] = ap (λ l. l ++ begun n (g n).first) same ∙ subst (λ k. sites_below f n ++ begun k (g k).first ≡ sites_below f n ++ site_at m p ∷ []) e (ap (λ o. sites_below f n ++ begun m o) is) in
          subst (λ l. Inserted (site_at m p) l (sites_below g n ++ begun n (g n).first)) (sym old) (subst (λ l. Inserted (site_at m p) (sites_below f n) l) (sym new) (inserted_last (site_at m p) (sites_below f n)))
      | inr other ↦
          let lt : m < n = elim (le_or n m) [ inl le ↦ absurd (other (omega (arith, le, below))) | inr lt ↦ lt ] in
          let same : (g n).first ≡ (f n).first = others n (λ e. other (sym e)) in
          subst (λ o. Inserted (site_at m p) (sites_below f n ++ begun n (f n).first) (sites_below g n ++ begun n o)) (sym same)
          (inserted_left (site_at m p) (sites_below f n) (sites_below g n) (begun n (f n).first) (one_more f g m p n lt was is others))
    ]
