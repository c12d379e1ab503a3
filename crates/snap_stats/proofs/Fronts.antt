-- A front of what is put in order.
use Rattle.std.proofs.Common.{◌≡◌, ℕ, zero, suc, ◌+◌, ◌<◌, List, [], ◌∷◌, ◌++◌, map, length, get_or, false, refl, sym, subst, ◌∙◌}
use Rattle.std.proofs.Common.{arith, inl, inr}
use Rattle.std.specs.declared.cmp.Ordering.{Ordering}
use Rattle.std.specs.Ordering.{is_lt}
use Rattle.std.specs.Cmp.{IsTotalOrder}
use Rattle.std.specs.List.Sorted.{IsPermutation, IsSplitAround, IsSorted}
use Rattle.std.proofs.lemmas.List.{length-map, map-append, append-nil}
use Rattle.std.proofs.lemmas.List.Sorted.{ranks_by, IsPermutation-map, IsPermutation-trans, IsPermutation-append_left, IsPermutation-sym}
use Rattle.std.proofs.lemmas.List.Sorted.{Contains-permutation, sum_by-IsPermutation}
use Rattle.std.proofs.lemmas.List.Sums.{sum_by-cons}
use Rattle.std.specs.List.{sum_by}
use Rattle.extents.specs.Sums.{tally, Has}
use Rattle.extents.proofs.CallerLemmas.{has_at, tally_length}
use Rattle.snapshot_model.proofs.CallerLemmas.{from_map}
use Rattle.snap_stats.specs.Groups.{AreInOrder, IsFrontOf}

-- ---- members and permutations

module _ {X : Type 0} where
  -- where a member stands
  pub place_of : (x : X) (xs : List X) → Has x xs → (k : ℕ) × (k < length xs) × (get_or xs k x ≡ x)
  place_of x [] h = absurd h
  place_of x (y ∷ ys) (inl e) = (0, omega arith, e)
  place_of x (y ∷ ys) (inr h) = let r = place_of x ys h in (suc r.0, omega arith, r.2)

  pub has_moved : (x : X) (xs ys : List X) → IsPermutation xs ys → Has x xs → Has x ys
  has_moved x xs ys p h =
      let r = Contains-permutation xs ys x p (place_of x xs h) in
      subst (λ (z : X). Has z ys) r.2 (has_at ys r.0 x r.1)

  pub tally_sum : (f : X → ℕ) (xs : List X) → tally f xs ≡ sum_by f xs
  tally_sum f [] = refl
  tally_sum f (x ∷ xs) = let e = tally_sum f xs in omega (arith, sum_by-cons f x xs)

  pub tally_moved : (f : X → ℕ) (xs ys : List X) → IsPermutation xs ys → tally f ys ≡ tally f xs
  tally_moved f xs ys p = tally_sum f ys ∙ sum_by-IsPermutation f xs ys p ∙ sym (tally_sum f xs)

  pub mapped_at : {Y : Type 0} (f : X → Y) (xs : List X) (k : ℕ) (d : Y) (e : X) → k < length xs → get_or (map f xs) k d ≡ f (get_or xs k e)
  mapped_at f [] k d e h = absurd (omega arith)
  mapped_at f (x ∷ xs) zero d e h = refl
  mapped_at f (x ∷ xs) (suc k) d e h = mapped_at f xs k d e (omega arith)

-- ---- what stands elsewhere, with all that belongs to it

pub as_many : {S G : Type 0} (whole : S → G) (xs : List S) (gs : List G) → IsPermutation (map whole xs) gs → length gs ≡ length xs
as_many whole xs gs p =
    sym (tally_length gs) ∙ tally_moved (λ _. 1) (map whole xs) gs p ∙ tally_length (map whole xs) ∙ length-map xs whole

module _ {S G P : Type 0} (cmp : P → P → Ordering) (whole : S → G) (plain : G → P) where
  pub whole_in_order : (xs : List S) → IsSorted (λ a b. cmp (plain (whole b)) (plain (whole a))) xs → AreInOrder cmp plain (map whole xs)
  whole_in_order [] sorted = λ k d z lt. absurd (omega arith)
  whole_in_order (x ∷ xs) sorted = λ k d z lt.
      let all = x ∷ xs in
      let long : length (map whole all) ≡ length all = length-map all whole in
      let a = mapped_at whole all k d x (omega (arith, long)) in
      let b = mapped_at whole all (k + 1) d x (omega (arith, long)) in
      let h = sorted k x z (omega (arith, long)) in
      (λ i. is_lt (cmp (plain (a i)) (plain (b i)))) ∙ h

  -- all are a front with nothing behind
  pub is_whole : (these all : List G) → IsPermutation these all → AreInOrder cmp plain all → IsFrontOf cmp plain these all
  is_whole these all same sorted = record {
    rest = [];
    sorted = sorted;
    same = subst (IsPermutation these) (sym (append-nil all)) same;
    above = λ a b h k. absurd k;
  }

  -- what stands before the place that these are parted at, in order
  pub is_front :
      IsTotalOrder cmp → (these front back : List S) (x : S) (first : List G)
      → IsPermutation these (front ++ x ∷ back)
      → IsSplitAround (λ a b. cmp (plain (whole b)) (plain (whole a))) front x back
      → IsPermutation (map whole front) first → AreInOrder cmp plain first → IsFrontOf cmp plain (map whole these) first
  is_front total these front back x first all split perm sorted =
      record { rest = map whole (x ∷ back); sorted = sorted; same = together; above = above }
    where
      parted : IsPermutation (map whole these) (map whole front ++ map whole (x ∷ back))
      parted = subst (IsPermutation (map whole these)) (map-append whole front (x ∷ back)) (IsPermutation-map whole these (front ++ x ∷ back) all)

      together : IsPermutation (map whole these) (first ++ map whole (x ∷ back))
      together = IsPermutation-trans (map whole these) (map whole front ++ map whole (x ∷ back)) (first ++ map whole (x ∷ back)) parted (IsPermutation-append_left (map whole (x ∷ back)) (map whole front) first perm)

      above : (a b : G) → Has a first → Has b (map whole (x ∷ back)) → is_lt (cmp (plain a) (plain b)) ≡ false
      above a b h k =
          let r = from_map whole a front (has_moved a first (map whole front) (IsPermutation-sym (map whole front) first perm) h) in
          let p = place_of r.0 front r.1 in
          let s = from_map whole b (x ∷ back) k in
          let order = ranks_by total plain in
          let over : is_lt (cmp (plain (whole r.0)) (plain (whole x))) ≡ false
          = subst (λ (z : S). is_lt (cmp (plain (whole z)) (plain (whole x))) ≡ false) p.2 (split.0 p.0 r.0 p.1) in
          let under : is_lt (cmp (plain (whole r.0)) (plain (whole s.0))) ≡ false = elim s.1 [
            | inl e ↦ subst (λ (z : S). is_lt (cmp (plain (whole r.0)) (plain (whole z))) ≡ false) e over
            | inr m ↦
                let q = place_of s.0 back m in
                let last : is_lt (cmp (plain (whole x)) (plain (whole s.0))) ≡ false
                = subst (λ (z : S). is_lt (cmp (plain (whole x)) (plain (whole z))) ≡ false) q.2 (split.1 q.0 s.0 q.1) in
                order.chain (whole r.0) (whole x) (whole s.0) over last
          ] in
          (λ i. is_lt (cmp (plain (r.2 i)) (plain (s.2 i)))) ∙ under
