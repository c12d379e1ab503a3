-- The order of the groups is total and tells each two apart, so a list that falls is determined by its members.
use Rattle.std.proofs.Common.{◌≡◌, ℕ, List, [], ◌∷◌, ◌++◌, length, take, refl, sym, ap, ◌∙◌, subst, true≢false, inl, inr, ◌<◌}
use Rattle.std.specs.declared.cmp.Ordering.{Ordering}
use Rattle.std.specs.declared.cmp.Ordering.TheVariants.{Less, Equal, Greater}
use Rattle.std.specs.Ordering.{ordering_then, ordering_reverse, nat_cmp, is_lt, MatchOrdering}
use Rattle.std.specs.Cmp.{IsTotalOrder}
use Rattle.std.specs.Cmp.Lexicographic.{slice_cmp}
use Rattle.std.proofs.lemmas.Cmp.{nat_cmp_total, nat_list_cmp_total, lists_total, on_total, then_total, tied_itself, ranked}
use Rattle.extents.specs.Sums.{Has}
use Rattle.extents.proofs.CallerLemmas.{has_either}
use Rattle.frame_model.specs.Frames.{PlainFrame}
use Rattle.snapshot_model.specs.Occurrences.{Key, Occurrence}
use Rattle.snapshot_model.specs.Compared.{Change, magnitude, change_cmp, IsCompared}
use Rattle.snapshot_model.specs.Stats.{PlainGroup, frame_cmp, key_cmp, group_cmp, Falls, IsStats, IsGroupOf}

pub frame_cmp_total : IsTotalOrder frame_cmp
frame_cmp_total = then_total (on_total (λ (f : PlainFrame). f.file) nat_list_cmp_total) (on_total (λ (f : PlainFrame). f.line) nat_cmp_total)

pub key_cmp_total : IsTotalOrder key_cmp
key_cmp_total = lists_total frame_cmp_total

pub group_cmp_total : IsTotalOrder group_cmp
group_cmp_total =
    then_total (on_total (λ (l : PlainGroup). l.size) nat_cmp_total)
    (then_total (on_total (λ (l : PlainGroup). l.count) nat_cmp_total) (on_total (λ (l : PlainGroup). l.key) key_cmp_total))

-- ---- Equal is the same

pub then_both : (a b : Ordering) → ordering_then a b ≡ Equal → (a ≡ Equal) × (b ≡ Equal)
then_both Less b h = absurd (cc)
then_both Equal b h = (refl, h)
then_both Greater b h = absurd (cc)

pub same_nat : (x y : ℕ) → nat_cmp x y ≡ Equal → x ≡ y
same_nat x y h = subst (λ (o : Ordering). MatchOrdering o (x < y) (x ≡ y) (y < x)) h (ranked x y (nat_cmp x y) refl)

module _ {X : Type 0} (R : X → X → Ordering) (same : (x y : X) → R x y ≡ Equal → x ≡ y) where
  pub same_list : (xs ys : List X) → slice_cmp R xs ys ≡ Equal → xs ≡ ys
  same_list [] [] h = refl
  same_list [] (y ∷ ys) h = absurd (cc)
  same_list (x ∷ xs) [] h = absurd (cc)
  same_list (x ∷ xs) (y ∷ ys) h =
      let b = then_both (R x y) (slice_cmp R xs ys) h in
      let p : x ≡ y = same x y b.0 in
      let q : xs ≡ ys = same_list xs ys b.1 in
      λ i. p i ∷ q i

pub same_frame : (a b : PlainFrame) → frame_cmp a b ≡ Equal → a ≡ b
same_frame a b h =
    let both = then_both (slice_cmp nat_cmp a.file b.file) (nat_cmp a.line b.line) h in
    let p : a.file ≡ b.file = same_list nat_cmp same_nat a.file b.file both.0 in
    let q : a.line ≡ b.line = same_nat a.line b.line both.1 in
    λ i. record { file = p i; line = q i }

pub same_key : (a b : Key) → key_cmp a b ≡ Equal → a ≡ b
same_key = same_list frame_cmp same_frame

pub same_to_itself : (k : Key) → key_cmp k k ≡ Equal
same_to_itself = tied_itself key_cmp_total

-- ---- a list that falls is determined by its members

module _ {X : Type 0} {R : X → X → Ordering} (o : IsTotalOrder R) where
  pub not_both : (a b : X) → R a b ≡ Less → R b a ≡ Less → ⊥
  not_both a b p q =
      let e : Less ≡ Greater = sym p ∙ o.antisymm a b ∙ ap ordering_reverse q in
      true≢false (ap is_lt e)

  first_same : (x y : X) (xs ys : List X) → Falls R (x ∷ xs) → Falls R (y ∷ ys) → Has x (y ∷ ys) → Has y (x ∷ xs) → x ≡ y
  first_same x y xs ys f g (inl e) b = sym e
  first_same x y xs ys f g (inr a) (inl e) = e
  first_same x y xs ys f g (inr a) (inr b) = absurd (not_both x y (g.0 x a) (f.0 y b))

  -- a member of the rest is in the other's rest
  later : (x y l : X) (xs ys : List X) → x ≡ y → Falls R (x ∷ xs) → Has l xs → Has l (y ∷ ys) → Has l ys
  later x y l xs ys e f h (inr b) = b
  later x y l xs ys e f h (inl d) = let less : R l l ≡ Less = subst (λ (z : X). R l z ≡ Less) (e ∙ d) (f.0 l h) in absurd (not_both l l less less)

  pub falls_same : (xs ys : List X) → Falls R xs → Falls R ys → ((l : X) → Has l xs → Has l ys) → ((l : X) → Has l ys → Has l xs) → xs ≡ ys
  falls_same [] [] f g to from = refl
  falls_same [] (y ∷ ys) f g to from = absurd (from y (inl refl))
  falls_same (x ∷ xs) [] f g to from = absurd (to x (inl refl))
  falls_same (x ∷ xs) (y ∷ ys) f g to from =
      let e : x ≡ y = first_same x y xs ys f g (to x (inl refl)) (from y (inl refl)) in
      let rest : xs ≡ ys = falls_same xs ys f.1 g.1 (λ l h. later x y l xs ys e f h (to l (inr h))) (λ l h. later y x l ys xs (sym e) g h (from l (inr h))) in
      λ i. e i ∷ rest i

  -- a list that falls and is above the rest is the front of the list that falls and has all
  pub front_of : (xs rest ls : List X) → Falls R xs → ((a b : X) → Has a xs → Has b rest → R b a ≡ Less) → Falls R ls → ((l : X) → Has l (xs ++ rest) → Has l ls) → ((l : X) → Has l ls → Has l (xs ++ rest)) → xs ≡ take (length xs) ls
  front_of [] rest ls f up g to from = refl
  front_of (x ∷ xs) rest [] f up g to from = absurd (to x (inl refl))
  front_of (x ∷ xs) rest (y ∷ ys) f up g to from =
      let above = λ (z : X) (h : Has z (xs ++ rest)). let r : R z x ≡ Less = elim (has_either z xs rest h) [ inl p ↦ f.0 z p | inr q ↦ up x z (inl refl) q ] in r in
      let e : x ≡ y = elim (to x (inl refl)) [
        | inl d ↦ sym d
        | inr a ↦ elim (from y (inl refl)) [ inl d ↦ d | inr b ↦ absurd (not_both x y (g.0 x a) (above y b)) ]
      ] in
      let not_first = λ (l : X) (d : l ≡ x) (less : R l x ≡ Less). let itself : R l l ≡ Less = subst (λ (z : X). R l z ≡ Less) (sym d) less in not_both l l itself itself in
      let to_rest = λ (l : X) (h : Has l (xs ++ rest)). let r : Has l ys = elim (to l (inr h)) [ inl d ↦ absurd (not_first l (sym d ∙ sym e) (above l h)) | inr c ↦ c ] in r in
      let from_rest = λ (l : X) (h : Has l ys). let r : Has l (xs ++ rest) = elim (from l (inr h)) [
        | inl d ↦ absurd (not_first l (sym d) (subst (λ (z : X). R l z ≡ Less) (sym e) (g.0 l h)))
        | inr c ↦ c
      ] in r in
      let tail : xs ≡ take (length xs) ys = front_of xs rest ys f.1 (λ a b p q. up a b (inr p) q) g.1 to_rest from_rest in
      λ i. e i ∷ tail i

pub one_list : (occurrences : List Occurrence) (xs ys : List PlainGroup) → IsStats occurrences xs → IsStats occurrences ys → xs ≡ ys
one_list os xs ys a b = falls_same group_cmp_total xs ys a.falls b.falls (λ l h. b.all l (a.each l h)) (λ l h. a.all l (b.each l h))

pub change_cmp_total : IsTotalOrder change_cmp
change_cmp_total =
    then_total (on_total (λ (c : Change). magnitude c.size_diff) nat_cmp_total)
    (then_total (on_total (λ (c : Change). c.size) nat_cmp_total)
    (then_total (on_total (λ (c : Change). magnitude c.count_diff) nat_cmp_total)
    (then_total (on_total (λ (c : Change). c.count) nat_cmp_total) (on_total (λ (c : Change). c.key) key_cmp_total))))

pub one_comparison : (new old : List Occurrence) (xs ys : List Change) → IsCompared new old xs → IsCompared new old ys → xs ≡ ys
one_comparison new old xs ys a b = falls_same change_cmp_total xs ys a.falls b.falls (λ c h. b.all c (a.each c h)) (λ c h. a.all c (b.each c h))

pub first_groups : (occurrences : List Occurrence) (front rest groups : List PlainGroup) → Falls group_cmp front → ((a b : PlainGroup) → Has a front → Has b rest → group_cmp b a ≡ Less) → ((l : PlainGroup) → Has l (front ++ rest) → IsGroupOf occurrences l) → ((l : PlainGroup) → IsGroupOf occurrences l → Has l (front ++ rest)) → IsStats occurrences groups → front ≡ take (length front) groups
first_groups os front rest groups f up each all is = front_of group_cmp_total front rest groups f up is.falls (λ l h. is.all l (each l h)) (λ l h. all l (is.each l h))
