-- The first part of a list that is cut at an element.
use Rattle.std.proofs.Common.{◌≡◌, ◌==◌, ℕ, zero, suc, ◌+◌, ◌-◌, ◌<◌, ◌≤◌, inl, inr, Bool, true, false, List}
use Rattle.std.proofs.Common.{[], ◌∷◌, ◌++◌, length, get_or, map, take, drop, refl, sym, ap, ◌∙◌, arith}
use Rattle.std.proofs.Common.{append_assoc, length-drop, add-one}
use Rattle.std.proofs.lemmas.Bool.{cases_lt}
use Rattle.std.proofs.lemmas.Bool.Decides.{nat_tests}
use Rattle.std.proofs.lemmas.List.{take_all, get_or-drop, map-append, drop-drop, length-take-le}
use Rattle.std.proofs.lemmas.List.Splits.{slice_split-cons_yes, slice_split-cons_no}
use Rattle.std.specs.List.{slice_split, onto_first}
use Rattle.trace_model.specs.Operands.{is_between}
use Rattle.trace_model.specs.Spelling.{blank}

module _ (p : ℕ → Bool) where
  pub uncut : (xs : List ℕ) → ((k : ℕ) → k < length xs → p (get_or xs k 0) ≡ true → ⊥) → slice_split p xs ≡ xs ∷ []
  uncut [] none = refl
  uncut (x ∷ xs) none =
      let no : p x ≡ false = is_false (p x) (none 0 (omega arith)) in
      slice_split-cons_no p x xs no ∙ ap (onto_first x) (uncut xs (λ k lt. none (suc k) (omega arith)))
    where
      is_false : (b : Bool) → (b ≡ true → ⊥) → b ≡ false
      is_false true h = absurd (h refl)
      is_false false h = refl

  pub cut_at : (xs : List ℕ) (k : ℕ) → k < length xs → ((j : ℕ) → j < k → p (get_or xs j 0) ≡ true → ⊥) → p (get_or xs k 0) ≡ true → slice_split p xs ≡ take k xs ∷ slice_split p (drop (suc k) xs)
  cut_at [] k lt none passes = absurd (omega arith)
  cut_at (x ∷ xs) zero lt none passes = slice_split-cons_yes p x xs passes
  cut_at (x ∷ xs) (suc k) lt none passes =
      let no : p x ≡ false = is_false (p x) (none 0 (omega arith)) in
      slice_split-cons_no p x xs no ∙ ap (onto_first x) (cut_at xs k (omega arith) (λ j below. none (suc j) (omega arith)) passes)
    where
      is_false : (b : Bool) → (b ≡ true → ⊥) → b ≡ false
      is_false true h = absurd (h refl)
      is_false false h = refl

-- what a range from a place to the end is
pub tail_is : (xs : List ℕ) (at : ℕ) → take (length xs - at) (drop at xs) ≡ drop at xs
tail_is xs at = take_all (length xs - at) (drop at xs) (omega (arith, length-drop at xs))

pub cut : (p : ℕ → Bool) (xs : List ℕ) (k : ℕ) → k < length xs → ((j : ℕ) → j < k → p (get_or xs j 0) ≡ true → ⊥) → p (get_or xs k 0) ≡ true
    → (slice_split p xs ≡ take k xs ∷ slice_split p (take (length xs - (k + 1)) (drop (k + 1) xs))) × (length (take k xs) + length (take (length xs - (k + 1)) (drop (k + 1) xs)) + 1 ≡ length xs)
cut p xs k lt none passes =
    let tail = tail_is xs (k + 1) in (
      cut_at p xs k lt none passes ∙ ap (λ (t : List ℕ). take k xs ∷ slice_split p t) (ap (λ (n : ℕ). drop n xs) (sym (add-one k)) ∙ sym tail),
      omega (arith, lt, length-take-le k xs (omega (arith, lt)), ap length tail, length-drop (k + 1) xs),
    )

-- ---- the words of a line

-- a sign prints, and is no blank
pub sign_is_plain : (b : ℕ) → is_between 33 126 b ≡ true → (is_between 32 126 b ≡ true) × ((b == blank) ≡ false)
sign_is_plain b sign = (grind (arith, nat_tests), grind (arith, nat_tests))

-- no byte from a place on to another is one that parts
abbrev pub IsUncut : (ℕ → Bool) → List ℕ → ℕ → ℕ → Type 0
IsUncut p line start at = (k : ℕ) → start ≤ k → k < at → p (get_or line k 0) ≡ false

pub uncut_more : (p : ℕ → Bool) (line : List ℕ) (start at : ℕ) → IsUncut p line start at → p (get_or line at 0) ≡ false → IsUncut p line start (at + 1)
uncut_more p line start at none fresh k from below = elim (cases_lt k at) [
  | inl before ↦ none k from before
  | inr here ↦ ap (λ (n : ℕ). p (get_or line n 0)) {x = k} {y = at} (omega (arith, here, below)) ∙ fresh
]

-- a word is pushed
pub pushed : {B : Type 0} (f : B → List ℕ) (olds news : List B) (b : B) → news ≡ olds ++ b ∷ [] → map f news ≡ map f olds ++ f b ∷ []
pushed f olds news b is = ap (map f) is ∙ map-append f olds (b ∷ [])

module _ (p : ℕ → Bool) (line : List ℕ) (start : ℕ) (words : List (List ℕ)) (total : List (List ℕ)) (so_far : words ++ slice_split p (drop start line) ≡ total) where
  behind : (at : ℕ) → IsUncut p line start at → (j : ℕ) → start + j < at → p (get_or (drop start line) j 0) ≡ true → ⊥
  behind at none j below passes =
      let at_j : p (get_or line (start + j) 0) ≡ true = ap p (sym (get_or-drop start line j 0)) ∙ passes in
      let no = none (start + j) (omega arith) below in
      absurd cc

  -- one more word, up to a byte that parts
  pub one_more_word : (at : ℕ) → start ≤ at → at < length line → IsUncut p line start at → p (get_or line at 0) ≡ true
      → (words ++ take (at - start) (drop start line) ∷ []) ++ slice_split p (drop (at + 1) line) ≡ total
  one_more_word at begun within none passes =
      let xs = drop start line in
      let word = take (at - start) xs in
      let here : p (get_or xs (at - start) 0) ≡ true = ap p (get_or-drop start line (at - start) 0 ∙ ap (λ (n : ℕ). get_or line n 0) (omega (arith, begun))) ∙ passes in
      let parted : slice_split p xs ≡ word ∷ slice_split p (drop (suc (at - start)) xs) =
      cut_at p xs (at - start) (omega (arith, begun, within, length-drop start line)) (λ j below. behind at none j (omega (arith, below, begun))) here
      in
      let rest : drop (suc (at - start)) xs ≡ drop (at + 1) line = drop-drop (suc (at - start)) start line ∙ ap (λ (n : ℕ). drop n line) (omega (arith, begun)) in
      append_assoc words (word ∷ []) (slice_split p (drop (at + 1) line)) ∙ ap (λ ys. words ++ word ∷ slice_split p ys) (sym rest) ∙ ap (λ ys. words ++ ys) (sym parted) ∙ so_far

  -- the last word
  pub last_word : start ≤ length line → IsUncut p line start (length line) → words ++ take (length line - start) (drop start line) ∷ [] ≡ total
  last_word begun none = ap (λ (w : List ℕ). words ++ w ∷ []) (tail_is line start) ∙ ap (λ ws. words ++ ws) (sym (uncut p (drop start line) (λ j below. behind (length line) none j (omega (arith, length-drop start line, below))))) ∙ so_far
