-- One bit of several words.
use Rattle.std.proofs.Common.{◌≡◌, ◌≢◌, ℕ, zero, suc, ◌+◌, ◌-◌, ◌*◌, ◌/◌, ◌%◌, ◌^◌, ◌<◌, inl, inr, List, [], ◌∷◌, length, get_or, set, refl, sym, ap, ◌∙◌, arith}
use Rattle.std.proofs.lemmas.Bool.Decides.{eqb_tells, leb_tells}
use Rattle.std.proofs.lemmas.List.{get_or-set_same, get_or-set_other}
use Rattle.std.proofs.lemmas.Nat.Bits.{bit_at_ones, bit_at-trailing_ones}
use Rattle.std.specs.Int.{bit_at, trailing_ones, w64}
use Rattle.sources.specs.Bits.{bit_in}

-- what is there does not depend on the default
get_or_any : (xs : List ℕ) (i d e : ℕ) → i < length xs → get_or xs i d ≡ get_or xs i e
get_or_any [] i d e lt = absurd (omega arith)
get_or_any (x ∷ xs) zero d e lt = refl
get_or_any (x ∷ xs) (suc i) d e lt = get_or_any xs i d e (omega arith)

-- one word has changed, and in it one bit
module _ (words : List ℕ) (k w : ℕ) (inside : k < 64 * length words) where
  -- the word that was read
  pub same_word : (v : ℕ) → v ≡ get_or words (k / 64) v → v ≡ get_or words (k / 64) 0
  same_word v read = read ∙ get_or_any words (k / 64) v 0 (omega arith)

  pub one_changed : (b : ℕ) → bit_at w (k % 64) ≡ b → bit_in (set words (k / 64) w) k ≡ b
  one_changed b is = ap (λ v. bit_at v (k % 64)) (get_or-set_same words (k / 64) w 0 (omega arith)) ∙ is

  pub others_kept : ((i : ℕ) → i < 64 → i ≢ k % 64 → bit_at w i ≡ bit_at (get_or words (k / 64) 0) i) → (j : ℕ) → j ≢ k → bit_in (set words (k / 64) w) j ≡ bit_in words j
  others_kept keeps j other = elim (eqb_tells (j / 64) (k / 64)) [
    | inl same ↦
        let e = same.1 in
        ap (λ v. bit_at v (j % 64)) (ap (λ i. get_or (set words (k / 64) w) i 0) e ∙ get_or-set_same words (k / 64) w 0 (omega arith))
        ∙ (keeps (j % 64) (omega arith) (λ f. other (omega arith)) ∙ ap (λ i. bit_at (get_or words i 0) (j % 64)) (sym e))
    | inr apart ↦ ap (λ v. bit_at v (j % 64)) (get_or-set_other words (k / 64) (j / 64) w 0 apart.1)
  ]

-- the words before one of them are full, and so its first 0 is the first of all
module _ (words : List ℕ) (at : ℕ) (full : (i : ℕ) → i < at → get_or words i 0 ≡ 2 ^ 64 - 1) where
  pub full_below : (j : ℕ) → j < 64 * at → bit_in words j ≡ 1
  full_below j lt = ap (λ w. bit_at w (j % 64)) (full (j / 64) (omega arith)) ∙ bit_at_ones 64 (j % 64) (omega arith)

  module _ (word : ℕ) (is : get_or words at 0 ≡ word) (some : word + 1 < 2 ^ 64) where
    abbrev first : ℕ
    first = at * 64 + trailing_ones w64 word

    pub low : trailing_ones w64 word < 64
    low = (bit_at-trailing_ones w64 word some).0

    pub first_is_clear : bit_in words first ≡ 0
    first_is_clear =
        let l = low in
        let place : first / 64 ≡ at = omega arith in let bit : first % 64 ≡ trailing_ones w64 word = omega arith in
        (λ i. bit_at (get_or words (place i) 0) (bit i)) ∙ (ap (λ v. bit_at v (trailing_ones w64 word)) is ∙ (bit_at-trailing_ones w64 word some).1)

    pub all_before : (j : ℕ) → j < first → bit_in words j ≡ 1
    all_before j lt = elim (leb_tells (64 * at) j) [
      | inl w ↦
          let l = low in let m = w.1 in
          let place : j / 64 ≡ at = omega arith in
          ap (λ i. bit_at (get_or words i 0) (j % 64)) place ∙ (ap (λ v. bit_at v (j % 64)) is ∙ (bit_at-trailing_ones w64 word some).2 (j % 64) (omega arith))
      | inr w ↦ full_below j w.1
    ]
