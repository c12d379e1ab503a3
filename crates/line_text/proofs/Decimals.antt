-- Numbers of few digits in decimal, digit by digit.
use Rattle.std.proofs.Common.{◌≡◌, ℕ, ◌+◌, ◌/◌, ◌%◌, ◌^◌, ◌<◌, ◌≤◌, List, [], ◌∷◌, ◌++◌, ap, ◌∙◌, arith}
use Rattle.std.specs.Prelude.{decimal}
use Rattle.std.proofs.lemmas.Fmt.{decimal_digit, decimal_step}

-- the last digit of a number
abbrev pub last : ℕ → ℕ
last n = 48 + n % 10

one_more : (n : ℕ) (front : List ℕ) → 10 ≤ n → n < 2 ^ 64 → decimal (n / 10) ≡ front → decimal n ≡ front ++ last n ∷ []
one_more n front ge lt is = decimal_step n ge lt ∙ ap (λ (l : List ℕ). l ++ last n ∷ []) is

pub one_digit : (n : ℕ) → n < 10 → decimal n ≡ last n ∷ []
one_digit n lt = decimal_digit n lt ∙ ap (λ (d : ℕ). d ∷ []) (omega arith)

pub two_digits : (n : ℕ) → 10 ≤ n → n < 100 → decimal n ≡ last (n / 10) ∷ last n ∷ []
two_digits n ge lt = one_more n (last (n / 10) ∷ []) ge (omega arith) (one_digit (n / 10) (omega arith))

pub three_digits : (n : ℕ) → 100 ≤ n → n < 1000 → decimal n ≡ last (n / 100) ∷ last (n / 10) ∷ last n ∷ []
three_digits n ge lt =
    let a : n / 10 / 10 ≡ n / 100 = omega arith in
    one_more n (last (n / 100) ∷ last (n / 10) ∷ []) (omega arith) (omega arith)
    (two_digits (n / 10) (omega arith) (omega arith) ∙ (λ i. last (a i) ∷ last (n / 10) ∷ []))

pub four_digits : (n : ℕ) → 1000 ≤ n → n < 10000 → decimal n ≡ last (n / 1000) ∷ last (n / 100) ∷ last (n / 10) ∷ last n ∷ []
four_digits n ge lt =
    let a : n / 10 / 100 ≡ n / 1000 = omega arith in
    let b : n / 10 / 10 ≡ n / 100 = omega arith in
    one_more n (last (n / 1000) ∷ last (n / 100) ∷ last (n / 10) ∷ []) (omega arith) (omega arith)
    (three_digits (n / 10) (omega arith) (omega arith) ∙ (λ i. last (a i) ∷ last (b i) ∷ last (n / 10) ∷ []))

pub five_digits : (n : ℕ) → 10000 ≤ n → n < 100000
    → decimal n ≡ last (n / 10000) ∷ last (n / 1000) ∷ last (n / 100) ∷ last (n / 10) ∷ last n ∷ []
five_digits n ge lt =
    let a : n / 10 / 1000 ≡ n / 10000 = omega arith in
    let b : n / 10 / 100 ≡ n / 1000 = omega arith in
    let d : n / 10 / 10 ≡ n / 100 = omega arith in
    one_more n (last (n / 10000) ∷ last (n / 1000) ∷ last (n / 100) ∷ last (n / 10) ∷ []) (omega arith) (omega arith)
    (four_digits (n / 10) (omega arith) (omega arith) ∙ (λ i. last (a i) ∷ last (b i) ∷ last (d i) ∷ last (n / 10) ∷ []))

pub six_digits : (n : ℕ) → 100000 ≤ n → n < 1000000
    → decimal n ≡ last (n / 100000) ∷ last (n / 10000) ∷ last (n / 1000) ∷ last (n / 100) ∷ last (n / 10) ∷ last n ∷ []
six_digits n ge lt =
    let a : n / 10 / 10000 ≡ n / 100000 = omega arith in
    let b : n / 10 / 1000 ≡ n / 10000 = omega arith in
    let d : n / 10 / 100 ≡ n / 1000 = omega arith in
    let e : n / 10 / 10 ≡ n / 100 = omega arith in
    one_more n (last (n / 100000) ∷ last (n / 10000) ∷ last (n / 1000) ∷ last (n / 100) ∷ last (n / 10) ∷ [])
    (omega arith) (omega arith)
    (five_digits (n / 10) (omega arith) (omega arith)
    ∙ (λ i. last (a i) ∷ last (b i) ∷ last (d i) ∷ last (e i) ∷ last (n / 10) ∷ []))

pub ruleset few_digits = (one_digit, two_digits, three_digits, four_digits, five_digits, six_digits)
