-- An operand that is read is spelled so, and what is spelled so is read.
use Rattle.std.proofs.Common.{◌≡◌, ℕ, zero, suc, ◌+◌, ◌-◌, ◌*◌, ◌/◌, ◌%◌, ◌^◌, ◌<◌, ◌≤◌, Bool, true, false}
use Rattle.std.proofs.Common.{cond, ◌&&◌, List, [], ◌∷◌, length, get_or, Option, Some, None, Result, Ok, Err}
use Rattle.std.proofs.Common.{ℤ, pos, negsuc, lit<, refl, sym, ap, subst, ◌∙◌, arith, inl, inr, ◌⊎◌}
use Rattle.std.proofs.Common.{true≢false, rules}
use Rattle.std.specs.Prelude.{nat_lt, nat_le, ◌==◌, decimal}
use Rattle.std.specs.List.{AllByRecursion}
use Rattle.std.specs.Fmt.{signed_decimal}
use Rattle.std.specs.Str.{bytes_eq}
use Rattle.std.proofs.lemmas.Bool.{eqb-true, ltb-true, leb-true, lt-ltb, le-ltb, le-leb, lt-leb, cases_lt}
use Rattle.std.proofs.lemmas.Fmt.{digits_decimal, digits_value-decimal, decimal-digits_value}
use Rattle.std.proofs.lemmas.Fmt.{decimal_nonempty, first_decimal, decimal_digit}
use Rattle.std.proofs.lemmas.Slice.Eq.{bytes_eq-Decides}
use Rattle.std.proofs.lemmas.Str.Parse.{IsNumeralModel, numerals_by_fold}
use Rattle.mem_base.specs.declared.trace.KeyKind.{KeyKind}
use Rattle.mem_base.specs.declared.trace.KeyKind.TheVariants.{Filename, Lineno, Traceback}
use Rattle.mem_base.specs.declared.trace.Letter.{Letter}
use Rattle.mem_base.specs.declared.trace.Letter.TheVariants.{Raw, Mem, Obj}
use Rattle.mem_base.specs.declared.trace.Side.{Side}
use Rattle.mem_base.specs.declared.trace.Side.TheVariants as sides
use Rattle.mem_base.specs.Offset.{IsOffset}
use Rattle.trace_model.specs.declared.cause.TraceCause.{TraceCause}
use Rattle.trace_model.specs.declared.cause.TraceCause.TheVariants.{UnknownWord, BadNumber, BadRange, BadName}
use Rattle.trace_model.specs.Operands.{◌>>=◌, is_between, is_file, is_name, letter_word, side_word, hex_word}
use Rattle.trace_model.specs.Operands.{glyph, digits_from, number_at, forward_at, backward_at, offset_at}
use Rattle.trace_model.specs.Operands.{number_in, name_at, file_at, letter_at, side_at, digit_of, with_byte}
use Rattle.trace_model.specs.Operands.{hex_from, key_word, mode_word, may_be, key_at, mode_with, mode_at}

-- the value of a step that did not fail
pub bind_ok : {A B : Type 0} (r : Result A TraceCause) (f : A → Result B TraceCause) (y : B) → (r >>= f) ≡ Ok y → (x : A) × (r ≡ Ok x) × (f x ≡ Ok y)
bind_ok (Ok x) f y e = (x, refl, e)
bind_ok (Err d) f y e = absurd cc

-- a test that did not fail
pub test_holds : {A : Type 0} (b : Bool) (r : Result A TraceCause) (d : TraceCause) (y : A) → cond b r (Err d) ≡ Ok y → (b ≡ true) × (r ≡ Ok y)
test_holds true r d y e = (refl, e)
test_holds false r d y e = absurd cc

-- a test whose failure would be a fault
pub test_fails : {A : Type 0} (b : Bool) (r : Result A TraceCause) (d : TraceCause) (y : A) → cond b (Err d) r ≡ Ok y → (b ≡ false) × (r ≡ Ok y)
test_fails true r d y e = absurd cc
test_fails false r d y e = (refl, e)

abbrev done : {A : Type 0} → A → Result A TraceCause
done x = Ok x

pub ok_is : {A : Type 0} (x y : A) → done x ≡ done y → x ≡ y
ok_is x y e = cc

-- ---- numbers

abbrev pub read_on : ℕ → List ℕ → ℕ
read_on n [] = n
read_on n (c ∷ cs) = read_on (10 * n + (c - 48)) cs

abbrev pub are_digits : List ℕ → Bool
are_digits [] = true
are_digits (c ∷ cs) = is_between 48 57 c && are_digits cs

pub own : IsNumeralModel (λ ds. are_digits ds ≡ true) (read_on 0)
own = numerals_by_fold _ (search rules) read_on (search rules)

pub both : (a b : Bool) → (a && b) ≡ true → (a ≡ true) × (b ≡ true)
both true b e = (refl, e)
both false b e = absurd cc

digits_take : (n : ℕ) (cs : List ℕ) (m : ℕ) → digits_from n cs ≡ Ok m → (are_digits cs ≡ true) × (read_on n cs ≡ m) × (n < 2 ^ 64 → m < 2 ^ 64)
digits_take n [] m e =
    let same : n ≡ m = cc in
    (refl, same, λ lt. subst (λ (k : ℕ). k < 2 ^ 64) same lt)
digits_take n (c ∷ cs) m e =
    let p = test_holds (is_between 48 57 c && nat_lt (n * 10 + (c - 48)) (2 ^ 64)) (digits_from (n * 10 + (c - 48)) cs) BadNumber m e in
    let b = both (is_between 48 57 c) (nat_lt (n * 10 + (c - 48)) (2 ^ 64)) p.0 in
    let rest = digits_take (n * 10 + (c - 48)) cs m p.1 in
    let step : 10 * n + (c - 48) ≡ n * 10 + (c - 48) = omega arith in
    (ap (λ (v : Bool). v && are_digits cs) b.0 ∙ rest.0, ap (λ (k : ℕ). read_on k cs) step ∙ rest.1, λ lt. rest.2 (ltb-true _ _ b.1))

grows : (n : ℕ) (cs : List ℕ) → n ≤ read_on n cs
grows n [] = omega arith
grows n (c ∷ cs) = omega (arith, grows (10 * n + (c - 48)) cs)

digits_again : (n : ℕ) (cs : List ℕ) → are_digits cs ≡ true → read_on n cs < 2 ^ 64 → digits_from n cs ≡ Ok (read_on n cs)
digits_again n [] are lt = refl
digits_again n (c ∷ cs) are lt =
    let b = both (is_between 48 57 c) (are_digits cs) are in
    let step : n * 10 + (c - 48) ≡ 10 * n + (c - 48) = omega arith in
    let small : nat_lt (n * 10 + (c - 48)) (2 ^ 64) ≡ true = lt-ltb _ _ (omega (arith, grows (10 * n + (c - 48)) cs, lt)) in
    ap (λ (v : Bool). cond v (digits_from (n * 10 + (c - 48)) cs) (Err BadNumber)) (ap (λ (v : Bool). v && nat_lt (n * 10 + (c - 48)) (2 ^ 64)) b.0 ∙ small)
    ∙ ap (λ (k : ℕ). digits_from k cs) step ∙ digits_again (10 * n + (c - 48)) cs b.1 lt

not_zero : (c : ℕ) → (c == 48) ≡ false → c ≡ 48 → ⊥
not_zero c other is = true≢false (sym (ap (λ (n : ℕ). n == 48) is) ∙ other)

number_by : (w : List ℕ) (n : ℕ) → are_digits w ≡ true → read_on 0 w ≡ n → n < 2 ^ 64 → 0 < length w → (get_or w 0 0 ≡ 48 → length w ≡ 1) → (w ≡ decimal n) × (n < 2 ^ 64)
number_by w n are is lt some first =
    (sym (decimal-digits_value own w are some first (subst (λ (k : ℕ). k < 2 ^ 64) (sym is) lt)) ∙ ap decimal is, lt)

pub number_takes : (w : List ℕ) (n : ℕ) → number_at w ≡ Ok n → (w ≡ decimal n) × (n < 2 ^ 64)
number_takes [] n e = absurd cc
number_takes (c ∷ []) n e =
    let t = digits_take 0 (c ∷ []) n e in
    number_by (c ∷ []) n t.0 t.1 (t.2 (lit< tt)) (lit< tt) (λ h. refl)
number_takes (c ∷ d ∷ ds) n e =
    let p = test_fails (c == 48) (digits_from 0 (c ∷ d ∷ ds)) BadNumber n e in
    let t = digits_take 0 (c ∷ d ∷ ds) n p.1 in
    number_by (c ∷ d ∷ ds) n t.0 t.1 (t.2 (lit< tt)) (omega arith) (λ h. absurd (not_zero c p.0 h))

number_of : (w : List ℕ) → are_digits w ≡ true → 0 < length w → (get_or w 0 0 ≡ 48 → length w ≡ 1) → read_on 0 w < 2 ^ 64 → number_at w ≡ Ok (read_on 0 w)
number_of [] are some first lt = absurd (omega arith)
number_of (c ∷ []) are some first lt = digits_again 0 (c ∷ []) are lt
number_of (c ∷ d ∷ ds) are some first lt =
    ap (λ (v : Bool). cond v (Err BadNumber) (digits_from 0 (c ∷ d ∷ ds))) (differ (c == 48) refl) ∙ digits_again 0 (c ∷ d ∷ ds) are lt
  where
    differ : (v : Bool) → (c == 48) ≡ v → v ≡ false
    differ true e = absurd (two (first (eqb-true c 48 e)))
      where
        two : length (c ∷ d ∷ ds) ≡ 1 → ⊥
        two h = absurd (omega arith)
    differ false e = refl

pub number_again : (n : ℕ) → n < 2 ^ 64 → number_at (decimal n) ≡ Ok n
number_again n lt =
    let value : read_on 0 (decimal n) ≡ n = digits_value-decimal own n lt in
    number_of (decimal n) (digits_decimal own n lt) (decimal_nonempty n lt) (first n lt) (subst (λ (k : ℕ). k < 2 ^ 64) (sym value) lt) ∙ ap (λ (k : ℕ). done k) value
  where
    first : (k : ℕ) → k < 2 ^ 64 → get_or (decimal k) 0 0 ≡ 48 → length (decimal k) ≡ 1
    first zero lt h = ap length (decimal_digit 0 (lit< tt))
    first (suc k) lt h = absurd (omega (arith, first_decimal (suc k) (omega arith) lt, h))

-- a number that is read is in its range
pub ranged_takes : (least most : ℕ) (w : List ℕ) (n : ℕ) → number_in least most w ≡ Ok n → (w ≡ decimal n) × (least ≤ n) × (n ≤ most)
unfolding number_in
ranged_takes least most w n e =
    let b = bind_ok (number_at w) (λ k. cond (is_between least most k) (Ok k) (Err BadRange)) n e in
    let t = number_takes w b.0 b.1 in
    let p = test_holds (is_between least most b.0) (Ok b.0) BadRange n b.2 in
    let r = both (nat_le least b.0) (nat_le b.0 most) p.0 in
    subst (λ (k : ℕ). (w ≡ decimal k) × (least ≤ k) × (k ≤ most)) (ok_is b.0 n p.1) (t.0, leb-true _ _ r.0, leb-true _ _ r.1)

pub ranged_again : (least most n : ℕ) → most < 2 ^ 64 → least ≤ n → n ≤ most → number_in least most (decimal n) ≡ Ok n
unfolding number_in
ranged_again least most n fits low high = rw (number_again n (omega (arith, fits, high)), le-leb _ _ low, le-leb _ _ high) refl

-- ---- offsets

forward_takes : (n : ℕ) (z : ℤ) → forward_at n ≡ Ok z → (z ≡ pos n) × (n < 2 ^ 63)
forward_takes n z e =
    let p = test_holds (nat_lt n (2 ^ 63)) (Ok (pos n)) BadRange z e in
    (sym (ok_is (pos n) z p.1), ltb-true _ _ p.0)

backward_takes : (n : ℕ) (z : ℤ) → backward_at n ≡ Ok z → (m : ℕ) × (n ≡ suc m) × (z ≡ negsuc m) × (m < 8)
backward_takes zero z e = absurd cc
backward_takes (suc m) z e =
    let p = test_holds (nat_lt m 8) (Ok (negsuc m)) BadRange z e in
    (m, refl, sym (ok_is (negsuc m) z p.1), ltb-true _ _ p.0)

pub offset_takes : (w : List ℕ) (z : ℤ) → offset_at w ≡ Ok z → (w ≡ signed_decimal z) × IsOffset z
unfolding offset_at
offset_takes [] z e = absurd cc
offset_takes (c ∷ cs) z e = by (c == 45) refl e
  where
    by : (b : Bool) → (c == 45) ≡ b → cond b (number_at cs >>= backward_at) (number_at (c ∷ cs) >>= forward_at) ≡ Ok z → (c ∷ cs ≡ signed_decimal z) × IsOffset z
    by true is h =
        let n = bind_ok (number_at cs) backward_at z h in
        let t = number_takes cs n.0 n.1 in
        let m = backward_takes n.0 z n.2 in
        let minus : c ≡ 45 = eqb-true c 45 is in
        subst (λ (y : ℤ). (c ∷ cs ≡ signed_decimal y) × IsOffset y) (sym m.2) ((λ i. minus i ∷ (t.0 ∙ ap decimal m.1) i), m.3)
    by false is h =
        let n = bind_ok (number_at (c ∷ cs)) forward_at z h in
        let t = number_takes (c ∷ cs) n.0 n.1 in
        let f = forward_takes n.0 z n.2 in
        subst (λ (y : ℤ). (c ∷ cs ≡ signed_decimal y) × IsOffset y) (sym f.0) (t.0, f.1)

no_minus : (c : ℕ) → is_between 48 57 c ≡ true → (c == 45) ≡ false
no_minus c digit = by (c == 45) refl
  where
    by : (b : Bool) → (c == 45) ≡ b → b ≡ false
    by true is = absurd (true≢false (sym digit ∙ ap (is_between 48 57) (eqb-true c 45 is)))
    by false is = refl

offset_forward : (w : List ℕ) (n : ℕ) → are_digits w ≡ true → number_at w ≡ Ok n → n < 2 ^ 63 → offset_at w ≡ Ok (pos n)
unfolding offset_at
offset_forward [] n are read lt = absurd cc
offset_forward (c ∷ cs) n are read lt =
    ap (λ (b : Bool). cond b (number_at cs >>= backward_at) (number_at (c ∷ cs) >>= forward_at)) (no_minus c (both (is_between 48 57 c) (are_digits cs) are).0)
    ∙ ap (λ (r : Result ℕ TraceCause). r >>= forward_at) read ∙ ap (λ (b : Bool). cond b (Ok (pos n)) (Err BadRange)) (lt-ltb _ _ lt)

pub offset_again : (z : ℤ) → IsOffset z → offset_at (signed_decimal z) ≡ Ok z
unfolding offset_at
offset_again (pos n) lt =
    let small : n < 2 ^ 64 = omega (arith, lt) in
    offset_forward (decimal n) n (digits_decimal own n small) (number_again n small) lt
offset_again (negsuc n) lt =
    ap (λ (r : Result ℕ TraceCause). r >>= backward_at) (number_again (suc n) (omega (arith, lt))) ∙ ap (λ (b : Bool). cond b (Ok (negsuc n)) (Err BadRange)) (lt-ltb _ _ lt)

-- ---- names, files, letters and sides

pub name_takes : (w : List ℕ) (u : Unit {0}) → name_at w ≡ Ok u → is_name w ≡ true
name_takes w u e = (test_holds (is_name w) (Ok tt) BadName u e).0

pub file_takes : (w : List ℕ) (u : Unit {0}) → file_at w ≡ Ok u → is_file w ≡ true
file_takes w u e = (test_holds (is_file w) (Ok tt) BadName u e).0

-- one of several texts
pub one_of : {K : Type 0} (text : K → List ℕ) (w : List ℕ) (k : K) (rest : Result K TraceCause) (y : K) → cond (bytes_eq w (text k)) (Ok k) rest ≡ Ok y → (w ≡ text y) ⊎ (rest ≡ Ok y)
one_of {K} text w k rest y e = by (bytes_eq w (text k)) refl e
  where
    by : (b : Bool) → bytes_eq w (text k) ≡ b → cond b (Ok k) rest ≡ Ok y → (w ≡ text y) ⊎ (rest ≡ Ok y)
    by true is h = inl ((bytes_eq-Decides w (text k)).0 is ∙ ap text (ok_is k y h))
    by false is h = inr h

pub letter_takes : (w : List ℕ) (l : Letter) → letter_at w ≡ Ok l → w ≡ letter_word l
unfolding letter_at
letter_takes w l e = elim (one_of letter_word w Raw _ l e) [
  | inl h ↦ h
  | inr e1 ↦ elim (one_of letter_word w Mem _ l e1) [
    | inl h ↦ h
    | inr e2 ↦ elim (one_of letter_word w Obj _ l e2) [ inl h ↦ h | inr e3 ↦ absurd cc ]
  ]
]

pub letter_again : (l : Letter) → letter_at (letter_word l) ≡ Ok l
unfolding letter_at
letter_again Raw = refl
letter_again Mem = refl
letter_again Obj = refl

pub side_takes : (w : List ℕ) (s : Side) → side_at w ≡ Ok s → w ≡ side_word s
unfolding side_at
side_takes w s e = elim (one_of side_word w sides.Arena _ s e) [
  | inl h ↦ h
  | inr e1 ↦ elim (one_of side_word w sides.Raw _ s e1) [ inl h ↦ h | inr e2 ↦ absurd cc ]
]

pub side_again : (s : Side) → side_at (side_word s) ≡ Ok s
unfolding side_at
side_again sides.Arena = refl
side_again sides.Raw = refl

-- ---- keys and modes

pub key_takes : (w : List ℕ) (k : KeyKind) → key_at w ≡ Ok k → w ≡ key_word k
unfolding key_at
key_takes w k e = elim (one_of key_word w Filename _ k e) [
  | inl h ↦ h
  | inr e1 ↦ elim (one_of key_word w Lineno _ k e1) [
    | inl h ↦ h
    | inr e2 ↦ elim (one_of key_word w Traceback _ k e2) [ inl h ↦ h | inr e3 ↦ absurd cc ]
  ]
]

pub key_again : (k : KeyKind) → key_at (key_word k) ≡ Ok k
unfolding key_at
key_again Filename = refl
key_again Lineno = refl
key_again Traceback = refl

-- a mode that may be with the key
mode_is : (key : KeyKind) (w : List ℕ) (this c : Bool) → w ≡ mode_word this → mode_with key this ≡ Ok c
    → (w ≡ mode_word c) × (may_be key c ≡ true)
mode_is key w this c is e =
    let p = test_holds (may_be key this) (Ok this) BadRange c e in
    subst (λ (m : Bool). (w ≡ mode_word m) × (may_be key m ≡ true)) (ok_is this c p.1) (is, p.0)

pub mode_takes : (key : KeyKind) (w : List ℕ) (c : Bool) → mode_at key w ≡ Ok c
    → (w ≡ mode_word c) × (may_be key c ≡ true)
unfolding mode_at
mode_takes key w c e = by (bytes_eq w (mode_word true)) refl (bytes_eq w (mode_word false)) refl e
  where
    by : (a : Bool) → bytes_eq w (mode_word true) ≡ a → (b : Bool) → bytes_eq w (mode_word false) ≡ b
        → cond a (mode_with key true) (cond b (mode_with key false) (Err UnknownWord)) ≡ Ok c
        → (w ≡ mode_word c) × (may_be key c ≡ true)
    by true is b other h = mode_is key w true c ((bytes_eq-Decides w (mode_word true)).0 is) h
    by false is true other h = mode_is key w false c ((bytes_eq-Decides w (mode_word false)).0 other) h
    by false is false other h = absurd cc

pub mode_again : (key : KeyKind) (c : Bool) → may_be key c ≡ true → mode_at key (mode_word c) ≡ Ok c
unfolding mode_at
mode_again key true may = ap (λ (b : Bool). cond b (Ok true) (Err BadRange)) may
mode_again key false may = ap (λ (b : Bool). cond b (Ok false) (Err BadRange)) may

-- ---- bytes in hexadecimal

pub low : (x : ℕ) → x < 10 → glyph x ≡ 48 + x
low x lt = ap (λ (v : Bool). cond v (48 + x) (87 + x)) (lt-ltb x 10 lt)

pub high : (x : ℕ) → 10 ≤ x → glyph x ≡ 87 + x
high x le = ap (λ (v : Bool). cond v (48 + x) (87 + x)) (le-ltb x 10 le)

digit_is : (c x : ℕ) → digit_of c ≡ Some x → (c ≡ glyph x) × (x < 16)
digit_is c x e = by (is_between 48 57 c) refl (is_between 97 102 c) refl e
  where
    by : (a : Bool) → is_between 48 57 c ≡ a → (b : Bool) → is_between 97 102 c ≡ b → cond a (Some (c - 48)) (cond b (Some (c - 87)) None) ≡ Some x → (c ≡ glyph x) × (x < 16)
    by true ea b eb h =
        let t = both (nat_le 48 c) (nat_le c 57) ea in
        let is : c - 48 ≡ x = cc in
        let least : 48 ≤ c = leb-true _ _ t.0 in
        let most : c ≤ 57 = leb-true _ _ t.1 in
        let at : c ≡ 48 + x = omega arith in
        (at ∙ sym (low x (omega arith)), omega arith)
    by false ea true eb h =
        let t = both (nat_le 97 c) (nat_le c 102) eb in
        let is : c - 87 ≡ x = cc in
        let least : 97 ≤ c = leb-true _ _ t.0 in
        let most : c ≤ 102 = leb-true _ _ t.1 in
        let at : c ≡ 87 + x = omega arith in
        (at ∙ sym (high x (omega arith)), omega arith)
    by false ea false eb h = absurd cc

pub between : (a b c : ℕ) → a ≤ c → c ≤ b → is_between a b c ≡ true
between a b c low high = ap (λ (v : Bool). v && nat_le c b) (le-leb a c low) ∙ le-leb c b high

above : (a b c : ℕ) → a ≤ c → b < c → is_between a b c ≡ false
above a b c low high = ap (λ (v : Bool). v && nat_le c b) (le-leb a c low) ∙ lt-leb c b high

digit_back : (x : ℕ) → x < 16 → digit_of (glyph x) ≡ Some x
digit_back x lt = elim (cases_lt x 10) [
  | inl small ↦
      let back : (48 + x) - 48 ≡ x = omega arith in
      ap digit_of (low x small) ∙ ap (λ (v : Bool). cond v (Some ((48 + x) - 48)) (cond (is_between 97 102 (48 + x)) (Some ((48 + x) - 87)) None)) (between 48 57 (48 + x) (omega arith) (omega arith)) ∙ ap (λ (n : ℕ). Some n) back
  | inr large ↦
      let back : (87 + x) - 87 ≡ x = omega arith in
      ap digit_of (high x large) ∙ ap (λ (v : Bool). cond v (Some ((87 + x) - 48)) (cond (is_between 97 102 (87 + x)) (Some ((87 + x) - 87)) None)) (above 48 57 (87 + x) (omega arith) (omega arith))
      ∙ ap (λ (v : Bool). cond v (Some ((87 + x) - 87)) None) (between 97 102 (87 + x) (omega arith) (omega arith)) ∙ ap (λ (n : ℕ). Some n) back
]

with_byte_is : (x y : Option ℕ) (r : Result (List ℕ) TraceCause) (bytes : List ℕ) → with_byte x y r ≡ Ok bytes → (a : ℕ) × (b : ℕ) × (bs : List ℕ) × (x ≡ Some a) × (y ≡ Some b) × (r ≡ Ok bs) × (bytes ≡ (16 * a + b) ∷ bs)
with_byte_is None y r bytes e = absurd cc
with_byte_is (Some a) None r bytes e = absurd cc
with_byte_is (Some a) (Some b) r bytes e =
    let p = bind_ok r (λ bs. Ok ((16 * a + b) ∷ bs)) bytes e in
    (a, b, p.0, refl, refl, p.1, sym (ok_is ((16 * a + b) ∷ p.0) bytes p.2))

halves : (a b : ℕ) → a < 16 → b < 16 → ((16 * a + b) / 16 ≡ a) × ((16 * a + b) % 16 ≡ b) × (16 * a + b < 256)
halves a b la lb = (omega arith, omega arith, omega arith)

pub hex_takes : (w bytes : List ℕ) → hex_from w ≡ Ok bytes → (w ≡ hex_word bytes) × AllByRecursion (λ b. b < 256) bytes
hex_takes [] bytes e = subst (λ (bs : List ℕ). ([] ≡ hex_word bs) × AllByRecursion (λ b. b < 256) bs) (ok_is [] bytes e) (refl, tt)
hex_takes (c ∷ []) bytes e = absurd cc
hex_takes (c ∷ d ∷ cs) bytes e =
    let j = with_byte_is (digit_of c) (digit_of d) (hex_from cs) bytes e in
    let first = digit_is c j.0 j.3 in
    let second = digit_is d j.1 j.4 in
    let rest = hex_takes cs j.2 j.5 in
    let h = halves j.0 j.1 first.1 second.1 in
    subst (λ (bs : List ℕ). (c ∷ d ∷ cs ≡ hex_word bs) × AllByRecursion (λ b. b < 256) bs) (sym j.6)
    ((λ i. (first.0 ∙ ap glyph (sym h.0)) i ∷ (second.0 ∙ ap glyph (sym h.1)) i ∷ rest.0 i), (h.2, rest.1))

pub whole : (b : ℕ) → b < 256 → (b / 16 < 16) × (b % 16 < 16) × (16 * (b / 16) + b % 16 ≡ b)
whole b lt = (omega arith, omega arith, omega arith)

pub hex_back : (bytes : List ℕ) → AllByRecursion (λ b. b < 256) bytes → hex_from (hex_word bytes) ≡ Ok bytes
hex_back [] fits = refl
hex_back (b ∷ bs) fits =
    let w = whole b fits.0 in
    (λ i. with_byte (digit_back (b / 16) w.0 i) (digit_back (b % 16) w.1 i) (hex_back bs fits.1 i)) ∙ ap (λ (n : ℕ). done (n ∷ bs)) w.2
