-- The words of an operation hold no blank, so a line that is cut at its blanks gives them back.
use Rattle.std.proofs.Common.{◌≡◌, ℕ, suc, ◌+◌, ◌/◌, ◌%◌, ◌^◌, ◌<◌, ◌≤◌, Bool, true, false, cond, ◌&&◌, ◌||◌}
use Rattle.std.proofs.Common.{List, [], ◌∷◌, ◌++◌, length, ℤ, pos, negsuc, refl, ap, ◌∙◌, arith, inl, inr}
use Rattle.std.proofs.Common.{◌⊎◌, lit<, lit≤}
use Rattle.std.specs.Prelude.{nat_le, ◌==◌, decimal, codes}
use Rattle.std.specs.List.{AllByRecursion, list_all, slice_split, onto_first, join_with_byte}
use Rattle.std.specs.Fmt.{signed_decimal}
use Rattle.std.proofs.lemmas.Bool.{eqb-true, leb-true, cases_lt}
use Rattle.std.proofs.lemmas.Fmt.{digits_decimal, decimal_nonempty}
use Rattle.std.proofs.lemmas.List.Splits.{slice_split-cons_no}
use Rattle.mem_base.specs.declared.trace.KeyKind.{KeyKind}
use Rattle.mem_base.specs.declared.trace.KeyKind.TheVariants.{Filename, Lineno, Traceback}
use Rattle.mem_base.specs.declared.trace.Letter.{Letter}
use Rattle.mem_base.specs.declared.trace.Letter.TheVariants.{Raw, Mem, Obj}
use Rattle.mem_base.specs.declared.trace.Side.{Side}
use Rattle.mem_base.specs.declared.trace.Side.TheVariants as sides
use Rattle.mem_base.specs.Name.{Name}
use Rattle.mem_base.specs.declared.limits.TheConstants.{MAX_PICKS}
use Rattle.mem_base.specs.Offset.{IsOffset}
use Rattle.trace_model.specs.Operands.{is_between, is_file, is_name, is_name_byte, letter_word, side_word}
use Rattle.trace_model.specs.Operands.{key_word, mode_word, hex_word, glyph}
use Rattle.trace_model.proofs.OperandLaws.{are_digits, own, both, low, high, between, whole}

abbrev pub has_some : List ℕ → Bool
has_some [] = false
has_some (b ∷ bs) = true

abbrev pub is_word : List ℕ → Bool
is_word w = has_some w && list_all (is_between 33 126) w

all_imp : (p q : ℕ → Bool) → ((b : ℕ) → p b ≡ true → q b ≡ true) → (xs : List ℕ) → list_all p xs ≡ true → list_all q xs ≡ true
all_imp p q f [] h = refl
all_imp p q f (x ∷ xs) h =
    let t = both (p x) (list_all p xs) h in
    ap (λ (v : Bool). v && list_all q xs) (f x t.0) ∙ all_imp p q f xs t.1

wider : (a b c d : ℕ) → c ≤ a → b ≤ d → (n : ℕ) → is_between a b n ≡ true → is_between c d n ≡ true
wider a b c d ca bd n h =
    let t = both (nat_le a n) (nat_le n b) h in
    let least : a ≤ n = leb-true a n t.0 in
    let most : n ≤ b = leb-true n b t.1 in
    between c d n (omega arith) (omega arith)

either : (a b : Bool) → (a || b) ≡ true → (a ≡ true) ⊎ (b ≡ true)
either true b h = inl refl
either false b h = inr h

name_byte : (b : ℕ) → is_name_byte b ≡ true → is_between 33 126 b ≡ true
name_byte b h =
    elim (either (is_between 48 57 b || is_between 65 90 b || is_between 97 122 b) (b == 95) h) [
      | inl h1 ↦ elim (either (is_between 48 57 b || is_between 65 90 b) (is_between 97 122 b) h1) [
        | inl h2 ↦ elim (either (is_between 48 57 b) (is_between 65 90 b) h2) [
          | inl d ↦ wider 48 57 33 126 (lit≤ tt) (lit≤ tt) b d
          | inr u ↦ wider 65 90 33 126 (lit≤ tt) (lit≤ tt) b u
        ]
        | inr l ↦ wider 97 122 33 126 (lit≤ tt) (lit≤ tt) b l
      ]
      | inr e ↦ ap (is_between 33 126) (eqb-true b 95 e)
    ]

some_word : (w : List ℕ) → 0 < length w → list_all (is_between 33 126) w ≡ true → is_word w ≡ true
some_word [] some h = absurd (omega arith)
some_word (b ∷ bs) some h = h

pub name_word : (name : Name) → is_name name ≡ true → is_word name ≡ true
name_word name h =
    let t = both (is_between 1 32 (length name)) (list_all is_name_byte name) h in
    let l = both (nat_le 1 (length name)) (nat_le (length name) 32) t.0 in
    some_word name (leb-true 1 (length name) l.0) (all_imp is_name_byte (is_between 33 126) name_byte name t.1)

pub file_word : (file : Name) → is_file file ≡ true → is_word file ≡ true
file_word file h =
    let t = both (is_between 1 255 (length file)) (list_all (is_between 33 126) file) h in
    let l = both (nat_le 1 (length file)) (nat_le (length file) 255) t.0 in
    some_word file (leb-true 1 (length file) l.0) t.1

digits_all : (ds : List ℕ) → are_digits ds ≡ true → list_all (is_between 33 126) ds ≡ true
digits_all [] h = refl
digits_all (d ∷ ds) h =
    let t = both (is_between 48 57 d) (are_digits ds) h in
    ap (λ (v : Bool). v && list_all (is_between 33 126) ds) (wider 48 57 33 126 (lit≤ tt) (lit≤ tt) d t.0) ∙ digits_all ds t.1

pub number_word : (n : ℕ) → n < 2 ^ 64 → is_word (decimal n) ≡ true
number_word n lt = some_word (decimal n) (decimal_nonempty n lt) (digits_all (decimal n) (digits_decimal own n lt))

pub offset_word : (z : ℤ) → IsOffset z → is_word (signed_decimal z) ≡ true
offset_word (pos n) lt = number_word n (omega (arith, lt))
offset_word (negsuc n) lt = digits_all (decimal (suc n)) (digits_decimal own (suc n) (omega (arith, lt)))

glyph_in : (x : ℕ) → x < 16 → is_between 33 126 (glyph x) ≡ true
glyph_in x lt = elim (cases_lt x 10) [
  | inl small ↦ ap (is_between 33 126) (low x small) ∙ between 33 126 (48 + x) (omega arith) (omega arith)
  | inr large ↦ ap (is_between 33 126) (high x large) ∙ between 33 126 (87 + x) (omega arith) (omega arith)
]

hex_all : (bytes : List ℕ) → AllByRecursion (λ b. b < 256) bytes → list_all (is_between 33 126) (hex_word bytes) ≡ true
hex_all [] fits = refl
hex_all (b ∷ bs) fits =
    let w = whole b fits.0 in
    (λ i. glyph_in (b / 16) w.0 i && (glyph_in (b % 16) w.1 i && hex_all bs fits.1 i))

pub hex_is_word : (bytes : List ℕ) → AllByRecursion (λ b. b < 256) bytes → 1 ≤ length bytes → is_word (hex_word bytes) ≡ true
hex_is_word [] fits some = absurd (omega arith)
hex_is_word (b ∷ bs) fits some = hex_all (b ∷ bs) fits

pub letter_is_word : (l : Letter) → is_word (letter_word l) ≡ true
letter_is_word Raw = refl
letter_is_word Mem = refl
letter_is_word Obj = refl

pub side_is_word : (s : Side) → is_word (side_word s) ≡ true
side_is_word sides.Arena = refl
side_is_word sides.Raw = refl

pub key_is_word : (k : KeyKind) → is_word (key_word k) ≡ true
key_is_word Filename = refl
key_is_word Lineno = refl
key_is_word Traceback = refl

pub mode_is_word : (cumulative : Bool) → is_word (mode_word cumulative) ≡ true
mode_is_word true = refl
mode_is_word false = refl

pub track_words_fit : (name : Name) → is_name name ≡ true → AllByRecursion (λ w. is_word w ≡ true) (codes "track" ∷ name ∷ [])
track_words_fit name h = (refl, (name_word name h, tt))

pub pick_words_fit : (name : Name) (times : ℕ) → is_name name ≡ true → times ≤ MAX_PICKS → AllByRecursion (λ w. is_word w ≡ true) (codes "pick" ∷ name ∷ decimal times ∷ [])
pick_words_fit name times h few = (refl, (name_word name h, (number_word times (omega (arith, few)), tt)))

-- ---- cutting

module _ (p good : ℕ → Bool) (apart : (b : ℕ) → good b ≡ true → p b ≡ false) where
  pub cut_last : (w : List ℕ) → list_all good w ≡ true → slice_split p w ≡ w ∷ []
  cut_last [] h = refl
  cut_last (b ∷ bs) h =
      let t = both (good b) (list_all good bs) h in
      slice_split-cons_no p b bs (apart b t.0) ∙ ap (onto_first b) (cut_last bs t.1)

  pub cut_first : (w : List ℕ) (y : ℕ) (rest : List ℕ) → p y ≡ true → list_all good w ≡ true → slice_split p (w ++ y ∷ rest) ≡ w ∷ slice_split p rest
  cut_first [] y rest is h = ap (λ (v : Bool). cond v ([] ∷ slice_split p rest) (onto_first y (slice_split p rest))) is
  cut_first (b ∷ bs) y rest is h =
      let t = both (good b) (list_all good bs) h in
      slice_split-cons_no p b (bs ++ y ∷ rest) (apart b t.0) ∙ ap (onto_first b) (cut_first bs y rest is t.1)

pub not_sep : (sep low : ℕ) → sep < low → (b : ℕ) → is_between low 126 b ≡ true → (b == sep) ≡ false
not_sep sep low lt b h =
    let t = both (nat_le low b) (nat_le b 126) h in
    let least : low ≤ b = leb-true low b t.0 in
    by (b == sep) refl least
  where
    by : (v : Bool) → (b == sep) ≡ v → low ≤ b → v ≡ false
    by true e least =
        let same : b ≡ sep = eqb-true b sep e in
        absurd (omega arith)
    by false e least = refl

-- words that are joined by blanks and cut again
pub words_again : (w : List ℕ) (ws : List (List ℕ)) → AllByRecursion (λ x. is_word x ≡ true) (w ∷ ws) → slice_split (λ b. b == 32) (join_with_byte 32 (w ∷ ws)) ≡ w ∷ ws
words_again w [] are = cut_last (λ b. b == 32) (is_between 33 126) (not_sep 32 33 (lit< tt)) w (both (has_some w) (list_all (is_between 33 126) w) are.0).1
words_again w (x ∷ xs) are =
    cut_first (λ b. b == 32) (is_between 33 126) (not_sep 32 33 (lit< tt)) w 32 (join_with_byte 32 (x ∷ xs)) refl (both (has_some w) (list_all (is_between 33 126) w) are.0).1
    ∙ ap (λ (l : List (List ℕ)). w ∷ l) (words_again x xs are.1)

pub all_append : (p : ℕ → Bool) (xs ys : List ℕ) → list_all p xs ≡ true → list_all p ys ≡ true → list_all p (xs ++ ys) ≡ true
all_append p [] ys hx hy = hy
all_append p (x ∷ xs) ys hx hy =
    let t = both (p x) (list_all p xs) hx in
    ap (λ (v : Bool). v && list_all p (xs ++ ys)) t.0 ∙ all_append p xs ys t.1 hy

pub words_plain : (ws : List (List ℕ)) → AllByRecursion (λ x. is_word x ≡ true) ws → list_all (is_between 32 126) (join_with_byte 32 ws) ≡ true
words_plain [] are = refl
words_plain (w ∷ []) are = all_imp (is_between 33 126) (is_between 32 126) (wider 33 126 32 126 (lit≤ tt) (lit≤ tt)) w (both (has_some w) (list_all (is_between 33 126) w) are.0).1
words_plain (w ∷ x ∷ xs) are =
    all_append (is_between 32 126) w (32 ∷ join_with_byte 32 (x ∷ xs))
    (all_imp (is_between 33 126) (is_between 32 126) (wider 33 126 32 126 (lit≤ tt) (lit≤ tt)) w (both (has_some w) (list_all (is_between 33 126) w) are.0).1)
    (words_plain (x ∷ xs) are.1)
