-- A pattern is read part by part, however long its text may be.
use Rattle.std.proofs.Common.{◌≡◌, ℕ, zero, suc, ◌≤◌, Bool, true, false, cond, ◌==◌, List, [], ◌∷◌, length}
use Rattle.std.proofs.Common.{Option, Some, None, refl, ap, arith}
use Rattle.std.specs.Prelude.{IfSome, option_map}
use Rattle.pattern_model.specs.Laws.{ReadsInTurn}
use Rattle.pattern_model.specs.Patterns.{after_byte, bracket_part, closing, first_part, negation, opening}
use Rattle.pattern_model.specs.Patterns.{parts_in}
use Rattle.pattern_model.specs.Patterns.{question, set_after, set_of, star, to_bracket, to_set_end}
use Rattle.pattern_model.specs.Patterns.{Cut, PartRead, SetRead}

-- what holds of both answers holds of the one that is taken
either : {A : Type 0} (P : A → Type 0) (b : Bool) (x y : A) → P x → P y → P (cond b x y)
either P true x y p q = p
either P false x y p q = q

-- there is no more behind the end of a set than in the text
abbrev cut_within : ℕ → Option Cut → Type 0
cut_within n cut = IfSome cut (λ c. length c.behind ≤ n)

abbrev set_within : ℕ → Option SetRead → Type 0
set_within n read = IfSome read (λ r. length r.behind ≤ n)

longer : (b n : ℕ) (cut : Option Cut) → cut_within n cut → cut_within (suc n) (option_map (after_byte b) cut)
longer b n None h = tt
longer b n (Some cut) h = omega (arith, h)

bracket_within : (text : List ℕ) → cut_within (length text) (to_bracket text)
bracket_within [] = tt
bracket_within (b ∷ bs) =
    either (cut_within (suc (length bs))) (b == closing) (Some (record { front = []; behind = bs }))
    (option_map (after_byte b) (to_bracket bs))
    (omega arith) (longer b (length bs) (to_bracket bs) (bracket_within bs))

end_within : (text : List ℕ) → cut_within (length text) (to_set_end text)
end_within [] = tt
end_within (b ∷ bs) = longer b (length bs) (to_bracket bs) (bracket_within bs)

as_set : (negated : Bool) (n m : ℕ) (cut : Option Cut) → n ≤ m → cut_within n cut
    → set_within m (option_map (set_of negated) cut)
as_set negated n m None few h = tt
as_set negated n m (Some cut) few h = omega (arith, h, few)

after_within : (text : List ℕ) → set_within (length text) (set_after text)
after_within [] = tt
after_within (b ∷ bs) =
    either (set_within (suc (length bs))) (b == negation) (option_map (set_of true) (to_set_end bs))
    (option_map (set_of false) (to_set_end (b ∷ bs)))
    (as_set true (length bs) (suc (length bs)) (to_set_end bs) (omega arith) (end_within bs))
    (as_set false (suc (length bs)) (suc (length bs)) (to_set_end (b ∷ bs)) (omega arith)
    (end_within (b ∷ bs)))

abbrev part_within : ℕ → PartRead → Type 0
part_within n read = length read.behind ≤ n

bracket_part_within : (read : Option SetRead) (text : List ℕ) → set_within (length text) read
    → part_within (length text) (bracket_part read text)
bracket_part_within None text h = omega arith
bracket_part_within (Some read) text h = h

-- there is no more behind the first part than behind the first byte
pub first_within : (b : ℕ) (text : List ℕ) → length (first_part b text).behind ≤ length text
first_within b text =
    either (part_within (length text)) (b == star) _ _ (omega arith)
    (either (part_within (length text)) (b == question) _ _ (omega arith)
    (either (part_within (length text)) (b == opening) _ _
    (bracket_part_within (set_after text) text (after_within text)) (omega arith)))

-- a text has the same parts, however many bytes it may have had
enough : (n m : ℕ) (text : List ℕ) → length text ≤ n → length text ≤ m → parts_in n text ≡ parts_in m text
enough zero zero [] h k = refl
enough zero (suc m) [] h k = refl
enough (suc n) zero [] h k = refl
enough (suc n) (suc m) [] h k = refl
enough zero m (b ∷ bs) h k = absurd (omega (arith, h))
enough (suc n) zero (b ∷ bs) h k = absurd (omega (arith, k))
enough (suc n) (suc m) (b ∷ bs) h k =
    ap (λ rest. (first_part b bs).part ∷ rest)
    (enough n m (first_part b bs).behind (omega (arith, h, first_within b bs))
    (omega (arith, k, first_within b bs)))

pub reads_in_turn : ReadsInTurn
reads_in_turn b text =
    let rest = (first_part b text).behind in
    ap (λ parts. (first_part b text).part ∷ parts)
    (enough (length text) (length rest) rest (first_within b text) (omega arith))
