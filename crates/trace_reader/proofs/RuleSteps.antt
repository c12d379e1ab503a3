-- A rule's word is cut at its first comma, and rules are read one after the other, as a loop does.
use Rattle.std.proofs.Common.{◌≡◌, ◌==◌, ℕ, zero, suc, ◌<◌, Bool, true, false, cond, List, [], ◌∷◌, ◌++◌}
use Rattle.std.proofs.Common.{length, get_or, take, drop, Option, Some, None, Result, Ok, refl, ap, ◌∙◌}
use Rattle.std.proofs.Common.{arith}
use Rattle.std.specs.Option.{option_map}
use Rattle.mem_base.specs.declared.trace.Rule.{Rule}
use Rattle.trace_model.specs.Operands.{◌>>=◌}
use Rattle.trace_model.specs.Rules.{Cut, after_byte, comma, cut_at}
use Rattle.trace_model.specs.declared.cause.TraceCause.{TraceCause}

-- what is cut, by whether the first byte is a comma
abbrev either : ℕ → List ℕ → Bool → Option Cut
either b bs is_comma =
    cond is_comma (Some (record { front = []; behind = bs })) (option_map (after_byte b) (cut_at bs))

is_false : (b : Bool) → (b ≡ true → ⊥) → b ≡ false
is_false true h = absurd (h refl)
is_false false h = refl

pub cut_found : (word : List ℕ) (k : ℕ) → k < length word
    → ((j : ℕ) → j < k → (get_or word j 0 == comma) ≡ true → ⊥) → (get_or word k 0 == comma) ≡ true
    → cut_at word ≡ Some (record { front = take k word; behind = drop (suc k) word })
cut_found [] k lt none here = absurd (omega arith)
cut_found (b ∷ bs) zero lt none here = ap (either b bs) here
cut_found (b ∷ bs) (suc k) lt none here =
    ap (either b bs) (is_false (b == comma) (none 0 (omega arith)))
    ∙ ap (option_map (after_byte b))
    (cut_found bs k (omega arith) (λ j below. none (suc j) (omega arith)) here)

pub not_cut : (word : List ℕ) → ((j : ℕ) → j < length word → (get_or word j 0 == comma) ≡ true → ⊥)
    → cut_at word ≡ None
not_cut [] none = refl
not_cut (b ∷ bs) none =
    ap (either b bs) (is_false (b == comma) (none 0 (omega arith)))
    ∙ ap (option_map (after_byte b)) (not_cut bs (λ j below. none (suc j) (omega arith)))

-- ---- rule after rule

-- what was read before, and what is still read
abbrev pub with_front : List Rule → Result (List Rule) TraceCause → Result (List Rule) TraceCause
with_front front read = read >>= λ rules. Ok (front ++ rules)
