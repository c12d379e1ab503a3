-- A word that is cut at its last colon.
use Rattle.std.proofs.Common.{◌≡◌, ◌==◌, ℕ, zero, suc, ◌<◌, Bool, true, false, cond, List, [], ◌∷◌, length}
use Rattle.std.proofs.Common.{get_or, take, drop, Option, Some, None, refl, ap, ◌∙◌, arith}
use Rattle.std.specs.Option.{option_map}
use Rattle.trace_model.specs.Rules.{Cut, after_byte}
use Rattle.dump_model.specs.Operands.{colon, cut_last, or_else}

-- what is cut, by what is cut behind the first byte and by whether that is a colon
abbrev either : ℕ → List ℕ → Option Cut → Bool → Option Cut
either b bs later is_colon = or_else (option_map (after_byte b) later) (cond is_colon (Some (record { front = []; behind = bs })) None)

is_false : (b : Bool) → (b ≡ true → ⊥) → b ≡ false
is_false true h = absurd (h refl)
is_false false h = refl

pub not_cut : (word : List ℕ) → ((j : ℕ) → j < length word → (get_or word j 0 == colon) ≡ true → ⊥) → cut_last word ≡ None
not_cut [] none = refl
not_cut (b ∷ bs) none =
    ap (λ (later : Option Cut). either b bs later (b == colon)) (not_cut bs (λ j below. none (suc j) (omega (arith, below))))
    ∙ ap (either b bs None) (is_false (b == colon) (none 0 (omega arith)))

pub cut_found : (word : List ℕ) (k : ℕ) → k < length word
    → ((j : ℕ) → k < j → j < length word → (get_or word j 0 == colon) ≡ true → ⊥) → (get_or word k 0 == colon) ≡ true
    → cut_last word ≡ Some (record { front = take k word; behind = drop (suc k) word })
cut_found [] k lt none here = absurd (omega arith)
cut_found (b ∷ bs) zero lt none here =
    ap (λ (later : Option Cut). either b bs later (b == colon)) (not_cut bs (λ j below. none (suc j) (omega arith) (omega (arith, below))))
    ∙ ap (either b bs None) here
cut_found (b ∷ bs) (suc k) lt none here =
    ap (λ (later : Option Cut). either b bs later (b == colon))
    (cut_found bs k (omega (arith, lt)) (λ j above below. none (suc j) (omega (arith, above)) (omega (arith, below))) here)
