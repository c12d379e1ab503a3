-- Reading digits in pairs, as a loop does.
use Rattle.std.proofs.Common.{◌≡◌, ℕ, ◌+◌, ◌*◌, List, [], ◌∷◌, ◌++◌, Option, Some, Result, Ok, Err, refl, sym}
use Rattle.std.proofs.Common.{ap, ◌∙◌, append_assoc, ◌-◌, ◌≤◌, length, take, drop, get_or, arith}
use Rattle.trace_reader.proofs.Parts.{tail_is}
use Rattle.trace_model.specs.declared.cause.TraceCause.{TraceCause}
use Rattle.trace_model.specs.Operands.{◌>>=◌, with_byte, hex_from, digit_of}

-- what was read before, and what is still read
abbrev pub with_front : List ℕ → Result (List ℕ) TraceCause → Result (List ℕ) TraceCause
with_front front read = read >>= λ bytes. Ok (front ++ bytes)

regroup : (front : List ℕ) (x y : ℕ) (r : Result (List ℕ) TraceCause) → with_front front (with_byte (Some x) (Some y) r) ≡ with_front (front ++ (16 * x + y) ∷ []) r
regroup front x y (Ok bytes) = ap (λ (bs : List ℕ). Ok bs) (sym (append_assoc front ((16 * x + y) ∷ []) bytes))
regroup front x y (Err e) = refl

pub goes_on : (front : List ℕ) (a b x y : ℕ) (cs : List ℕ) (total : Result (List ℕ) TraceCause) → digit_of a ≡ Some x → digit_of b ≡ Some y
    → with_front front (hex_from (a ∷ b ∷ cs)) ≡ total → with_front (front ++ (16 * x + y) ∷ []) (hex_from cs) ≡ total
goes_on front a b x y cs total first second so_far =
    sym (regroup front x y (hex_from cs)) ∙ sym (ap (λ (p : Option ℕ × Option ℕ). with_front front (with_byte p.0 p.1 (hex_from cs))) (λ i. (first i, second i))) ∙ so_far

pub pair_read : (front news : List ℕ) (rest : List ℕ) (x y : ℕ) (total : Result (List ℕ) TraceCause) → news ≡ front ++ (16 * x + y) ∷ [] → 2 ≤ length rest → digit_of (get_or rest 0 0) ≡ Some x → digit_of (get_or rest 1 0) ≡ Some y
    → with_front front (hex_from rest) ≡ total → with_front news (hex_from (take (length rest - 2) (drop 2 rest))) ≡ total
pair_read front news [] x y total is two first second so_far = absurd (omega arith)
pair_read front news (a ∷ []) x y total is two first second so_far = absurd (omega arith)
pair_read front news (a ∷ b ∷ cs) x y total is two first second so_far =
    ap (λ (p : List ℕ × List ℕ). with_front p.0 (hex_from p.1)) (λ i. (is i, tail_is (a ∷ b ∷ cs) 2 i)) ∙ goes_on front a b x y cs total first second so_far
