-- Pieces that were appended one after the other.
use Rattle.std.proofs.Common.{◌≡◌, ◌==◌, ℕ, List, ◌∷◌, ◌++◌, Result, Ok, Err, ap, sym, ◌∙◌, append_assoc}
use Rattle.std.specs.Prelude.{OnOk}
use Rattle.std.specs.List.{flat_map, slice_split}
use Rattle.trace_model.specs.Spelling.{line_end}
use Rattle.trace_model.proofs.CallerLemmas.{first_part}
use Rattle.report_model.specs.Report.{ended, indented, indented_lines}

-- a line, and then what is printed below it of a block of this name
pub then_more : {E : Type 0} (r : Result (Unit {0}) E) (old mid new line name block : List ℕ) (more : List ℕ → List ℕ)
    → mid ≡ old ++ line → name ≡ block → OnOk r (new ≡ mid ++ more name)
    → OnOk r (new ≡ old ++ (line ++ more block))
then_more (Ok u) old mid new line name block more first same last =
    last ∙ (λ i. first i ++ more (same i)) ∙ append_assoc old line (more block)
then_more (Err e) old mid new line name block more first same last = tt

pub three : (old o1 o2 o3 a b c : List ℕ) → o1 ≡ old ++ a → o2 ≡ o1 ++ b → o3 ≡ o2 ++ c → o3 ≡ old ++ ((a ++ b) ++ c)
three old o1 o2 o3 a b c e1 e2 e3 =
    e3 ∙ ap (λ (x : List ℕ). x ++ c) (e2 ∙ ap (λ (x : List ℕ). x ++ b) e1 ∙ append_assoc old a b) ∙ append_assoc old (a ++ b) c

pub four : (old o1 o2 o3 o4 a b c d : List ℕ) → o1 ≡ old ++ a → o2 ≡ o1 ++ b → o3 ≡ o2 ++ c → o4 ≡ o3 ++ d
    → o4 ≡ old ++ (((a ++ b) ++ c) ++ d)
four old o1 o2 o3 o4 a b c d e1 e2 e3 e4 =
    e4 ∙ ap (λ (x : List ℕ). x ++ d) (three old o1 o2 o3 a b c e1 e2 e3) ∙ append_assoc old ((a ++ b) ++ c) d

pub five : (old o1 o2 o3 o4 o5 a b c d e : List ℕ) → o1 ≡ old ++ a → o2 ≡ o1 ++ b → o3 ≡ o2 ++ c
    → o4 ≡ o3 ++ d → o5 ≡ o4 ++ e → o5 ≡ old ++ ((((a ++ b) ++ c) ++ d) ++ e)
five old o1 o2 o3 o4 o5 a b c d e e1 e2 e3 e4 e5 =
    e5 ∙ ap (λ (x : List ℕ). x ++ e) (four old o1 o2 o3 o4 a b c d e1 e2 e3 e4)
    ∙ append_assoc old (((a ++ b) ++ c) ++ d) e

pub seven : (old o1 o2 o3 o4 o5 o6 o7 a b c d e f g : List ℕ) → o1 ≡ old ++ a → o2 ≡ o1 ++ b → o3 ≡ o2 ++ c
    → o4 ≡ o3 ++ d → o5 ≡ o4 ++ e → o6 ≡ o5 ++ f → o7 ≡ o6 ++ g
    → o7 ≡ old ++ ((((((a ++ b) ++ c) ++ d) ++ e) ++ f) ++ g)
seven old o1 o2 o3 o4 o5 o6 o7 a b c d e f g e1 e2 e3 e4 e5 e6 e7 =
    three old o5 o6 o7 ((((a ++ b) ++ c) ++ d) ++ e) f g (five old o1 o2 o3 o4 o5 a b c d e e1 e2 e3 e4 e5) e6 e7

-- a line with an end, and then the lines behind it
pub line_more : (rest line behind : List ℕ)
    → slice_split (λ b. b == line_end) rest ≡ line ∷ slice_split (λ b. b == line_end) behind
    → indented_lines rest ≡ indented line ++ indented_lines behind
line_more rest line behind parts =
    let f = first_part (λ b. b == line_end) behind in
    ap (λ (ps : List (List ℕ)). flat_map indented (ended ps)) parts
    ∙ ap (λ (ps : List (List ℕ)). flat_map indented (ended (line ∷ ps))) f.2
    ∙ ap (λ (ps : List (List ℕ)). indented line ++ flat_map indented (ended ps)) (sym f.2)
