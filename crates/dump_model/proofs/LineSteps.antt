-- A line and those that follow it.
use Rattle.std.proofs.Common.{◌≡◌, ℕ, ◌+◌, Bool, List, [], ◌∷◌, sym, ap, ◌∙◌}
use Rattle.std.specs.List.{slice_split}
use Rattle.trace_model.proofs.CallerLemmas.{first_part}
use Rattle.dump_model.specs.Reading.{Place, at_line, end_at, then_lines, line_at, lines_at}

module _ (p : ℕ → Bool) (bytes : List ℕ) (k : ℕ) (at : Place) where
  -- a line with an end is read, and then the lines behind it
  pub with_line :
      (first rest : List ℕ) → slice_split p bytes ≡ first ∷ slice_split p rest
      → lines_at k at (slice_split p bytes)
      ≡ then_lines (at_line k (line_at at first)) (λ q. lines_at (k + 1) q (slice_split p rest))
  with_line first rest parts =
      let f = first_part p rest in
      ap (lines_at k at) parts
      ∙ ap (λ (r : List (List ℕ)). lines_at k at (first ∷ r)) f.2
      ∙ sym (ap (λ (r : List (List ℕ)). then_lines (at_line k (line_at at first)) (λ q. lines_at (k + 1) q r)) f.2)

  -- what has no end is the end of the input
  pub with_rest :
      slice_split p bytes ≡ bytes ∷ [] → lines_at k at (slice_split p bytes) ≡ at_line k (end_at at bytes)
  with_rest parts = ap (lines_at k at) parts
