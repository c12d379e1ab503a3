-- The first line and those that follow it.
use Rattle.std.proofs.Common.{◌≡◌, ℕ, ◌+◌, Bool, true, false, cond, List, [], ◌∷◌, Err, refl, sym, ap, ◌∙◌}
use Rattle.std.specs.List.{slice_split, onto_first}
use Rattle.std.specs.Str.{bytes_eq}
use Rattle.trace_model.specs.Plain.{PlainTrace}
use Rattle.trace_model.specs.Spelling.{header}
use Rattle.trace_model.specs.declared.cause.TraceCause.TheVariants.{BadHeader}
use Rattle.trace_model.specs.Reading.{then_lines, line_at, lines_at, header_at, opening}

-- there is always a first part
pub first_part : (p : ℕ → Bool) (xs : List ℕ) → (part : List ℕ) × (parts : List (List ℕ)) × (slice_split p xs ≡ part ∷ parts)
first_part p [] = ([], [], refl)
first_part p (x ∷ xs) = by (p x) (slice_split p xs)
  where
    by : (b : Bool) (r : List (List ℕ)) → (part : List ℕ) × (parts : List (List ℕ)) × (cond b ([] ∷ r) (onto_first x r) ≡ part ∷ parts)
    by true r = ([], r, refl)
    by false [] = (x ∷ [], [], refl)
    by false (q ∷ qs) = (x ∷ q, qs, refl)

module _ (p : ℕ → Bool) (bytes first rest : List ℕ) (parts : slice_split p bytes ≡ first ∷ slice_split p rest) where
  -- a first line with an end is the header, or there is no trace
  pub with_header : header_at (slice_split p bytes) ≡ cond (bytes_eq first header) (lines_at 2 opening (slice_split p rest)) (Err (1, BadHeader))
  with_header =
      let f = first_part p rest in
      ap header_at parts ∙ ap (λ (r : List (List ℕ)). header_at (first ∷ r)) f.2
      ∙ sym (ap (λ (r : List (List ℕ)). cond (bytes_eq first header) (lines_at 2 opening r) (Err (1, BadHeader))) f.2)

  -- a line with an end is read, and then the lines behind it
  pub with_line : (k : ℕ) (t : PlainTrace) → lines_at k t (slice_split p bytes) ≡ then_lines k (line_at t first) (λ u. lines_at (k + 1) u (slice_split p rest))
  with_line k t =
      let f = first_part p rest in
      ap (lines_at k t) parts ∙ ap (λ (r : List (List ℕ)). lines_at k t (first ∷ r)) f.2
      ∙ sym (ap (λ (r : List (List ℕ)). then_lines k (line_at t first) (λ u. lines_at (k + 1) u r)) f.2)
