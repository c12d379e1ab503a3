-- Reading line after line, as a loop does.
use Rattle.std.proofs.Common.{◌≡◌, ◌==◌, ℕ, ◌+◌, Bool, true, false, cond, List, ◌∷◌, Result, Ok, Err, refl}
use Rattle.std.proofs.Common.{sym, ap, ◌∙◌}
use Rattle.std.specs.List.{list_all, slice_split}
use Rattle.trace_model.specs.Operands.{◌>>=◌, is_between}
use Rattle.trace_model.specs.Spelling.{blank}
use Rattle.trace_model.specs.Plain.{PlainTrace}
use Rattle.trace_model.specs.declared.cause.TraceCause.{TraceCause}
use Rattle.trace_model.specs.Reading.{Stop, then_lines, line_at, lines_at, words_at}
use Rattle.trace_model.proofs.CallerLemmas.{with_line}
use Rattle.trace_reader.specs.declared.error.LineError.{LineError}
use Rattle.trace_reader.specs.declared.error.LineError.TheVariants as line
use Rattle.trace_reader.specs.Answers.{Fails, at_line, Stops, words_in}
use Rattle.trace_model.specs.declared.cause.TraceCause.TheVariants.{BadByte}

module _ (p : ℕ → Bool) (k : ℕ) (t : PlainTrace) (rest text after : List ℕ) (total : Result PlainTrace Stop) (parts : slice_split p rest ≡ text ∷ slice_split p after) (read_so_far : lines_at k t (slice_split p rest) ≡ total) where
  abbrev followed : Result PlainTrace TraceCause → Result PlainTrace Stop
  followed r = then_lines k r (λ u. lines_at (k + 1) u (slice_split p after))

  one_more : followed (line_at t text) ≡ total
  one_more = sym (with_line p rest text after parts k t) ∙ read_so_far

  pub goes_on : (u : PlainTrace) → line_at t text ≡ Ok u → lines_at (k + 1) u (slice_split p after) ≡ total
  goes_on u read = sym (ap followed read) ∙ one_more

  pub stops : (e : LineError) → Fails e (line_at t text) → Stops (at_line k e) total
  stops line.OutOfMemory read = tt
  stops (line.Wrong c) read = sym one_more ∙ ap followed read

-- what a line comes to, by its words
pub line_is : (t : PlainTrace) (line : List ℕ) → line_at t line ≡ (words_in line >>= words_at t)
unfolding line_at
line_is t line = by (list_all (is_between 32 126) line)
  where
    by : (b : Bool) → cond b (words_at t (slice_split (λ b. b == blank) line)) (Err BadByte) ≡ (cond b (Ok (slice_split (λ b. b == blank) line)) (Err BadByte) >>= words_at t)
    by true = refl
    by false = refl
