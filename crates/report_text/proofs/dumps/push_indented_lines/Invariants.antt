use Rattle.std.proofs.Common.{◌≡◌, ◌++◌, List, ℕ, length}
use Rattle.report_model.specs.Report.{indented_lines}
use Rattle.report_text.proofs.dumps.push_indented_lines.Given as goal

-- the lines so far, and with those that are left all lines
abbrev pub invariant-loop-line : goal.invariant-loop-line
invariant-loop-line l = (done : List ℕ) × (l.text.items ≡ l.fn.text.items ++ done) × (done ++ indented_lines l.rest ≡ indented_lines l.dump)

abbrev pub decreases-loop-line : goal.decreases-loop-line
decreases-loop-line l = length l.rest
