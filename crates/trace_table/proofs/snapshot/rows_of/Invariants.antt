use Rattle.std.proofs.Common.{◌≡◌, ◌++◌, map}
use Rattle.trace_table.proofs.RowLemmas.{row_for}
use Rattle.trace_table.proofs.snapshot.rows_of.Given as goal

abbrev pub invariant-loop-key : goal.invariant-loop-key
invariant-loop-key l = l.rows.items ++ map row_for l.key-iterator ≡ map row_for l.traces.entries
