use Rattle.std.proofs.Common.{◌≡◌, take, filter}
use Rattle.snap_filter.specs.Held.{stays}
use Rattle.snap_filter.proofs.rules.rows_that_stay.Given as goal

abbrev pub invariant-loop-row : goal.invariant-loop-row
invariant-loop-row l = record {
  kept : l.kept.items ≡ filter (stays l.initial.rules) (take l.row-index l.rows);
  same : l.rules ≡ l.initial.rules;
}
