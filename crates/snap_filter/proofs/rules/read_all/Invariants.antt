use Rattle.std.proofs.Common.{◌≡◌, map, take}
use Rattle.snap_filter.specs.Held.{held_rule}
use Rattle.snap_filter.proofs.rules.read_all.Given as goal

abbrev pub invariant-loop-rule : goal.invariant-loop-rule
invariant-loop-rule l = l.held.items ≡ map (held_rule l.texts l.table) (take l.rule-index l.rules)
