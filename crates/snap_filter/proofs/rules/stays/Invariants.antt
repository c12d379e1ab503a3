use Rattle.std.proofs.Common.{◌≡◌, false, not, ◌&&◌, take}
use Rattle.std.specs.List.{list_any}
use Rattle.snap_filter.specs.Held.{is_about}
use Rattle.snap_filter.proofs.rules.stays.Given as goal

abbrev pub invariant-loop-rule : goal.invariant-loop-rule
invariant-loop-rule l = record {
  same : l.rules ≡ l.initial.rules;
  wanted : l.wanted ≡ list_any (λ rule. rule.inclusive && is_about rule l.row) (take l.rule-index l.initial.rules);
  some : l.some_inclusive ≡ list_any (λ rule. rule.inclusive) (take l.rule-index l.initial.rules);
  none : list_any (λ rule. not rule.inclusive && is_about rule l.row) (take l.rule-index l.initial.rules) ≡ false;
}
