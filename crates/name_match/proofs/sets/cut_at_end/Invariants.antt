use Rattle.name_match.proofs.SetLemmas.{IsReadTo}
use Rattle.name_match.proofs.sets.cut_at_end.Given as goal

abbrev pub invariant-loop-end : goal.invariant-loop-end
invariant-loop-end l = IsReadTo l.text l.end
