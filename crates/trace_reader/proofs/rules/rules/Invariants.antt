use Rattle.std.proofs.Common.{◌≡◌, drop, map}
use Rattle.trace_model.specs.Rules.{rules_at}
use Rattle.trace_reader.proofs.RuleSteps.{with_front}
use Rattle.trace_reader.proofs.rules.rules.Given as goal

-- the rules so far and those of the words left are those of all
abbrev pub invariant-loop-word : goal.invariant-loop-word
invariant-loop-word l =
    with_front l.rules (rules_at (map (λ w. w.now) (drop l.word-index l.words)))
    ≡ rules_at (map (λ w. w.now) l.words)
