use Rattle.std.proofs.Common.{◌≡◌, ◌∷◌, [], map, take}
use Rattle.snap_stats.specs.Pairs.{diff_by, whole_change}
use Rattle.snap_stats.proofs.pairs.frames_changed.Given as goal

abbrev pub invariant-loop-pair : goal.invariant-loop-pair
invariant-loop-pair l =
    map whole_change l.changes.items ≡ map (diff_by (λ f. f ∷ [])) (take l.pair-index l.pairs)
