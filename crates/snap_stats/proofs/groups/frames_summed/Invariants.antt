use Rattle.std.proofs.Common.{◌≡◌, ◌∷◌, ◌++◌, [], map}
use Rattle.snap_stats.specs.Groups.{whole}
use Rattle.snap_stats.specs.Sums.{group_by}
use Rattle.snap_stats.proofs.groups.frames_summed.Given as goal

abbrev pub invariant-loop-frame : goal.invariant-loop-frame
invariant-loop-frame l = map whole l.groups.items ++ map (group_by (λ f. f ∷ [])) l.frame-iterator ≡ map (group_by (λ f. f ∷ [])) l.sums.entries
