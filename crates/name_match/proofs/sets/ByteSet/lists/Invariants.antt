use Rattle.std.proofs.Common.{◌≡◌, map, drop}
use Rattle.name_match.specs.Pieces.{stretch_of}
use Rattle.pattern_model.specs.Patterns.{is_listed}
use Rattle.name_match.proofs.sets.ByteSet.lists.Given as goal

abbrev pub invariant-loop-range : goal.invariant-loop-range
invariant-loop-range l =
    is_listed (map stretch_of l.self.ranges.items) l.byte
    ≡ is_listed (map stretch_of (drop l.range-index l.self.ranges.items)) l.byte
