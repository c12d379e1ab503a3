-- What the pieces of a pattern, as the code holds them, stand for.
use Rattle.std.specs.Prelude.{List, map}
use Rattle.pattern_model.specs.Patterns.{any, any_byte, itself, of_set, ByteSet, Part, Stretch}
use Rattle.name_match.specs.declared.piece.Piece.{Piece}
use Rattle.name_match.specs.declared.piece.Piece.TheVariants as pieces
use Rattle.name_match.specs.declared.sets.ByteSet.{ByteSet as HeldSet}
use Rattle.name_match.specs.declared.sets.ByteRange.{ByteRange}

-- the stretch that a range is
abbrev pub stretch_of : ByteRange → Stretch
stretch_of r = record { least = r.least; greatest = r.greatest }

-- the set that the code holds
abbrev pub set_held : HeldSet → ByteSet
set_held s = record { negated = s.negated; stretches = map stretch_of s.ranges.items }

-- the part that a piece is
abbrev pub part_of : Piece → Part
part_of pieces.Any = any
part_of pieces.OneByte = any_byte
part_of (pieces.Byte b) = itself b
part_of (pieces.Set s) = of_set (set_held s)

-- the parts that the pieces are
abbrev pub parts_held : List Piece → List Part
parts_held held = map part_of held
