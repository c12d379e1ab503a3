-- What the texts of sets and of pieces stand for.
use Rattle.std.specs.Prelude.{ℕ, List}
use Rattle.std.specs.Borrow.{Bor}
use Rattle.pattern_model.specs.Patterns.{stretches, Cut, PartRead, SetRead}
use Rattle.name_match.specs.Pieces.{part_of}
use Rattle.name_match.specs.declared.piece.Piece.{Piece}
use Rattle.name_match.specs.declared.sets.SetText.{SetText}

-- a text that is cut in two
abbrev pub cut_of : Bor (List ℕ) × Bor (List ℕ) → Cut
cut_of c = record { front = c.0.now; behind = c.1.now }

-- the set of a text, and what stands behind it
abbrev pub set_read : SetText → SetRead
set_read t = record {
  set = record { negated = t.negated; stretches = stretches t.members.now };
  behind = t.behind.now;
}

-- a piece, and the text behind it
abbrev pub part_read : Piece × Bor (List ℕ) → PartRead
part_read p = record { part = part_of p.0; behind = p.1.now }
