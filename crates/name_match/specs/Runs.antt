-- Runs: the parts between two stars, each of which takes one byte.
use Rattle.std.specs.Prelude.{◌≡◌, ℕ, ◌<◌, Bool, true, false, ◌&&◌, List, [], ◌∷◌, ◌++◌, drop}
use Rattle.pattern_model.specs.Patterns.{any, has_byte, of_set, Part}
use Rattle.name_match.specs.Pieces.{parts_held}
use Rattle.name_match.specs.declared.piece.Piece.{Piece}

-- parts without a star
abbrev pub IsRun : List Part → Type 0
IsRun [] = Unit {0}
IsRun (any ∷ parts) = ⊥
IsRun (of_set set ∷ parts) = IsRun parts

-- the first of the parts, if there is one, is a star
abbrev pub StarsFirst : List Part → Type 0
StarsFirst [] = Unit {0}
StarsFirst (any ∷ parts) = Unit {0}
StarsFirst (of_set set ∷ parts) = ⊥

-- the pieces, cut into those in front of the first star and those from it on
pub record IsCut (pieces run from_star : List Piece) : Type 0 where
  pub both : pieces ≡ run ++ from_star
  pub no_star : IsRun (parts_held run)
  pub at_star : StarsFirst (parts_held from_star)

-- whether the part takes this one byte
abbrev pub takes_byte : Part → ℕ → Bool
takes_byte any b = false
takes_byte (of_set set) b = has_byte set b

-- whether the parts take the first bytes of the name, one byte each
abbrev pub fits : List Part → List ℕ → Bool
fits [] name = true
fits (part ∷ parts) [] = false
fits (part ∷ parts) (b ∷ bs) = takes_byte part b && fits parts bs

-- the parts fit at none of the first n places of the name
abbrev pub FitsNowhereBelow : List Part → List ℕ → ℕ → Type 0
FitsNowhereBelow parts name n = (at : ℕ) → at < n → fits parts (drop at name) ≡ false
