-- Laws over patterns.
use Rattle.std.specs.Prelude.{◌≡◌, ℕ, List, ◌∷◌}
use Rattle.pattern_model.specs.Patterns.{first_part, parts_of}

-- the parts of a text are its first part and then the parts of what stands behind that
abbrev pub ReadsInTurn : Type 0
ReadsInTurn = (b : ℕ) (text : List ℕ)
    → parts_of (b ∷ text) ≡ (first_part b text).part ∷ parts_of (first_part b text).behind
