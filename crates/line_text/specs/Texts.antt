-- Texts that grow at their end.
use Rattle.std.specs.Prelude.{◌≡◌, ℕ, List, ◌++◌, length, drop}

-- what stood in a text stands in front of it still
abbrev pub StaysInFront : List ℕ → List ℕ → Type 0
StaysInFront old new = new ≡ old ++ drop (length old) new
