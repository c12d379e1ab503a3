-- What a call took from a source, and what it gave to a sink.
use Rattle.std.specs.Prelude.{◌≡◌, ℕ, ◌+◌, ◌<◌, ◌≤◌, ◌↔◌, ⊤, List, [], length, take, Option, None, Some}
use Rattle.std.specs.Io.KnownBytes.{Consumes, Appends}

-- n is 0 exactly where no byte was left, where that is told
abbrev pub IsZeroAtEnd : Option (List ℕ) → ℕ → Type 0
IsZeroAtEnd None n = ⊤
IsZeroAtEnd (Some xs) n = (n ≡ 0) ↔ (xs ≡ [])

-- some bytes were given, at most so many
pub record GaveWithin (old new : Option (List ℕ)) (max : ℕ) : Type 0 where
  pub given : List ℕ
  pub gone : Consumes old new given
  pub short : length given ≤ max

-- some bytes were given, more than so many
pub record GavePast (old new : Option (List ℕ)) (max : ℕ) : Type 0 where
  pub given : List ℕ
  pub gone : Consumes old new given
  pub long : max < length given

-- it is told that more bytes went than so many
abbrev pub IsToldPast : Option (List ℕ) → Option (List ℕ) → ℕ → Type 0
IsToldPast None new max = ⊥
IsToldPast (Some xs) None max = ⊥
IsToldPast (Some xs) (Some ys) max = length ys + max < length xs

-- a front of the piece was written, and not the whole
pub record WroteFront (old new : Option (List ℕ)) (piece : List ℕ) : Type 0 where
  pub count : ℕ
  pub short : count < length piece
  pub front : Appends old new (take count piece)
