-- The text of a set, byte by byte up to its end.
use Rattle.std.proofs.Common.{◌≡◌, ℕ, List, ◌++◌, take, drop}
use Rattle.std.specs.Prelude.{option_map}
use Rattle.pattern_model.specs.Patterns.{to_bracket, to_set_end, Cut}

-- the text with more in front
abbrev pub with_front : List ℕ → Cut → Cut
with_front front cut = record cut { front = front ++ cut.front }

-- a text, read as far as n
abbrev pub IsReadTo : List ℕ → ℕ → Type 0
IsReadTo text n = to_set_end text ≡ option_map (with_front (take n text)) (to_bracket (drop n text))
