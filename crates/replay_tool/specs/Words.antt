-- The words of a command line.
use Rattle.std.specs.Prelude.{◌≡◌, ℕ, List, [], ◌∷◌, map, codes, string_bytes, String}
use Rattle.std.specs.declared.alloc.Global.{Global}

-- the bytes of each word
abbrev pub texts_of : List (String Global) → List (List ℕ)
texts_of words = map (λ w. string_bytes w) words

-- the words are those that ask for a replay
abbrev pub AsksReplay : List (List ℕ) → Type 0
AsksReplay words = words ≡ codes "replay" ∷ []
