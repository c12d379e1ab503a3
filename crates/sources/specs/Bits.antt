-- Bits in words.
use Rattle.std.specs.Prelude.{◌≡◌, ℕ, ◌*◌, ◌/◌, ◌%◌, ◌<◌, List, length, get_or}
use Rattle.std.specs.Int.{bit_at}

-- bit k of the words, 64 to a word
abbrev pub bit_in : List ℕ → ℕ → ℕ
bit_in words k = bit_at (get_or words (k / 64) 0) (k % 64)

-- one of the bits is 0
pub record HasClear (words : List ℕ) : Type 0 where
  pub k : ℕ
  pub inside : k < 64 * length words
  pub clear : bit_in words k ≡ 0
