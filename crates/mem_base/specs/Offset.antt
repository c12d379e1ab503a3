-- Where a poke or a peek may begin.
use Rattle.std.specs.Prelude.{◌<◌, ◌^◌, ℤ, pos, negsuc}

-- an offset from the data's start, in bytes: it fits 64 bits and goes back no further than the domain's letter
abbrev pub IsOffset : ℤ → Type 0
IsOffset (pos n) = n < 2 ^ 63
IsOffset (negsuc n) = n < 8
