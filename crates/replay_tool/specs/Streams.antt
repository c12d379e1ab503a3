-- What became of a stream: of its bytes, where these are known, and of its count of faults.
use Rattle.std.specs.Prelude.{◌≡◌, ℕ, ◌<◌, List, ◌++◌, length, take, Option}
use Rattle.std.specs.Io.KnownBytes.{Appends}
use Rattle.streams.specs.Faults.{MetFault}

-- a stream: the bytes left in it or written to it, where these are known, and how many faults it met
pub record Stream : Type 0 where
  pub bytes : Option (List ℕ)
  pub faults : ℕ

abbrev pub stream : Option (List ℕ) → ℕ → Stream
stream bytes faults = record { bytes = bytes; faults = faults }

-- it met one fault
abbrev pub Broke : Stream → Stream → Type 0
Broke before after = MetFault before.faults after.faults

-- it met none
abbrev pub IsCalm : Stream → Stream → Type 0
IsCalm before after = after.faults ≡ before.faults

-- the text was written, and no fault was met
pub record Wrote (before after : Stream) (text : List ℕ) : Type 0 where
  pub bytes : Appends before.bytes after.bytes text
  pub calm : IsCalm before after

-- one text was written, and then a front of the next and not the whole of it, where a fault was met
pub record BrokeWithin (before after : Stream) (first next : List ℕ) : Type 0 where
  pub count : ℕ
  pub short : count < length next
  pub bytes : Appends before.bytes after.bytes (first ++ take count next)
  pub broke : Broke before after
