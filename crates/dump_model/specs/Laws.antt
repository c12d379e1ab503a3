-- Laws over dumps.
use Rattle.std.specs.Prelude.{◌≡◌, ℕ, List, ◌++◌, length, Ok}
use Rattle.std.specs.List.{AllByRecursion}
use Rattle.snapshot_model.specs.Snapshots.{PlainSnapshot}
use Rattle.dump_model.specs.Spelling.{dump_text, dumps_text, IsDumpable}
use Rattle.dump_model.specs.Reading.{dumps_at}

-- each snapshot has one spelling, whatever stands behind it
abbrev pub IsSpeltOnce : Type 0
IsSpeltOnce =
    (s t : PlainSnapshot) (behind more : List ℕ) → IsDumpable s → IsDumpable t
    → dump_text s ++ behind ≡ dump_text t ++ more → s ≡ t

-- what is read is spelt so
abbrev pub ReadIsSpelt : Type 0
ReadIsSpelt =
    (bytes : List ℕ) (count : ℕ) (ss : List PlainSnapshot) → dumps_at bytes count ≡ Ok ss
    → AllByRecursion IsDumpable ss × (length ss ≡ count) × (bytes ≡ dumps_text ss)

-- what is spelt so is read
abbrev pub SpeltIsRead : Type 0
SpeltIsRead = (ss : List PlainSnapshot) → AllByRecursion IsDumpable ss → dumps_at (dumps_text ss) (length ss) ≡ Ok ss
