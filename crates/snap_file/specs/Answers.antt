-- What the functions that read answer, beside what reading gives.
use Rattle.std.specs.Prelude.{◌≡◌, ℕ, Result, Ok, Err}
use Rattle.dump_model.specs.declared.cause.LoadCause.{LoadCause}
use Rattle.dump_model.specs.Reading.{Stop}
use Rattle.snap_file.specs.declared.error.LineError.{LineError}
use Rattle.snap_file.specs.declared.error.LineError.TheVariants as line
use Rattle.snap_file.specs.declared.error.LoadError.{LoadError}
use Rattle.snap_file.specs.declared.error.LoadError.TheVariants as whole

-- ---- of a line

-- what a function found, seen by view, or the fault that it found
abbrev pub seen : {X Y : Type 0} → (X → Y) → Result X LoadCause → Result Y LoadCause
seen view (Ok x) = Ok (view x)
seen view (Err c) = Err c

-- a fault that reading gives, unless memory ran out
abbrev pub Fails : {Y : Type 0} → LineError → Result Y LoadCause → Type 0
Fails line.OutOfMemory read = Unit {0}
Fails (line.Wrong c) read = read ≡ Err c

-- what a function answered, seen by view, is what reading gives, unless memory ran out
abbrev pub Gives : {X Y : Type 0} → (X → Y) → Result X LineError → Result Y LoadCause → Type 0
Gives view (Ok x) read = read ≡ Ok (view x)
Gives view (Err e) read = Fails e read

-- ---- of all dumps

-- a fault of the line with that number
abbrev pub at_line : ℕ → LineError → LoadError
at_line k line.OutOfMemory = whole.OutOfMemory
at_line k (line.Wrong c) = whole.At k c

-- the line at which reading stops, unless memory ran out
abbrev pub Stops : {Y : Type 0} → LoadError → Result Y Stop → Type 0
Stops whole.OutOfMemory read = Unit {0}
Stops (whole.At k c) read = read ≡ Err (k, c)

-- what a function answered, seen by view, is what reading gives, unless memory ran out
abbrev pub Reads : {X Y : Type 0} → (X → Y) → Result X LoadError → Result Y Stop → Type 0
Reads view (Ok x) read = read ≡ Ok (view x)
Reads view (Err e) read = Stops e read
