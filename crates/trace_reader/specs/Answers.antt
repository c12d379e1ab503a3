-- What the functions that read answer, beside what reading gives.
use Rattle.std.specs.Prelude.{◌≡◌, ◌==◌, ℕ, List, Result, Ok, Err, if◌then◌else◌}
use Rattle.std.specs.List.{list_all, slice_split}
use Rattle.trace_model.specs.declared.cause.TraceCause.{TraceCause}
use Rattle.trace_model.specs.declared.cause.TraceCause.TheVariants.{BadByte}
use Rattle.trace_model.specs.Operands.{is_between}
use Rattle.trace_model.specs.Spelling.{blank}
use Rattle.trace_model.specs.Reading.{Stop}
use Rattle.trace_reader.specs.declared.error.LineError.{LineError}
use Rattle.trace_reader.specs.declared.error.LineError.TheVariants as line
use Rattle.trace_reader.specs.declared.error.TraceError.{TraceError}
use Rattle.trace_reader.specs.declared.error.TraceError.TheVariants as whole

-- ---- of a line

-- a fault that reading gives, unless memory ran out
abbrev pub Fails : {Y : Type 0} → LineError → Result Y TraceCause → Type 0
Fails line.OutOfMemory read = Unit {0}
Fails (line.Wrong c) read = read ≡ Err c

-- what a function answered, seen by view, is what reading gives, unless memory ran out
abbrev pub Gives : {X Y : Type 0} → (X → Y) → Result X LineError → Result Y TraceCause → Type 0
Gives view (Ok x) read = read ≡ Ok (view x)
Gives view (Err e) read = Fails e read

-- the parts of a line between its blanks, where all its bytes are printable
abbrev pub words_in : List ℕ → Result (List (List ℕ)) TraceCause
words_in line = if list_all (is_between 32 126) line then Ok (slice_split (λ b. b == blank) line) else Err BadByte

-- ---- of a whole trace

-- a fault of the line with that number
abbrev pub at_line : ℕ → LineError → TraceError
at_line k line.OutOfMemory = whole.OutOfMemory
at_line k (line.Wrong c) = whole.At k c

-- the line at which reading stops, unless memory ran out
abbrev pub Stops : {Y : Type 0} → TraceError → Result Y Stop → Type 0
Stops whole.OutOfMemory read = Unit {0}
Stops (whole.At k c) read = read ≡ Err (k, c)

-- what a function answered, seen by view, is what reading gives, unless memory ran out
abbrev pub Reads : {X Y : Type 0} → (X → Y) → Result X TraceError → Result Y Stop → Type 0
Reads view (Ok x) read = read ≡ Ok (view x)
Reads view (Err e) read = Stops e read
