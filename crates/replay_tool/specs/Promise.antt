-- What `run` promises.
use Rattle.std.specs.Prelude.{◌≡◌, ◌⊎◌, ℕ, ◌<◌, ◌≤◌, true, false, List, length, Some, Err}
use Rattle.streams.specs.Moves.{IsToldPast}
use Rattle.mem_base.specs.declared.limits.TheConstants.{MAX_INPUT}
use Rattle.trace_model.specs.declared.cause.TraceCause.{TraceCause}
use Rattle.trace_model.specs.Plain.{PlainTrace}
use Rattle.trace_model.specs.Reading.{trace_at}
use Rattle.trace_model.specs.Spelling.{spelling, IsWellFormed}
use Rattle.replay_tool.specs.declared.refusal.Refusal.TheVariants as refusal
use Rattle.replay_tool.specs.declared.status.Status.{Status}
use Rattle.replay_tool.specs.declared.status.Status.TheVariants.{Done, Faulted, Usage, FaultyLine, ReadFault}
use Rattle.replay_tool.specs.declared.status.Status.TheVariants.{WriteFault, OutOfMemory, TooLong}
use Rattle.replay_tool.specs.Runs.{Run, Ended, WasReplayed, WasTold, WasUntold, WasCutOff, WasBrokenOff, NeverBegan}
use Rattle.replay_tool.specs.Served.{NothingOut}
use Rattle.replay_tool.specs.Streams.{Broke}
use Rattle.replay_tool.specs.Words.{AsksReplay}

-- what each status says of a run
abbrev pub Says : Run → Status → Type 0
Says r Done = WasReplayed r false
Says r Faulted = WasReplayed r true
Says r Usage = WasTold r refusal.Usage
Says r FaultyLine = (line : ℕ) × (cause : TraceCause) × WasTold r (refusal.FaultyLine line cause)
Says r ReadFault = WasTold r refusal.ReadFault
Says r WriteFault = WasCutOff r ⊎ WasUntold r
Says r OutOfMemory = NeverBegan r ⊎ WasBrokenOff r
Says r TooLong = WasTold r refusal.TooLong

-- the words ask for a replay, the input has these bytes, and no read fails
pub record Gets (r : Run) (bytes : List ℕ) : Type 0 where
  pub asks : AsksReplay r.words
  pub has : r.before.input.bytes ≡ Some bytes
  pub calm : ¬ Broke r.before.input r.after.input

-- no write fails
pub record CanWrite (r : Run) : Type 0 where
  pub out : ¬ Broke r.before.out r.after.out
  pub err : ¬ Broke r.before.err r.after.err

-- the run has this status, unless a write failed
abbrev pub EndedOrBroke : Run → Status → Type 0
EndedOrBroke r status = Ended r status ⊎ Ended r WriteFault

-- the run has this status, unless a write failed or memory ran out
abbrev pub EndedOrYielded : Run → Status → Type 0
EndedOrYielded r status = Ended r status ⊎ Ended r WriteFault ⊎ Ended r OutOfMemory

pub record Promise (r : Run) : Type 0 where
  -- its number is that of a status,
  pub known : (status : Status) × Ended r status
  -- and what that status says is so
  pub says : (status : Status) → Ended r status → Says r status
  -- whatever the status, nothing is out of the sources
  pub back : NothingOut r.after.sources
  -- other words are refused
  pub other_words : ¬ AsksReplay r.words → EndedOrBroke r Usage
  -- an input that gave more bytes than it may is refused,
  pub too_long : AsksReplay r.words → IsToldPast r.before.input.bytes r.after.input.bytes MAX_INPUT → EndedOrBroke r TooLong
  -- and so is one that has more
  pub too_many : (bytes : List ℕ) → Gets r bytes → MAX_INPUT < length bytes → EndedOrYielded r TooLong
  -- an input with a faulty line is refused
  pub faulty : (bytes : List ℕ) (line : ℕ) (cause : TraceCause) → Gets r bytes → length bytes ≤ MAX_INPUT
      → trace_at bytes ≡ Err (line, cause) → EndedOrYielded r FaultyLine
  -- a trace is replayed to its end, unless memory runs out
  pub complete : (trace : PlainTrace) → Gets r (spelling trace) → IsWellFormed trace
      → length (spelling trace) ≤ MAX_INPUT → CanWrite r
      → Ended r Done ⊎ Ended r Faulted ⊎ Ended r OutOfMemory
