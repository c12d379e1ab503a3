-- What became of the input.
use Rattle.std.specs.Prelude.{◌≡◌, ℕ, IfSome, Err}
use Rattle.std.specs.Io.KnownBytes.{IsAtEnd}
use Rattle.streams.specs.Moves.{GaveWithin, GavePast}
use Rattle.mem_base.specs.declared.limits.TheConstants.{MAX_INPUT}
use Rattle.trace_model.specs.declared.cause.TraceCause.{TraceCause}
use Rattle.trace_model.specs.Plain.{PlainTrace}
use Rattle.trace_model.specs.Reading.{trace_at}
use Rattle.trace_model.specs.Spelling.{spelling, IsWellFormed}
use Rattle.replay_tool.specs.Streams.{Stream, Broke, IsCalm}

-- it gave no more bytes than there may be, and no read failed
pub record GaveInBounds (before after : Stream) : Type 0 where
  pub gave : GaveWithin before.bytes after.bytes MAX_INPUT
  pub calm : IsCalm before after

-- it was read to its end, and gave no more bytes than there may be
pub record WasRead (before after : Stream) : Type 0 where
  pub all : GaveInBounds before after
  pub end : IsAtEnd after.bytes

-- it was read, and is the spelling of this trace
pub record IsTrace (before after : Stream) (trace : PlainTrace) : Type 0 where
  pub read : WasRead before after
  pub well_formed : IsWellFormed trace
  pub spelt : IfSome before.bytes (λ bytes. bytes ≡ spelling trace)

-- it was read, and this is its first faulty line, with its first fault
pub record HasFaultyLine (before after : Stream) (line : ℕ) (cause : TraceCause) : Type 0 where
  pub read : WasRead before after
  pub first : IfSome before.bytes (λ bytes. trace_at bytes ≡ Err (line, cause))

-- a read failed, and no more bytes were given before than there may be
pub record HadReadFault (before after : Stream) : Type 0 where
  pub broke : Broke before after
  pub gave : GaveWithin before.bytes after.bytes MAX_INPUT

-- it gave more bytes than there may be, and no read failed
pub record IsTooLong (before after : Stream) : Type 0 where
  pub gave : GavePast before.bytes after.bytes MAX_INPUT
  pub calm : IsCalm before after
