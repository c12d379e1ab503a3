-- Why a run did no event, and the line that tells it.
use Rattle.std.specs.Prelude.{◌≡◌, ℕ, ◌++◌, ◌∷◌, [], List, codes, decimal, ⊤}
use Rattle.trace_model.specs.declared.cause.TraceCause.{TraceCause}
use Rattle.trace_model.specs.Cause.{cause_word}
use Rattle.trace_model.specs.Spelling.{line_end}
use Rattle.replay_tool.specs.declared.refusal.Refusal.{Refusal}
use Rattle.replay_tool.specs.declared.refusal.Refusal.TheVariants.{Usage, FaultyLine, ReadFault, TooLong}
use Rattle.replay_tool.specs.declared.status.Status.{Status}
use Rattle.replay_tool.specs.declared.status.Status.TheVariants as status
use Rattle.replay_tool.specs.Input.{HasFaultyLine, HadReadFault, IsTooLong}
use Rattle.replay_tool.specs.Streams.{Stream, Wrote, BrokeWithin}

abbrev pub Why : Type 0
Why = Refusal

-- the status of a run that was refused so
abbrev pub status_of : Refusal → Status
status_of Usage = status.Usage
status_of (FaultyLine line cause) = status.FaultyLine
status_of ReadFault = status.ReadFault
status_of TooLong = status.TooLong

unfoldable pub faulty_line_text : ℕ → TraceCause → List ℕ
faulty_line_text line cause = codes "pymtrace: line " ++ decimal line ++ codes ": " ++ cause_word cause ++ line_end ∷ []

-- the line that tells it
abbrev pub line_of : Refusal → List ℕ
line_of Usage = codes "pymtrace: usage\n"
line_of (FaultyLine line cause) = faulty_line_text line cause
line_of ReadFault = codes "pymtrace: read fault\n"
line_of TooLong = codes "pymtrace: input too long\n"

-- what was wrong with the input: nothing where the words were others
abbrev pub IsInputCause : Refusal → Stream → Stream → Type 0
IsInputCause Usage before after = ⊥
IsInputCause (FaultyLine line cause) before after = HasFaultyLine before after line cause
IsInputCause ReadFault before after = HadReadFault before after
IsInputCause TooLong before after = IsTooLong before after

-- its line is put together in memory
abbrev pub TakesMemory : Refusal → Type 0
TakesMemory Usage = ⊥
TakesMemory (FaultyLine line cause) = ⊤
TakesMemory ReadFault = ⊥
TakesMemory TooLong = ⊥

-- how telling a refusal ended, by the status: it was told, a write failed within its line, or there was no memory for it
pub data Refusing (refusal : Refusal) (before after : Stream) (ended : Status) : Type 0 where
  told : ended ≡ status_of refusal → Wrote before after (line_of refusal) → Refusing refusal before after ended
  broke : ended ≡ status.WriteFault → BrokeWithin before after [] (line_of refusal) → Refusing refusal before after ended
  lacked : ended ≡ status.OutOfMemory → TakesMemory refusal → after ≡ before → Refusing refusal before after ended
