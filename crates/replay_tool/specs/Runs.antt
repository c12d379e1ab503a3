-- A run of the command: its words, its streams and its sources before and after, and its outcome.
use Rattle.std.specs.Prelude.{◌≡◌, ℕ, Bool, true, List, []}
use Rattle.mem_base.specs.declared.history.Entry.{Entry}
use Rattle.trace_model.specs.Plain.{PlainTrace}
use Rattle.event_model.specs.History.{last_state, EndsInFault}
use Rattle.replay_tool.specs.declared.refusal.Refusal.{Refusal}
use Rattle.replay_tool.specs.declared.refusal.Refusal.TheVariants.{Usage, FaultyLine, ReadFault, TooLong}
use Rattle.replay_tool.specs.declared.status.Status.{Status}
use Rattle.replay_tool.specs.Input.{IsTrace, HasFaultyLine, HadReadFault, IsTooLong, GaveInBounds}
use Rattle.replay_tool.specs.Refusals.{line_of}
use Rattle.replay_tool.specs.Replays.{Replay, RanWhole, RanUntilBroken, RanOut, the_report}
use Rattle.replay_tool.specs.Served.{Sources, shaped}
use Rattle.replay_tool.specs.Status.{number_of}
use Rattle.replay_tool.specs.Streams.{Stream, Wrote, BrokeWithin}
use Rattle.replay_tool.specs.Words.{AsksReplay}

-- all that a run works on, at one moment
pub record World : Type 0 where
  pub input : Stream
  pub out : Stream
  pub err : Stream
  pub sources : Sources

-- a run: what it was asked, all that it works on before and after it, and its outcome
pub record Run : Type 0 where
  pub words : List (List ℕ)
  pub before : World
  pub after : World
  pub status : ℕ
  pub entries : List Entry

-- the run has this status
abbrev pub Ended : Run → Status → Type 0
Ended r status = r.status ≡ number_of status

-- ---- a run that was refused

-- why it was refused, by its words and its input; after other words the input was left alone
abbrev pub IsCause : Refusal → Run → Type 0
IsCause Usage r = ¬ AsksReplay r.words × (r.after.input ≡ r.before.input)
IsCause (FaultyLine line cause) r = AsksReplay r.words × HasFaultyLine r.before.input r.after.input line cause
IsCause ReadFault r = AsksReplay r.words × HadReadFault r.before.input r.after.input
IsCause TooLong r = AsksReplay r.words × IsTooLong r.before.input r.after.input

-- no event was done, and the output and the sources were left alone
pub record DidNothing (r : Run) : Type 0 where
  pub none : r.entries ≡ []
  pub out : r.after.out ≡ r.before.out
  pub sources : r.after.sources ≡ r.before.sources

-- it was refused for this cause, and the line that tells it was written
pub record WasTold (r : Run) (refusal : Refusal) : Type 0 where
  pub cause : IsCause refusal r
  pub line : Wrote r.before.err r.after.err (line_of refusal)
  pub nothing : DidNothing r

-- it was refused for some cause, and a write failed within the line that tells it
pub record WasUntold (r : Run) : Type 0 where
  pub refusal : Refusal
  pub cause : IsCause refusal r
  pub line : BrokeWithin r.before.err r.after.err [] (line_of refusal)
  pub nothing : DidNothing r

-- memory ran out before the replay
pub record NeverBegan (r : Run) : Type 0 where
  pub asked : AsksReplay r.words
  pub input : GaveInBounds r.before.input r.after.input
  pub err : r.after.err ≡ r.before.err
  pub nothing : DidNothing r

-- ---- a run that replayed a trace

-- the words ask for a replay, the input is the spelling of this trace, and the error output was left alone
pub record Accepted (r : Run) (trace : PlainTrace) : Type 0 where
  pub asked : AsksReplay r.words
  pub input : IsTrace r.before.input r.after.input trace
  pub err : r.after.err ≡ r.before.err

-- its replay: the sources were told their capacity first
abbrev pub replay_of : Run → PlainTrace → Replay
replay_of r trace = record {
  tracks = trace.tracks;
  picks = trace.picks;
  entries = r.entries;
  out = r.before.out;
  out_then = r.after.out;
  sources = shaped r.before.sources;
  sources_then = r.after.sources;
}

-- the trace was replayed to its end and its report was written; and where a fault came, it is the last event
pub record WasReplayed (r : Run) (faulted : Bool) : Type 0 where
  pub trace : PlainTrace
  pub accepted : Accepted r trace
  pub ran : RanWhole the_report (replay_of r trace)
  pub fault : (last_state trace.tracks r.entries).faulted ≡ faulted
  pub last : faulted ≡ true → EndsInFault trace.tracks r.entries

-- a write of the report failed within a text
pub record WasCutOff (r : Run) : Type 0 where
  pub trace : PlainTrace
  pub accepted : Accepted r trace
  pub ran : RanUntilBroken the_report (replay_of r trace)

-- memory ran out during the replay
pub record WasBrokenOff (r : Run) : Type 0 where
  pub trace : PlainTrace
  pub accepted : Accepted r trace
  pub ran : RanOut the_report (replay_of r trace)
