-- What one event, and a run of them, does to a machine, to the output and to the sources.
use Rattle.std.specs.Prelude.{◌≡◌, ◌⊎◌, ℕ, ◌+◌, ◌≤◌, true, false, List, [], ◌∷◌, ◌++◌, length, if◌then◌else◌}
use Rattle.std.specs.Prelude.{Result, Ok, Err}
use Rattle.mem_base.specs.declared.history.Entry.{Entry}
use Rattle.mem_base.specs.declared.trace.Side.TheVariants as sides
use Rattle.trace_model.specs.Plain.{PlainTrack, plain}
use Rattle.event_model.specs.State.{State}
use Rattle.event_model.specs.History.{IsNext, IsLegal, IsWhole, last_state}
use Rattle.event_model.specs.Schedule.{Follows}
use Rattle.report_model.specs.Report.{event_text, events_text, summary_text}
use Rattle.sources.specs.Holder.{Traded}
use Rattle.block_store.specs.Sources.{Fails, FailsUnrefused, IsPassedOn}
use Rattle.machine_core.specs.View.{MachineView, Requests, tracks_of, state_of}
use Rattle.replay_tool.specs.declared.status.Halt.{Halt}
use Rattle.replay_tool.specs.declared.status.Halt.TheVariants as halt
use Rattle.replay_tool.specs.declared.status.Status.{Status}
use Rattle.replay_tool.specs.declared.status.Status.TheVariants.{Done, Faulted, Usage, FaultyLine, ReadFault}
use Rattle.replay_tool.specs.declared.status.Status.TheVariants.{WriteFault, OutOfMemory, TooLong}
use Rattle.replay_tool.specs.Served.{Served, ServedNearly, Sources}
use Rattle.replay_tool.specs.Streams.{Stream, Wrote, BrokeWithin}

-- all that an event works on, at one moment: the machine, the output and the two sources
pub record Moment : Type 0 where
  pub machine : MachineView
  pub out : Stream
  pub sources : Sources

abbrev pub moment : MachineView → Stream → Sources → Moment
moment machine out sources = record { machine = machine; out = out; sources = sources }

-- ---- one event

-- the machine has done one more event, of track t, and the sources answered its requests
pub record OneMore (t : ℕ) (old new : Moment) : Type 0 where
  pub entry : Entry
  pub track : entry.track ≡ t
  pub picks : new.machine.picks ≡ old.machine.picks
  pub next : IsNext (tracks_of old.machine) (state_of old.machine) entry
  pub same : new.machine.trace ≡ old.machine.trace
  pub grows : new.machine.entries ≡ old.machine.entries ++ entry ∷ []
  pub arenas : Requests sides.Arena old.machine.trace old.machine.entries entry
      old.machine.arenas new.machine.arenas old.sources.arenas new.sources.arenas
  pub raws : Requests sides.Raw old.machine.trace old.machine.entries entry
      old.machine.raws new.machine.raws old.sources.raw new.sources.raw

-- memory ran out in the event, which was not done, and the raw source refused nothing
pub record NoneMore (old new : Moment) : Type 0 where
  pub same : new.machine ≡ old.machine
  pub arenas : Fails old.machine.arenas old.sources.arenas new.sources.arenas
  pub raws : FailsUnrefused old.machine.raws old.sources.raw new.sources.raw
  pub passed : IsPassedOn old.sources.arenas new.sources.arenas old.sources.raw new.sources.raw

-- the text of the event that a machine did from there
abbrev pub text_from : MachineView → Entry → List ℕ
text_from old entry = event_text (tracks_of old) (length old.entries + 1) (state_of old) entry

-- one more event was done, and its text was written
pub record WroteEvent (t : ℕ) (old new : Moment) : Type 0 where
  pub more : OneMore t old new
  pub text : Wrote old.out new.out (text_from old.machine more.entry)

-- one more event was done, and a write failed within its text
pub record BrokeEvent (t : ℕ) (old new : Moment) : Type 0 where
  pub more : OneMore t old new
  pub front : BrokeWithin old.out new.out [] (text_from old.machine more.entry)

-- memory ran out in the event, or for its text, of which nothing was written
pub record LackedEvent (t : ℕ) (old new : Moment) : Type 0 where
  pub did : NoneMore old new ⊎ OneMore t old new
  pub out : new.out ≡ old.out

-- how an event of track t was given up
abbrev pub EventStops : ℕ → Moment → Moment → Halt → Type 0
EventStops t old new halt.WriteFault = BrokeEvent t old new
EventStops t old new halt.OutOfMemory = LackedEvent t old new

-- how an event of track t ended
abbrev pub EventEnds : {T : Type 0} → ℕ → Moment → Moment → Result T Halt → Type 0
EventEnds t old new (Ok done) = WroteEvent t old new
EventEnds t old new (Err why) = EventStops t old new why

-- the machine traded regions with the sources, and nothing else came or went
pub record TradedBoth (old new : Moment) : Type 0 where
  pub arenas : Traded old.machine.arenas new.machine.arenas old.sources.arenas new.sources.arenas
  pub raws : Traded old.machine.raws new.machine.raws old.sources.raw new.sources.raw

-- ---- a run of events

-- what is printed of a run: the texts of its events, one after the other, and a text at its end
pub record Printing : Type 0 where
  pub events : List PlainTrack → List Entry → List ℕ
  pub end : List PlainTrack → List Entry → List ℕ

-- the report: the texts of events and the summary
abbrev pub the_report : Printing
the_report = record { events = events_text; end = summary_text }

-- the events that were done of these tracks with these picks, and the output and the sources before and after them
pub record Replay : Type 0 where
  pub tracks : List PlainTrack
  pub picks : List (ℕ × ℕ)
  pub entries : List Entry
  pub out : Stream
  pub out_then : Stream
  pub sources : Sources
  pub sources_then : Sources

-- the events between two moments, the first of which is before all events
abbrev pub replay_between : Moment → Moment → Replay
replay_between first last = record {
  tracks = tracks_of last.machine;
  picks = (plain last.machine.trace).picks;
  entries = last.machine.entries;
  out = first.out;
  out_then = last.out;
  sources = first.sources;
  sources_then = last.sources;
}

-- the events were done to their end and all was printed, and the sources answered just their requests
pub record RanWhole (p : Printing) (r : Replay) : Type 0 where
  pub legal : IsLegal r.tracks r.entries
  pub follows : Follows r.tracks r.picks r.entries
  pub whole : IsWhole r.tracks r.entries
  pub written : Wrote r.out r.out_then (p.events r.tracks r.entries ++ p.end r.tracks r.entries)
  pub served : Served r.tracks r.entries r.sources r.sources_then

-- the texts of all events but the last were written, and a write failed within the text of the last
pub record BrokeInEvent (p : Printing) (r : Replay) : Type 0 where
  pub earlier : List Entry
  pub last : Entry
  pub text : List ℕ
  pub all : r.entries ≡ earlier ++ last ∷ []
  pub adds : p.events r.tracks r.entries ≡ p.events r.tracks earlier ++ text
  pub written : BrokeWithin r.out r.out_then (p.events r.tracks earlier) text

-- the texts of all events were written, and a write failed within the text at the end
pub record BrokeAtEnd (p : Printing) (r : Replay) : Type 0 where
  pub whole : IsWhole r.tracks r.entries
  pub written : BrokeWithin r.out r.out_then (p.events r.tracks r.entries) (p.end r.tracks r.entries)

-- a write failed within a text, and nothing was done after it
pub record RanUntilBroken (p : Printing) (r : Replay) : Type 0 where
  pub legal : IsLegal r.tracks r.entries
  pub follows : Follows r.tracks r.picks r.entries
  pub broke : BrokeInEvent p r ⊎ BrokeAtEnd p r
  pub served : Served r.tracks r.entries r.sources r.sources_then

-- memory ran out, and the whole texts of all events were written, but perhaps of the last
pub record RanOut (p : Printing) (r : Replay) : Type 0 where
  pub legal : IsLegal r.tracks r.entries
  pub follows : Follows r.tracks r.picks r.entries
  pub earlier : List Entry
  pub later : List Entry
  pub all : r.entries ≡ earlier ++ later
  pub few : length later ≤ 1
  pub written : Wrote r.out r.out_then (p.events r.tracks earlier)
  pub served : ServedNearly r.tracks r.entries r.sources r.sources_then

-- how the report of a run was given up
abbrev pub ReportStops : Replay → Halt → Type 0
ReportStops r halt.WriteFault = RanUntilBroken the_report r
ReportStops r halt.OutOfMemory = RanOut the_report r

-- how writing the report of a run ended
abbrev pub ReportEnds : {T : Type 0} → Replay → Result T Halt → Type 0
ReportEnds r (Ok done) = RanWhole the_report r
ReportEnds r (Err why) = ReportStops r why

-- the status of a replay that was done to its end and led to this state
abbrev pub status_at : State → Status
status_at s = if s.faulted then Faulted else Done

-- how a replay ended, by its status
abbrev pub ReplayEnds : Replay → Status → Type 0
ReplayEnds r Done = RanWhole the_report r × ((last_state r.tracks r.entries).faulted ≡ false)
ReplayEnds r Faulted = RanWhole the_report r × ((last_state r.tracks r.entries).faulted ≡ true)
ReplayEnds r WriteFault = RanUntilBroken the_report r
ReplayEnds r OutOfMemory = RanOut the_report r
ReplayEnds r Usage = ⊥
ReplayEnds r FaultyLine = ⊥
ReplayEnds r ReadFault = ⊥
ReplayEnds r TooLong = ⊥
