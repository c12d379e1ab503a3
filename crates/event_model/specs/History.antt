-- Histories of events.
use Rattle.std.specs.Prelude.{◌≡◌, ◌⊎◌, ℕ, ◌-◌, true, false, List, [], ◌∷◌, ◌++◌, map, length, slice_index, None}
use Rattle.mem_base.specs.declared.history.Entry.{Entry}
use Rattle.mem_base.specs.declared.reply.Totals.{Totals}
use Rattle.mem_base.specs.declared.reply.Counts.{Counts}
use Rattle.trace_model.specs.Plain.{PlainTrack}
use Rattle.layout_model.specs.Asks.{Request, FitsRequest}
use Rattle.layout_model.specs.Layout.{empty_layout}
use Rattle.tracing_model.specs.Tracing.{peak, traced_now}
use Rattle.event_model.specs.Blocks.{total_size, pool_count}
use Rattle.event_model.specs.Events.{is_ready, next_action, next_request, event}
use Rattle.event_model.specs.Replies.{is_fault}
use Rattle.event_model.specs.State.{Held, State}

-- nothing is held by these tracks
abbrev pub nothing_held : List PlainTrack → Held
nothing_held tracks = record {
  blocks = [];
  layout = empty_layout;
  owner = None;
  frames = map (λ t. []) tracks;
  tracing = None;
  snapshots = [];
}

-- nothing is held, and nothing is done
abbrev pub opening : List PlainTrack → State
opening tracks = record { held = nothing_held tracks; done = map (λ t. 0) tracks; faulted = false }

-- the state that events lead to
abbrev pub state_after : List PlainTrack → State → List Entry → State
state_after tracks s [] = s
state_after tracks s (e ∷ es) = state_after tracks (event tracks s e).0 es

-- the state at a history's end
abbrev pub last_state : List PlainTrack → List Entry → State
last_state tracks es = state_after tracks (opening tracks) es

-- what the entry's operation asks the sources for
abbrev pub request_at : List PlainTrack → State → Entry → Request
request_at tracks s e = next_request s.held e.track (next_action tracks s e.track)

-- the entry may come next: no fault has come, its track is ready, it is at the operation that comes next,
-- and its answers fit what that operation asks for: each source answers exactly where it is asked
pub record IsNext (tracks : List PlainTrack) (s : State) (e : Entry) : Type 0 where
  pub no_fault : s.faulted ≡ false
  pub ready : is_ready tracks s e.track ≡ true
  pub at : e.at ≡ slice_index s.done e.track
  pub fits : FitsRequest s.held.layout (request_at tracks s e) e.arena e.raw

-- each entry may come after this state and the entries before it
abbrev pub IsLegalFrom : List PlainTrack → State → List Entry → Type 0
IsLegalFrom tracks s [] = Unit {0}
IsLegalFrom tracks s (e ∷ es) = IsNext tracks s e × IsLegalFrom tracks (event tracks s e).0 es

-- each entry may come after those before it
abbrev pub IsLegal : List PlainTrack → List Entry → Type 0
IsLegal tracks es = IsLegalFrom tracks (opening tracks) es

-- no track is ready
abbrev pub IsDone : List PlainTrack → State → Type 0
IsDone tracks s = (t : ℕ) → is_ready tracks s t ≡ false

-- at its end a fault has come, or no track is ready
abbrev pub IsWhole : List PlainTrack → List Entry → Type 0
IsWhole tracks es = (last_state tracks es).faulted ≡ true ⊎ IsDone tracks (last_state tracks es)

-- the last event is a fault, and no fault came before it
pub record EndsInFault (tracks : List PlainTrack) (es : List Entry) : Type 0 where
  pub earlier : List Entry
  pub last : Entry
  pub all : es ≡ earlier ++ last ∷ []
  pub sound : (last_state tracks earlier).faulted ≡ false
  pub fault : is_fault (event tracks (last_state tracks earlier) last).1 ≡ true

-- the arenas granted, given back, out, and most out at once, and the blocks in pools
abbrev pub counts_of : Held → Counts
counts_of h = record {
  given = h.layout.given;
  back = h.layout.back;
  out = h.layout.given - h.layout.back;
  most = h.layout.most;
  pooled = pool_count h.blocks;
}

-- the numbers of a history's summary
abbrev pub totals_of : List PlainTrack → List Entry → Totals
totals_of tracks es = let h = (last_state tracks es).held in record {
  events = length es;
  owner = h.owner;
  blocks = length h.blocks;
  bytes = total_size h.blocks;
  counts = counts_of h;
  traced = traced_now h.tracing;
  peak = peak h.tracing;
}
