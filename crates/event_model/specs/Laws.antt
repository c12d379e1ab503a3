-- Laws over histories.
use Rattle.std.specs.Prelude.{◌≡◌, ◌≢◌, ◌↔◌, ◌⊎◌, ℕ, ◌+◌, ◌<◌, ◌≤◌, Bool, true, false, List, [], ◌∷◌, ◌++◌}
use Rattle.std.specs.Prelude.{map, length, Some, None, is_some}
use Rattle.std.specs.List.{AllByRecursion}
use Rattle.mem_base.specs.Plan.{Plan, IsPlanned}
use Rattle.mem_base.specs.declared.history.Entry.{Entry}
use Rattle.mem_base.specs.declared.history.Ask.TheVariants.{Refused}
use Rattle.mem_base.specs.declared.trace.Letter.{Letter}
use Rattle.mem_base.specs.declared.trace.Side.{Side}
use Rattle.mem_base.specs.Name.{Name}
use Rattle.trace_model.specs.Plain.{Action, PlainTrack}
use Rattle.trace_model.specs.Spelling.{action_count, FitsTrack}
use Rattle.layout_model.specs.Sound.{IsSound}
use Rattle.map_model.specs.Map.{find}
use Rattle.block_model.specs.Block.{size_of}
use Rattle.tracing_model.specs.Traces.{of_block, TraceOf}
use Rattle.snapshot_model.specs.Snapshots.{PlainSnapshot, IsSnapshot}
use Rattle.request_model.specs.Counts.{asked_in, asks_in, refusals_in}
use Rattle.request_model.specs.Decision.{max_data, max_size}
use Rattle.event_model.specs.Blocks.{Block}
use Rattle.event_model.specs.Deeds.{deed_of, takes_lock, calls, frees}
use Rattle.event_model.specs.Effects.{block_of}
use Rattle.event_model.specs.Events.{event, is_ready, left_in, next_action, ops_left}
use Rattle.event_model.specs.History.{IsNext, IsLegal, IsDone, EndsInFault, last_state}
use Rattle.event_model.specs.Memory.{SizedCall, fault_of, given_body, is_busy}
use Rattle.event_model.specs.Plans.{GrowsBy, Heeds, is_planned, lists}
use Rattle.event_model.specs.Replies.{ok, null, is_fault}
use Rattle.event_model.specs.Schedule.{one_by_one, Takes, FollowsTo, Follows, runs, NeighboursDiffer}
use Rattle.event_model.specs.State.{State, Held, is_owner}
use Rattle.event_model.specs.Tracing.{trace_in}

-- ---- one more entry

-- a legal history with one more entry that may come next is legal
abbrev pub OneMoreIsLegal : Type 0
OneMoreIsLegal = (tracks : List PlainTrack) (es : List Entry) (e : Entry)
    → IsLegal tracks es → IsNext tracks (last_state tracks es) e → IsLegal tracks (es ++ e ∷ [])

-- it leads to that entry's event
abbrev pub OneMoreState : Type 0
OneMoreState = (tracks : List PlainTrack) (es : List Entry) (e : Entry)
    → last_state tracks (es ++ e ∷ []) ≡ (event tracks (last_state tracks es) e).0

-- it leaves less to do
abbrev pub OneMoreLeavesLess : Type 0
OneMoreLeavesLess = (tracks : List PlainTrack) (es : List Entry) (e : Entry)
    → IsNext tracks (last_state tracks es) e
    → left_in tracks (last_state tracks (es ++ e ∷ [])) < left_in tracks (last_state tracks es)

-- ---- faults, and lengths

-- an event that is a fault leaves all as it was, but that a fault has come
abbrev pub FaultsChangeNothing : Type 0
FaultsChangeNothing = (tracks : List PlainTrack) (s : State) (e : Entry)
    → is_fault (event tracks s e).1 ≡ true → (event tracks s e).0 ≡ record s { faulted = true }

-- an event that is none brings none
abbrev pub OthersBringNoFault : Type 0
OthersBringNoFault = (tracks : List PlainTrack) (s : State) (e : Entry)
    → is_fault (event tracks s e).1 ≡ false → (event tracks s e).0.faulted ≡ s.faulted

-- a legal history in which a fault has come ends in it
abbrev pub FaultIsLast : Type 0
FaultIsLast = (tracks : List PlainTrack) (es : List Entry)
    → IsLegal tracks es → (last_state tracks es).faulted ≡ true → EndsInFault tracks es

-- a legal history has no more events than the tracks have operations, but for a fault
abbrev pub LegalIsShort : Type 0
LegalIsShort = (tracks : List PlainTrack) (es : List Entry)
    → IsLegal tracks es → length es ≤ action_count tracks + 1

-- ---- names

-- an event leaves what a name holds, unless its operation is on the block of that name
abbrev pub OtherNamesKeepTheirs : Type 0
OtherNamesKeepTheirs = (tracks : List PlainTrack) (s : State) (e : Entry) (a : Action) (name : Name)
    → next_action tracks s e.track ≡ Some a → block_of (deed_of a) ≢ Some name
    → find (event tracks s e).0.held.blocks name ≡ find s.held.blocks name

-- an event that answers anything but ok leaves what each name holds
abbrev pub OnlyOkChangesBlocks : Type 0
OnlyOkChangesBlocks = (tracks : List PlainTrack) (s : State) (e : Entry) (name : Name)
    → (event tracks s e).1 ≢ ok → find (event tracks s e).0.held.blocks name ≡ find s.held.blocks name

-- a name for which a call for a block answers ok holds one: a new one where it held nothing, and else that block
-- with the bytes that it is to have
abbrev pub CallsGive : Type 0
CallsGive = (tracks : List PlainTrack) (s : State) (e : Entry) (a : Action) (name : Name) (call : SizedCall)
    → next_action tracks s e.track ≡ Some a → deed_of a ≡ calls name call → (event tracks s e).1 ≡ ok
    → (block : Block) × (find (event tracks s e).0.held.blocks name ≡ Some block)
    × (block.body ≡ given_body call (find s.held.blocks name))

-- a name of which free answers ok holds nothing
abbrev pub FreeTakes : Type 0
FreeTakes = (tracks : List PlainTrack) (s : State) (e : Entry) (a : Action) (v : Letter) (name : Name)
    → next_action tracks s e.track ≡ Some a → deed_of a ≡ frees v name → (event tracks s e).1 ≡ ok
    → find (event tracks s e).0.held.blocks name ≡ None

-- ---- the schedule

-- the schedule takes one track at most, and leaves the same picks
abbrev pub TakesOne : Type 0
TakesOne = (ready : ℕ → Bool) (picks : List ℕ) (t u : ℕ) (left rest : List ℕ)
    → Takes ready picks t left → Takes ready picks u rest → (t ≡ u) × (left ≡ rest)

-- a history with one more entry, of the track that the schedule takes from the picks left, follows the picks
abbrev pub OneMoreFollows : Type 0
OneMoreFollows = (tracks : List PlainTrack) (picks : List (ℕ × ℕ)) (es : List Entry) (e : Entry)
    → (left rest : List ℕ)
    → FollowsTo tracks picks es left → Takes (is_ready tracks (last_state tracks es)) left e.track rest
    → FollowsTo tracks picks (es ++ e ∷ []) rest

-- the runs of a history are the tracks of its entries, each as long as it can be
abbrev pub RunsAreStretches : Type 0
RunsAreStretches = (es : List Entry)
    → (one_by_one (runs es) ≡ map (λ e. e.track) es)
    × NeighboursDiffer (runs es) × AllByRecursion (λ run. 1 ≤ run.1) (runs es)

-- a legal history follows its own runs
abbrev pub LegalFollowsItsRuns : Type 0
LegalFollowsItsRuns = (tracks : List PlainTrack) (es : List Entry)
    → IsLegal tracks es → Follows tracks (runs es) es

-- ---- waiting

-- a track with an operation left waits only to acquire the lock, while another track owns it
abbrev pub OnlyAcquireWaits : Type 0
OnlyAcquireWaits = (tracks : List PlainTrack) (s : State) (t : ℕ) (a : Action)
    → next_action tracks s t ≡ Some a → is_ready tracks s t ≡ false
    → (deed_of a ≡ takes_lock) × (u : ℕ) × (s.held.owner ≡ Some u) × (u ≢ t)

-- the owner of the lock has an operation left
abbrev pub OwnersGoOn : Type 0
OwnersGoOn = (tracks : List PlainTrack) (es : List Entry) (t : ℕ)
    → (last_state tracks es).held.owner ≡ Some t
    → is_some (next_action tracks (last_state tracks es) t) ≡ true

-- where no track is ready, no operation is left and no track owns the lock
abbrev pub NoneReadyIsAllDone : Type 0
NoneReadyIsAllDone = (tracks : List PlainTrack) (es : List Entry)
    → IsDone tracks (last_state tracks es)
    → (ops_left tracks (last_state tracks es).done ≡ 0) × ((last_state tracks es).held.owner ≡ None)

-- ---- plans

-- A plan that grew by what a history's operations list, and then by what one more entry's operation lists,
-- grew by what they all list.
abbrev pub OneMoreIsPlanned : Type 0
OneMoreIsPlanned = (tracks : List PlainTrack) (side : Side) (asked : ℕ) (es : List Entry) (e : Entry)
    → (before between now : Plan)
    → GrowsBy (is_planned tracks side asked es) before between
    → GrowsBy (lists side (asked + asked_in side es) (next_action tracks (last_state tracks es) e.track))
    between now
    → GrowsBy (is_planned tracks side asked (es ++ e ∷ [])) before now

-- A history heeds a plan that grew by numbers of requests that it did not come to, also with one more entry
-- that heeds it.
abbrev pub OneMoreHeeds : Type 0
OneMoreHeeds = (side : Side) (asked : ℕ) (es : List Entry) (e : Entry) (more : ℕ → Bool)
    → (before now : Plan)
    → Heeds side before asked es → GrowsBy more before now
    → ((n : ℕ) → more n ≡ true → asked + asked_in side es < n)
    → (asks_in side e ≡ 1 → IsPlanned now (asked + asked_in side es + 1) → refusals_in side e ≡ 1)
    → Heeds side now asked (es ++ e ∷ [])

-- ---- null

-- Why a call for a block answers null: it is not busy, and its size is too great, or leaves no room for the hooks'
-- bytes and the call has neither the fault of a missing lock nor that of a damaged block, or the raw source refused.
pub record IsNullCall (h : Held) (e : Entry) (name : Name) (call : SizedCall) : Type 0 where
  pub idle : is_busy call (find h.blocks name) ≡ false
  pub why : (max_size < call.size)
      ⊎ ((max_data < call.size) × (fault_of call (is_owner h.owner e.track) (find h.blocks name) ≡ None))
      ⊎ (e.raw ≡ Refused)

-- the next event is a call for a block that answers null
pub record IsNull (tracks : List PlainTrack) (s : State) (e : Entry) : Type 0 where
  pub action : Action
  pub next : next_action tracks s e.track ≡ Some action
  pub name : Name
  pub call : SizedCall
  pub sized : deed_of action ≡ calls name call
  pub null : IsNullCall s.held e name call

-- an event answers null exactly where it is such a call
abbrev pub NullExactly : Type 0
NullExactly = (tracks : List PlainTrack) (s : State) (e : Entry)
    → IsNext tracks s e → ((event tracks s e).1 ≡ null) ↔ IsNull tracks s e

-- ---- layouts

-- the layout of a legal history's last state is sound
abbrev pub LegalIsSound : Type 0
LegalIsSound = (tracks : List PlainTrack) (es : List Entry)
    → IsLegal tracks es → IsSound (last_state tracks es).held.layout

-- no more arenas are granted and no more pools taken than there are events
abbrev pub FewAreTaken : Type 0
FewAreTaken = (tracks : List PlainTrack) (es : List Entry)
    → ((last_state tracks es).held.layout.given ≤ length es)
    × (length (last_state tracks es).held.layout.full ≤ length es)

-- ---- traces

-- a trace under a block's name belongs to a live block of that name, and has as many bytes as its data
abbrev pub TracesAreOfBlocks : Type 0
TracesAreOfBlocks = (tracks : List PlainTrack) (es : List Entry) (name : Name) (trace : TraceOf)
    → IsLegal tracks es → trace_in (last_state tracks es).held.tracing (of_block name) ≡ Some trace
    → (block : Block) × (find (last_state tracks es).held.blocks name ≡ Some block)
    × (size_of block.body ≡ trace.size)

-- ---- snapshots

-- where the operations of each track are in their ranges, a snapshot rises by the keys of its traces, no two of which
-- are the same, and each trace keeps as many frames as its limit allows
abbrev pub SnapshotsAreSound : Type 0
SnapshotsAreSound = (tracks : List PlainTrack) (es : List Entry) (name : Name) (snapshot : PlainSnapshot)
    → AllByRecursion FitsTrack tracks → IsLegal tracks es
    → find (last_state tracks es).held.snapshots name ≡ Some snapshot → IsSnapshot snapshot
