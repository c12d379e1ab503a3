-- Which track may go on, and one event: what an operation leaves, and the count of what is done.
use Rattle.std.specs.Prelude.{ℕ, ◌+◌, ◌-◌, Bool, true, false, not, ◌&&◌, if◌then◌else◌, List, [], ◌∷◌, length}
use Rattle.std.specs.Prelude.{slice_get, slice_set, slice_index, Option, Some, None, is_some}
use Rattle.std.specs.Option.{option_and_then}
use Rattle.mem_base.specs.declared.history.Grant.{Grant}
use Rattle.mem_base.specs.declared.history.Ask.{Ask}
use Rattle.mem_base.specs.declared.history.Entry.{Entry}
use Rattle.layout_model.specs.Asks.{Request}
use Rattle.layout_model.specs.Asks.Request.{NoRequest}
use Rattle.trace_model.specs.Plain.{Action, PlainTrack}
use Rattle.event_model.specs.Deeds.{deed_of}
use Rattle.event_model.specs.Effects.{act, may_do_next, request_of}
use Rattle.event_model.specs.Replies.{PlainReply, unsaid, is_fault}
use Rattle.event_model.specs.State.{Held, State, is_owner}

-- the operation that a track does once it has done so many
abbrev pub action_after : List PlainTrack → ℕ → ℕ → Option Action
action_after tracks t done = option_and_then (λ track. slice_get track.actions done) (slice_get tracks t)

-- the next operation of a track
abbrev pub next_action : List PlainTrack → State → ℕ → Option Action
next_action tracks s t = action_after tracks t (slice_index s.done t)

-- a track with this to do next, or with nothing, has something to do and need not wait for another track
abbrev pub may_do : Option ℕ → ℕ → Option Action → Bool
may_do owner t None = false
may_do owner t (Some a) = may_do_next owner t (deed_of a)

-- the track has an operation left, and need not wait for another track
abbrev pub is_ready : List PlainTrack → State → ℕ → Bool
is_ready tracks s t = may_do s.held.owner t (next_action tracks s t)

-- a track that has done so many operations lets go of the lock where none is left
abbrev pub let_go : List PlainTrack → ℕ → ℕ → Option ℕ → Option ℕ
let_go tracks t done owner =
    if is_owner owner t && not (is_some (action_after tracks t done)) then None else owner

-- the state after track t has done one operation more, which left this
abbrev pub advance : List PlainTrack → ℕ → State → Held → State
advance tracks t s h =
    let done = slice_index s.done t + 1 in
    record s { held = record h { owner = let_go tracks t done h.owner }; done = slice_set s.done t done }

-- after a fault all is as it was, but that one has come; after another reply the operation is done
abbrev pub settle : List PlainTrack → ℕ → State → Held × PlainReply → State
settle tracks t s r = if is_fault r.1 then record s { faulted = true } else advance tracks t s r.0

-- the event of track t, whose next operation is this or none, with these answers of the sources
abbrev pub event_of : List PlainTrack → State → ℕ → Grant → Ask → Option Action → State × PlainReply
event_of tracks s t arena raw None = (s, unsaid)
event_of tracks s t arena raw (Some a) = let r = act s.held t (deed_of a) arena raw in (settle tracks t s r, r.1)

-- the next event of the entry's track, with the answers of the entry: the state after it, and its reply
unfoldable pub event : List PlainTrack → State → Entry → State × PlainReply
event tracks s e = event_of tracks s e.track e.arena e.raw (next_action tracks s e.track)

-- what a track's next operation asks the sources for, where there is one
abbrev pub next_request : Held → ℕ → Option Action → Request
next_request h t None = NoRequest
next_request h t (Some a) = request_of h t (deed_of a)

-- ---- what is left

-- how many operations are left to do over all tracks, where each has done so many
abbrev pub ops_left : List PlainTrack → List ℕ → ℕ
ops_left [] done = 0
ops_left (track ∷ tracks) [] = 0
ops_left (track ∷ tracks) (d ∷ done) = (length track.actions - d) + ops_left tracks done

-- what is left of a run: the operations, and the fault that may come
abbrev pub left_in : List PlainTrack → State → ℕ
left_in tracks s = ops_left tracks s.done + (if s.faulted then 0 else 1)
