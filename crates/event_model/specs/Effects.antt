-- All that depends on what an operation comes to: what it does and answers, what is traced then, whether it may come
-- now, what it asks the sources for, and which requests it wants to be refused. What the operations of one family do
-- to their own part of what is held stands in Memory, Lock, Frames, Tracing, Snapshots and Shape.
use Rattle.std.specs.Prelude.{ℕ, ◌+◌, Bool, true, false, not, ◌&&◌, ◌||◌, ◌==◌, List, Option, Some, None, is_some}
use Rattle.mem_base.specs.Name.{Name}
use Rattle.mem_base.specs.declared.history.Grant.{Grant}
use Rattle.mem_base.specs.declared.history.Ask.{Ask}
use Rattle.mem_base.specs.declared.trace.Side.{Side}
use Rattle.mem_base.specs.declared.trace.Side.TheVariants as side
use Rattle.layout_model.specs.Asks.{Request}
use Rattle.layout_model.specs.Asks.Request.{NoRequest}
use Rattle.layout_model.specs.Layout.{Layout}
use Rattle.map_model.specs.Map.{find, hold}
use Rattle.frame_model.specs.Frames.{PlainFrame}
use Rattle.tracing_model.specs.Traces.{of_block}
use Rattle.tracing_model.specs.Tracing.{Tracing, Change, forgets, keeps, after}
use Rattle.event_model.specs.Blocks.{Block}
use Rattle.event_model.specs.Deeds.{Deed, takes_lock, gives_lock, calls, frees, writes_bytes, reads_bytes, moves}
use Rattle.event_model.specs.Deeds.{changes, marks, asks_traced, asks_trace, takes_snapshot, keeps_by, asks_snapshots}
use Rattle.event_model.specs.Deeds.{asks_shape, lists_request}
use Rattle.event_model.specs.Frames.{frames_at, frames_then}
use Rattle.event_model.specs.Lock.{acquire_turn, release_turn}
use Rattle.event_model.specs.Memory.{SizedCall, Turn, free_turn, peek_turn, poke_turn, sized_request, sized_turn}
use Rattle.event_model.specs.Replies.{PlainReply, ok, shape}
use Rattle.event_model.specs.Shape.{heap_view}
use Rattle.event_model.specs.Snapshots.{Snapshots, snapshot_turn, keep_turn, answer_to}
use Rattle.event_model.specs.State.{Held, is_owner}
use Rattle.event_model.specs.Tracing.{mark_answer, origin_answer, sized_change, traced_answer, unknown_frame, where_ok}

-- ---- what it does

-- an operation on the block of a name and on the layout
abbrev pub on_block : Held → Name → (Layout → Option Block → Turn) → Held × PlainReply
on_block h name f =
    let turn = f h.layout (find h.blocks name) in
    (record h { blocks = hold h.blocks name turn.block; layout = turn.layout }, turn.answer)

-- a call of track t for a block, on what the name holds and on the layout
abbrev pub on_sized : Held → ℕ → Name → SizedCall → Grant → Ask → Held × PlainReply
on_sized h t name call arena raw = on_block h name (sized_turn call (is_owner h.owner t) arena raw)

-- an operation on the owner of the lock
abbrev pub on_lock : Held → (Option ℕ → Option ℕ × PlainReply) → Held × PlainReply
on_lock h f = let turn = f h.owner in (record h { owner = turn.0 }, turn.1)

-- a call, a line or a return of track t
abbrev pub on_frames : Held → ℕ → (List PlainFrame → List PlainFrame) → Held × PlainReply
on_frames h t f = (record h { frames = frames_then h.frames t f }, ok)

-- an operation on the snapshots
abbrev pub on_snapshots : Held → (Snapshots → Snapshots × PlainReply) → Held × PlainReply
on_snapshots h f = let turn = f h.snapshots in (record h { snapshots = turn.0 }, turn.1)

-- what an operation of track t does to all but what is traced, and what it answers, with these answers of the arena
-- source and of the raw source
abbrev pub effect : Held → ℕ → Deed → Grant → Ask → Held × PlainReply
effect h t takes_lock arena raw = on_lock h (acquire_turn t)
effect h t gives_lock arena raw = on_lock h (release_turn t)
effect h t (calls name call) arena raw = on_sized h t name call arena raw
effect h t (frees v name) arena raw = on_block h name (free_turn v (is_owner h.owner t))
effect h t (writes_bytes name offset new) arena raw = on_block h name (poke_turn offset new)
effect h t (reads_bytes name offset count) arena raw = on_block h name (peek_turn offset count)
effect h t (moves f) arena raw = on_frames h t f
effect h t (changes change) arena raw = (h, ok)
effect h t (marks change) arena raw = (h, mark_answer h.tracing)
effect h t asks_traced arena raw = (h, traced_answer h.tracing)
effect h t (asks_trace name) arena raw = (h, origin_answer h.tracing name)
effect h t (takes_snapshot name) arena raw = on_snapshots h (snapshot_turn h.tracing name)
effect h t (keeps_by new old rules) arena raw = on_snapshots h (keep_turn new old rules)
effect h t (asks_snapshots question) arena raw = (h, answer_to h.snapshots question)
effect h t asks_shape arena raw = (h, shape (heap_view h.blocks h.layout))
effect h t (lists_request at k) arena raw = (h, ok)

-- ---- what is traced then

-- what an operation that answered so means for what is traced
abbrev pub change_of : Deed → PlainReply → Change
change_of takes_lock reply = keeps
change_of gives_lock reply = keeps
change_of (calls name call) reply = where_ok reply (sized_change name call)
change_of (frees v name) reply = where_ok reply (forgets (of_block name))
change_of (writes_bytes name offset new) reply = keeps
change_of (reads_bytes name offset count) reply = keeps
change_of (moves f) reply = keeps
change_of (changes change) reply = change
change_of (marks change) reply = change
change_of asks_traced reply = keeps
change_of (asks_trace name) reply = keeps
change_of (takes_snapshot name) reply = keeps
change_of (keeps_by new old rules) reply = keeps
change_of (asks_snapshots question) reply = keeps
change_of asks_shape reply = keeps
change_of (lists_request at k) reply = keeps

-- what is traced after an operation of a track with these frames that answered so
abbrev pub tracing_after : List PlainFrame → Deed → PlainReply → Option Tracing → Option Tracing
tracing_after callers d reply tracing = after unknown_frame callers (change_of d reply) tracing

-- what is then traced, where the operation of track t did and answered so
abbrev pub follow : ℕ → Deed → Held × PlainReply → Held × PlainReply
follow t d r = (record r.0 { tracing = tracing_after (frames_at r.0.frames t) d r.1 r.0.tracing }, r.1)

-- what an operation of track t does and answers
abbrev pub act : Held → ℕ → Deed → Grant → Ask → Held × PlainReply
act h t d arena raw = follow t d (effect h t d arena raw)

-- ---- whether it may come now

-- no other track owns the lock
abbrev pub is_free : Option ℕ → ℕ → Bool
is_free owner t = not (is_some owner) || is_owner owner t

-- track t need not wait for another track to do this
abbrev pub may_do_next : Option ℕ → ℕ → Deed → Bool
may_do_next owner t takes_lock = is_free owner t
may_do_next owner t gives_lock = true
may_do_next owner t (calls name call) = true
may_do_next owner t (frees v name) = true
may_do_next owner t (writes_bytes name offset new) = true
may_do_next owner t (reads_bytes name offset count) = true
may_do_next owner t (moves f) = true
may_do_next owner t (changes change) = true
may_do_next owner t (marks change) = true
may_do_next owner t asks_traced = true
may_do_next owner t (asks_trace name) = true
may_do_next owner t (takes_snapshot name) = true
may_do_next owner t (keeps_by new old rules) = true
may_do_next owner t (asks_snapshots question) = true
may_do_next owner t asks_shape = true
may_do_next owner t (lists_request at k) = true

-- ---- the sources

-- it asks no source for anything, gives none anything back, and tells none what to refuse
abbrev pub is_quiet : Deed → Bool
is_quiet takes_lock = true
is_quiet gives_lock = true
is_quiet (calls name call) = false
is_quiet (frees v name) = false
is_quiet (writes_bytes name offset new) = true
is_quiet (reads_bytes name offset count) = true
is_quiet (moves f) = true
is_quiet (changes change) = true
is_quiet (marks change) = true
is_quiet asks_traced = true
is_quiet (asks_trace name) = true
is_quiet (takes_snapshot name) = true
is_quiet (keeps_by new old rules) = true
is_quiet (asks_snapshots question) = true
is_quiet asks_shape = true
is_quiet (lists_request at k) = false

-- what a call of track t for a block asks for
abbrev pub sized_for : Held → ℕ → Name → SizedCall → Request
sized_for h t name call = sized_request call (is_owner h.owner t) (find h.blocks name)

-- what an operation of track t asks the sources for
abbrev pub request_of : Held → ℕ → Deed → Request
request_of h t takes_lock = NoRequest
request_of h t gives_lock = NoRequest
request_of h t (calls name call) = sized_for h t name call
request_of h t (frees v name) = NoRequest
request_of h t (writes_bytes name offset new) = NoRequest
request_of h t (reads_bytes name offset count) = NoRequest
request_of h t (moves f) = NoRequest
request_of h t (changes change) = NoRequest
request_of h t (marks change) = NoRequest
request_of h t asks_traced = NoRequest
request_of h t (asks_trace name) = NoRequest
request_of h t (takes_snapshot name) = NoRequest
request_of h t (keeps_by new old rules) = NoRequest
request_of h t (asks_snapshots question) = NoRequest
request_of h t asks_shape = NoRequest
request_of h t (lists_request at k) = NoRequest

abbrev pub same_side : Side → Side → Bool
same_side side.Arena side.Arena = true
same_side side.Arena side.Raw = false
same_side side.Raw side.Arena = false
same_side side.Raw side.Raw = true

-- it lists the request of number n of a source, of which so many requests were made before it
abbrev pub lists_as : Side → ℕ → Deed → ℕ → Bool
lists_as s asked takes_lock n = false
lists_as s asked gives_lock n = false
lists_as s asked (calls name call) n = false
lists_as s asked (frees v name) n = false
lists_as s asked (writes_bytes name offset new) n = false
lists_as s asked (reads_bytes name offset count) n = false
lists_as s asked (moves f) n = false
lists_as s asked (changes change) n = false
lists_as s asked (marks change) n = false
lists_as s asked asks_traced n = false
lists_as s asked (asks_trace name) n = false
lists_as s asked (takes_snapshot name) n = false
lists_as s asked (keeps_by new old rules) n = false
lists_as s asked (asks_snapshots question) n = false
lists_as s asked asks_shape n = false
lists_as s asked (lists_request at k) n = same_side s at && (asked + k == n)

-- ---- the block that it is on

-- the name of the block that it gives, takes, changes or reads
abbrev pub block_of : Deed → Option Name
block_of takes_lock = None
block_of gives_lock = None
block_of (calls name call) = Some name
block_of (frees v name) = Some name
block_of (writes_bytes name offset new) = Some name
block_of (reads_bytes name offset count) = Some name
block_of (moves f) = None
block_of (changes change) = None
block_of (marks change) = None
block_of asks_traced = None
block_of (asks_trace name) = Some name
block_of (takes_snapshot name) = None
block_of (keeps_by new old rules) = None
block_of (asks_snapshots question) = None
block_of asks_shape = None
block_of (lists_request at k) = None
