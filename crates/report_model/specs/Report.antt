-- The texts of events, the summary, and the report of a history.
use Rattle.std.specs.Prelude.{ℕ, ◌+◌, ◌==◌, ℤ, pos, negsuc, if◌then◌else◌, List, [], ◌∷◌, ◌++◌, length, map, slice_get}
use Rattle.std.specs.Prelude.{unwrap_or, Option, Some, None, codes, decimal}
use Rattle.std.specs.Fmt.{signed_decimal}
use Rattle.std.specs.List.{flat_map, join_with_byte, slice_split}
use Rattle.mem_base.specs.declared.history.Entry.{Entry}
use Rattle.mem_base.specs.declared.reply.ArenaLine.{ArenaLine}
use Rattle.mem_base.specs.declared.reply.BlockReport.{BlockReport}
use Rattle.mem_base.specs.declared.reply.ClassLine.{ClassLine}
use Rattle.mem_base.specs.declared.reply.Fault.{Fault}
use Rattle.mem_base.specs.declared.reply.Fault.TheVariants.{Unlocked, BadId, BadLead, BadTail}
use Rattle.mem_base.specs.declared.reply.Totals.{Totals}
use Rattle.mem_base.specs.declared.reply.UsedPool.{UsedPool}
use Rattle.mem_base.specs.declared.reply.View.{View}
use Rattle.mem_base.specs.Name.{Name}
use Rattle.frame_model.specs.Frames.{PlainFrame}
use Rattle.snapshot_model.specs.Compared.{Change}
use Rattle.snapshot_model.specs.Stats.{PlainGroup}
use Rattle.trace_model.specs.Plain.{Action, PlainTrack, name_of}
use Rattle.trace_model.specs.Operands.{hex_word}
use Rattle.trace_model.specs.Spelling.{line_of, blank, line_end, with_end}
use Rattle.dump_model.specs.Spelling.{frame_word}
use Rattle.event_model.specs.Events.{next_action, event}
use Rattle.event_model.specs.History.{opening, last_state, totals_of}
use Rattle.event_model.specs.Replies.{PlainReply, ok, null, busy, absent, outside, held, not_held, not_tracing}
use Rattle.event_model.specs.Replies.{no_snapshot, untraced, traced, frames, kept, groups, changed, dumped, bytes}
use Rattle.event_model.specs.Replies.{shape, fault, unsaid}
use Rattle.event_model.specs.State.{State}

-- ---- the text of an event

-- how many blocks lie in pools, and how many in raw regions
unfoldable pub shape_word : View → List ℕ
shape_word v = codes "pool " ++ decimal v.pooled ++ codes " raw " ++ decimal v.raws

-- the bytes that are traced, and the most that were
unfoldable pub traced_word : ℕ → ℕ → List ℕ
traced_word current most = decimal current ++ blank ∷ decimal most

-- how many frames a trace keeps, and of how many
unfoldable pub frames_word : ℕ → ℕ → List ℕ
frames_word some total = codes "frames " ++ decimal some ++ codes " of " ++ decimal total

-- how many traces a snapshot has
unfoldable pub kept_word : ℕ → List ℕ
kept_word count = codes "ok " ++ decimal count

-- how many groups the statistics have, or how many changes there are
unfoldable pub groups_word : ℕ → List ℕ
groups_word count = codes "groups " ++ decimal count

-- what stands behind the equals sign; where there is no operation there is no word
abbrev pub reply_word : PlainReply → List ℕ
reply_word ok = codes "ok"
reply_word null = codes "null"
reply_word busy = codes "busy"
reply_word absent = codes "absent"
reply_word outside = codes "outside"
reply_word held = codes "held"
reply_word not_held = codes "not_held"
reply_word not_tracing = codes "not_tracing"
reply_word no_snapshot = codes "no_snapshot"
reply_word untraced = codes "none"
reply_word (traced current most) = traced_word current most
reply_word (frames fs total) = frames_word (length fs) total
reply_word (kept count) = kept_word count
reply_word (groups count first) = groups_word count
reply_word (changed count first) = groups_word count
reply_word (dumped text) = codes "ok"
reply_word (bytes found) = hex_word found
reply_word (shape v) = shape_word v
reply_word (fault found block) = codes "fault"
reply_word unsaid = []

-- the number of the event, the track, the line of the trace, and the reply
unfoldable pub event_line : ℕ → Name → Action → PlainReply → List ℕ
event_line number track action reply =
    decimal number ++ blank ∷ track ++ blank ∷ line_of action
    ++ codes " = " ++ reply_word reply ++ line_end ∷ []

-- what was found
unfoldable pub fault_line : Fault → List ℕ
fault_line Unlocked = codes "  unlocked\n"
fault_line (BadId found verified) =
    codes "  bad_id found " ++ hex_word (found ∷ []) ++ codes " verified " ++ hex_word (verified ∷ [])
    ++ line_end ∷ []
fault_line (BadLead k) = codes "  bad_lead " ++ decimal k ++ line_end ∷ []
fault_line (BadTail k) = codes "  bad_tail " ++ decimal k ++ line_end ∷ []

-- the name of the block that it was found in, and the size of its data
unfoldable pub block_line : Name → ℕ → List ℕ
block_line name size = codes "  block " ++ name ++ codes " size " ++ decimal size ++ line_end ∷ []

-- the eight bytes before its data
unfoldable pub head_line : List ℕ → List ℕ
head_line head = codes "  head " ++ hex_word head ++ line_end ∷ []

-- the eight bytes behind its data
unfoldable pub tail_line : List ℕ → List ℕ
tail_line tail = codes "  tail " ++ hex_word tail ++ line_end ∷ []

-- an arena with free pools: its number, its free pools, and all its pools
unfoldable pub arena_line : ArenaLine → List ℕ
arena_line a =
    codes "  arena " ++ decimal a.id ++ codes " free " ++ decimal a.free ++ codes " of " ++ decimal a.total
    ++ line_end ∷ []

-- a pool with free blocks: its arena's number, and its blocks in use
unfoldable pub pool_word : UsedPool → List ℕ
pool_word p = decimal p.arena ++ codes ":" ++ decimal p.live

-- the pools of a class that have free blocks, with commas between, or a minus sign where there is none
abbrev pub pools_word : List UsedPool → List ℕ
pools_word [] = codes "-"
pools_word (p ∷ ps) = join_with_byte 44 (map pool_word (p ∷ ps))

-- a class: the size of its blocks, its pools with free blocks, and how many pools are full
unfoldable pub class_line : ClassLine → List ℕ
class_line c =
    codes "  class " ++ decimal c.size ++ codes " used " ++ pools_word c.used
    ++ codes " full " ++ decimal c.full ++ line_end ∷ []

-- a line for each usable arena, and then one for each class that has a pool
abbrev pub shape_lines : View → List ℕ
shape_lines v = flat_map arena_line v.arenas ++ flat_map class_line v.classes

-- a frame that a trace keeps
unfoldable pub frame_line : PlainFrame → List ℕ
frame_line f = codes "  " ++ frame_word f ++ line_end ∷ []

-- a line for each frame, oldest first
abbrev pub frame_lines : List PlainFrame → List ℕ
frame_lines fs = flat_map frame_line fs

-- a group of statistics: its size, how often its key occurs, and the key, its frames oldest first
unfoldable pub group_line : PlainGroup → List ℕ
group_line g =
    codes "  " ++ decimal g.size ++ blank ∷ decimal g.count ++ blank ∷ join_with_byte blank (map frame_word g.key)
    ++ line_end ∷ []

-- a line for each group, the greatest first
abbrev pub group_lines : List PlainGroup → List ℕ
group_lines first = flat_map group_line first

-- a difference, which has its sign always
abbrev pub difference_word : ℤ → List ℕ
difference_word (pos n) = codes "+" ++ signed_decimal (pos n)
difference_word (negsuc n) = signed_decimal (negsuc n)

-- a number, and by how much it differs
unfoldable pub changed_word : ℕ → ℤ → List ℕ
changed_word n difference = decimal n ++ blank ∷ difference_word difference

-- a sum and a count, and by how much each differs
unfoldable pub sums_word : ℕ → ℤ → ℕ → ℤ → List ℕ
sums_word size size_diff count count_diff = changed_word size size_diff ++ blank ∷ changed_word count count_diff

-- a change: the new size, how often its key occurs, and the key, its frames oldest first
unfoldable pub change_line : Change → List ℕ
change_line c =
    codes "  " ++ sums_word c.size c.size_diff c.count c.count_diff
    ++ blank ∷ join_with_byte blank (map frame_word c.key) ++ line_end ∷ []

-- a line for each change, the greatest first
abbrev pub change_lines : List Change → List ℕ
change_lines first = flat_map change_line first

-- the parts of a text that a line's end stands behind
abbrev pub ended : List (List ℕ) → List (List ℕ)
ended [] = []
ended (rest ∷ []) = []
ended (line ∷ next ∷ more) = line ∷ ended (next ∷ more)

-- a line behind two blanks
abbrev pub indented : List ℕ → List ℕ
indented line = codes "  " ++ with_end line

-- the lines of a text, each behind two blanks
abbrev pub indented_lines : List ℕ → List ℕ
indented_lines text = flat_map indented (ended (slice_split (λ b. b == line_end) text))

-- the lines of a fault, and of the block that it was found in, which has this name
abbrev pub fault_lines : Name → Fault → Option BlockReport → List ℕ
fault_lines name found None = fault_line found
fault_lines name found (Some block) =
    fault_line found ++ block_line name block.size ++ head_line block.head ++ tail_line block.tail

-- the lines below that of the event, which is on the block of this name
abbrev pub more_lines : Name → PlainReply → List ℕ
more_lines name ok = []
more_lines name null = []
more_lines name busy = []
more_lines name absent = []
more_lines name outside = []
more_lines name held = []
more_lines name not_held = []
more_lines name not_tracing = []
more_lines name no_snapshot = []
more_lines name untraced = []
more_lines name (traced current most) = []
more_lines name (frames fs total) = frame_lines fs
more_lines name (kept count) = []
more_lines name (groups count first) = group_lines first
more_lines name (changed count first) = change_lines first
more_lines name (dumped text) = indented_lines text
more_lines name (bytes found) = []
more_lines name (shape v) = shape_lines v
more_lines name (fault found block) = fault_lines name found block
more_lines name unsaid = []

-- the name of the block that an operation is on, where it is on one
abbrev pub block_name : Action → Name
block_name action = unwrap_or (name_of action) []

-- all lines of an event
abbrev pub event_lines : ℕ → Name → Action → PlainReply → List ℕ
event_lines number track action reply =
    event_line number track action reply ++ more_lines (block_name action) reply

-- the same, where there are that track and that operation
abbrev pub lines_for : ℕ → Option PlainTrack → Option Action → PlainReply → List ℕ
lines_for number (Some track) (Some action) reply = event_lines number track.name action reply
lines_for number (Some track) None reply = []
lines_for number None action reply = []

-- the text of the event with that number, which is the entry's
abbrev pub event_text : List PlainTrack → ℕ → State → Entry → List ℕ
event_text tracks number s e =
    lines_for number (slice_get tracks e.track) (next_action tracks s e.track) (event tracks s e).1

-- what a run prints of one event, by its number, the state before it and its entry
abbrev pub Printer : Type 0
Printer = ℕ → State → Entry → List ℕ

-- what it prints of events, the first of which has that number and comes after that state
abbrev pub texts_from : Printer → List PlainTrack → ℕ → State → List Entry → List ℕ
texts_from text tracks number s [] = []
texts_from text tracks number s (e ∷ es) =
    text number s e ++ texts_from text tracks (number + 1) (event tracks s e).0 es

-- what it prints of all events of a history
abbrev pub texts_of : Printer → List PlainTrack → List Entry → List ℕ
texts_of text tracks es = texts_from text tracks 1 (opening tracks) es

-- the texts of all events of a history
abbrev pub events_text : List PlainTrack → List Entry → List ℕ
events_text tracks es = texts_of (event_text tracks) tracks es

-- ---- the summary

abbrev pub track_name : Option PlainTrack → Name
track_name None = []
track_name (Some track) = track.name

-- the name of the track that owns the lock
abbrev pub owner_word : List PlainTrack → Option ℕ → List ℕ
owner_word tracks None = codes "free"
owner_word tracks (Some t) = track_name (slice_get tracks t)

-- how many events there were, and the status that the run ends with
unfoldable pub events_line : ℕ → ℕ → List ℕ
events_line events status =
    codes "summary events " ++ decimal events ++ codes " status " ++ decimal status ++ line_end ∷ []

-- who owns the lock
unfoldable pub lock_line : List ℕ → List ℕ
lock_line owner = codes "summary lock " ++ owner ++ line_end ∷ []

-- how many blocks are held, and how many bytes of data they have
unfoldable pub blocks_line : ℕ → ℕ → List ℕ
blocks_line blocks size =
    codes "summary blocks " ++ decimal blocks ++ codes " bytes " ++ decimal size ++ line_end ∷ []

-- how many arenas were granted, how many went back, and how many were out at once
unfoldable pub arenas_line : ℕ → ℕ → ℕ → List ℕ
arenas_line given back most =
    codes "summary arenas given " ++ decimal given ++ codes " back " ++ decimal back
    ++ codes " most " ++ decimal most ++ line_end ∷ []

-- how many bytes are traced, and the most that were
unfoldable pub traced_line : ℕ → ℕ → List ℕ
traced_line current peak =
    codes "summary traced " ++ decimal current ++ codes " peak " ++ decimal peak ++ line_end ∷ []

-- the five lines of these numbers and this status
abbrev pub summary_lines : List ℕ → Totals → ℕ → List ℕ
summary_lines owner totals status =
    events_line totals.events status ++ lock_line owner ++ blocks_line totals.blocks totals.bytes
    ++ arenas_line totals.counts.given totals.counts.back totals.counts.most
    ++ traced_line totals.traced totals.peak

-- the status of a run that led to this state: 1 where a fault came
abbrev pub status_in : State → ℕ
status_in s = if s.faulted then 1 else 0

-- the summary of a history
abbrev pub summary_text : List PlainTrack → List Entry → List ℕ
summary_text tracks es =
    let s = last_state tracks es in
    summary_lines (owner_word tracks s.held.owner) (totals_of tracks es) (status_in s)

-- the texts of all events, and then the summary
abbrev pub report : List PlainTrack → List Entry → List ℕ
report tracks es = events_text tracks es ++ summary_text tracks es
