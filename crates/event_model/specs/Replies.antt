-- What operations answer.
use Rattle.std.specs.Prelude.{ℕ, ◌<◌, Bool, true, false, List, map, Option, Some, None}
use Rattle.std.specs.List.{AllByRecursion}
use Rattle.mem_base.specs.Name.{Name}
use Rattle.mem_base.specs.declared.reply.BlockReport.{BlockReport}
use Rattle.mem_base.specs.declared.reply.Fault.{Fault}
use Rattle.mem_base.specs.declared.reply.Frame.{Frame}
use Rattle.mem_base.specs.declared.reply.Fault.TheVariants.{Unlocked, BadId, BadLead, BadTail}
use Rattle.mem_base.specs.declared.reply.Reply.{Reply}
use Rattle.mem_base.specs.declared.reply.Reply.TheVariants as replies
use Rattle.mem_base.specs.declared.reply.View.{View}
use Rattle.block_model.specs.Block.{Body, report_of}
use Rattle.frame_model.specs.Frames.{PlainFrame}
pub use Rattle.frame_model.specs.Frames.{frame_of, frames_of}
use Rattle.snapshot_model.specs.Compared.{Change, plain_change}
use Rattle.snapshot_model.specs.Stats.{PlainGroup, plain_group}

-- what an operation answers
pub data PlainReply : Type 0 where
  ok : PlainReply
  null : PlainReply
  busy : PlainReply
  absent : PlainReply
  outside : PlainReply
  held : PlainReply
  not_held : PlainReply
  not_tracing : PlainReply
  no_snapshot : PlainReply
  untraced : PlainReply
  -- the bytes that are traced, and the most that were
  traced : (current most : ℕ) → PlainReply
  -- the frames that a trace keeps, oldest first, and how many there were
  frames : (fs : List PlainFrame) → (total : ℕ) → PlainReply
  -- how many traces a snapshot has
  kept : (count : ℕ) → PlainReply
  -- how many groups the statistics have, and the first of them, from the greatest on
  groups : (count : ℕ) → List PlainGroup → PlainReply
  -- how many changes there are from one snapshot to another, and the first of them, from the greatest on
  changed : (count : ℕ) → List Change → PlainReply
  -- the text of a dump
  dumped : (text : List ℕ) → PlainReply
  bytes : List ℕ → PlainReply
  -- the heap's shape
  shape : View → PlainReply
  -- the fault, and the block that it lies in
  fault : Fault → Option BlockReport → PlainReply
  -- where there is no operation, so that none answers
  unsaid : PlainReply

abbrev pub is_fault : PlainReply → Bool
is_fault ok = false
is_fault null = false
is_fault busy = false
is_fault absent = false
is_fault outside = false
is_fault held = false
is_fault not_held = false
is_fault not_tracing = false
is_fault no_snapshot = false
is_fault untraced = false
is_fault (traced current most) = false
is_fault (frames fs total) = false
is_fault (kept count) = false
is_fault (groups count first) = false
is_fault (changed count first) = false
is_fault (dumped text) = false
is_fault (bytes found) = false
is_fault (shape view) = false
is_fault (fault found block) = true
is_fault unsaid = false

-- the answer to a call with this fault on a block: a report of the block, unless the call lacks the lock
abbrev pub fault_in : Body → Fault → PlainReply
fault_in body Unlocked = fault Unlocked None
fault_in body (BadId found verified) = fault (BadId found verified) (Some (report_of body))
fault_in body (BadLead k) = fault (BadLead k) (Some (report_of body))
fault_in body (BadTail k) = fault (BadTail k) (Some (report_of body))

-- the operation was done
abbrev pub is_ok : PlainReply → Bool
is_ok ok = true
is_ok null = false
is_ok busy = false
is_ok absent = false
is_ok outside = false
is_ok held = false
is_ok not_held = false
is_ok not_tracing = false
is_ok no_snapshot = false
is_ok untraced = false
is_ok (traced current most) = false
is_ok (frames fs total) = false
is_ok (kept count) = false
is_ok (groups count first) = false
is_ok (changed count first) = false
is_ok (dumped text) = false
is_ok (bytes found) = false
is_ok (shape view) = false
is_ok (fault found block) = false
is_ok unsaid = false

-- the files of frames are in a table of so many texts
abbrev pub AreKnownFrames : ℕ → List Frame → Type 0
AreKnownFrames texts fs = AllByRecursion (λ f. f.file.0 < texts) fs

-- each number of a text that a reply of the code says is in a table of so many
abbrev pub IsKnownReply : ℕ → Reply → Type 0
IsKnownReply texts replies.Ok = Unit {0}
IsKnownReply texts replies.Null = Unit {0}
IsKnownReply texts replies.Busy = Unit {0}
IsKnownReply texts replies.Absent = Unit {0}
IsKnownReply texts replies.Outside = Unit {0}
IsKnownReply texts replies.Held = Unit {0}
IsKnownReply texts replies.NotHeld = Unit {0}
IsKnownReply texts replies.NotTracing = Unit {0}
IsKnownReply texts replies.NoSnapshot = Unit {0}
IsKnownReply texts replies.Untraced = Unit {0}
IsKnownReply texts (replies.Bytes found) = Unit {0}
IsKnownReply texts (replies.Traced current most) = Unit {0}
IsKnownReply texts (replies.Kept count) = Unit {0}
IsKnownReply texts (replies.Frames fs total) = AreKnownFrames texts fs
IsKnownReply texts (replies.Groups count first) = AllByRecursion (λ g. AreKnownFrames texts g.key) first
IsKnownReply texts (replies.Diffs count first) = AllByRecursion (λ d. AreKnownFrames texts d.key) first
IsKnownReply texts (replies.Dumped text) = Unit {0}
IsKnownReply texts (replies.Heap view) = Unit {0}
IsKnownReply texts (replies.Fault found block) = Unit {0}

-- what a reply of the code says, with its names among these texts
abbrev pub plain_reply : List Name → Reply → PlainReply
plain_reply texts replies.Ok = ok
plain_reply texts replies.Null = null
plain_reply texts replies.Busy = busy
plain_reply texts replies.Absent = absent
plain_reply texts replies.Outside = outside
plain_reply texts replies.Held = held
plain_reply texts replies.NotHeld = not_held
plain_reply texts replies.NotTracing = not_tracing
plain_reply texts replies.NoSnapshot = no_snapshot
plain_reply texts replies.Untraced = untraced
plain_reply texts (replies.Bytes found) = bytes found
plain_reply texts (replies.Traced current most) = traced current most
plain_reply texts (replies.Kept count) = kept count
plain_reply texts (replies.Frames fs total) = frames (frames_of texts fs) total
plain_reply texts (replies.Groups count first) = groups count (map (plain_group texts) first)
plain_reply texts (replies.Diffs count first) = changed count (map (plain_change texts) first)
plain_reply texts (replies.Dumped text) = dumped text
plain_reply texts (replies.Heap view) = shape view
plain_reply texts (replies.Fault found block) = fault found block
