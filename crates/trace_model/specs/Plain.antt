-- The operations of a trace with their names written out: for each its keyword, its operands, their ranges and
-- how it is read. A new operation is said here, and the trace that the code's values stand for follows.
use Rattle.std.specs.Prelude.{◌≡◌, ℕ, ◌+◌, ◌-◌, ◌<◌, ◌≤◌, ◌^◌, ℤ, Bool, true, false, not, ◌||◌, nat_le, nat_lt}
use Rattle.std.specs.Prelude.{if◌then◌else◌, List, [], ◌∷◌, length, map, unwrap_or, Option, Some, None}
use Rattle.std.specs.Prelude.{Result, Ok, Err, codes, decimal, IsTrue}
use Rattle.std.specs.List.{AllByRecursion}
use Rattle.std.specs.Fmt.{signed_decimal}
use Rattle.std.specs.Option.{option_map}
use Rattle.std.specs.Str.{bytes_eq}
use Rattle.mem_base.specs.Name.{Name}
use Rattle.mem_base.specs.Offset.{IsOffset}
pub use Rattle.mem_base.specs.Texts.{text_at}
use Rattle.mem_base.specs.declared.limits.TheConstants.{MAX_FRAME_LIMIT, MAX_FRAMES, MAX_LINE, MAX_LINES, MAX_REACH}
use Rattle.mem_base.specs.declared.limits.TheConstants.{MAX_REFUSAL, MAX_RULES}
use Rattle.mem_base.specs.declared.trace.KeyKind.{KeyKind}
use Rattle.mem_base.specs.declared.trace.Letter.{Letter}
use Rattle.mem_base.specs.declared.trace.Rule.{Rule}
use Rattle.mem_base.specs.declared.trace.Side.{Side}
use Rattle.mem_base.specs.declared.trace.Op.{Op}
use Rattle.mem_base.specs.declared.trace.Op.TheVariants as code
use Rattle.mem_base.specs.declared.trace.Pick.{Pick}
use Rattle.mem_base.specs.declared.trace.Track.{Track}
use Rattle.mem_base.specs.declared.trace.Trace.{Trace}
use Rattle.trace_model.specs.Operands.{◌>>=◌, is_file, is_name, is_forged, letter_word, side_word, hex_word}
use Rattle.trace_model.specs.Operands.{max_domain}
use Rattle.trace_model.specs.Operands.{number_at, offset_at, count_at, refusal_at, name_at, letter_at}
use Rattle.trace_model.specs.Operands.{side_at, hex_at}
use Rattle.trace_model.specs.Operands.{file_at, line_number_at, limit_at, domain_at}
use Rattle.trace_model.specs.Operands.{key_word, mode_word, may_be, key_at, mode_at, most_at}
use Rattle.trace_model.specs.Rules.{rule_word, FitsRule, rules_at}
use Rattle.trace_model.specs.declared.cause.TraceCause.{TraceCause}
use Rattle.trace_model.specs.declared.cause.TraceCause.TheVariants.{UnknownWord, BadWords, ForgedLetter}
use Rattle.trace_model.specs.declared.keyword.Keyword.{Keyword}
use Rattle.trace_model.specs.declared.keyword.Keyword.TheVariants as keys

-- an operation
pub data Action : Type 0 where
  acquire : Action
  release : Action
  malloc : Letter → Name → ℕ → Action
  calloc : Letter → Name → ℕ → ℕ → Action
  realloc : Letter → Name → ℕ → Action
  free : Letter → Name → Action
  poke : Name → ℤ → List ℕ → Action
  peek : Name → ℤ → ℕ → Action
  -- a call: one more frame, at a line of a file
  enter : (file : Name) → (line : ℕ) → Action
  -- the most recent frame goes on to another line
  go_to : (line : ℕ) → Action
  -- a return: the most recent frame goes
  leave : Action
  start_tracing : (limit : ℕ) → Action
  stop_tracing : Action
  clear_traces : Action
  reset_peak : Action
  traced_memory : Action
  mark : (domain number size : ℕ) → Action
  unmark : (domain number : ℕ) → Action
  -- the trace of a block
  origin : Name → Action
  -- what is traced is kept under a name
  snapshot : Name → Action
  -- what the rules leave of the second is kept under the first
  keep : (new old : Name) → List Rule → Action
  -- the statistics of a snapshot by a key, at most so many lines
  stats : Name → KeyKind → (cumulative : Bool) → (most : ℕ) → Action
  -- the changes by a key from an old snapshot to a new one, at most so many lines
  compare : (new old : Name) → KeyKind → (cumulative : Bool) → (most : ℕ) → Action
  -- a snapshot as text
  dump : Name → Action
  heap : Action
  refuse : Side → ℕ → Action

-- a track and what it does, in order
pub record PlainTrack : Type 0 where
  pub name : Name
  pub actions : List Action

-- the tracks of a trace in order, and its picks: the index of a track, and how often it is picked in a row
pub record PlainTrace : Type 0 where
  pub tracks : List PlainTrack
  pub picks : List (ℕ × ℕ)

-- ---- what the code's values stand for

abbrev pub action_of : List Name → Op → Action
action_of texts code.Acquire = acquire
action_of texts code.Release = release
action_of texts (code.Malloc letter name size) = malloc letter (text_at texts name) size
action_of texts (code.Calloc letter name count size) = calloc letter (text_at texts name) count size
action_of texts (code.Realloc letter name size) = realloc letter (text_at texts name) size
action_of texts (code.Free letter name) = free letter (text_at texts name)
action_of texts (code.Poke name offset bytes) = poke (text_at texts name) offset bytes
action_of texts (code.Peek name offset count) = peek (text_at texts name) offset count
action_of texts (code.Enter file line) = enter (text_at texts file) line
action_of texts (code.Line line) = go_to line
action_of texts code.Leave = leave
action_of texts (code.Start limit) = start_tracing limit
action_of texts code.Stop = stop_tracing
action_of texts code.Clear = clear_traces
action_of texts code.ResetPeak = reset_peak
action_of texts code.Traced = traced_memory
action_of texts (code.Mark domain number size) = mark domain number size
action_of texts (code.Unmark domain number) = unmark domain number
action_of texts (code.Origin name) = origin (text_at texts name)
action_of texts (code.Snapshot name) = snapshot (text_at texts name)
action_of texts (code.Keep new old rules) = keep (text_at texts new) (text_at texts old) rules
action_of texts (code.Stats name key cumulative lines) = stats (text_at texts name) key cumulative lines
action_of texts (code.Compare new old key cumulative lines) =
    compare (text_at texts new) (text_at texts old) key cumulative lines
action_of texts (code.Dump name) = dump (text_at texts name)
action_of texts code.Heap = heap
action_of texts (code.Refuse side number) = refuse side number

abbrev pub track_of : List Name → Track → PlainTrack
track_of texts t = record { name = text_at texts t.name; actions = map (action_of texts) t.ops }

abbrev pub tracks_of : List Name → List Track → List PlainTrack
tracks_of texts ts = map (track_of texts) ts

abbrev pub picks_of : List Pick → List (ℕ × ℕ)
picks_of ps = map (λ p. (p.track, p.times)) ps

-- what a trace of the code stands for
abbrev pub plain : Trace → PlainTrace
plain t = record { tracks = tracks_of t.texts t.tracks; picks = picks_of t.picks }

-- its texts have numbers below this, and its operands are in their ranges
abbrev pub IsKnownAmong : ℕ → Op → Type 0
IsKnownAmong texts code.Acquire = Unit {0}
IsKnownAmong texts code.Release = Unit {0}
IsKnownAmong texts (code.Malloc letter name size) = name.0 < texts
IsKnownAmong texts (code.Calloc letter name count size) = name.0 < texts
IsKnownAmong texts (code.Realloc letter name size) = name.0 < texts
IsKnownAmong texts (code.Free letter name) = name.0 < texts
IsKnownAmong texts (code.Poke name offset bytes) =
    (name.0 < texts) × IsOffset offset × (1 ≤ length bytes) × (length bytes ≤ MAX_REACH)
IsKnownAmong texts (code.Peek name offset count) = (name.0 < texts) × IsOffset offset × (1 ≤ count) × (count ≤ MAX_REACH)
IsKnownAmong texts (code.Enter file line) = (file.0 < texts) × (line ≤ MAX_LINE)
IsKnownAmong texts (code.Line line) = line ≤ MAX_LINE
IsKnownAmong texts code.Leave = Unit {0}
IsKnownAmong texts (code.Start limit) = (1 ≤ limit) × (limit ≤ MAX_FRAME_LIMIT)
IsKnownAmong texts code.Stop = Unit {0}
IsKnownAmong texts code.Clear = Unit {0}
IsKnownAmong texts code.ResetPeak = Unit {0}
IsKnownAmong texts code.Traced = Unit {0}
IsKnownAmong texts (code.Mark domain number size) = 1 ≤ domain
IsKnownAmong texts (code.Unmark domain number) = 1 ≤ domain
IsKnownAmong texts (code.Origin name) = name.0 < texts
IsKnownAmong texts (code.Snapshot name) = name.0 < texts
IsKnownAmong texts (code.Keep new old rules) = (new.0 < texts) × (old.0 < texts)
IsKnownAmong texts (code.Stats name key cumulative lines) = name.0 < texts
IsKnownAmong texts (code.Compare new old key cumulative lines) = (new.0 < texts) × (old.0 < texts)
IsKnownAmong texts (code.Dump name) = name.0 < texts
IsKnownAmong texts code.Heap = Unit {0}
IsKnownAmong texts (code.Refuse side number) = (1 ≤ number) × (number ≤ MAX_REFUSAL)

-- ---- keywords

-- the table of keywords: the first word of an operation's line
abbrev pub keyword_text : Keyword → List ℕ
keyword_text keys.Acquire = codes "acquire"
keyword_text keys.Release = codes "release"
keyword_text keys.Malloc = codes "malloc"
keyword_text keys.Calloc = codes "calloc"
keyword_text keys.Realloc = codes "realloc"
keyword_text keys.Free = codes "free"
keyword_text keys.Poke = codes "poke"
keyword_text keys.Peek = codes "peek"
keyword_text keys.Call = codes "call"
keyword_text keys.Line = codes "line"
keyword_text keys.Return = codes "return"
keyword_text keys.Start = codes "start"
keyword_text keys.Stop = codes "stop"
keyword_text keys.Clear = codes "clear"
keyword_text keys.ResetPeak = codes "reset_peak"
keyword_text keys.Traced = codes "traced"
keyword_text keys.Mark = codes "mark"
keyword_text keys.Unmark = codes "unmark"
keyword_text keys.Where = codes "where"
keyword_text keys.Snapshot = codes "snapshot"
keyword_text keys.Keep = codes "keep"
keyword_text keys.Stats = codes "stats"
keyword_text keys.Compare = codes "compare"
keyword_text keys.Dump = codes "dump"
keyword_text keys.Heap = codes "heap"
keyword_text keys.Refuse = codes "refuse"

-- all keywords
abbrev pub keywords : List Keyword
keywords =
    keys.Acquire ∷ keys.Release ∷ keys.Malloc ∷ keys.Calloc ∷ keys.Realloc ∷ keys.Free ∷ keys.Poke ∷ keys.Peek
    ∷ keys.Call ∷ keys.Line ∷ keys.Return ∷ keys.Start ∷ keys.Stop ∷ keys.Clear ∷ keys.ResetPeak ∷ keys.Traced
    ∷ keys.Mark ∷ keys.Unmark ∷ keys.Where ∷ keys.Snapshot ∷ keys.Keep ∷ keys.Stats ∷ keys.Compare
    ∷ keys.Dump ∷ keys.Heap ∷ keys.Refuse ∷ []

-- the one of these keywords whose text this is
abbrev pub keyword_among : List Keyword → List ℕ → Result Keyword TraceCause
keyword_among [] w = Err UnknownWord
keyword_among (k ∷ ks) w = if bytes_eq w (keyword_text k) then Ok k else keyword_among ks w

-- whether operations with this keyword print more than a reply
abbrev pub prints_more : Keyword → Bool
prints_more keys.Acquire = false
prints_more keys.Release = false
prints_more keys.Malloc = false
prints_more keys.Calloc = false
prints_more keys.Realloc = false
prints_more keys.Free = false
prints_more keys.Poke = false
prints_more keys.Peek = false
prints_more keys.Call = false
prints_more keys.Line = false
prints_more keys.Return = false
prints_more keys.Start = false
prints_more keys.Stop = false
prints_more keys.Clear = false
prints_more keys.ResetPeak = false
prints_more keys.Traced = false
prints_more keys.Mark = false
prints_more keys.Unmark = false
prints_more keys.Where = true
prints_more keys.Snapshot = true
prints_more keys.Keep = true
prints_more keys.Stats = true
prints_more keys.Compare = true
prints_more keys.Dump = true
prints_more keys.Heap = true
prints_more keys.Refuse = false

-- ---- what is said of an operation

-- its keyword
abbrev pub keyword_of : Action → Keyword
keyword_of acquire = keys.Acquire
keyword_of release = keys.Release
keyword_of (malloc letter name size) = keys.Malloc
keyword_of (calloc letter name count size) = keys.Calloc
keyword_of (realloc letter name size) = keys.Realloc
keyword_of (free letter name) = keys.Free
keyword_of (poke name offset bytes) = keys.Poke
keyword_of (peek name offset count) = keys.Peek
keyword_of (enter file line) = keys.Call
keyword_of (go_to line) = keys.Line
keyword_of leave = keys.Return
keyword_of (start_tracing limit) = keys.Start
keyword_of stop_tracing = keys.Stop
keyword_of clear_traces = keys.Clear
keyword_of reset_peak = keys.ResetPeak
keyword_of traced_memory = keys.Traced
keyword_of (mark domain number size) = keys.Mark
keyword_of (unmark domain number) = keys.Unmark
keyword_of (origin name) = keys.Where
keyword_of (snapshot name) = keys.Snapshot
keyword_of (keep new old rules) = keys.Keep
keyword_of (stats name key cumulative most) = keys.Stats
keyword_of (compare new old key cumulative most) = keys.Compare
keyword_of (dump name) = keys.Dump
keyword_of heap = keys.Heap
keyword_of (refuse side number) = keys.Refuse

-- the name of the block that it works on
abbrev pub name_of : Action → Option Name
name_of acquire = None
name_of release = None
name_of (malloc letter name size) = Some name
name_of (calloc letter name count size) = Some name
name_of (realloc letter name size) = Some name
name_of (free letter name) = Some name
name_of (poke name offset bytes) = Some name
name_of (peek name offset count) = Some name
name_of (enter file line) = None
name_of (go_to line) = None
name_of leave = None
name_of (start_tracing limit) = None
name_of stop_tracing = None
name_of clear_traces = None
name_of reset_peak = None
name_of traced_memory = None
name_of (mark domain number size) = None
name_of (unmark domain number) = None
name_of (origin name) = Some name
name_of (snapshot name) = None
name_of (keep new old rules) = None
name_of (stats name key cumulative most) = None
name_of (compare new old key cumulative most) = None
name_of (dump name) = None
name_of heap = None
name_of (refuse side number) = None

-- the texts that it says: the names of blocks and snapshots, and the file of a call
abbrev pub says : Action → List Name
says acquire = []
says release = []
says (malloc letter name size) = name ∷ []
says (calloc letter name count size) = name ∷ []
says (realloc letter name size) = name ∷ []
says (free letter name) = name ∷ []
says (poke name offset bytes) = name ∷ []
says (peek name offset count) = name ∷ []
says (enter file line) = file ∷ []
says (go_to line) = []
says leave = []
says (start_tracing limit) = []
says stop_tracing = []
says clear_traces = []
says reset_peak = []
says traced_memory = []
says (mark domain number size) = []
says (unmark domain number) = []
says (origin name) = name ∷ []
says (snapshot name) = name ∷ []
says (keep new old rules) = new ∷ old ∷ []
says (stats name key cumulative most) = name ∷ []
says (compare new old key cumulative most) = new ∷ old ∷ []
says (dump name) = name ∷ []
says heap = []
says (refuse side number) = []

-- the name of the snapshot that it writes, and the rules by which it keeps traces of another one
abbrev pub writes : Action → Option (Name × List Rule)
writes acquire = None
writes release = None
writes (malloc letter name size) = None
writes (calloc letter name count size) = None
writes (realloc letter name size) = None
writes (free letter name) = None
writes (poke name offset bytes) = None
writes (peek name offset count) = None
writes (enter file line) = None
writes (go_to line) = None
writes leave = None
writes (start_tracing limit) = None
writes stop_tracing = None
writes clear_traces = None
writes reset_peak = None
writes traced_memory = None
writes (mark domain number size) = None
writes (unmark domain number) = None
writes (origin name) = None
writes (snapshot name) = Some (name, [])
writes (keep new old rules) = Some (new, rules)
writes (stats name key cumulative most) = None
writes (compare new old key cumulative most) = None
writes (dump name) = None
writes heap = None
writes (refuse side number) = None

-- the name of the snapshot that it writes
abbrev pub written_by : Action → Option Name
written_by a = option_map (λ w. w.0) (writes a)

-- there are not too many rules
abbrev pub are_few : Option (Name × List Rule) → Bool
are_few None = true
are_few (Some w) = nat_le (length w.1) MAX_RULES

-- it has no more rules than one may have
abbrev pub has_few_rules : Action → Bool
has_few_rules a = are_few (writes a)

-- whether it prints more than a reply
abbrev pub is_report : Action → Bool
is_report a = prints_more (keyword_of a)

-- the words behind its keyword
abbrev pub operands_of : Action → List (List ℕ)
operands_of acquire = []
operands_of release = []
operands_of (malloc letter name size) = letter_word letter ∷ name ∷ decimal size ∷ []
operands_of (calloc letter name count size) = letter_word letter ∷ name ∷ decimal count ∷ decimal size ∷ []
operands_of (realloc letter name size) = letter_word letter ∷ name ∷ decimal size ∷ []
operands_of (free letter name) = letter_word letter ∷ name ∷ []
operands_of (poke name offset bytes) = name ∷ signed_decimal offset ∷ hex_word bytes ∷ []
operands_of (peek name offset count) = name ∷ signed_decimal offset ∷ decimal count ∷ []
operands_of (enter file line) = file ∷ decimal line ∷ []
operands_of (go_to line) = decimal line ∷ []
operands_of leave = []
operands_of (start_tracing limit) = decimal limit ∷ []
operands_of stop_tracing = []
operands_of clear_traces = []
operands_of reset_peak = []
operands_of traced_memory = []
operands_of (mark domain number size) = decimal domain ∷ decimal number ∷ decimal size ∷ []
operands_of (unmark domain number) = decimal domain ∷ decimal number ∷ []
operands_of (origin name) = name ∷ []
operands_of (snapshot name) = name ∷ []
operands_of (keep new old rules) = new ∷ old ∷ map rule_word rules
operands_of (stats name key cumulative most) = name ∷ key_word key ∷ mode_word cumulative ∷ decimal most ∷ []
operands_of (compare new old key cumulative most) =
    new ∷ old ∷ key_word key ∷ mode_word cumulative ∷ decimal most ∷ []
operands_of (dump name) = name ∷ []
operands_of heap = []
operands_of (refuse side number) = side_word side ∷ decimal number ∷ []

-- what a poke needs: a name, an offset, bytes, and that it writes no domain's letter
pub record FitsPoke (name : Name) (offset : ℤ) (bytes : List ℕ) : Type 0 where
  pub named : IsTrue (is_name name)
  pub reach : IsOffset offset
  pub range : AllByRecursion (λ b. b < 256) bytes
  pub some : 1 ≤ length bytes
  pub few : length bytes ≤ MAX_REACH
  pub honest : is_forged offset bytes ≡ false

-- the number of a domain of marked numbers; 0 is that of blocks
abbrev pub IsDomain : ℕ → Type 0
IsDomain n = (1 ≤ n) × (n ≤ max_domain)

-- its operands have a spelling and are in their ranges
abbrev pub Fits : Action → Type 0
Fits acquire = Unit {0}
Fits release = Unit {0}
Fits (malloc letter name size) = IsTrue (is_name name) × (size < 2 ^ 64)
Fits (calloc letter name count size) = IsTrue (is_name name) × (count < 2 ^ 64) × (size < 2 ^ 64)
Fits (realloc letter name size) = IsTrue (is_name name) × (size < 2 ^ 64)
Fits (free letter name) = IsTrue (is_name name)
Fits (poke name offset bytes) = FitsPoke name offset bytes
Fits (peek name offset count) = IsTrue (is_name name) × IsOffset offset × (1 ≤ count) × (count ≤ MAX_REACH)
Fits (enter file line) = IsTrue (is_file file) × (line ≤ MAX_LINE)
Fits (go_to line) = line ≤ MAX_LINE
Fits leave = Unit {0}
Fits (start_tracing limit) = (1 ≤ limit) × (limit ≤ MAX_FRAME_LIMIT)
Fits stop_tracing = Unit {0}
Fits clear_traces = Unit {0}
Fits reset_peak = Unit {0}
Fits traced_memory = Unit {0}
Fits (mark domain number size) = IsDomain domain × (number < 2 ^ 64) × (size < 2 ^ 64)
Fits (unmark domain number) = IsDomain domain × (number < 2 ^ 64)
Fits (origin name) = IsTrue (is_name name)
Fits (snapshot name) = IsTrue (is_name name)
Fits (keep new old rules) = IsTrue (is_name new) × IsTrue (is_name old) × AllByRecursion FitsRule rules
Fits (stats name key cumulative most) =
    IsTrue (is_name name) × IsTrue (may_be key cumulative) × (1 ≤ most) × (most ≤ MAX_LINES)
Fits (compare new old key cumulative most) =
    IsTrue (is_name new) × IsTrue (is_name old) × IsTrue (may_be key cumulative) × (1 ≤ most) × (most ≤ MAX_LINES)
Fits (dump name) = IsTrue (is_name name)
Fits heap = Unit {0}
Fits (refuse side number) = (1 ≤ number) × (number ≤ MAX_REFUSAL)

-- ---- the frames of a track, as its calls and returns leave them

-- it speaks of the most recent frame, so there must be one
abbrev pub needs_frame : Action → Bool
needs_frame acquire = false
needs_frame release = false
needs_frame (malloc letter name size) = false
needs_frame (calloc letter name count size) = false
needs_frame (realloc letter name size) = false
needs_frame (free letter name) = false
needs_frame (poke name offset bytes) = false
needs_frame (peek name offset count) = false
needs_frame (enter file line) = false
needs_frame (go_to line) = true
needs_frame leave = true
needs_frame (start_tracing limit) = false
needs_frame stop_tracing = false
needs_frame clear_traces = false
needs_frame reset_peak = false
needs_frame traced_memory = false
needs_frame (mark domain number size) = false
needs_frame (unmark domain number) = false
needs_frame (origin name) = false
needs_frame (snapshot name) = false
needs_frame (keep new old rules) = false
needs_frame (stats name key cumulative most) = false
needs_frame (compare new old key cumulative most) = false
needs_frame (dump name) = false
needs_frame heap = false
needs_frame (refuse side number) = false

-- how many frames a track has after it, of so many before
abbrev pub depth_after : ℕ → Action → ℕ
depth_after n acquire = n
depth_after n release = n
depth_after n (malloc letter name size) = n
depth_after n (calloc letter name count size) = n
depth_after n (realloc letter name size) = n
depth_after n (free letter name) = n
depth_after n (poke name offset bytes) = n
depth_after n (peek name offset count) = n
depth_after n (enter file line) = n + 1
depth_after n (go_to line) = n
depth_after n leave = n - 1
depth_after n (start_tracing limit) = n
depth_after n stop_tracing = n
depth_after n clear_traces = n
depth_after n reset_peak = n
depth_after n traced_memory = n
depth_after n (mark domain number size) = n
depth_after n (unmark domain number) = n
depth_after n (origin name) = n
depth_after n (snapshot name) = n
depth_after n (keep new old rules) = n
depth_after n (stats name key cumulative most) = n
depth_after n (compare new old key cumulative most) = n
depth_after n (dump name) = n
depth_after n heap = n
depth_after n (refuse side number) = n

-- how many frames these operations leave, of so many before
abbrev pub depth_from : ℕ → List Action → ℕ
depth_from n [] = n
depth_from n (a ∷ actions) = depth_from (depth_after n a) actions

-- how many frames a track has after its operations
abbrev pub depth : List Action → ℕ
depth actions = depth_from 0 actions

-- where so many frames are, there is the one that it speaks of
abbrev pub has_frame : ℕ → Action → Bool
has_frame n a = not (needs_frame a) || nat_lt 0 n

-- where so many frames are, it leaves no more than a track may have
abbrev pub keeps_few : ℕ → Action → Bool
keeps_few n a = nat_le (depth_after n a) MAX_FRAMES

-- each of these operations has the frame that it speaks of and leaves no more than a track may have, of so many before
abbrev pub KeepFrames : ℕ → List Action → Type 0
KeepFrames n [] = Unit {0}
KeepFrames n (a ∷ actions) = IsTrue (has_frame n a) × IsTrue (keeps_few n a) × KeepFrames (depth_after n a) actions

-- ---- reading an operation: the operands from left to right, and the forged letter last

unfoldable pub malloc_at : List ℕ → List ℕ → List ℕ → Result Action TraceCause
malloc_at letter name size = do
  l ← letter_at letter
  u ← name_at name
  n ← number_at size
  Ok (malloc l name n)

unfoldable pub calloc_at : List ℕ → List ℕ → List ℕ → List ℕ → Result Action TraceCause
calloc_at letter name count size = do
  l ← letter_at letter
  u ← name_at name
  k ← number_at count
  n ← number_at size
  Ok (calloc l name k n)

unfoldable pub realloc_at : List ℕ → List ℕ → List ℕ → Result Action TraceCause
realloc_at letter name size = do
  l ← letter_at letter
  u ← name_at name
  n ← number_at size
  Ok (realloc l name n)

unfoldable pub free_at : List ℕ → List ℕ → Result Action TraceCause
free_at letter name = do
  l ← letter_at letter
  u ← name_at name
  Ok (free l name)

-- a poke, unless it would write a domain's letter
abbrev pub honest_poke : Name → ℤ → List ℕ → Result Action TraceCause
honest_poke name offset bytes = if is_forged offset bytes then Err ForgedLetter else Ok (poke name offset bytes)

unfoldable pub poke_at : List ℕ → List ℕ → List ℕ → Result Action TraceCause
poke_at name offset digits = do
  u ← name_at name
  o ← offset_at offset
  bytes ← hex_at digits
  honest_poke name o bytes

unfoldable pub peek_at : List ℕ → List ℕ → List ℕ → Result Action TraceCause
peek_at name offset count = do
  u ← name_at name
  o ← offset_at offset
  n ← count_at count
  Ok (peek name o n)

unfoldable pub enter_at : List ℕ → List ℕ → Result Action TraceCause
enter_at file line = do
  u ← file_at file
  n ← line_number_at line
  Ok (enter file n)

unfoldable pub go_to_at : List ℕ → Result Action TraceCause
go_to_at line = line_number_at line >>= λ n. Ok (go_to n)

unfoldable pub start_tracing_at : List ℕ → Result Action TraceCause
start_tracing_at limit = limit_at limit >>= λ n. Ok (start_tracing n)

unfoldable pub mark_at : List ℕ → List ℕ → List ℕ → Result Action TraceCause
mark_at domain number size = do
  d ← domain_at domain
  k ← number_at number
  n ← number_at size
  Ok (mark d k n)

unfoldable pub unmark_at : List ℕ → List ℕ → Result Action TraceCause
unmark_at domain number = do
  d ← domain_at domain
  k ← number_at number
  Ok (unmark d k)

unfoldable pub origin_at : List ℕ → Result Action TraceCause
origin_at name = name_at name >>= λ u. Ok (origin name)

unfoldable pub snapshot_at : List ℕ → Result Action TraceCause
snapshot_at name = name_at name >>= λ u. Ok (snapshot name)

unfoldable pub keep_at : List ℕ → List ℕ → List (List ℕ) → Result Action TraceCause
keep_at new old rules = do
  u ← name_at new
  v ← name_at old
  rs ← rules_at rules
  Ok (keep new old rs)

unfoldable pub stats_at : List ℕ → List ℕ → List ℕ → List ℕ → Result Action TraceCause
stats_at name key mode most = do
  u ← name_at name
  k ← key_at key
  c ← mode_at k mode
  n ← most_at most
  Ok (stats name k c n)

unfoldable pub compare_at : List ℕ → List ℕ → List ℕ → List ℕ → List ℕ → Result Action TraceCause
compare_at new old key mode most = do
  u ← name_at new
  v ← name_at old
  k ← key_at key
  c ← mode_at k mode
  n ← most_at most
  Ok (compare new old k c n)

unfoldable pub dump_at : List ℕ → Result Action TraceCause
dump_at name = name_at name >>= λ u. Ok (dump name)

unfoldable pub refuse_at : List ℕ → List ℕ → Result Action TraceCause
refuse_at side number = do
  s ← side_at side
  n ← refusal_at number
  Ok (refuse s n)

-- the operation that a keyword and its operands give; another number of operands is a fault
unfoldable pub action_at : Keyword → List (List ℕ) → Result Action TraceCause
action_at keys.Acquire [] = Ok acquire
action_at keys.Acquire ws = Err BadWords
action_at keys.Release [] = Ok release
action_at keys.Release ws = Err BadWords
action_at keys.Malloc (letter ∷ name ∷ size ∷ []) = malloc_at letter name size
action_at keys.Malloc ws = Err BadWords
action_at keys.Calloc (letter ∷ name ∷ count ∷ size ∷ []) = calloc_at letter name count size
action_at keys.Calloc ws = Err BadWords
action_at keys.Realloc (letter ∷ name ∷ size ∷ []) = realloc_at letter name size
action_at keys.Realloc ws = Err BadWords
action_at keys.Free (letter ∷ name ∷ []) = free_at letter name
action_at keys.Free ws = Err BadWords
action_at keys.Poke (name ∷ offset ∷ digits ∷ []) = poke_at name offset digits
action_at keys.Poke ws = Err BadWords
action_at keys.Peek (name ∷ offset ∷ count ∷ []) = peek_at name offset count
action_at keys.Peek ws = Err BadWords
action_at keys.Call (file ∷ line ∷ []) = enter_at file line
action_at keys.Call ws = Err BadWords
action_at keys.Line (line ∷ []) = go_to_at line
action_at keys.Line ws = Err BadWords
action_at keys.Return [] = Ok leave
action_at keys.Return ws = Err BadWords
action_at keys.Start (limit ∷ []) = start_tracing_at limit
action_at keys.Start ws = Err BadWords
action_at keys.Stop [] = Ok stop_tracing
action_at keys.Stop ws = Err BadWords
action_at keys.Clear [] = Ok clear_traces
action_at keys.Clear ws = Err BadWords
action_at keys.ResetPeak [] = Ok reset_peak
action_at keys.ResetPeak ws = Err BadWords
action_at keys.Traced [] = Ok traced_memory
action_at keys.Traced ws = Err BadWords
action_at keys.Mark (domain ∷ number ∷ size ∷ []) = mark_at domain number size
action_at keys.Mark ws = Err BadWords
action_at keys.Unmark (domain ∷ number ∷ []) = unmark_at domain number
action_at keys.Unmark ws = Err BadWords
action_at keys.Where (name ∷ []) = origin_at name
action_at keys.Where ws = Err BadWords
action_at keys.Snapshot (name ∷ []) = snapshot_at name
action_at keys.Snapshot ws = Err BadWords
action_at keys.Keep (new ∷ old ∷ rules) = keep_at new old rules
action_at keys.Keep ws = Err BadWords
action_at keys.Stats (name ∷ key ∷ mode ∷ most ∷ []) = stats_at name key mode most
action_at keys.Stats ws = Err BadWords
action_at keys.Compare (new ∷ old ∷ key ∷ mode ∷ most ∷ []) = compare_at new old key mode most
action_at keys.Compare ws = Err BadWords
action_at keys.Dump (name ∷ []) = dump_at name
action_at keys.Dump ws = Err BadWords
action_at keys.Heap [] = Ok heap
action_at keys.Heap ws = Err BadWords
action_at keys.Refuse (side ∷ number ∷ []) = refuse_at side number
action_at keys.Refuse ws = Err BadWords
