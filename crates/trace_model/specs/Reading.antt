-- Reading a trace line by line, up to the first faulty line and its first fault.
use Rattle.std.specs.Prelude.{ℕ, ◌+◌, Bool, false, not, ◌&&◌, ◌||◌, nat_le, nat_lt, ◌==◌, if◌then◌else◌, List}
use Rattle.std.specs.Prelude.{[], ◌∷◌, ◌++◌, length, Result, Ok, Err}
use Rattle.std.specs.List.{list_all, list_any, slice_split}
use Rattle.std.specs.Str.{bytes_eq}
use Rattle.mem_base.specs.Name.{Name}
use Rattle.mem_base.specs.declared.limits.TheConstants.{MAX_OPS, MAX_PICKS, MAX_REPORTS, MAX_SNAPSHOTS, MAX_TRACKS}
use Rattle.trace_model.specs.Operands.{◌>>=◌, is_between, name_at, times_at}
use Rattle.trace_model.specs.Plain.{Action, PlainTrack, PlainTrace, keywords, keyword_among, is_report, action_at}
use Rattle.trace_model.specs.Plain.{depth, has_few_rules, has_frame, keeps_few}
use Rattle.trace_model.specs.Spelling.{blank, line_end, head_text, action_count, report_count, pick_count, header}
use Rattle.trace_model.specs.Spelling.{snapshot_names}
use Rattle.trace_model.specs.declared.cause.TraceCause.{TraceCause}
use Rattle.trace_model.specs.declared.cause.TraceCause.TheVariants.{BadEnd, BadHeader, BadByte, UnknownWord}
use Rattle.trace_model.specs.declared.cause.TraceCause.TheVariants.{Misplaced, BadWords, NoFrame, SameTrack}
use Rattle.trace_model.specs.declared.cause.TraceCause.TheVariants.{NoTrack, TooMany}
use Rattle.trace_model.specs.declared.keyword.Head.{Head}
use Rattle.trace_model.specs.declared.keyword.Head.TheVariants as heads

-- ---- the words of a line

-- what the first word of a line begins
abbrev pub head_at : List ℕ → Result Head TraceCause
head_at w =
    if bytes_eq w (head_text heads.Track) then Ok heads.Track
    else if bytes_eq w (head_text heads.Pick) then Ok heads.Pick
    else keyword_among keywords w >>= λ k. Ok (heads.Op k)

-- the one of these heads whose word this is
abbrev pub head_among : List Head → List ℕ → Result Head TraceCause
head_among [] w = Err UnknownWord
head_among (h ∷ hs) w = if bytes_eq w (head_text h) then Ok h else head_among hs w

-- an operation in front of the first track or behind a pick, or a track behind a pick
abbrev pub is_misplaced : PlainTrace → Head → Bool
is_misplaced t heads.Track = nat_lt 0 (length t.picks)
is_misplaced t heads.Pick = false
is_misplaced t (heads.Op k) = length t.tracks == 0 || nat_lt 0 (length t.picks)

abbrev pub is_empty : List ℕ → Bool
is_empty w = length w == 0

-- ---- what a line adds to the trace before it

-- the trace with one more track, which has no operations yet
abbrev pub with_track : PlainTrace → Name → PlainTrace
with_track t name = record t { tracks = t.tracks ++ record { name = name; actions = [] } ∷ [] }

-- a track's name differs from the earlier ones, and there are not too many
abbrev pub start : PlainTrace → Name → Result PlainTrace TraceCause
start t name =
    if list_any (λ track. bytes_eq track.name name) t.tracks then Err SameTrack
    else if nat_lt (length t.tracks) MAX_TRACKS then Ok (with_track t name)
    else Err TooMany

abbrev pub start_at : PlainTrace → List (List ℕ) → Result PlainTrace TraceCause
start_at t (name ∷ []) = name_at name >>= λ u. start t name
start_at t ws = Err BadWords

-- the tracks with one more operation of the last
abbrev pub with_action : List PlainTrack → Action → List PlainTrack
with_action [] a = []
with_action (t ∷ []) a = record { name = t.name; actions = t.actions ++ a ∷ [] } ∷ []
with_action (t ∷ u ∷ ts) a = t ∷ with_action (u ∷ ts) a

-- how many frames the last track has after its operations
abbrev pub open_frames : List PlainTrack → ℕ
open_frames [] = 0
open_frames (t ∷ []) = depth t.actions
open_frames (t ∷ u ∷ ts) = open_frames (u ∷ ts)

-- there is room for one more operation, for one that prints more than a reply where this is one, and for the name of
-- the snapshot that it writes, and it has no more rules than it may have
abbrev pub has_room : PlainTrace → Action → Bool
has_room t a =
    nat_lt (action_count t.tracks) MAX_OPS && (not (is_report a) || nat_lt (report_count t.tracks) MAX_REPORTS)
    && nat_le (length (snapshot_names (with_action t.tracks a))) MAX_SNAPSHOTS && has_few_rules a

-- the trace with one more operation of its last track, where the frame that it speaks of is there, and then room
abbrev pub add : PlainTrace → Action → Result PlainTrace TraceCause
add t a =
    if not (has_frame (open_frames t.tracks) a) then Err NoFrame
    else if has_room t a && keeps_few (open_frames t.tracks) a then Ok (record t { tracks = with_action t.tracks a })
    else Err TooMany

-- the index of the track of a name
abbrev pub index_of : List PlainTrack → Name → Result ℕ TraceCause
index_of [] name = Err NoTrack
index_of (t ∷ ts) name = if bytes_eq t.name name then Ok 0 else index_of ts name >>= λ i. Ok (i + 1)

-- the trace with one more pick, of the track at an index
abbrev pub pick : PlainTrace → ℕ → ℕ → Result PlainTrace TraceCause
pick t i times =
    if nat_le (pick_count t.picks + times) MAX_PICKS then Ok (record t { picks = t.picks ++ (i, times) ∷ [] })
    else Err TooMany

unfoldable pub pick_at : PlainTrace → List (List ℕ) → Result PlainTrace TraceCause
pick_at t (name ∷ times ∷ []) = do
  u ← name_at name
  n ← times_at times
  i ← index_of t.tracks name
  pick t i n
pick_at t ws = Err BadWords

abbrev pub item_at : PlainTrace → Head → List (List ℕ) → Result PlainTrace TraceCause
item_at t heads.Track ws = start_at t ws
item_at t heads.Pick ws = pick_at t ws
item_at t (heads.Op k) ws = action_at k ws >>= λ a. add t a

-- the words of a line: the first word, where it stands, that no word is empty, and the operands
abbrev pub words_at : PlainTrace → List (List ℕ) → Result PlainTrace TraceCause
words_at t [] = Err UnknownWord
words_at t (first ∷ ws) = head_at first >>= λ h.
    if is_misplaced t h then Err Misplaced
    else if list_any is_empty ws then Err BadWords
    else item_at t h ws

-- the trace with one more line
unfoldable pub line_at : PlainTrace → List ℕ → Result PlainTrace TraceCause
line_at t line = if list_all (is_between 32 126) line then words_at t (slice_split (λ b. b == blank) line) else Err BadByte

-- ---- the lines of a trace

-- the line at which reading stopped, counted from 1, and why
abbrev pub Stop : Type 0
Stop = ℕ × TraceCause

abbrev pub then_lines : ℕ → Result PlainTrace TraceCause → (PlainTrace → Result PlainTrace Stop) → Result PlainTrace Stop
then_lines k (Ok t) f = f t
then_lines k (Err c) f = Err (k, c)

-- lines from the k-th on; the last part is what stands behind the last line's end
abbrev pub lines_at : ℕ → PlainTrace → List (List ℕ) → Result PlainTrace Stop
lines_at k t [] = Ok t
lines_at k t (line ∷ []) = if is_empty line then Ok t else Err (k, BadEnd)
lines_at k t (line ∷ next ∷ more) = then_lines k (line_at t line) (λ u. lines_at (k + 1) u (next ∷ more))

-- what is wrong with a first line that has no end
abbrev pub end_cause : List ℕ → TraceCause
end_cause line = if is_empty line then BadHeader else BadEnd

-- a trace of which only the header was read
abbrev pub opening : PlainTrace
opening = record { tracks = []; picks = [] }

abbrev pub header_at : List (List ℕ) → Result PlainTrace Stop
header_at [] = Err (1, BadHeader)
header_at (line ∷ []) = Err (1, end_cause line)
header_at (line ∷ next ∷ more) = if bytes_eq line header then lines_at 2 opening (next ∷ more) else Err (1, BadHeader)

-- the trace that the bytes spell, or their first faulty line and its first fault
unfoldable pub trace_at : List ℕ → Result PlainTrace Stop
trace_at bytes = header_at (slice_split (λ b. b == line_end) bytes)
