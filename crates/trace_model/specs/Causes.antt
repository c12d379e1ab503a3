-- Why a trace is refused, as one table with a row for each cause in their order. The first row that holds for a line is
-- its cause, and a line for which none holds is read; a trace is refused at its first line that has a cause.
use Rattle.std.specs.Prelude.{◌≡◌, ℕ, ◌+◌, Bool, true, false, not, ◌&&◌, ◌||◌, nat_le, nat_lt, ◌==◌, List, [], ◌∷◌}
use Rattle.std.specs.Prelude.{◌++◌, length, map, drop, count_by, option_and_then, Option, Some, None}
use Rattle.std.specs.Prelude.{Result, Ok, Err, is_err}
use Rattle.std.specs.Bool.{then_some}
use Rattle.std.specs.List.{list_all, list_any, slice_split}
use Rattle.std.specs.Option.{option_or}
use Rattle.std.specs.Result.{result_err, result_ok}
use Rattle.std.specs.Str.{bytes_eq}
use Rattle.mem_base.specs.Name.{Name}
use Rattle.mem_base.specs.declared.limits.TheConstants.{MAX_FRAME_LIMIT, MAX_LINE, MAX_LINES, MAX_PICKS, MAX_REACH}
use Rattle.mem_base.specs.declared.limits.TheConstants.{MAX_REFUSAL, MAX_TRACKS}
use Rattle.trace_model.specs.Operands.{◌>>=◌, is_between, is_forged, max_domain, number_at, offset_at, number_in}
use Rattle.trace_model.specs.Operands.{name_at, file_at, letter_at, side_at, key_at, mode_at, hex_at, times_at}
use Rattle.trace_model.specs.Rules.{rule_at}
use Rattle.trace_model.specs.Plain.{PlainTrace, keyword_text, has_frame, keeps_few, action_at}
use Rattle.trace_model.specs.Spelling.{blank, line_end, header, pick_count, spelling, IsWellFormed}
use Rattle.trace_model.specs.Reading.{Stop, head_at, is_misplaced, is_empty, open_frames, has_room}
use Rattle.trace_model.specs.declared.cause.TraceCause.{TraceCause}
use Rattle.trace_model.specs.declared.cause.TraceCause.TheVariants.{BadEnd, BadHeader, BadByte, UnknownWord}
use Rattle.trace_model.specs.declared.cause.TraceCause.TheVariants.{Misplaced, BadWords, ForgedLetter, NoFrame}
use Rattle.trace_model.specs.declared.cause.TraceCause.TheVariants.{SameTrack, NoTrack, TooMany}
use Rattle.trace_model.specs.declared.keyword.Head.{Head}
use Rattle.trace_model.specs.declared.keyword.Head.TheVariants as heads
use Rattle.trace_model.specs.declared.keyword.Keyword.TheVariants as keys

-- ---- the operands

-- what a word behind the first one is
pub data Operand : Type 0 where
  a_letter : Operand
  a_side : Operand
  a_name : Operand
  a_file : Operand
  a_number : Operand
  a_number_in : (least most : ℕ) → Operand
  an_offset : Operand
  some_bytes : Operand
  a_key : Operand
  -- a mode that goes with the key in front of it
  a_mode : Operand
  a_rule : Operand

-- the operands of a line that begins with this; keep has one name and another, and a rule for each word behind them
abbrev pub operands : Head → List (List ℕ) → List Operand
operands heads.Track ws = a_name ∷ []
operands heads.Pick ws = a_name ∷ a_number_in 1 MAX_PICKS ∷ []
operands (heads.Op keys.Acquire) ws = []
operands (heads.Op keys.Release) ws = []
operands (heads.Op keys.Malloc) ws = a_letter ∷ a_name ∷ a_number ∷ []
operands (heads.Op keys.Calloc) ws = a_letter ∷ a_name ∷ a_number ∷ a_number ∷ []
operands (heads.Op keys.Realloc) ws = a_letter ∷ a_name ∷ a_number ∷ []
operands (heads.Op keys.Free) ws = a_letter ∷ a_name ∷ []
operands (heads.Op keys.Poke) ws = a_name ∷ an_offset ∷ some_bytes ∷ []
operands (heads.Op keys.Peek) ws = a_name ∷ an_offset ∷ a_number_in 1 MAX_REACH ∷ []
operands (heads.Op keys.Call) ws = a_file ∷ a_number_in 0 MAX_LINE ∷ []
operands (heads.Op keys.Line) ws = a_number_in 0 MAX_LINE ∷ []
operands (heads.Op keys.Return) ws = []
operands (heads.Op keys.Start) ws = a_number_in 1 MAX_FRAME_LIMIT ∷ []
operands (heads.Op keys.Stop) ws = []
operands (heads.Op keys.Clear) ws = []
operands (heads.Op keys.ResetPeak) ws = []
operands (heads.Op keys.Traced) ws = []
operands (heads.Op keys.Mark) ws = a_number_in 1 max_domain ∷ a_number ∷ a_number ∷ []
operands (heads.Op keys.Unmark) ws = a_number_in 1 max_domain ∷ a_number ∷ []
operands (heads.Op keys.Where) ws = a_name ∷ []
operands (heads.Op keys.Snapshot) ws = a_name ∷ []
operands (heads.Op keys.Keep) ws = a_name ∷ a_name ∷ map (λ w. a_rule) (drop 2 ws)
operands (heads.Op keys.Stats) ws = a_name ∷ a_key ∷ a_mode ∷ a_number_in 1 MAX_LINES ∷ []
operands (heads.Op keys.Compare) ws = a_name ∷ a_name ∷ a_key ∷ a_mode ∷ a_number_in 1 MAX_LINES ∷ []
operands (heads.Op keys.Dump) ws = a_name ∷ []
operands (heads.Op keys.Heap) ws = []
operands (heads.Op keys.Refuse) ws = a_side ∷ a_number_in 1 MAX_REFUSAL ∷ []

-- why a word is no such operand, behind the word before it
abbrev pub fault_as : Operand → (before word : List ℕ) → Option TraceCause
fault_as a_letter before w = result_err (letter_at w)
fault_as a_side before w = result_err (side_at w)
fault_as a_name before w = result_err (name_at w)
fault_as a_file before w = result_err (file_at w)
fault_as a_number before w = result_err (number_at w)
fault_as (a_number_in least most) before w = result_err (number_in least most w)
fault_as an_offset before w = result_err (offset_at w)
fault_as some_bytes before w = result_err (hex_at w)
fault_as a_key before w = result_err (key_at w)
fault_as a_mode before w = result_err (key_at before >>= λ key. mode_at key w)
fault_as a_rule before w = result_err (rule_at w)

-- the fault of the first of these words, from left to right, that is not the operand at its place
abbrev pub first_fault : (before : List ℕ) → List Operand → (words : List (List ℕ)) → Option TraceCause
first_fault before [] ws = None
first_fault before (o ∷ os) [] = None
first_fault before (o ∷ os) (w ∷ ws) = option_or (fault_as o before w) (first_fault w os ws)

-- ---- when a row holds

-- it was read, as something of which this holds
abbrev pub is_ok_and : {A : Type 0} → Result A TraceCause → (A → Bool) → Bool
is_ok_and (Ok x) holds = holds x
is_ok_and (Err c) holds = false

-- no line begins with the first of these words
abbrev pub begin_no_line : List (List ℕ) → Bool
begin_no_line [] = true
begin_no_line (first ∷ ws) = is_err (head_at first)

-- what the first word begins, with the words behind it, is of this kind
infix 75 ◌are◌
abbrev pub ◌are◌ : List (List ℕ) → (Head → List (List ℕ) → Bool) → Bool
[] are kind = false
(first ∷ ws) are kind = is_ok_and (head_at first) (λ h. kind h ws)

-- an operation in front of the first track or behind a pick, or a track behind a pick
abbrev pub misplaced : PlainTrace → Head → List (List ℕ) → Bool
misplaced t h ws = is_misplaced t h

-- a word is empty, or there is not one word for each operand
abbrev pub wrong_in_number : Head → List (List ℕ) → Bool
wrong_in_number h ws = list_any is_empty ws || not (length (operands h ws) == length ws)

-- the fault of the first faulty operand
abbrev pub operand_fault : List (List ℕ) → Option TraceCause
operand_fault [] = None
operand_fault (first ∷ ws) = option_and_then (λ h. first_fault first (operands h ws) ws) (result_ok (head_at first))

-- a poke that would write a domain's letter where a block keeps its own
abbrev pub are_forged : List (List ℕ) → Bool
are_forged (first ∷ name ∷ offset ∷ digits ∷ []) =
    bytes_eq first (keyword_text keys.Poke)
    && is_ok_and (offset_at offset) (λ o. is_ok_and (hex_at digits) (λ bytes. is_forged o bytes))
are_forged words = false

-- an operation that speaks of a frame, where there is none
abbrev pub without_frame : PlainTrace → Head → List (List ℕ) → Bool
without_frame t heads.Track ws = false
without_frame t heads.Pick ws = false
without_frame t (heads.Op k) ws = is_ok_and (action_at k ws) (λ a. not (has_frame (open_frames t.tracks) a))

-- there is a track of this name
abbrev pub has_track : PlainTrace → Name → Bool
has_track t name = list_any (λ track. bytes_eq track.name name) t.tracks

-- a track with the name of an earlier one
abbrev pub a_second_track : PlainTrace → Head → List (List ℕ) → Bool
a_second_track t heads.Track (name ∷ []) = has_track t name
a_second_track t heads.Track ws = false
a_second_track t heads.Pick ws = false
a_second_track t (heads.Op k) ws = false

-- picks of a name that no track has
abbrev pub picks_of_none : PlainTrace → Head → List (List ℕ) → Bool
picks_of_none t heads.Track ws = false
picks_of_none t heads.Pick (name ∷ times ∷ []) = not (has_track t name)
picks_of_none t heads.Pick ws = false
picks_of_none t (heads.Op k) ws = false

-- a track, picks or an operation for which there is no room
abbrev pub too_many : PlainTrace → Head → List (List ℕ) → Bool
too_many t heads.Track ws = not (nat_lt (length t.tracks) MAX_TRACKS)
too_many t heads.Pick (name ∷ times ∷ []) =
    is_ok_and (times_at times) (λ n. not (nat_le (pick_count t.picks + n) MAX_PICKS))
too_many t heads.Pick ws = false
too_many t (heads.Op k) ws =
    is_ok_and (action_at k ws) (λ a. not (has_room t a && keeps_few (open_frames t.tracks) a))

-- ---- the table

-- a cause, where this holds
infix 70 ◌when◌
abbrev pub ◌when◌ : TraceCause → Bool → Option TraceCause
cause when holds = then_some holds cause

-- the causes of the words of a line, behind a trace that was read
abbrev pub word_causes : PlainTrace → List (List ℕ) → List (Option TraceCause)
word_causes t words =
    UnknownWord when begin_no_line words
    ∷ Misplaced when (words are misplaced t)
    ∷ BadWords when (words are wrong_in_number)
    ∷ operand_fault words
    ∷ ForgedLetter when are_forged words
    ∷ NoFrame when (words are without_frame t)
    ∷ SameTrack when (words are a_second_track t)
    ∷ NoTrack when (words are picks_of_none t)
    ∷ TooMany when (words are too_many t)
    ∷ []

-- the causes of a line, without its end, behind a trace that was read
abbrev pub causes : PlainTrace → List ℕ → List (Option TraceCause)
causes t line =
    BadByte when not (list_all (is_between 32 126) line)
    ∷ word_causes t (slice_split (λ b. b == blank) line)

-- the first row that holds
abbrev pub first_cause : List (Option TraceCause) → Option TraceCause
first_cause [] = None
first_cause (row ∷ rows) = option_or row (first_cause rows)

-- ---- a whole trace

-- what stands between the ends of lines; the last of it is what stands behind the last end
abbrev pub parts_of : List ℕ → List (List ℕ)
parts_of bytes = slice_split (λ b. b == line_end) bytes

-- the first of these parts is a line with no end
abbrev pub lack_end : List (List ℕ) → Bool
lack_end [] = false
lack_end (part ∷ []) = not (is_empty part)
lack_end (line ∷ next ∷ more) = false

-- the first of these parts is the header
abbrev pub begin_well : List (List ℕ) → Bool
begin_well [] = false
begin_well (line ∷ more) = bytes_eq line header

-- the causes of a trace's first line
abbrev pub header_causes : List (List ℕ) → List (Option TraceCause)
header_causes parts = BadEnd when lack_end parts ∷ BadHeader when not (begin_well parts) ∷ []

-- the causes of the first of these parts where it is a line with an end
abbrev pub ended_causes : PlainTrace → List (List ℕ) → List (Option TraceCause)
ended_causes t [] = []
ended_causes t (part ∷ []) = []
ended_causes t (line ∷ next ∷ more) = causes t line

-- the causes of a later line, the first of these parts, behind a trace that was read
abbrev pub line_causes : PlainTrace → List (List ℕ) → List (Option TraceCause)
line_causes t parts = BadEnd when lack_end parts ∷ ended_causes t parts

-- how many lines end in these bytes
abbrev pub line_count : List ℕ → ℕ
line_count bytes = count_by (λ b. b == line_end) bytes

-- bytes are refused at a line, counted from 1, for a cause: at the first line, or at one in front of which a trace is
-- spelt, and there for the first cause that holds
pub data IsRefused (bytes : List ℕ) (stop : Stop) : Type 0 where
  at_header : stop.0 ≡ 1 → first_cause (header_causes (parts_of bytes)) ≡ Some stop.1 → IsRefused bytes stop
  behind : (t : PlainTrace) (rest : List ℕ) → IsWellFormed t → bytes ≡ spelling t ++ rest
      → stop.0 ≡ line_count (spelling t) + 1 → first_cause (line_causes t (parts_of rest)) ≡ Some stop.1
      → IsRefused bytes stop
