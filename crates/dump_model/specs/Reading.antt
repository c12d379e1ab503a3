-- Reading dumps line by line, up to the first faulty line and its cause. The causes stand in three tables, in the
-- order in which they count: where the input ends, of a line, and of a line that tells a trace.
use Rattle.std.specs.Prelude.{ℕ, ◌+◌, ◌-◌, min, Bool, true, false, not, ◌&&◌, ◌||◌, nat_le, nat_lt, ◌==◌}
use Rattle.std.specs.Prelude.{if◌then◌else◌, List, [], ◌∷◌, ◌++◌, length, Option, Some, None, Result, Ok, Err, codes}
use Rattle.std.specs.List.{list_all, list_any, slice_split}
use Rattle.std.specs.Ordering.{is_lt}
use Rattle.std.specs.Str.{bytes_eq}
use Rattle.mem_base.specs.declared.limits.TheConstants.{MAX_DUMP_ROWS}
use Rattle.tracing_model.specs.Traces.{Key as TraceKey}
use Rattle.snapshot_model.specs.Snapshots.{PlainRow, PlainSnapshot, trace_cmp}
use Rattle.trace_model.specs.Operands.{is_between}
use Rattle.trace_model.specs.Reading.{is_empty}
use Rattle.trace_model.specs.Spelling.{blank, line_end}
use Rattle.dump_model.specs.Operands.{◌>>=◌, frames_at, row_at}
use Rattle.dump_model.specs.Spelling.{header, last_line}
use Rattle.dump_model.specs.declared.cause.LoadCause.{LoadCause}
use Rattle.dump_model.specs.declared.cause.LoadCause.TheVariants.{Short, BadEnd, Trailing, BadHeader, BadByte}
use Rattle.dump_model.specs.declared.cause.LoadCause.TheVariants.{UnknownWord, BadWords, BadFrames, OutOfOrder, TooMany}

-- ---- where reading stands

-- between two dumps, behind a header, or among the traces of a dump, with its limit and those that were read
pub data Stand : Type 0 where
  between : Stand
  in_head : Stand
  in_rows : (limit : ℕ) → (rows : List PlainRow) → Stand

-- the snapshots that were read, how many more are due, with the one that is being read, and where that one stands
pub record Place : Type 0 where
  pub done : List PlainSnapshot
  pub left : ℕ
  pub at : Stand

-- where reading begins, with so many dumps due
abbrev pub start : ℕ → Place
start count = record { done = []; left = count; at = between }

-- ---- what a line says

pub data Item : Type 0 where
  a_header : Item
  a_limit : ℕ → Item
  a_trace : PlainRow → Item
  an_end : Item

-- the words of a line
abbrev pub words_of : List ℕ → List (List ℕ)
words_of line = slice_split (λ b. b == blank) line

-- the word is the line, so it is the last one of a dump
abbrev pub is_last : List ℕ → Bool
is_last w = bytes_eq w last_line

-- what the words behind the first say of a limit
abbrev pub limit_item : List (List ℕ) → Result Item LoadCause
limit_item [] = Err BadWords
limit_item (w ∷ []) = frames_at w >>= λ n. Ok (a_limit n)
limit_item (w ∷ v ∷ ws) = Err BadWords

-- what a line's words say, where one may stand that begins so; its operands are read from left to right
abbrev pub item_at : Stand → List (List ℕ) → Result Item LoadCause
item_at between ws = Ok a_header
item_at in_head [] = Err BadWords
item_at in_head (w ∷ ws) = limit_item ws
item_at (in_rows limit rows) [] = Err BadWords
item_at (in_rows limit rows) (w ∷ ws) = if is_last w then Ok an_end else row_at ws >>= λ row. Ok (a_trace row)

-- ---- the causes

-- a cause, where it holds
abbrev pub when : LoadCause → Bool → Option LoadCause
when c holds = if holds then Some c else None

-- the first cause that holds
abbrev pub first_cause : List (Option LoadCause) → Option LoadCause
first_cause [] = None
first_cause (None ∷ cs) = first_cause cs
first_cause (Some c ∷ cs) = Some c

-- the cause for which something was not read
abbrev pub fault_of : {X : Type 0} → Result X LoadCause → Option LoadCause
fault_of (Ok x) = None
fault_of (Err c) = Some c

-- where the input ends, and what stands behind the last line's end: a line is due and there is nothing, or there is
-- something without an end
abbrev pub end_causes : Place → List ℕ → List (Option LoadCause)
end_causes place rest =
    when Short (is_empty rest && nat_lt 0 place.left)
    ∷ when BadEnd (not (is_empty rest))
    ∷ []

-- the first word is one that may stand there; a header is compared as a whole
abbrev pub begins : Stand → List (List ℕ) → Bool
begins between ws = true
begins in_head [] = false
begins in_head (w ∷ ws) = bytes_eq w (codes "limit")
begins (in_rows limit rows) [] = false
begins (in_rows limit rows) (w ∷ ws) = bytes_eq w (codes "trace") || is_last w

-- there are as many words as there may be: two with a limit, six at least with a trace, and one at the end
abbrev pub has_words : Stand → List (List ℕ) → Bool
has_words between ws = true
has_words in_head ws = length ws == 2
has_words (in_rows limit rows) [] = false
has_words (in_rows limit rows) (w ∷ ws) = if is_last w then length ws == 0 else nat_le 5 (length ws)

-- a header is due, and the line is none
abbrev pub is_no_header : Stand → List ℕ → Bool
is_no_header between line = not (bytes_eq line header)
is_no_header in_head line = false
is_no_header (in_rows limit rows) line = false

-- a key stands after the last of the traces that were read
abbrev pub is_after : List PlainRow → TraceKey → Bool
is_after [] key = true
is_after (row ∷ []) key = is_lt (trace_cmp row.key key)
is_after (row ∷ next ∷ rows) key = is_after (next ∷ rows) key

-- one more trace of a dump: it has another number of frames than are kept, it does not stand after the one before it,
-- or there are too many
abbrev pub row_causes : ℕ → List PlainRow → PlainRow → List (Option LoadCause)
row_causes limit rows row =
    when BadFrames (not (length row.frames == min limit row.total))
    ∷ when OutOfOrder (not (is_after rows row.key))
    ∷ when TooMany (not (nat_lt (length rows) MAX_DUMP_ROWS))
    ∷ []

-- the same of what a line says, where it is a trace
abbrev pub item_causes : Stand → Result Item LoadCause → List (Option LoadCause)
item_causes between item = []
item_causes in_head item = []
item_causes (in_rows limit rows) (Err c) = []
item_causes (in_rows limit rows) (Ok a_header) = []
item_causes (in_rows limit rows) (Ok (a_limit n)) = []
item_causes (in_rows limit rows) (Ok (a_trace row)) = row_causes limit rows row
item_causes (in_rows limit rows) (Ok an_end) = []

-- a line, without its end: no dump is due; the header is due and it is none; a byte is no printing one; its first
-- word is none that may stand there; a word is empty, or there are too many or too few; and its operands
abbrev pub line_causes : Place → List ℕ → List (Option LoadCause)
line_causes place line =
    let words = words_of line in
    when Trailing (place.left == 0)
    ∷ when BadHeader (is_no_header place.at line)
    ∷ when BadByte (not (list_all (is_between 32 126) line))
    ∷ when UnknownWord (not (begins place.at words))
    ∷ when BadWords (list_any is_empty words || not (has_words place.at words))
    ∷ fault_of (item_at place.at words)
    ∷ item_causes place.at (item_at place.at words)

-- ---- what a line adds

-- where reading stands after what a line said
abbrev pub stand_after : Stand → Item → Stand
stand_after at a_header = in_head
stand_after at (a_limit n) = in_rows n []
stand_after between (a_trace row) = between
stand_after in_head (a_trace row) = in_head
stand_after (in_rows limit rows) (a_trace row) = in_rows limit (rows ++ row ∷ [])
stand_after at an_end = between

-- the snapshot that was read whole
abbrev pub read_whole : Stand → List PlainSnapshot
read_whole between = []
read_whole in_head = []
read_whole (in_rows limit rows) = record { limit = limit; rows = rows } ∷ []

-- the snapshots after what a line said, of which an end makes one more, and how many are then due
abbrev pub place_after : Place → Item → Place
place_after p a_header = record p { at = stand_after p.at a_header }
place_after p (a_limit n) = record p { at = stand_after p.at (a_limit n) }
place_after p (a_trace row) = record p { at = stand_after p.at (a_trace row) }
place_after p an_end = record { done = p.done ++ read_whole p.at; left = p.left - 1; at = between }

-- ---- the lines of dumps

-- what follows where no cause holds
abbrev pub unless : {X : Type 0} → Option LoadCause → Result X LoadCause → Result X LoadCause
unless None read = read
unless (Some c) read = Err c

-- one more line, without its end
unfoldable pub line_at : Place → List ℕ → Result Place LoadCause
line_at p line =
    unless (first_cause (line_causes p line)) (item_at p.at (words_of line) >>= λ item. Ok (place_after p item))

-- the end of the input, behind which this stands
abbrev pub end_at : Place → List ℕ → Result (List PlainSnapshot) LoadCause
end_at p rest = unless (first_cause (end_causes p rest)) (Ok p.done)

-- the line at which reading stopped, counted from 1, and why
abbrev pub Stop : Type 0
Stop = ℕ × LoadCause

-- the fault of a line with its number
abbrev pub at_line : {X : Type 0} → ℕ → Result X LoadCause → Result X Stop
at_line k (Ok x) = Ok x
at_line k (Err c) = Err (k, c)

abbrev pub then_lines : {X Y : Type 0} → Result X Stop → (X → Result Y Stop) → Result Y Stop
then_lines (Ok x) f = f x
then_lines (Err stop) f = Err stop

-- lines from the k-th on; the last part is what stands behind the last line's end
abbrev pub lines_at : ℕ → Place → List (List ℕ) → Result (List PlainSnapshot) Stop
lines_at k p [] = Ok p.done
lines_at k p (rest ∷ []) = at_line k (end_at p rest)
lines_at k p (line ∷ next ∷ more) = then_lines (at_line k (line_at p line)) (λ q. lines_at (k + 1) q (next ∷ more))

-- the snapshots of so many dumps, or the first faulty line and its cause
unfoldable pub dumps_at : List ℕ → ℕ → Result (List PlainSnapshot) Stop
dumps_at bytes count = lines_at 1 (start count) (slice_split (λ b. b == line_end) bytes)
