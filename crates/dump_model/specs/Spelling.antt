-- The one spelling of a snapshot as a dump, and the snapshots that have one.
use Rattle.std.specs.Prelude.{◌≡◌, ℕ, ◌<◌, ◌≤◌, ◌^◌, min, List, [], ◌∷◌, ◌++◌, length, map, codes, decimal, IsTrue}
use Rattle.std.specs.List.{AllByRecursion, flat_map, join_with_byte}
use Rattle.mem_base.specs.declared.limits.TheConstants.{MAX_DUMP_ROWS, MAX_FRAME_LIMIT, MAX_LINE}
use Rattle.frame_model.specs.Frames.{PlainFrame}
use Rattle.tracing_model.specs.Traces.{of_block, of_mark, Key as TraceKey}
use Rattle.snapshot_model.specs.Order.{Rises}
use Rattle.snapshot_model.specs.Snapshots.{PlainRow, PlainSnapshot, domain_of, row_cmp}
use Rattle.trace_model.specs.Operands.{is_file, is_name, max_domain}
use Rattle.trace_model.specs.Spelling.{blank, with_end}

-- ---- lines

-- the first line
abbrev pub header : List ℕ
header = codes "pysnap 1"

-- how many frames a trace keeps at most
unfoldable pub limit_line : ℕ → List ℕ
limit_line limit = join_with_byte blank (codes "limit" ∷ decimal limit ∷ [])

-- a frame: its file, a colon and its line
unfoldable pub frame_word : PlainFrame → List ℕ
frame_word f = f.file ++ codes ":" ++ decimal f.line

-- what a key is behind its domain: the name of a block, or a number
abbrev pub key_word : TraceKey → List ℕ
key_word (of_block name) = name
key_word (of_mark domain number) = decimal number

-- a trace: its domain, its key, its size, how many frames there were, and those that it keeps, oldest first
unfoldable pub row_line : PlainRow → List ℕ
row_line row = join_with_byte blank
    (codes "trace" ∷ decimal (domain_of row.key) ∷ key_word row.key ∷ decimal row.size ∷ decimal row.total
    ∷ map frame_word row.frames)

-- the last line
abbrev pub last_line : List ℕ
last_line = codes "end"

-- the lines of a dump, without their ends
abbrev pub dump_lines : PlainSnapshot → List (List ℕ)
dump_lines s = header ∷ limit_line s.limit ∷ map row_line s.rows ++ last_line ∷ []

-- the text of a dump
abbrev pub dump_text : PlainSnapshot → List ℕ
dump_text s = flat_map with_end (dump_lines s)

-- the texts of several dumps, one after the other
abbrev pub dumps_text : List PlainSnapshot → List ℕ
dumps_text ss = flat_map dump_text ss

-- ---- what has a spelling

-- a block's name is one, and a marked number and its domain are in their ranges
abbrev pub FitsKey : TraceKey → Type 0
FitsKey (of_block name) = IsTrue (is_name name)
FitsKey (of_mark domain number) = (1 ≤ domain) × (domain ≤ max_domain) × (number < 2 ^ 64)

pub record FitsFrame (f : PlainFrame) : Type 0 where
  pub file : IsTrue (is_file f.file)
  pub line : f.line ≤ MAX_LINE

-- a trace of a snapshot that keeps so many frames at most
pub record FitsRow (limit : ℕ) (row : PlainRow) : Type 0 where
  pub key : FitsKey row.key
  pub size : row.size < 2 ^ 64
  pub some : 1 ≤ row.total
  pub few : row.total ≤ MAX_FRAME_LIMIT
  pub frames : AllByRecursion FitsFrame row.frames
  pub kept : length row.frames ≡ min limit row.total

-- the limit is in its range, there are not too many traces, they rise by their keys, and each has a spelling
pub record IsDumpable (s : PlainSnapshot) : Type 0 where
  pub some : 1 ≤ s.limit
  pub most : s.limit ≤ MAX_FRAME_LIMIT
  pub few : length s.rows ≤ MAX_DUMP_ROWS
  pub rises : Rises row_cmp s.rows
  pub rows : AllByRecursion (FitsRow s.limit) s.rows
