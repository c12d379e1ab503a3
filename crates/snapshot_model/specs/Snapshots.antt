-- A snapshot: the traces that were held once, in order.
use Rattle.std.specs.Prelude.{◌≡◌, ℕ, min, List, length, map}
use Rattle.std.specs.declared.cmp.Ordering.{Ordering}
use Rattle.std.specs.declared.cmp.Ordering.TheVariants.{Less, Greater}
use Rattle.std.specs.Ordering.{ordering_then, nat_cmp}
use Rattle.std.specs.Cmp.Lexicographic.{slice_cmp}
use Rattle.extents.specs.Sums.{Has}
use Rattle.frame_model.specs.Frames.{PlainFrame}
use Rattle.tracing_model.specs.Traces.{of_block, of_mark, TraceOf, Key as TraceKey}
use Rattle.tracing_model.specs.Tracing.{Tracing}
pub use Rattle.snapshot_model.specs.Order.{Rises}
use Rattle.snapshot_model.specs.Order.{rising}

-- a trace: what it stands under, its size, its kept frames, the oldest first, and how many frames there were
pub record PlainRow : Type 0 where
  pub key : TraceKey
  pub size : ℕ
  pub frames : List PlainFrame
  pub total : ℕ

-- how many frames a trace keeps at most, and the traces
pub record PlainSnapshot : Type 0 where
  pub limit : ℕ
  pub rows : List PlainRow

-- the domain of a key: that of the allocators, 0, or that of a marked number
abbrev pub domain_of : TraceKey → ℕ
domain_of (of_block name) = 0
domain_of (of_mark domain number) = domain

-- blocks by their names' bytes and before marked numbers, these by their domains and then by number
abbrev pub trace_cmp : TraceKey → TraceKey → Ordering
trace_cmp (of_block a) (of_block b) = slice_cmp nat_cmp a b
trace_cmp (of_block a) (of_mark e n) = Less
trace_cmp (of_mark d m) (of_block b) = Greater
trace_cmp (of_mark d m) (of_mark e n) = ordering_then (nat_cmp d e) (nat_cmp m n)

-- rows by their keys
abbrev pub row_cmp : PlainRow → PlainRow → Ordering
row_cmp a b = trace_cmp a.key b.key

-- the row of a trace that stands under a key
abbrev pub row_of : TraceKey × TraceOf → PlainRow
row_of e = record { key = e.0; size = e.1.size; frames = e.1.frames; total = e.1.total }

-- the snapshot of what is traced now: all traces, in order
abbrev pub snapshot_of : Tracing → PlainSnapshot
snapshot_of t = record { limit = t.limit; rows = rising row_cmp (map row_of t.traces) }

-- the rows rise by their keys, and each keeps as many frames as the limit allows
pub record IsSnapshot (s : PlainSnapshot) : Type 0 where
  pub rises : Rises row_cmp s.rows
  pub keeps : (row : PlainRow) → Has row s.rows → length row.frames ≡ min s.limit row.total
