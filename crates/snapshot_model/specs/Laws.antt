-- Laws over snapshots and their statistics.
use Rattle.std.specs.Prelude.{◌≡◌, List, [], ◌++◌, length, take, Some}
use Rattle.std.specs.declared.cmp.Ordering.TheVariants.{Less}
use Rattle.mem_base.specs.declared.trace.Rule.{Rule}
use Rattle.extents.specs.Sums.{Has}
use Rattle.tracing_model.specs.Traces.{AreDistinct, Key as TraceKey, TraceOf, trace_at}
use Rattle.tracing_model.specs.Tracing.{Tracing}
use Rattle.snapshot_model.specs.Order.{Rises}
use Rattle.snapshot_model.specs.Snapshots.{PlainRow, PlainSnapshot, IsSnapshot, row_cmp, row_of, snapshot_of}
use Rattle.snapshot_model.specs.Rules.{kept_by}
use Rattle.snapshot_model.specs.Occurrences.{Occurrence}
use Rattle.snapshot_model.specs.Stats.{PlainGroup, Falls, IsGroupOf, IsStats, group_cmp, stats_of}
use Rattle.snapshot_model.specs.Compared.{Change, IsCompared, changes_of}

-- a snapshot has the trace of each key that has one, and no other row, in order
abbrev pub SnapshotsHoldAll : Type 0
SnapshotsHoldAll = (t : Tracing) → AreDistinct t.traces
    → Rises row_cmp (snapshot_of t).rows
    × ((key : TraceKey) (of : TraceOf) → trace_at t.traces key ≡ Some of → Has (row_of (key, of)) (snapshot_of t).rows)
    × ((row : PlainRow) → Has row (snapshot_of t).rows
    → (of : TraceOf) × (trace_at t.traces row.key ≡ Some of) × (row ≡ row_of (row.key, of)))

-- rows in order that are these are the snapshot's
abbrev pub SnapshotsAreOne : Type 0
SnapshotsAreOne = (t : Tracing) (rows : List PlainRow) → AreDistinct t.traces → Rises row_cmp rows
    → ((key : TraceKey) (of : TraceOf) → trace_at t.traces key ≡ Some of → Has (row_of (key, of)) rows)
    → ((row : PlainRow) → Has row rows
    → (of : TraceOf) × (trace_at t.traces row.key ≡ Some of) × (row ≡ row_of (row.key, of)))
    → rows ≡ (snapshot_of t).rows

-- what rules leave of a snapshot is one
abbrev pub RulesKeepSnapshots : Type 0
RulesKeepSnapshots = (rules : List Rule) (s : PlainSnapshot) → IsSnapshot s → IsSnapshot (kept_by rules s)

-- no rules leave all
abbrev pub NoRulesKeepAll : Type 0
NoRulesKeepAll = (s : PlainSnapshot) → kept_by [] s ≡ s

-- the statistics are in order, and have the group of each key that occurs and no other
abbrev pub StatsAreTheirs : Type 0
StatsAreTheirs = (os : List Occurrence) → IsStats os (stats_of os)

-- and so are the changes
abbrev pub ChangesAreTheirs : Type 0
ChangesAreTheirs = (new old : List Occurrence) → IsCompared new old (changes_of new old)

-- there is one list of statistics
abbrev pub StatsAreOne : Type 0
StatsAreOne = (os : List Occurrence) (xs ys : List PlainGroup) → IsStats os xs → IsStats os ys → xs ≡ ys

-- there is one comparison
abbrev pub ComparisonsAreOne : Type 0
ComparisonsAreOne =
    (new old : List Occurrence) (xs ys : List Change) → IsCompared new old xs → IsCompared new old ys → xs ≡ ys

-- groups in order, above all the rest, are the first of the statistics, whatever order the rest has
abbrev pub FirstGroupsAreFirst : Type 0
FirstGroupsAreFirst =
    (os : List Occurrence) (front rest groups : List PlainGroup)
    → Falls group_cmp front
    → ((a b : PlainGroup) → Has a front → Has b rest → group_cmp b a ≡ Less)
    → ((g : PlainGroup) → Has g (front ++ rest) → IsGroupOf os g)
    → ((g : PlainGroup) → IsGroupOf os g → Has g (front ++ rest))
    → IsStats os groups → front ≡ take (length front) groups
