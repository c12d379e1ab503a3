-- By what single frames are grouped, and what is answered of two snapshots.
use Rattle.std.specs.Prelude.{Bool, true, false, List}
use Rattle.mem_base.specs.Name.{Name}
use Rattle.mem_base.specs.declared.reply.Frame.{Frame}
use Rattle.mem_base.specs.declared.trace.KeyKind.{KeyKind}
use Rattle.mem_base.specs.declared.trace.KeyKind.TheVariants.{Filename, Lineno}
use Rattle.snapshot_model.specs.Compared.{Change, changes_of}
use Rattle.snapshot_model.specs.Occurrences.{Occurrence, occurrences}
use Rattle.trace_table.specs.Plain.{plain_rows}
use Rattle.trace_table.specs.declared.snapshot.Snapshot.{Snapshot}
use Rattle.snap_stats.specs.declared.stats.Grouping.{Grouping}

-- by the line or by the file
abbrev pub kind_of : Bool → KeyKind
kind_of true = Lineno
kind_of false = Filename

-- what a snapshot's rows count for
abbrev pub occurrences_in : List Name → List (List Frame) → Grouping → Snapshot → List Occurrence
occurrences_in texts table by s = occurrences by.key by.cumulative (plain_rows texts table s.rows)

-- the changes from the old snapshot to the new one
abbrev pub changes_between : List Name → List (List Frame) → Grouping → Snapshot → Snapshot → List Change
changes_between texts table by new old = changes_of (occurrences_in texts table by new) (occurrences_in texts table by old)
