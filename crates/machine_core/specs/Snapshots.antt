-- What is traced is kept under a name.
use Rattle.std.specs.Prelude.{◌≡◌, ◌⊎◌, List, length, None}
use Rattle.mem_base.specs.Name.{Name}
use Rattle.mem_base.specs.declared.reply.Reply.{Reply}
use Rattle.mem_base.specs.declared.reply.Reply.TheVariants as replies
use Rattle.mem_base.specs.declared.texts.TextId.{TextId}
use Rattle.trace_table.specs.Plain.{IsTaken}
use Rattle.trace_table.specs.Tracing.{TracingView}
use Rattle.trace_table.specs.declared.snapshot.Snapshot.{Snapshot}
use Rattle.snap_store.specs.Stand.{SnapshotsView, Keeps}

-- all that is traced is kept under the name, and the reply is how many traces there are, or nothing is traced and
-- all snapshots stay
abbrev pub IsKeptNow : List Name → TracingView → TextId → SnapshotsView → SnapshotsView → Reply → Type 0
IsKeptNow texts tracing name old new reply =
    ((tracing.limit ≡ None) × (new ≡ old) × (reply ≡ replies.NotTracing))
    ⊎ ((s : Snapshot) × IsTaken texts tracing s × Keeps name s old new × (reply ≡ replies.Kept (length s.rows)))
