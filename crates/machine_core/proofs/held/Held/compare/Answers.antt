use Rattle.std.proofs.Common.{◌≡◌, ◌⊎◌, ℕ, List, Option, None, subst}
use Rattle.std.specs.Prelude.{IfNone, IfSome}
use Rattle.mem_base.specs.declared.reply.Diff.{Diff}
use Rattle.mem_base.specs.declared.reply.Frame.{Frame}
use Rattle.snap_store.specs.Stand.{AreFirstChanges, snapshot_at}
use Rattle.machine_core.proofs.SnapshotLemmas.{compare_none, compare_some}
use Rattle.machine_core.proofs.held.Held.compare.Goals as goal

pub returns-in-Some-clause-acts : goal.returns-in-Some-clause-acts
returns-in-Some-clause-acts c = λ t.
    let old = c.args.self.now in
    let are : List (List Frame) → ℕ × List Diff → Type 0 =
    λ table. AreFirstChanges c.args.texts.now table c.args.by c.args.most
    (snapshot_at old.snapshots c.args.names.0, snapshot_at old.snapshots c.args.names.1) in
    compare_some c.args.texts.now t old c.requires.sound.ranks c.args.names c.args.by c.args.most c.requires.new
    c.requires.old (c.in-Some.count, c.in-Some.first)
    (subst (λ (o : Option (ℕ × List Diff)). IfSome o (are old.callers.table)) c.in-Some.is
    (subst (λ (table : List (List Frame)). IfSome c.in_ok-count.field-0 (are table)) c.tracebacks-table.ensures.table
    c.in_ok-count.ensures.first))

pub returns-in-None-clause-acts : goal.returns-in-None-clause-acts
returns-in-None-clause-acts c = λ t.
    let old = c.args.self.now in
    compare_none c.args.texts.now t old c.requires.sound.ranks c.args.names c.args.by c.args.most c.requires.new
    c.requires.old
    (subst (λ (o : Option (ℕ × List Diff)). IfNone o ((snapshot_at old.snapshots c.args.names.0 ≡ None)
    ⊎ (snapshot_at old.snapshots c.args.names.1 ≡ None))) c.in-None.is c.in_ok-count.ensures.none)
