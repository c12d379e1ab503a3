use Rattle.std.proofs.Common.{◌≡◌, ℕ, List, Option, None, refl, subst}
use Rattle.std.specs.Prelude.{IfNone, IfSome}
use Rattle.mem_base.specs.declared.reply.Frame.{Frame}
use Rattle.snap_store.specs.Stand.{IsKeptBy, snapshot_at}
use Rattle.machine_core.specs.declared.held.Held.{Held as Holding}
use Rattle.machine_core.proofs.SnapshotLemmas.{keep_none, keep_some}
use Rattle.machine_core.proofs.held.Held.keep.Goals as goal

pub returns-in-Some-clause-acts : goal.returns-in-Some-clause-acts
returns-in-Some-clause-acts c = λ t.
    let old = c.args.self.now in
    let new : Holding = record old { snapshots = c.keep.new.self } in
    let by : List (List Frame) → ℕ → Type 0 =
    λ table. IsKeptBy c.args.texts.now table c.args.rules.now c.args.new c.args.old old.snapshots new.snapshots in
    keep_some c.args.texts.now t old new c.requires.sound.ranks refl c.args.new c.args.old c.args.rules.now
    c.requires.old c.in-Some.count c.requires.new
    (subst (λ (o : Option ℕ). IfSome o (by old.callers.table)) c.in-Some.is
    (subst (λ (table : List (List Frame)). IfSome c.in_ok-count.field-0 (by table)) c.tracebacks-table.ensures.table
    c.in_ok-count.ensures.kept))

pub returns-in-None-clause-acts : goal.returns-in-None-clause-acts
returns-in-None-clause-acts c = λ t.
    let old = c.args.self.now in
    let new : Holding = record old { snapshots = c.keep.new.self } in
    keep_none c.args.texts.now t old new c.requires.sound.ranks refl c.args.new c.args.old c.args.rules.now
    c.requires.old
    (subst (λ (o : Option ℕ). IfNone o (snapshot_at old.snapshots c.args.old ≡ None)) c.in-None.is
    c.in_ok-count.ensures.none)
    (subst (λ (o : Option ℕ). IfNone o (new.snapshots ≡ old.snapshots)) c.in-None.is c.in_ok-count.ensures.same)
