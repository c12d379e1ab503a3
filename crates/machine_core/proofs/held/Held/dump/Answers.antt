use Rattle.std.proofs.Common.{◌≡◌, ℕ, List, Option, None, subst}
use Rattle.std.specs.Prelude.{IfNone, IfSome}
use Rattle.mem_base.specs.declared.reply.Frame.{Frame}
use Rattle.snap_store.specs.Stand.{IsTextOf, snapshot_at}
use Rattle.machine_core.proofs.SnapshotLemmas.{dump_none, dump_some}
use Rattle.machine_core.proofs.held.Held.dump.Goals as goal

pub returns-in-Some-clause-acts : goal.returns-in-Some-clause-acts
returns-in-Some-clause-acts c = λ t.
    let old = c.args.self.now in
    let is : List (List Frame) → List ℕ → Type 0 =
    λ table. IsTextOf c.args.texts.now table (snapshot_at old.snapshots c.args.name) in
    dump_some c.args.texts.now t old c.requires.sound.ranks c.args.name c.requires.known c.in-Some.text
    (subst (λ (o : Option (List ℕ)). IfSome o (is old.callers.table)) c.in-Some.is
    (subst (λ (table : List (List Frame)). IfSome c.in_ok-text.field-0 (is table)) c.tracebacks-table.ensures.table
    c.in_ok-text.ensures.text))

pub returns-in-None-clause-acts : goal.returns-in-None-clause-acts
returns-in-None-clause-acts c = λ t.
    let old = c.args.self.now in
    dump_none c.args.texts.now t old c.requires.sound.ranks c.args.name c.requires.known
    (subst (λ (o : Option (List ℕ)). IfNone o (snapshot_at old.snapshots c.args.name ≡ None)) c.in-None.is
    c.in_ok-text.ensures.none)
