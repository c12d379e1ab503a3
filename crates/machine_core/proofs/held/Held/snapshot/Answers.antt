use Rattle.std.proofs.Common.{ℕ, List, Option, refl, subst}
use Rattle.std.specs.Prelude.{IfSome}
use Rattle.trace_table.specs.Ranks.{AreRanks}
use Rattle.machine_core.specs.declared.held.Held.{Held as Holding}
use Rattle.machine_core.proofs.SnapshotLemmas.{snapshot_acts, snapshot_does}
use Rattle.machine_core.proofs.held.Held.snapshot.Goals as goal

pub returns-in-Some-clause-acts : goal.returns-in-Some-clause-acts
returns-in-Some-clause-acts c = λ t.
    let old = c.args.self.now in
    let new : Holding = record old { snapshots = c.keep_traces.new.snapshots } in
    let ranked = subst (λ (o : Option (List ℕ)). IfSome o (AreRanks c.args.texts.now)) c.in-Some.is c.requires.sound.ranks in
    snapshot_does c.args.texts.now t old new c.requires.sound.ranks refl c.args.name c.requires.known c.keep_traces.result
    (c.keep_traces.ensures.kept c.args.texts.now c.len-texts.ensures.table.distinct ranked)

pub returns-in_ok-reply-in-None-clause-acts : goal.returns-in_ok-reply-in-None-clause-acts
returns-in_ok-reply-in-None-clause-acts c = λ t.
    let old = c.args.self.now in
    let ranked = c.in_ok-ranks-in-None.ensures in
    snapshot_acts c.args.texts.now t old _ ranked refl c.args.name c.in_ok-reply-in-None.reply c.requires.known
    (c.in_ok-reply-in-None.ensures.kept c.args.texts.now c.len-texts.ensures.table.distinct ranked)
