use Rattle.std.proofs.Common.{◌∙◌, sym}
use Rattle.machine_core.proofs.UnfinishedLemmas.{has_any, one_taken, one_left}
use Rattle.machine_core.proofs.progress.with_ops.Goals as goal
use Rattle.machine_core.proofs.progress.with_ops.Goals.{then-has_op+in_ok-push, else-has_op}

pub loop-t-preserved : goal.loop-t-preserved
loop-t-preserved c = elim c.if-has_op.branch [
  | then-has_op+in_ok-push w ↦ one_taken (has_any c.args.trace.now.tracks) c.loop-t.t c.loop-t.tracks.items
      c.if-has_op.tracks.items c.loop-t.invariant
      (sym c.has_op.ensures ∙ w.if-has_op.true) ((λ i. (w.tracks-is i).items) ∙ w.in_ok-push.ensures.items)
  | else-has_op w ↦ (λ i. (w.tracks-is i).items)
      ∙ one_left (has_any c.args.trace.now.tracks) c.loop-t.t c.loop-t.tracks.items c.loop-t.invariant
      (sym c.has_op.ensures ∙ w.if-has_op.false)
]
