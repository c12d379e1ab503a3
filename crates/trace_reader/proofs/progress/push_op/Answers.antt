use Rattle.std.proofs.Common.{◌++◌, ◌∷◌, [], List, ap, sym, ◌∙◌}
use Rattle.mem_base.specs.declared.trace.Op.{Op}
use Rattle.mem_base.specs.declared.trace.Track.{Track}
use Rattle.std.proofs.lemmas.Result.{on_ok_weaker}
use Rattle.trace_reader.specs.Progress.{with_op}
use Rattle.trace_reader.proofs.ActionSteps.{with_op_last}
use Rattle.trace_reader.proofs.progress.push_op.Goals as goal

pub returns : goal.returns
returns c =
    let t = c.in-Some.track in
    on_ok_weaker c.push-2.result (λ pushed.
    pushed
    ∙ ap (λ (ops : List Op). c.pop.new.self ++ record { name = t.name; ops = ops } ∷ []) c.in_ok-push.ensures.ok
    ∙ sym (with_op_last c.pop.new.self t c.args.op)
    ∙ ap (λ (ts : List Track). with_op ts c.args.op) (sym c.in-Some.ensures.item)) c.push-2.ensures.ok
