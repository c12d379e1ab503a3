use Rattle.std.proofs.Common.{◌∙◌, ℕ, List, [], replicate, ap}
use Rattle.mem_base.specs.declared.reply.Frame.{Frame}
use Rattle.block_store.specs.Store.{empty_store}
use Rattle.frame_stack.specs.Callers.{CallersView}
use Rattle.machine_core.proofs.StepLemmas.{opening_stands}
use Rattle.machine_core.proofs.machine.Machine.new.Goals as goal

pub invariant_of-result : goal.invariant_of-result
invariant_of-result c =
    let opened : List (List Frame) → ℕ → CallersView = λ fs n. record { files = n; frames = fs; table = [] } in
    opening_stands c.args.trace c.new-4.result c.in_ok-store.store c.in_ok-callers.callers c.new-5.result
    c.new-6.result c.in_ok-progress.progress c.len-2.ensures.table c.requires c.new-4.ensures
    (c.in_ok-store.ensures ∙ ap empty_store c.len-3.ensures.count)
    (c.in_ok-callers.ensures ∙ (λ i. opened (replicate (c.len.ensures i) []) (c.len-2.ensures.count i))) c.new-5.ensures
    c.in_ok-progress.ensures.done c.in_ok-progress.ensures.is c.new-6.ensures
