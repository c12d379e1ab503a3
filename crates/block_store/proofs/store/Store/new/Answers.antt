use Rattle.std.proofs.Common.{ap, List, Option, ◌∙◌}
use Rattle.debug_guard.specs.Guard.{Guard}
use Rattle.block_store.specs.Store.{view_of}
use Rattle.block_store.proofs.LoanLemmas.{opening_store}
use Rattle.block_store.proofs.TurnLemmas.{opening_view}
use Rattle.block_store.proofs.store.Store.new.Goals as goal

pub invariant_of-result : goal.invariant_of-result
invariant_of-result c = opening_store c.args.count c.empty_slots.result.items c.in-Ok.domains c.empty_slots.ensures c.in-Ok.ensures.empty c.in-Ok.ensures.sound

pub returns-in-Ok : goal.returns-in-Ok
returns-in-Ok c =
    ap (λ (l : List (Option Guard)). view_of l c.in-Ok.domains) c.empty_slots.ensures ∙ ap (view_of _) c.in-Ok.ensures.empty ∙ opening_view c.args.count
