use Rattle.std.proofs.Common.{ap, ◌∙◌, arith}
use Rattle.sources.specs.Kept.{slots_out}
use Rattle.sources.proofs.Slots.{free_more}
use Rattle.sources.proofs.arenas.free_slots.Goals as goal

pub loop-slot-preserved : goal.loop-slot-preserved
loop-slot-preserved c =
    let old = c.loop-slot.slots.items in let e = c.in_ok-push.ensures.items in
    (omega (arith, c.in_ok-push.ensures.len, c.loop-slot.invariant.0), λ b. ap (slots_out b) e ∙ free_more b old ∙ c.loop-slot.invariant.1 b)
