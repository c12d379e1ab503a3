use Rattle.std.proofs.Common.{◌<◌, subst, ap, arith}
use Rattle.sources.specs.Kept.{first_slot, slots_out}
use Rattle.sources.specs.Memory.{ArenasView, IsLeastFreeSlot, arena_window}
use Rattle.sources.specs.Source.{Granted}
use Rattle.sources.proofs.Plans.{had_room}
use Rattle.sources.proofs.Slots.{length_anywhere, granted, least, slots_more}
use Rattle.sources.proofs.arenas.MemArenasArenaSource.ask.Goals as goal

pub make_in_slot-requires-clause-room : goal.make_in_slot-requires-clause-room
make_in_slot-requires-clause-room c =
    let s = c.self.inside in
    let room : s.held < s.max = had_room _ c.has_room-room.result c.refuses_next.result _ _ c.if-refuses_next.false c.refuses_next.ensures.refused c.has_room-room.ensures in
    omega (arith, c.self.invariant.0.count, c.self.invariant.0.most, length_anywhere 0 (first_slot s.skew) s.slots.items)

pub invariant_of-self-in-Ok : goal.invariant_of-self-in-Ok
invariant_of-self-in-Ok c =
    let s = c.self.inside in (slots_more s.skew s.held s.max s.slots.items c.self.invariant.0 c.in-Ok.region c.make_in_slot.new.slots.items c.in-Ok.ensures.taken, c.make_in_slot.ensures.told)

pub returns-in-Ok-clause-granted : goal.returns-in-Ok-clause-granted
returns-in-Ok-clause-granted c =
    let s = c.self.inside in let new = c.make_in_slot.new.slots.items in
    subst (λ o. Granted c.in-Ok.region arena_window o (slots_out (first_slot s.skew) new)) (ap (λ v. v.out) c.self.view_is)
    (granted s.skew s.held s.max s.slots.items c.self.invariant.0 c.in-Ok.region new c.in-Ok.ensures.taken)

pub returns-in-Ok-clause-place : goal.returns-in-Ok-clause-place
returns-in-Ok-clause-place c =
    let s = c.self.inside in let new = c.make_in_slot.new.slots.items in
    subst (λ (v : ArenasView). IsLeastFreeSlot v.shape.skew v.out c.in-Ok.region.base) c.self.view_is
    (least s.skew s.held s.max s.slots.items c.self.invariant.0 c.in-Ok.region new c.in-Ok.ensures.taken)
