use Rattle.std.proofs.Common.{ℤ, w64, Option, sym, ap, subst, ◌∙◌}
use Rattle.std.specs.Prelude.{IfOk}
use Rattle.std.proofs.lemmas.Result.{IfOk-weaker}
use Rattle.std.proofs.lemmas.Int.{to_z-of_z}
use Rattle.std.specs.Option.{option_copied}
use Rattle.debug_guard.specs.Guard.{Guard}
use Rattle.event_model.specs.Memory.{peek_turn}
use Rattle.block_store.specs.Slots.{block_in}
use Rattle.block_store.specs.Store.{IsTurn, StoreView}
use Rattle.block_store.proofs.TurnLemmas.{slot_is, slots_length, peek_stays, turn_stays}
use Rattle.block_store.proofs.store.Store.peek.Goals as goal

pub returns : goal.returns
returns c =
    let a = c.self.inside in
    let slots = a.slots.items in
    let d = a.domains in
    let i = c.args.name.0 in
    let f = peek_turn c.args.offset c.args.count in
    let lt = slots_length slots d c.args.self.now i c.self.view_is c.requires.there in
    let here = c.as_ref.ensures.value ∙ sym (slot_is slots i c.index.result.now lt c.index.ensures) in
    let same = to_z-of_z w64 c.args.offset c.ranges.offset in
    let stays = peek_stays c.args.offset c.args.count d.heap.layout (block_in d.heap.places _) in
    subst (λ (s : StoreView). IfOk c.peek_slot.result (λ reply. IsTurn i f s s reply)) c.self.view_is
    (IfOk-weaker c.peek_slot.result _ _
    (λ reply says. turn_stays slots d i f reply stays.0 stays.1
    (λ texts. says texts d.heap.places d.heap.layout
    ∙ ap (λ (z : ℤ). (peek_turn z c.args.count d.heap.layout (block_in d.heap.places (option_copied c.as_ref.result))).answer) same
    ∙ ap (λ (o : Option Guard). (f d.heap.layout (block_in d.heap.places o)).answer) here))
    c.peek_slot.ensures)
