use Rattle.std.proofs.Common.{ℤ, w64, None, Option, get_or, set, refl, sym, ap, subst, ◌∙◌}
use Rattle.std.specs.Option.{option_map}
use Rattle.std.proofs.lemmas.Int.{to_z-of_z}
use Rattle.debug_guard.specs.Guard.{Guard, guard_extent}
use Rattle.event_model.specs.Memory.{poke_turn}
use Rattle.block_store.specs.Slots.{block_in}
use Rattle.block_store.specs.Store.{IsTurn, StoreView, view_of}
use Rattle.block_store.proofs.LoanLemmas.{kept_store, put_blocks}
use Rattle.block_store.proofs.TurnLemmas.{slot_is, slots_length, poke_stays, turn_sets}
use Rattle.block_store.proofs.store.Store.poke.Goals as goal

pub invariant_of-self : goal.invariant_of-self
invariant_of-self c =
    let a = c.self.inside in
    let slots = a.slots.items in
    let i = c.args.name.0 in
    let lt = slots_length slots a.domains c.args.self.now i c.self.view_is c.requires.there in
    let here = sym (slot_is slots i c.index_mut.result.now lt c.index_mut.ensures.value) in
    kept_store slots a.domains i c.poke_slot.new.slot c.self.invariant lt (c.poke_slot.ensures.stays ∙ ap (option_map guard_extent) here)

pub returns-clause-turn : goal.returns-clause-turn
returns-clause-turn c =
    let a = c.self.inside in
    let slots = a.slots.items in
    let d = a.domains in
    let i = c.args.name.0 in
    let f = poke_turn c.args.offset c.args.bytes.now in
    let lt = slots_length slots d c.args.self.now i c.self.view_is c.requires.there in
    let here = sym (slot_is slots i c.index_mut.result.now lt c.index_mut.ensures.value) in
    let same = to_z-of_z w64 c.args.offset c.ranges.offset in
    subst (λ (s : StoreView). IsTurn i f s (view_of (set slots i c.poke_slot.new.slot) d) c.poke_slot.result) c.self.view_is
    (turn_sets slots d i f c.poke_slot.result d c.poke_slot.new.slot (put_blocks slots i c.poke_slot.new.slot d.heap.places d.heap.places (λ j g is. refl))
    (sym (c.poke_slot.ensures.block d.heap.places d.heap.layout
    ∙ ap (λ (z : ℤ). (poke_turn z c.args.bytes.now d.heap.layout (block_in d.heap.places c.index_mut.result.now)).block) same
    ∙ ap (λ (o : Option Guard). (f d.heap.layout (block_in d.heap.places o)).block) here))
    (poke_stays c.args.offset c.args.bytes.now d.heap.layout (block_in d.heap.places (get_or slots i None)))
    (λ texts. c.poke_slot.ensures.answer texts d.heap.places d.heap.layout
    ∙ ap (λ (z : ℤ). (poke_turn z c.args.bytes.now d.heap.layout (block_in d.heap.places c.index_mut.result.now)).answer) same
    ∙ ap (λ (o : Option Guard). (f d.heap.layout (block_in d.heap.places o)).answer) here))
