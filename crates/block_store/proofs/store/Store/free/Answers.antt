use Rattle.std.proofs.Common.{◌≡◌, List, None, Option, set, sym, ap, subst, ◌∙◌}
use Rattle.debug_guard.specs.Guard.{Guard}
use Rattle.event_model.specs.Memory.{free_turn}
use Rattle.block_store.specs.Replies.{slots_after}
use Rattle.block_store.specs.Slots.{IsStore}
use Rattle.block_store.specs.Store.{IsTurn, StoreView, view_of}
use Rattle.block_store.proofs.EndLemmas.{rests_same}
use Rattle.block_store.proofs.LoanLemmas.{slot_loan}
use Rattle.block_store.proofs.TurnLemmas.{slot_is, slots_length, emptied, nothing_turn, freed_turn, freed_store}
use Rattle.block_store.proofs.store.Store.free.Goals as goal

pub free-freed-requires-clause-loan : goal.free-freed-requires-clause-loan
free-freed-requires-clause-loan g c =
    let a = c.self.inside in
    let slots = a.slots.items in
    let lt = slots_length slots a.domains c.args.self.now c.args.name.0 c.self.view_is c.requires.there in
    let here = slot_is slots c.args.name.0 c.index_mut.result.now lt c.index_mut.ensures.value ∙ sym c.take.ensures.value ∙ c.in-Some.is in
    slot_loan slots a.domains c.args.name.0 c.in-Some.block c.self.invariant here

pub invariant_of-self : goal.invariant_of-self
invariant_of-self g c =
    let a = c.self.inside in
    let slots = a.slots.items in
    let i = c.args.name.0 in
    let lt = slots_length slots a.domains c.args.self.now i c.self.view_is c.requires.there in
    let here = slot_is slots i c.index_mut.result.now lt c.index_mut.ensures.value ∙ sym c.take.ensures.value ∙ c.in-Some.is in
    let left : c.put_back.new.slots.items ≡ slots_after (set slots i None) i c.free-freed.result =
    c.put_back.ensures.slots ∙ ap (λ (o : Option Guard). slots_after (set slots i o) i c.free-freed.result) c.take.ensures.after in
    subst (λ (l : List (Option Guard)). IsStore l c.free-freed.new.self) (sym left)
    (freed_store a.domains c.free-freed.new.self (g.A.ArenaSource.seen c.free-freed.new.arenas) (g.R.RawSource.seen c.free-freed.new.raws) c.free-freed.ensures.sound c.free-freed.ensures.held
    slots i c.in-Some.block c.args.call.letter c.args.call.locked c.free-freed.result c.self.invariant lt here c.free-freed.ensures.freed)

pub returns-in-Some-clause-turn : goal.returns-in-Some-clause-turn
returns-in-Some-clause-turn g c =
    let a = c.self.inside in
    let slots = a.slots.items in
    let i = c.args.name.0 in
    let f = free_turn c.args.call.letter c.args.call.locked in
    let lt = slots_length slots a.domains c.args.self.now i c.self.view_is c.requires.there in
    let here = slot_is slots i c.index_mut.result.now lt c.index_mut.ensures.value ∙ sym c.take.ensures.value ∙ c.in-Some.is in
    let left : c.put_back.new.slots.items ≡ slots_after (set slots i None) i c.free-freed.result =
    c.put_back.ensures.slots ∙ ap (λ (o : Option Guard). slots_after (set slots i o) i c.free-freed.result) c.take.ensures.after in
    subst (λ (s : StoreView). IsTurn i f s (view_of c.put_back.new.slots.items c.free-freed.new.self) c.put_back.result) c.self.view_is
    (subst (λ (l : List (Option Guard)). IsTurn i f (view_of slots a.domains) (view_of l c.free-freed.new.self) c.put_back.result) (sym left)
    (freed_turn a.domains c.free-freed.new.self (g.A.ArenaSource.seen c.free-freed.new.arenas) (g.R.RawSource.seen c.free-freed.new.raws) c.free-freed.ensures.sound c.free-freed.ensures.held
    slots i c.in-Some.block c.args.call.letter c.args.call.locked c.free-freed.result c.put_back.result c.self.invariant lt here c.put_back.ensures.answer c.free-freed.ensures.freed))

pub returns-in-None-clause-turn : goal.returns-in-None-clause-turn
returns-in-None-clause-turn g c =
    let a = c.self.inside in
    let slots = a.slots.items in
    let i = c.args.name.0 in
    let f = free_turn c.args.call.letter c.args.call.locked in
    let lt = slots_length slots a.domains c.args.self.now i c.self.view_is c.requires.there in
    let free = slot_is slots i c.index_mut.result.now lt c.index_mut.ensures.value ∙ sym c.take.ensures.value ∙ c.in-None.is in
    let same : set slots i c.take.new.self ≡ slots = ap (set slots i) c.take.ensures.after ∙ emptied slots i free in
    subst (λ (s : StoreView). IsTurn i f s (view_of (set slots i c.take.new.self) a.domains) c.answer_to_nothing.result) c.self.view_is
    (subst (λ (l : List (Option Guard)). IsTurn i f (view_of slots a.domains) (view_of l a.domains) c.answer_to_nothing.result) (sym same)
    (nothing_turn slots a.domains i c.args.call.letter c.args.call.locked c.need.result c.answer_to_nothing.result free (sym c.need.ensures) (λ texts. c.answer_to_nothing.ensures texts a.domains.heap.layout)))

pub returns-in-None-clause-arenas : goal.returns-in-None-clause-arenas
returns-in-None-clause-arenas g c = rests_same _ _ _ (ap (λ (s : StoreView). s.arenas) c.self.view_is) c.requires.held.arenas_out

pub returns-in-None-clause-raws : goal.returns-in-None-clause-raws
returns-in-None-clause-raws g c = rests_same _ _ _ (ap (λ (s : StoreView). s.raws) c.self.view_is) c.requires.held.raws_out
