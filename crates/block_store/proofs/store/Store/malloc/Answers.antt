use Rattle.std.proofs.Common.{◌≡◌, List, None, Option, get_or, sym, subst, ◌∙◌}
use Rattle.block_model.specs.Block.{new_byte}
use Rattle.debug_guard.specs.Guard.{Guard}
use Rattle.event_model.specs.Deeds.{malloc_call}
use Rattle.block_store.specs.Slots.{IsStore}
use Rattle.block_store.specs.Store.{IsTurn, StoreView, sized_by, view_of}
use Rattle.block_store.proofs.TurnLemmas.{slot_is, slots_length, none_where, made_turn, made_store}
use Rattle.block_store.proofs.store.Store.malloc.Goals as goal

pub invariant_of-self-2 : goal.invariant_of-self-2
invariant_of-self-2 g c =
    let a = c.self.inside in
    let slots = a.slots.items in
    let lt = slots_length slots a.domains c.args.self.now c.args.name.0 c.self.view_is c.requires.there in
    let here : get_or slots c.args.name.0 None ≡ c.index.result.now = slot_is slots c.args.name.0 c.index.result.now lt c.index.ensures in
    let free : get_or slots c.args.name.0 None ≡ None = here ∙ none_where c.index.result.now (sym c.is_some.ensures ∙ c.if-is_some.false) in
    subst (λ (l : List (Option Guard)). IsStore l c.malloc.new.self) (sym c.keep-reply.ensures.slots)
    (made_store a.domains c.malloc.new.self (g.A.ArenaSource.seen c.malloc.new.arenas) (g.R.RawSource.seen c.malloc.new.raws) c.in_ok-got.ensures.sound c.in_ok-got.ensures.held
    slots c.args.name.0 c.args.call.letter c.args.size new_byte c.args.call.locked c.in_ok-got.field-0.got c.in_ok-got.field-0.asked c.self.invariant lt free c.in_ok-got.ensures.made)

pub returns-clause-turn : goal.returns-clause-turn
returns-clause-turn g c =
    let a = c.self.inside in
    let slots = a.slots.items in
    let asked = c.in_ok-got.field-0.asked in
    let lt = slots_length slots a.domains c.args.self.now c.args.name.0 c.self.view_is c.requires.there in
    let here : get_or slots c.args.name.0 None ≡ c.index.result.now = slot_is slots c.args.name.0 c.index.result.now lt c.index.ensures in
    let free : get_or slots c.args.name.0 None ≡ None = here ∙ none_where c.index.result.now (sym c.is_some.ensures ∙ c.if-is_some.false) in
    subst (λ (s : StoreView). IsTurn c.args.name.0 (sized_by (malloc_call c.args.call.letter c.args.size) c.args.call.locked asked) s (view_of c.keep-reply.new.slots.items c.malloc.new.self) c.keep-reply.result) c.self.view_is
    (subst (λ (l : List (Option Guard)). IsTurn c.args.name.0 (sized_by (malloc_call c.args.call.letter c.args.size) c.args.call.locked asked) (view_of slots a.domains) (view_of l c.malloc.new.self) c.keep-reply.result) (sym c.keep-reply.ensures.slots)
    (made_turn a.domains c.malloc.new.self (g.A.ArenaSource.seen c.malloc.new.arenas) (g.R.RawSource.seen c.malloc.new.raws) c.in_ok-got.ensures.sound c.in_ok-got.ensures.held
    slots c.args.name.0 (malloc_call c.args.call.letter c.args.size) c.args.call.locked c.in_ok-got.field-0.got asked c.keep-reply.result c.self.invariant free c.keep-reply.ensures.answer c.in_ok-got.ensures.made))
