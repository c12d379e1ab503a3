use Rattle.std.proofs.Common.{◌≡◌, Option, Some, set, sym, ap, subst, ◌∙◌}
use Rattle.block_model.specs.Block.{new_byte}
use Rattle.debug_guard.specs.Guard.{Guard}
use Rattle.layout_model.specs.Asks.{FitsRequest}
use Rattle.event_model.specs.Deeds.{realloc_call}
use Rattle.event_model.specs.Memory.{sized_request}
use Rattle.block_store.specs.Replies.{block_left, slots_with}
use Rattle.block_store.specs.Slots.{IsStore}
use Rattle.block_store.specs.Store.{IsTurn, StoreView, block_at, sized_by, view_of}
use Rattle.block_store.proofs.ChangeLemmas.{changed_fits, changed_store, changed_turn}
use Rattle.block_store.proofs.LoanLemmas.{slot_loan}
use Rattle.block_store.proofs.TurnLemmas.{emptied, made_store, made_turn, put_again, slot_is, slots_length}
use Rattle.block_store.proofs.Types.{Slots}
use Rattle.block_store.proofs.store.Store.realloc.Goals as goal

-- ---- a name that holds nothing

pub invariant_of-self-in-None : goal.invariant_of-self-in-None
invariant_of-self-in-None g c =
    let a = c.self.inside in
    let slots = a.slots.items in
    let i = c.args.name.0 in
    let got = c.in_ok-got-in-None.field-0.got in
    let lt = slots_length slots a.domains c.args.self.now i c.self.view_is c.requires.there in
    let free = slot_is slots i c.index_mut.result.now lt c.index_mut.ensures.value ∙ sym c.take.ensures.value ∙ c.in-None.is in
    let same : set slots i c.take.new.self ≡ slots = ap (set slots i) c.take.ensures.after ∙ emptied slots i free in
    subst (λ (l : Slots). IsStore l c.malloc.new.self) (sym (c.keep-reply.ensures.slots ∙ ap (λ (l : Slots). slots_with l i got) same))
    (made_store a.domains c.malloc.new.self (g.A.ArenaSource.seen c.malloc.new.arenas) (g.R.RawSource.seen c.malloc.new.raws) c.in_ok-got-in-None.ensures.sound c.in_ok-got-in-None.ensures.held
    slots i c.args.call.letter c.args.size new_byte c.args.call.locked got c.in_ok-got-in-None.field-0.asked c.self.invariant lt free c.in_ok-got-in-None.ensures.made)

pub returns-in_ok-got-in-None-clause-turn : goal.returns-in_ok-got-in-None-clause-turn
returns-in_ok-got-in-None-clause-turn g c =
    let a = c.self.inside in
    let slots = a.slots.items in
    let i = c.args.name.0 in
    let got = c.in_ok-got-in-None.field-0.got in
    let asked = c.in_ok-got-in-None.field-0.asked in
    let call = realloc_call c.args.call.letter c.args.size in
    let lt = slots_length slots a.domains c.args.self.now i c.self.view_is c.requires.there in
    let free = slot_is slots i c.index_mut.result.now lt c.index_mut.ensures.value ∙ sym c.take.ensures.value ∙ c.in-None.is in
    let same : set slots i c.take.new.self ≡ slots = ap (set slots i) c.take.ensures.after ∙ emptied slots i free in
    subst (λ (s : StoreView). IsTurn i (sized_by call c.args.call.locked asked) s (view_of c.keep-reply.new.slots.items c.malloc.new.self) c.keep-reply.result) c.self.view_is
    (subst (λ (l : Slots). IsTurn i (sized_by call c.args.call.locked asked) (view_of slots a.domains) (view_of l c.malloc.new.self) c.keep-reply.result)
    (sym (c.keep-reply.ensures.slots ∙ ap (λ (l : Slots). slots_with l i got) same))
    (made_turn a.domains c.malloc.new.self (g.A.ArenaSource.seen c.malloc.new.arenas) (g.R.RawSource.seen c.malloc.new.raws) c.in_ok-got-in-None.ensures.sound c.in_ok-got-in-None.ensures.held
    slots i call c.args.call.locked got asked c.keep-reply.result c.self.invariant free c.keep-reply.ensures.answer c.in_ok-got-in-None.ensures.made))

-- ---- a name that holds a block

pub realloc-came-requires-clause-loan : goal.realloc-came-requires-clause-loan
realloc-came-requires-clause-loan g c =
    let a = c.self.inside in
    let slots = a.slots.items in
    let i = c.args.name.0 in
    let lt = slots_length slots a.domains c.args.self.now i c.self.view_is c.requires.there in
    let here = slot_is slots i c.index_mut.result.now lt c.index_mut.ensures.value ∙ sym c.take.ensures.value ∙ c.in-Some.is in
    slot_loan slots a.domains i c.in-Some.block c.self.invariant here

pub invariant_of-self-in-Ok : goal.invariant_of-self-in-Ok
invariant_of-self-in-Ok g c =
    let a = c.self.inside in
    let slots = a.slots.items in
    let i = c.args.name.0 in
    let got = c.in-Ok.field-0.got in
    let lt = slots_length slots a.domains c.args.self.now i c.self.view_is c.requires.there in
    let here = slot_is slots i c.index_mut.result.now lt c.index_mut.ensures.value ∙ sym c.take.ensures.value ∙ c.in-Some.is in
    let left = c.keep_moved-reply.ensures.slots ∙ ap (λ (o : Option Guard). set (set slots i o) i (Some (block_left got))) c.take.ensures.after in
    subst (λ (l : Slots). IsStore l c.realloc-came.new.self) (sym left)
    (changed_store slots a.domains c.realloc-came.new.self (g.A.ArenaSource.seen c.realloc-came.new.arenas) (g.R.RawSource.seen c.realloc-came.new.raws) c.realloc-came.ensures.sound c.realloc-came.ensures.held
    i c.in-Some.block c.args.call.letter c.args.size c.args.call.locked c.in-Ok.field-0.asked c.self.invariant lt here got c.in-Ok.ensures.moved)

pub returns-in-Ok-clause-turn : goal.returns-in-Ok-clause-turn
returns-in-Ok-clause-turn g c =
    let a = c.self.inside in
    let slots = a.slots.items in
    let i = c.args.name.0 in
    let got = c.in-Ok.field-0.got in
    let asked = c.in-Ok.field-0.asked in
    let call = realloc_call c.args.call.letter c.args.size in
    let lt = slots_length slots a.domains c.args.self.now i c.self.view_is c.requires.there in
    let here = slot_is slots i c.index_mut.result.now lt c.index_mut.ensures.value ∙ sym c.take.ensures.value ∙ c.in-Some.is in
    let left = c.keep_moved-reply.ensures.slots ∙ ap (λ (o : Option Guard). set (set slots i o) i (Some (block_left got))) c.take.ensures.after in
    subst (λ (s : StoreView). IsTurn i (sized_by call c.args.call.locked asked) s (view_of c.keep_moved-reply.new.slots.items c.realloc-came.new.self) c.keep_moved-reply.result) c.self.view_is
    (subst (λ (l : Slots). IsTurn i (sized_by call c.args.call.locked asked) (view_of slots a.domains) (view_of l c.realloc-came.new.self) c.keep_moved-reply.result) (sym left)
    (changed_turn slots a.domains c.realloc-came.new.self (g.A.ArenaSource.seen c.realloc-came.new.arenas) (g.R.RawSource.seen c.realloc-came.new.raws) c.realloc-came.ensures.sound c.realloc-came.ensures.held
    i c.in-Some.block c.args.call.letter c.args.size c.args.call.locked asked c.self.invariant lt here got c.keep_moved-reply.result c.keep_moved-reply.ensures.answer c.in-Ok.ensures.moved))

pub returns-in-Ok-clause-fits : goal.returns-in-Ok-clause-fits
returns-in-Ok-clause-fits g c =
    let a = c.self.inside in
    let slots = a.slots.items in
    let i = c.args.name.0 in
    let asked = c.in-Ok.field-0.asked in
    let call = realloc_call c.args.call.letter c.args.size in
    let lt = slots_length slots a.domains c.args.self.now i c.self.view_is c.requires.there in
    let here = slot_is slots i c.index_mut.result.now lt c.index_mut.ensures.value ∙ sym c.take.ensures.value ∙ c.in-Some.is in
    subst (λ (s : StoreView). FitsRequest s.layout (sized_request call c.args.call.locked (block_at s i)) asked.arena asked.raw) c.self.view_is
    (changed_fits slots a.domains c.realloc-came.new.self (g.A.ArenaSource.seen c.realloc-came.new.arenas) (g.R.RawSource.seen c.realloc-came.new.raws) c.realloc-came.ensures.sound c.realloc-came.ensures.held
    i c.in-Some.block c.args.call.letter c.args.size c.args.call.locked asked c.self.invariant lt here c.in-Ok.field-0.got c.in-Ok.ensures.moved)

-- ---- want of memory

pub invariant_of-self-in-Err : goal.invariant_of-self-in-Err
invariant_of-self-in-Err g c =
    let a = c.self.inside in
    let slots = a.slots.items in
    let i = c.args.name.0 in
    let lt = slots_length slots a.domains c.args.self.now i c.self.view_is c.requires.there in
    let here = slot_is slots i c.index_mut.result.now lt c.index_mut.ensures.value ∙ sym c.take.ensures.value ∙ c.in-Some.is in
    let put : c.put_new.new.slots.items ≡ slots =
    c.put_new.ensures ∙ (λ j. set (set slots i (c.take.ensures.after j)) i (Some (c.in-Err.ensures.kept j))) ∙ put_again slots i (Some c.in-Some.block) here in
    subst (λ (l : Slots). IsStore l c.realloc-came.new.self) (sym put) (subst (IsStore slots) (sym c.in-Err.ensures.failed) c.self.invariant)

pub returns-in-Err-clause-err : goal.returns-in-Err-clause-err
returns-in-Err-clause-err g c =
    let a = c.self.inside in
    let slots = a.slots.items in
    let i = c.args.name.0 in
    let lt = slots_length slots a.domains c.args.self.now i c.self.view_is c.requires.there in
    let here = slot_is slots i c.index_mut.result.now lt c.index_mut.ensures.value ∙ sym c.take.ensures.value ∙ c.in-Some.is in
    let put : c.put_new.new.slots.items ≡ slots =
    c.put_new.ensures ∙ (λ j. set (set slots i (c.take.ensures.after j)) i (Some (c.in-Err.ensures.kept j))) ∙ put_again slots i (Some c.in-Some.block) here in
    (λ j. view_of (put j) (c.in-Err.ensures.failed j)) ∙ c.self.view_is
