use Rattle.std.proofs.Common.{ℕ, ◌<◌, List, ◌++◌, Option, sym, ap, subst, ◌∙◌}
use Rattle.std.specs.Prelude.{option_to_list}
use Rattle.debug_guard.specs.Guard.{Guard}
use Rattle.block_store.specs.Slots.{IsStore, loans_of}
use Rattle.block_store.specs.Sources.{AreHeld}
use Rattle.block_store.specs.Store.{StoreView}
use Rattle.block_store.proofs.EndLemmas.{all_gone, nothing_then, nothing_yet, traded_on, traded_yet}
use Rattle.block_store.proofs.LoanLemmas.{dropped, last_loan, none_left}
use Rattle.block_store.proofs.StoredLemmas.{last_left}
use Rattle.block_store.proofs.store.Store.end.Goals as goal

pub loop-slot-init : goal.loop-slot-init
loop-slot-init g c =
    let a = c.self.inside in
    let held = subst (λ (s : StoreView). AreHeld s (g.A.ArenaSource.seen c.args.arenas.now) (g.R.RawSource.seen c.args.raws.now)) (sym c.self.view_is) c.requires in
    record {
      stored = c.self.invariant;
      held = held;
      nothing = nothing_yet _ _;
      arenas = traded_yet _ _ _ (ap (λ (s : StoreView). s.arenas) c.self.view_is) held.arenas_out;
      regions = traded_yet _ _ _ (ap (λ (s : StoreView). s.raws) c.self.view_is) held.raws_out;
    }

pub drop_slot-requires-clause-loan : goal.drop_slot-requires-clause-loan
drop_slot-requires-clause-loan g c =
    let parts = c.pop.ensures.items ∙ ap (λ (o : Option (Option Guard)). c.pop.new.self.items ++ option_to_list o) c.in-Some.is in
    last_loan c.pop.new.self.items c.in-Some.slot c.loop-slot.domains (subst (λ (l : List (Option Guard)). IsStore l c.loop-slot.domains) parts c.loop-slot.invariant.stored)

pub drop_slot-requires-clause-sound : goal.drop_slot-requires-clause-sound
drop_slot-requires-clause-sound g c = c.loop-slot.invariant.stored.sound

pub drop_slot-requires-clause-held : goal.drop_slot-requires-clause-held
drop_slot-requires-clause-held g c = c.loop-slot.invariant.held

pub loop-slot-preserved : goal.loop-slot-preserved
loop-slot-preserved g c =
    let parts = c.pop.ensures.items ∙ ap (λ (o : Option (Option Guard)). c.pop.new.self.items ++ option_to_list o) c.in-Some.is in
    let first = c.loop-slot.invariant in
    record {
      stored = dropped c.loop-slot.domains c.drop_slot.new.domains (g.A.ArenaSource.seen c.drop_slot.new.arenas) (g.R.RawSource.seen c.drop_slot.new.raws) c.drop_slot.ensures.sound c.drop_slot.ensures.held
          c.pop.new.self.items c.in-Some.slot (subst (λ (l : List (Option Guard)). IsStore l c.loop-slot.domains) parts first.stored) c.drop_slot.ensures.back c.drop_slot.ensures.none;
      held = c.drop_slot.ensures.held;
      nothing = nothing_then _ _ _ _ _ _ first.nothing c.drop_slot.ensures.nothing;
      arenas = traded_on _ _ _ _ _ _ first.arenas c.drop_slot.ensures.traded.arena;
      regions = traded_on _ _ _ _ _ _ first.regions c.drop_slot.ensures.traded.raw;
    }

pub end-requires-clause-none : goal.end-requires-clause-none
end-requires-clause-none g c =
    none_left c.loop-slot.domains
    (last_left c.loop-slot.slots.items c.pop.result (loans_of c.loop-slot.domains) (λ lt. c.pop.ensures.variant.1 (subst (λ (n : ℕ). 0 < n) (sym c.loop-slot.slots.ok.0) lt)) c.in_default.is c.loop-slot.invariant.stored.stored)

pub end-requires-clause-held : goal.end-requires-clause-held
end-requires-clause-held g c = c.loop-slot.invariant.held

pub returns-clause-arenas : goal.returns-clause-arenas
returns-clause-arenas g c =
    let nothing = nothing_then _ _ _ _ _ _ c.loop-slot.invariant.nothing c.end.ensures.nothing in
    record { nothing = nothing.arena; traded = traded_on _ _ _ _ _ _ c.loop-slot.invariant.arenas c.end.ensures.arenas }

pub returns-clause-raws : goal.returns-clause-raws
returns-clause-raws g c =
    let none = none_left c.loop-slot.domains
    (last_left c.loop-slot.slots.items c.pop.result (loans_of c.loop-slot.domains) (λ lt. c.pop.ensures.variant.1 (subst (λ (n : ℕ). 0 < n) (sym c.loop-slot.slots.ok.0) lt)) c.in_default.is c.loop-slot.invariant.stored.stored) in
    let nothing = nothing_then _ _ _ _ _ _ c.loop-slot.invariant.nothing c.end.ensures.nothing in
    record { nothing = nothing.raw; traded = all_gone _ _ _ _ _ c.loop-slot.invariant.regions none.1 c.end.ensures.raws }
