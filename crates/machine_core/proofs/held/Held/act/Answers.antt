use Rattle.std.proofs.Common.{◌≡◌, ◌∙◌, ℕ, length, Option, true, false, sym, ap, subst}
use Rattle.std.specs.Prelude.{IfNone, is_some}
use Rattle.mem_base.specs.declared.reply.Reply.{Reply}
use Rattle.mem_base.specs.declared.trace.Side.TheVariants as sides
use Rattle.request_model.specs.Counts.{arena_asks, arena_refusals, raw_asks, raw_refusals}
use Rattle.event_model.specs.Replies.{IsKnownReply}
use Rattle.block_store.specs.Store.{StoreView}
use Rattle.block_store.specs.declared.answer.Answer.{Answer}
use Rattle.machine_core.specs.Acts.{Asks}
use Rattle.machine_core.specs.Deeds.{is_quiet}
use Rattle.machine_core.specs.Held.{IsAsItWas}
use Rattle.machine_core.specs.declared.held.Held.{Held as Holding}
use Rattle.machine_core.proofs.ActLemmas.{quiet_asks}
use Rattle.machine_core.proofs.FollowLemmas.{asked_acts}
use Rattle.machine_core.proofs.held.Held.act.Goals as goal

pub returns-in-Some-clause-asks_arena : goal.returns-in-Some-clause-asks_arena
returns-in-Some-clause-asks_arena g c =
    let old = c.args.self.now.store.arenas in
    let new = c.quiet.new.self.store.arenas in
    let seen = g.A.ArenaSource.seen c.args.arenas.now in
    let quiet : is_quiet c.args.op.now ≡ true =
    sym c.in_ok-reply.ensures.done ∙ ap (λ (o : Option Reply). is_some o) c.in-Some.is in
    subst (λ (a : Answer). Asks c.args.op.now sides.Arena (arena_asks a.asked.arena) (arena_refusals a.asked.arena)
    old new seen seen) (sym c.unasked.ensures)
    (quiet_asks c.args.op.now sides.Arena old new seen quiet c.requires.held.arenas_out c.quiet.ensures.same.arenas)

pub returns-in-Some-clause-asks_raw : goal.returns-in-Some-clause-asks_raw
returns-in-Some-clause-asks_raw g c =
    let old = c.args.self.now.store.raws in
    let new = c.quiet.new.self.store.raws in
    let seen = g.R.RawSource.seen c.args.raws.now in
    let quiet : is_quiet c.args.op.now ≡ true =
    sym c.in_ok-reply.ensures.done ∙ ap (λ (o : Option Reply). is_some o) c.in-Some.is in
    subst (λ (a : Answer). Asks c.args.op.now sides.Raw (raw_asks a.asked.raw) (raw_refusals a.asked.raw) old new
    seen seen) (sym c.unasked.ensures)
    (quiet_asks c.args.op.now sides.Raw old new seen quiet c.requires.held.raws_out c.quiet.ensures.same.raws)

pub returns-in_ok-answer-in-None-clause-acts : goal.returns-in_ok-answer-in-None-clause-acts
returns-in_ok-answer-in-None-clause-acts g c =
    let old = c.args.self.now in
    let same : c.quiet.new.self ≡ old =
    subst (λ (o : Option Reply). IfNone o (c.quiet.new.self ≡ old)) c.in-None.is c.in_ok-reply.ensures.others in
    let loud : is_quiet c.args.op.now ≡ false =
    sym c.in_ok-reply.ensures.done ∙ ap (λ (o : Option Reply). is_some o) c.in-None.is in
    let a = c.in_ok-answer-in-None.answer in
    asked_acts c.args.t c.args.op.now old c.prepare.new.self c.asking.new.self c.trace.new.self a.asked a.reply
    c.in_ok-prepared-in-None.prepared loud
    (subst (λ (h : Holding). IsAsItWas h c.prepare.new.self) same c.prepare.ensures.as_it_was)
    c.in_ok-prepared-in-None.ensures.prepared
    c.in_ok-answer-in-None.ensures.affects c.asking.ensures.others c.trace.ensures.makes c.trace.ensures.others
    c.args.texts.now

pub returns-in_ok-answer-in-None-clause-known : goal.returns-in_ok-answer-in-None-clause-known
returns-in_ok-answer-in-None-clause-known g c =
    let old = c.args.self.now in
    let same : c.quiet.new.self ≡ old =
    subst (λ (o : Option Reply). IfNone o (c.quiet.new.self ≡ old)) c.in-None.is c.in_ok-reply.ensures.others in
    let blocks = ap (λ (s : StoreView). length s.blocks)
    (c.prepare.ensures.as_it_was.store ∙ ap (λ (h : Holding). h.store) same) in
    subst (λ (n : ℕ). IsKnownReply n c.in_ok-answer-in-None.answer.reply) blocks c.in_ok-answer-in-None.ensures.known
