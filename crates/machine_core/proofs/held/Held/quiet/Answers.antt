use Rattle.std.proofs.Common.{ℤ, List, length, refl, subst, sym}
use Rattle.mem_base.specs.declared.trace.Op.{Op}
use Rattle.mem_base.specs.declared.trace.Op.TheVariants as ops
use Rattle.mem_base.specs.declared.trace.Rule.{Rule}
use Rattle.trace_model.specs.Plain.{IsKnownAmong}
use Rattle.event_model.specs.Memory.{peek_turn, poke_turn}
use Rattle.domain_api.specs.Domains.{not_asked}
use Rattle.block_store.specs.Store.{IsTurn}
use Rattle.machine_core.specs.Acts.{Acts, ActsAmong}
use Rattle.machine_core.proofs.FollowLemmas.{textless}
use Rattle.machine_core.proofs.HeldLemmas.{acquire_acts, heap_acts, offset_back, peek_acts, poke_acts, release_acts}
use Rattle.machine_core.proofs.TracingLemmas.{enter_acts, leave_acts, line_acts, reset_acts, start_acts, traced_acts}
use Rattle.machine_core.proofs.held.Held.quiet.Goals as goal

-- ---- the lock

pub returns-in-Acquire-clause-acts : goal.returns-in-Acquire-clause-acts
returns-in-Acquire-clause-acts c =
    acquire_acts c.args.t c.args.op.now c.args.self.now c.acquire.new.self c.acquire.result c.in-Acquire.is
    c.acquire.ensures.held c.acquire.ensures.answer
    c.args.texts.now

pub returns-in-Acquire-clause-known : goal.returns-in-Acquire-clause-known
returns-in-Acquire-clause-known c = textless (length c.args.self.now.store.blocks) c.acquire.result _ c.acquire.ensures.answer

pub returns-in-Release-clause-acts : goal.returns-in-Release-clause-acts
returns-in-Release-clause-acts c =
    release_acts c.args.t c.args.op.now c.args.self.now c.release.new.self c.release.result c.in-Release.is
    c.release.ensures.held c.release.ensures.answer
    c.args.texts.now

pub returns-in-Release-clause-known : goal.returns-in-Release-clause-known
returns-in-Release-clause-known c = textless (length c.args.self.now.store.blocks) c.release.result _ c.release.ensures.answer

-- ---- the store

pub returns-in-Poke-clause-acts : goal.returns-in-Poke-clause-acts
returns-in-Poke-clause-acts c =
    let old = c.args.self.now in
    let known = subst (IsKnownAmong (length old.store.blocks)) c.in-Poke.is c.requires.known in
    poke_acts c.args.t c.args.op.now old (record old { store = c.poke-reply.new.self }) c.poke-reply.result refl
    c.in-Poke.name c.in-Poke.offset c.in-Poke.bytes
    c.in-Poke.is known.0 (rw (← c.as_slice.ensures)
    (subst (λ (z : ℤ). IsTurn c.in-Poke.name.0 (poke_turn z c.as_slice.result.now) old.store c.poke-reply.new.self
    c.poke-reply.result) (offset_back c.in-Poke.offset known.1) c.poke-reply.ensures.turn))
    c.args.texts.now

pub returns-in-Poke-clause-known : goal.returns-in-Poke-clause-known
returns-in-Poke-clause-known c =
    textless (length c.args.self.now.store.blocks) c.poke-reply.result _ c.poke-reply.ensures.turn.answer

pub returns-in_ok-reply-in-Peek-clause-acts : goal.returns-in_ok-reply-in-Peek-clause-acts
returns-in_ok-reply-in-Peek-clause-acts c =
    let old = c.args.self.now in
    let known = subst (IsKnownAmong (length old.store.blocks)) c.in-Peek.is c.requires.known in
    peek_acts c.args.t c.args.op.now old old c.in_ok-reply-in-Peek.reply refl c.in-Peek.name c.in-Peek.offset
    c.in-Peek.count c.in-Peek.is known.0
    (subst (λ (z : ℤ). IsTurn c.in-Peek.name.0 (peek_turn z c.in-Peek.count) old.store old.store
    c.in_ok-reply-in-Peek.reply) (offset_back c.in-Peek.offset known.1) c.in_ok-reply-in-Peek.ensures)
    c.args.texts.now

pub returns-in_ok-reply-in-Peek-clause-known : goal.returns-in_ok-reply-in-Peek-clause-known
returns-in_ok-reply-in-Peek-clause-known c =
    textless (length c.args.self.now.store.blocks) c.in_ok-reply-in-Peek.reply _
    c.in_ok-reply-in-Peek.ensures.answer

pub returns-in_ok-view-in-Heap-clause-acts : goal.returns-in_ok-view-in-Heap-clause-acts
returns-in_ok-view-in-Heap-clause-acts c =
    heap_acts c.args.t c.args.op.now c.args.self.now c.in_ok-view-in-Heap.view c.in-Heap.is
    c.in_ok-view-in-Heap.ensures
    c.args.texts.now

-- ---- frames

pub returns-in_ok-enter-in-Enter-clause-acts : goal.returns-in_ok-enter-in-Enter-clause-acts
returns-in_ok-enter-in-Enter-clause-acts c =
    let old = c.args.self.now in
    enter_acts c.args.t c.args.op.now old (record old { callers = c.enter.new.self }) c.in-Enter.file
    c.in-Enter.line c.in-Enter.is
    (λ i. record old { callers = c.in_ok-enter-in-Enter.ensures.entered i })
    c.args.texts.now

pub returns-in-Line-clause-acts : goal.returns-in-Line-clause-acts
returns-in-Line-clause-acts c =
    let old = c.args.self.now in
    line_acts c.args.t c.args.op.now old (record old { callers = c.line.new.self }) c.in-Line.line c.in-Line.is
    (λ i. record old { callers = c.line.ensures i })
    c.args.texts.now

pub returns-in-Leave-clause-acts : goal.returns-in-Leave-clause-acts
returns-in-Leave-clause-acts c =
    let old = c.args.self.now in
    leave_acts c.args.t c.args.op.now old (record old { callers = c.leave.new.self }) c.in-Leave.is
    (λ i. record old { callers = c.leave.ensures i })
    c.args.texts.now

-- ---- tracing

pub returns-in-Start-clause-acts : goal.returns-in-Start-clause-acts
returns-in-Start-clause-acts c =
    let old = c.args.self.now in
    start_acts c.args.t c.args.op.now old (record old { tracing = c.start.new.self }) refl c.in-Start.limit
    c.in-Start.is c.start.ensures.begins c.start.ensures.nothing c.start.ensures.goes_on
    c.args.texts.now

pub returns-in-Traced-clause-acts : goal.returns-in-Traced-clause-acts
returns-in-Traced-clause-acts c =
    traced_acts c.args.t c.args.op.now c.args.self.now c.traced-current.result.0 c.traced-current.result.1
    c.in-Traced.is c.traced-current.ensures
    c.args.texts.now

pub returns-in_ok-reply-in-Mark-clause-acts : goal.returns-in_ok-reply-in-Mark-clause-acts
returns-in_ok-reply-in-Mark-clause-acts c =
    subst (λ (o : Op). Acts c.args.t o c.args.self.now c.mark.new.self not_asked c.in_ok-reply-in-Mark.reply)
    (sym c.in-Mark.is) c.in_ok-reply-in-Mark.ensures.acts c.args.texts.now

pub returns-in-Unmark-clause-acts : goal.returns-in-Unmark-clause-acts
returns-in-Unmark-clause-acts c =
    subst (λ (o : Op). Acts c.args.t o c.args.self.now c.unmark.new.self not_asked c.unmark.result)
    (sym c.in-Unmark.is) (c.unmark.ensures.acts c.args.t) c.args.texts.now

pub returns-in-Unmark-clause-known : goal.returns-in-Unmark-clause-known
returns-in-Unmark-clause-known c = c.unmark.ensures.known (length c.args.self.now.store.blocks)

pub returns-in_ok-reply-in-Origin-clause-acts : goal.returns-in_ok-reply-in-Origin-clause-acts
returns-in_ok-reply-in-Origin-clause-acts c =
    subst (λ (o : Op). Acts c.args.t o c.args.self.now c.args.self.now not_asked c.in_ok-reply-in-Origin.reply)
    (sym c.in-Origin.is) (c.in_ok-reply-in-Origin.ensures.acts c.args.t) c.args.texts.now

pub returns-in-ResetPeak-clause-acts : goal.returns-in-ResetPeak-clause-acts
returns-in-ResetPeak-clause-acts c =
    let old = c.args.self.now in
    reset_acts c.args.t c.args.op.now old (record old { tracing = c.reset_peak.new.self }) refl c.in-ResetPeak.is
    c.reset_peak.ensures c.args.texts.now

-- ---- snapshots

pub returns-in_ok-reply-in-Snapshot-clause-acts : goal.returns-in_ok-reply-in-Snapshot-clause-acts
returns-in_ok-reply-in-Snapshot-clause-acts c =
    subst (λ (o : Op). ActsAmong c.args.texts.now c.args.t o c.args.self.now c.snapshot.new.self not_asked
    c.in_ok-reply-in-Snapshot.reply) (sym c.in-Snapshot.is) (c.in_ok-reply-in-Snapshot.ensures.acts c.args.t)

pub returns-in_ok-reply-in-Keep-clause-acts : goal.returns-in_ok-reply-in-Keep-clause-acts
returns-in_ok-reply-in-Keep-clause-acts c =
    subst (λ (o : Op). ActsAmong c.args.texts.now c.args.t o c.args.self.now c.keep.new.self not_asked
    c.in_ok-reply-in-Keep.reply) (sym c.in-Keep.is)
    (subst (λ (rules : List Rule). ActsAmong c.args.texts.now c.args.t (ops.Keep c.in-Keep.new c.in-Keep.old rules)
    c.args.self.now c.keep.new.self not_asked c.in_ok-reply-in-Keep.reply) c.as_slice-in-Keep.ensures
    (c.in_ok-reply-in-Keep.ensures.acts c.args.t))

pub returns-in_ok-reply-in-Stats-clause-acts : goal.returns-in_ok-reply-in-Stats-clause-acts
returns-in_ok-reply-in-Stats-clause-acts c =
    subst (λ (o : Op). ActsAmong c.args.texts.now c.args.t o c.args.self.now c.args.self.now not_asked
    c.in_ok-reply-in-Stats.reply) (sym c.in-Stats.is) (c.in_ok-reply-in-Stats.ensures.acts c.args.t)

pub returns-in_ok-reply-in-Compare-clause-acts : goal.returns-in_ok-reply-in-Compare-clause-acts
returns-in_ok-reply-in-Compare-clause-acts c =
    subst (λ (o : Op). ActsAmong c.args.texts.now c.args.t o c.args.self.now c.args.self.now not_asked
    c.in_ok-reply-in-Compare.reply) (sym c.in-Compare.is) (c.in_ok-reply-in-Compare.ensures.acts c.args.t)

pub returns-in_ok-reply-in-Dump-clause-acts : goal.returns-in_ok-reply-in-Dump-clause-acts
returns-in_ok-reply-in-Dump-clause-acts c =
    subst (λ (o : Op). ActsAmong c.args.texts.now c.args.t o c.args.self.now c.args.self.now not_asked
    c.in_ok-reply-in-Dump.reply) (sym c.in-Dump.is) (c.in_ok-reply-in-Dump.ensures.acts c.args.t)
