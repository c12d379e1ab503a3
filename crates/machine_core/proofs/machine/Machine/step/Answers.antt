use Rattle.std.proofs.Common.{◌≡◌, ◌∙◌, ℕ, List, true, false, refl, sym, ap, arith, subst, true≢false}
use Rattle.mem_base.specs.declared.history.Entry.{Entry}
use Rattle.mem_base.specs.declared.trace.Side.TheVariants as sides
use Rattle.request_model.specs.Counts.{arena_asks, arena_refusals, raw_asks, raw_refusals}
use Rattle.event_model.specs.Events.{is_ready}
use Rattle.event_model.specs.Replies.{IsKnownReply}
use Rattle.machine_core.specs.Stands.{Stands}
use Rattle.machine_core.specs.View.{IsEvent, MachineView, Requests, state_of, tracks_of}
use Rattle.machine_core.proofs.ActLemmas.{nothing_fails, on_err}
use Rattle.machine_core.proofs.StepLemmas.{few_taken, here_is, not_ready, within, within_stacks, stands_still, stands_then, reply_is, is_next}
use Rattle.machine_core.proofs.StepLemmas.{popped, requests_are, redone}
use Rattle.machine_core.proofs.machine.Machine.step.Goals as goal

pub returns-in_err-push-clause-fails_arena : goal.returns-in_err-push-clause-fails_arena
returns-in_err-push-clause-fails_arena g c =
    on_err c.from_residual.result
    (nothing_fails c.args.self.now.arenas (g.A.ArenaSource.seen c.args.arenas.now)
    (g.A.ArenaSource.seen c.args.arenas.now) c.requires.held.arenas_out refl)

pub act-requires-clause-ask : goal.act-requires-clause-ask
act-requires-clause-ask g c =
    let a = c.self.inside in
    let few = few_taken a.trace a.history.entries a.held a.progress a.faulted c.self.invariant in
    record { arena = c.requires.arena; raw = c.requires.raw; few_arenas = few.0; few_pools = few.1 }

pub settle-self-inside-requires-clause-track : goal.settle-self-inside-requires-clause-track
settle-self-inside-requires-clause-track g c =
    let a = c.self.inside in
    within a.trace a.history.entries a.held a.progress a.faulted c.args.t c.index-at.result.now c.in-Some.op.now
    c.self.invariant c.index-at.ensures (sym c.in-Some.ensures)

pub settle-self-inside-requires-clause-fits : goal.settle-self-inside-requires-clause-fits
settle-self-inside-requires-clause-fits g c =
    let a = c.self.inside in
    let known = c.self.invariant.known.ops c.args.t c.index-at.result.now c.in-Some.op.now (sym c.in-Some.ensures) in
    let here = here_is a.trace a.history.entries a.held a.progress a.faulted c.args.t c.index-at.result.now
    c.in-Some.op.now c.self.invariant c.index-at.ensures (sym c.in-Some.ensures) in
    omega (arith, known.1, here)

pub invariant_of-self-in-Ok : goal.invariant_of-self-in-Ok
invariant_of-self-in-Ok g c =
    let a = c.self.inside in
    let quiet = c.quiet_entry-in-Ok.result in
    let e : Entry = record {
      track = quiet.track;
      at = quiet.at;
      arena = c.in-Ok.field-0.asked.arena;
      raw = c.in-Ok.field-0.asked.raw;
    } in
    let made = c.quiet_entry-in-Ok.ensures in
    let ready = subst (λ (m : MachineView). is_ready (tracks_of m) (state_of m) c.args.t ≡ true)
    (sym c.self.view_is) c.requires.ready in
    let sound = subst (λ (m : MachineView). (state_of m).faulted ≡ false) (sym c.self.view_is) c.requires.no_fault in
    subst (λ (l : List Entry). Stands a.trace l (record c.act.new.self { owner = c.settle-self-inside.new.owner })
    c.settle-self-inside.new.progress c.settle-self-inside.result)
    (sym (redone a.history.entries c.push.new.self c.set_last.new.self c.quiet_entry.result e
    c.in_ok-push.ensures.ok c.set_last.ensures))
    (stands_then a.trace a.history.entries a.held a.progress a.faulted c.args.t c.index-at.result.now c.in-Some.op.now
    c.self.invariant c.index-at.ensures (sym c.in-Some.ensures) e (ap (λ (x : Entry). x.track) made) c.act.new.self
    c.in-Ok.field-0.reply c.in-Ok.ensures.acts
    (ap (λ (x : Entry). x.at) made) ready (c.self.invariant.fault_is ∙ sound)
    c.settle-self-inside.result c.settle-self-inside.ensures.fault c.settle-self-inside.new.owner
    c.settle-self-inside.ensures.owner c.act.ensures.stacks c.settle-self-inside.new.progress
    c.settle-self-inside.ensures.done c.settle-self-inside.ensures.is)

pub returns-in-Ok-clause-step : goal.returns-in-Ok-clause-step
returns-in-Ok-clause-step g c =
    let a = c.self.inside in
    let quiet = c.quiet_entry-in-Ok.result in
    let e : Entry = record {
      track = quiet.track;
      at = quiet.at;
      arena = c.in-Ok.field-0.asked.arena;
      raw = c.in-Ok.field-0.asked.raw;
    } in
    let made = c.quiet_entry-in-Ok.ensures in
    let track = ap (λ (x : Entry). x.track) made in
    let ready = subst (λ (m : MachineView). is_ready (tracks_of m) (state_of m) c.args.t ≡ true)
    (sym c.self.view_is) c.requires.ready in
    let sound = subst (λ (m : MachineView). (state_of m).faulted ≡ false) (sym c.self.view_is) c.requires.no_fault in
    subst (λ (m : MachineView). IsEvent m.trace m.entries c.set_last.new.self c.args.t
    (record { entry = e; reply = c.in-Ok.field-0.reply })) c.self.view_is (record {
      track = track;
      next = is_next a.trace a.history.entries a.held a.progress a.faulted c.args.t c.index-at.result.now c.in-Some.op.now
          c.self.invariant c.index-at.ensures (sym c.in-Some.ensures) e track c.act.new.self c.in-Ok.field-0.reply
          c.in-Ok.ensures.acts (ap (λ (x : Entry). x.at) made) ready (c.self.invariant.fault_is ∙ sound);
      grows = redone a.history.entries c.push.new.self c.set_last.new.self c.quiet_entry.result e
          c.in_ok-push.ensures.ok c.set_last.ensures;
      reply = reply_is a.trace a.history.entries a.held a.progress a.faulted c.args.t c.index-at.result.now c.in-Some.op.now
          c.self.invariant c.index-at.ensures (sym c.in-Some.ensures) e track c.act.new.self c.in-Ok.field-0.reply
          c.in-Ok.ensures.acts;
      known = subst (λ (n : ℕ). IsKnownReply n c.in-Ok.field-0.reply) c.self.invariant.held.blocks.size c.in-Ok.ensures.known;
    })

pub invariant_of-self-in-Err : goal.invariant_of-self-in-Err
invariant_of-self-in-Err g c =
    let a = c.self.inside in
    let before = popped a.history.entries c.push.new.self c.pop-entry.new.self c.quiet_entry.result
    c.in_ok-push.ensures.ok c.pop-entry.ensures.rest in
    subst (λ (l : List Entry). Stands a.trace l c.act.new.self a.progress a.faulted) (sym before)
    (stands_still a.trace a.history.entries a.held c.act.new.self a.progress a.faulted c.in-Err.ensures.err c.self.invariant)

pub returns-in-Ok-clause-asks_arena : goal.returns-in-Ok-clause-asks_arena
returns-in-Ok-clause-asks_arena g c =
    let a = c.self.inside in
    let quiet = c.quiet_entry-in-Ok.result in
    let asked = c.in-Ok.field-0.asked in
    let e : Entry = record { track = quiet.track; at = quiet.at; arena = asked.arena; raw = asked.raw } in
    subst (λ (m : MachineView). Requests sides.Arena m.trace m.entries e m.arenas c.act.new.self.store.arenas
    (g.A.ArenaSource.seen c.args.arenas.now) (g.A.ArenaSource.seen c.act.new.arenas)) c.self.view_is
    (requests_are a.trace a.history.entries a.held a.progress a.faulted c.args.t c.index-at.result.now c.in-Some.op.now
    c.self.invariant c.index-at.ensures (sym c.in-Some.ensures) sides.Arena e (arena_asks asked.arena)
    (arena_refusals asked.arena)
    a.held.store.arenas c.act.new.self.store.arenas (g.A.ArenaSource.seen c.args.arenas.now)
    (g.A.ArenaSource.seen c.act.new.arenas)
    (ap (λ (x : Entry). x.track) c.quiet_entry-in-Ok.ensures) refl refl c.in-Ok.ensures.asks_arena)

pub returns-in-Ok-clause-asks_raw : goal.returns-in-Ok-clause-asks_raw
returns-in-Ok-clause-asks_raw g c =
    let a = c.self.inside in
    let quiet = c.quiet_entry-in-Ok.result in
    let asked = c.in-Ok.field-0.asked in
    let e : Entry = record { track = quiet.track; at = quiet.at; arena = asked.arena; raw = asked.raw } in
    subst (λ (m : MachineView). Requests sides.Raw m.trace m.entries e m.raws c.act.new.self.store.raws
    (g.R.RawSource.seen c.args.raws.now) (g.R.RawSource.seen c.act.new.raws)) c.self.view_is
    (requests_are a.trace a.history.entries a.held a.progress a.faulted c.args.t c.index-at.result.now c.in-Some.op.now
    c.self.invariant c.index-at.ensures (sym c.in-Some.ensures) sides.Raw e (raw_asks asked.raw) (raw_refusals asked.raw)
    a.held.store.raws c.act.new.self.store.raws (g.R.RawSource.seen c.args.raws.now) (g.R.RawSource.seen c.act.new.raws)
    (ap (λ (x : Entry). x.track) c.quiet_entry-in-Ok.ensures) refl refl c.in-Ok.ensures.asks_raw)

pub unreachable-requires : goal.unreachable-requires
unreachable-requires g c =
    let a = c.self.inside in
    let ready = subst (λ (m : MachineView). is_ready (tracks_of m) (state_of m) c.args.t ≡ true)
    (sym c.self.view_is) c.requires.ready in
    true≢false (sym ready
    ∙ not_ready a.trace a.history.entries a.held a.progress a.faulted c.args.t c.index-at.result.now c.self.invariant
    c.index-at.ensures (sym c.in_default.ensures))

pub act-requires-clause-track : goal.act-requires-clause-track
act-requires-clause-track g c =
    let a = c.self.inside in
    within_stacks a.trace a.history.entries a.held a.progress a.faulted c.args.t c.index-at.result.now c.in-Some.op.now
    c.self.invariant c.index-at.ensures (sym c.in-Some.ensures)
