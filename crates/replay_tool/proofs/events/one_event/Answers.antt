use Rattle.std.proofs.Common.{length, sym, ap, subst, ◌∙◌}
use Rattle.mem_base.specs.declared.trace.Trace.{Trace}
use Rattle.event_model.specs.Replies.{IsKnownReply}
use Rattle.replay_tool.specs.declared.status.Halt.TheVariants.{WriteFault}
use Rattle.replay_tool.proofs.Kept.{buffer_is}
use Rattle.replay_tool.proofs.Texts.{halt_is, wrote_is, broke_is}
use Rattle.replay_tool.proofs.events.one_event.Goals as goal

-- the files of the reply are in the machine's trace
pub push_event-requires-clause-reply : goal.push_event-requires-clause-reply
push_event-requires-clause-reply g c =
    let did = c.in_ok-step.ensures in
    let step = c.in_ok-step.step in
    subst (λ (t : Trace). IsKnownReply (length t.texts) step.reply) (sym (c.trace.ensures.trace ∙ did.trace)) did.step.known

pub returns-in_err-write_all-clause-ends : goal.returns-in_err-write_all-clause-ends
returns-in_err-write_all-clause-ends g c =
    let old = c.args.machine.now in
    let new = c.step.new.self in
    let step = c.in_ok-step.step in
    let did = c.in_ok-step.ensures in
    rw (halt_is c.from_residual-in_err-write_all.result WriteFault c.from_residual-in_err-write_all.ensures.1)
    (record {
      more = record { entry = step.entry; track = did.step.track; picks = did.picks; next = did.step.next; same = did.trace; grows = did.step.grows; arenas = did.asks_arena; raws = did.asks_raw };
      front = broke_is _ _ _ _ _ _ (c.as_slice.ensures.value ∙ buffer_is c.args.t old new step _ _ _ _ did.step (c.trace.ensures.trace ∙ did.trace) (c.len-number.ensures ∙ ap length c.history.ensures.entries) c.clear.ensures.items c.in_ok-push_event.ensures.ok)
          c.in_err-write_all.ensures.part c.in_err-write_all.ensures.counted;
    })

pub returns-clause-ends : goal.returns-clause-ends
returns-clause-ends g c =
    let old = c.args.machine.now in
    let new = c.step.new.self in
    let step = c.in_ok-step.step in
    let did = c.in_ok-step.ensures in
    record {
      more = record { entry = step.entry; track = did.step.track; picks = did.picks; next = did.step.next; same = did.trace; grows = did.step.grows; arenas = did.asks_arena; raws = did.asks_raw };
      text = wrote_is _ _ _ _ _ _ (c.as_slice.ensures.value ∙ buffer_is c.args.t old new step _ _ _ _ did.step (c.trace.ensures.trace ∙ did.trace) (c.len-number.ensures ∙ ap length c.history.ensures.entries) c.clear.ensures.items c.in_ok-push_event.ensures.ok)
          c.in_ok-write_all.ensures.whole c.in_ok-write_all.ensures.counted;
    }
