use Rattle.std.proofs.Common.{refl, ap, Err}
use Rattle.trace_model.specs.Plain.{plain}
use Rattle.replay_tool.proofs.Promises.{promise_of, replayed, refused, input_cause}
use Rattle.replay_tool.proofs.command.run.Goals as goal

pub returns-in-Ok : goal.returns-in-Ok
returns-in-Ok g c =
    let asked = c.asks_replay.ensures.0 c.if-not-asks_replay.false in
    promise_of _ c.replay.result.status c.replay.result.history.entries c.outcome-in-Ok.ensures.history c.outcome-in-Ok.ensures.status
    (replayed _ (plain c.in-Ok.trace) (record { asked = asked; input = c.in-Ok.ensures.read; err = refl }) c.replay.result.status c.replay.ensures.ends)
    c.replay.ensures.back

pub returns-in-Err-Refused : goal.returns-in-Err-Refused
returns-in-Err-Refused g c =
    let refusal = c.in-Err-Refused.refusal in
    let ended = c.refuse-in-Err-Refused.result in
    let asked = c.asks_replay.ensures.0 c.if-not-asks_replay.false in
    let why = c.in-Err-Refused.ensures.refused refusal (ap Err c.in-Err-Refused.field-0-is) in
    promise_of _ ended.status ended.history.entries c.outcome-in-Err-Refused.ensures.history c.outcome-in-Err-Refused.ensures.status
    (refused _ (record { none = c.refuse-in-Err-Refused.ensures.none; out = refl; sources = refl }) refusal ended.status (input_cause _ refusal asked why) c.refuse-in-Err-Refused.ensures.told)
    c.requires.none_out
