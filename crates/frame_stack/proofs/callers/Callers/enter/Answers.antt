use Rattle.std.proofs.Common.{ap}
use Rattle.std.proofs.lemmas.Result.{on_ok_weaker}
use Rattle.frame_model.specs.Frames.{frames_with}
use Rattle.frame_stack.specs.declared.callers.Stack.{Stack}
use Rattle.frame_stack.proofs.StackLemmas.{changed, track_in}
use Rattle.frame_stack.proofs.callers.Callers.enter.Goals as goal

pub returns-clause-entered : goal.returns-clause-entered
returns-clause-entered c =
    let a = c.self.inside in
    let lt = track_in c.args.self.now a.files a.stacks.items a.table c.self.view_is c.args.t c.requires.track in
    on_ok_weaker c.enter.result (λ entered.
    changed c.args.self.now a.files a.stacks.items a.table c.self.view_is c.args.t c.index_mut.result.now c.enter.new.self
    (λ frames. frames_with frames (record { file = c.args.file; line = c.args.line })) lt c.index_mut.ensures.value (ap (λ (s : Stack). s.frames) entered)) c.enter.ensures.entered
