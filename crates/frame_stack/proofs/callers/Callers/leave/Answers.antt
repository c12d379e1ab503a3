use Rattle.std.proofs.Common.{ap}
use Rattle.frame_model.specs.Frames.{frames_below}
use Rattle.frame_stack.specs.declared.callers.Stack.{Stack}
use Rattle.frame_stack.proofs.StackLemmas.{changed, track_in}
use Rattle.frame_stack.proofs.callers.Callers.leave.Goals as goal

pub returns : goal.returns
returns c =
    let a = c.self.inside in
    let lt = track_in c.args.self.now a.files a.stacks.items a.table c.self.view_is c.args.t c.requires in
    changed c.args.self.now a.files a.stacks.items a.table c.self.view_is c.args.t c.index_mut.result.now c.leave.new.self
    frames_below lt c.index_mut.ensures.value (ap (λ (s : Stack). s.frames) c.leave.ensures)
