use Rattle.std.proofs.Common.{ap, sym, subst}
use Rattle.frame_model.specs.Frames.{frames_on}
use Rattle.frame_stack.specs.Callers.{AreAmong}
use Rattle.frame_stack.specs.Tracebacks.{at_line, IsShort}
use Rattle.frame_stack.specs.declared.callers.Stack.{Stack}
use Rattle.frame_stack.proofs.StackLemmas.{among_on, changed, changed_are, is_stack, short_on, track_in}
use Rattle.frame_stack.proofs.callers.Callers.line.Goals as goal

pub invariant_of-self : goal.invariant_of-self
invariant_of-self c =
    let a = c.self.inside in
    let lt = track_in c.args.self.now a.files a.stacks.items a.table c.self.view_is c.args.t c.requires in
    let was = is_stack a.files a.stacks.items a.table c.self.invariant c.args.t c.index_mut.result.now lt c.index_mut.ensures.value in
    changed_are a.files a.stacks.items a.table c.self.invariant c.args.t c.line.new.self
    (subst (λ (s : Stack). AreAmong a.files s.frames) (sym c.line.ensures) (among_on a.files c.args.line c.index_mut.result.now.frames was.among))
    (subst (λ (s : Stack). IsShort s.frames) (sym c.line.ensures) (short_on c.args.line c.index_mut.result.now.frames was.short))
    (ap (λ (s : Stack). s.known) c.line.ensures)

pub returns : goal.returns
returns c =
    let a = c.self.inside in
    let lt = track_in c.args.self.now a.files a.stacks.items a.table c.self.view_is c.args.t c.requires in
    changed c.args.self.now a.files a.stacks.items a.table c.self.view_is c.args.t c.index_mut.result.now c.line.new.self
    (frames_on (at_line c.args.line)) lt c.index_mut.ensures.value (ap (λ (s : Stack). s.frames) c.line.ensures)
