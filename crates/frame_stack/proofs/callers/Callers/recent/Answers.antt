use Rattle.std.proofs.Common.{◌≡◌, List, Some, IfOk, ap, subst, ◌∙◌, slice_get}
use Rattle.std.specs.Prelude.{OnOk}
use Rattle.std.proofs.lemmas.Result.{on_err_weaker}
use Rattle.mem_base.specs.declared.reply.Frame.{Frame}
use Rattle.frame_model.specs.Frames.{recent}
use Rattle.frame_stack.specs.Callers.{CallersView}
use Rattle.frame_stack.specs.Tracebacks.{unknown_frame, IsInterned}
use Rattle.frame_stack.proofs.StackLemmas.{frames_read, recent_are, track_in, unchanged}
use Rattle.frame_stack.proofs.callers.Callers.recent.Goals as goal

pub invariant_of-self : goal.invariant_of-self
invariant_of-self c =
    let a = c.self.inside in
    let lt = track_in c.args.self.now a.files a.stacks.items a.table c.self.view_is c.args.t c.requires in
    recent_are a.files a.stacks.items a.table c.recent.new.table c.self.invariant c.args.t c.args.limit c.index_mut.result.now c.recent.new.self lt
    c.index_mut.ensures.value c.recent.ensures.frames c.recent.ensures.known c.recent.result c.recent.ensures.table c.recent.ensures.err

pub returns-clause-number : goal.returns-clause-number
returns-clause-number c =
    let a = c.self.inside in
    let lt = track_in c.args.self.now a.files a.stacks.items a.table c.self.view_is c.args.t c.requires in
    subst (λ (fs : List Frame). IfOk c.recent.result (λ id. slice_get c.recent.new.table id.0 ≡ Some (recent unknown_frame c.args.limit fs)))
    (frames_read c.args.self.now a.files a.stacks.items a.table c.self.view_is c.args.t c.index_mut.result.now lt c.index_mut.ensures.value) c.recent.ensures.number

pub returns-clause-table : goal.returns-clause-table
returns-clause-table c =
    let a = c.self.inside in
    let lt = track_in c.args.self.now a.files a.stacks.items a.table c.self.view_is c.args.t c.requires in
    subst (λ (fs : List Frame). OnOk c.recent.result (IsInterned (recent unknown_frame c.args.limit fs) c.args.self.now.table c.recent.new.table))
    (frames_read c.args.self.now a.files a.stacks.items a.table c.self.view_is c.args.t c.index_mut.result.now lt c.index_mut.ensures.value)
    (subst (λ (v : CallersView). OnOk c.recent.result (IsInterned (recent unknown_frame c.args.limit c.index_mut.result.now.frames) v.table c.recent.new.table)) c.self.view_is c.recent.ensures.table)

pub returns-clause-same : goal.returns-clause-same
returns-clause-same c =
    let a = c.self.inside in
    let lt = track_in c.args.self.now a.files a.stacks.items a.table c.self.view_is c.args.t c.requires in
    unchanged c.args.self.now a.files a.stacks.items a.table c.self.view_is c.args.t c.index_mut.result.now c.recent.new.self lt c.index_mut.ensures.value c.recent.ensures.frames c.recent.new.table

pub returns-clause-err : goal.returns-clause-err
returns-clause-err c =
    let a = c.self.inside in
    let lt = track_in c.args.self.now a.files a.stacks.items a.table c.self.view_is c.args.t c.requires in
    let same = unchanged c.args.self.now a.files a.stacks.items a.table c.self.view_is c.args.t c.index_mut.result.now c.recent.new.self lt c.index_mut.ensures.value c.recent.ensures.frames in
    on_err_weaker c.recent.result (λ kept. same c.recent.new.table ∙ ap (λ (l : List (List Frame)). record { files = c.args.self.now.files; frames = c.args.self.now.frames; table = l }) (kept ∙ ap (λ (v : CallersView). v.table) c.self.view_is)) c.recent.ensures.err
