use Rattle.std.proofs.Common.{◌≡◌, List, slice_get, Some, subst}
use Rattle.mem_base.specs.declared.reply.Frame.{Frame}
use Rattle.frame_stack.specs.Tracebacks.{IsInterned}
use Rattle.snap_file.proofs.PushSteps.{push_known, push_done, push_rows}
use Rattle.snap_file.proofs.progress.Progress.push.Goals as goal

pub returns-clause-known : goal.returns-clause-known
returns-clause-known c =
    let p = c.args.self.now in
    let later = c.intern.new.self in
    let same = c.as_slice.ensures.value in
    push_known p c.args.row c.requires.known c.requires.among c.requires.short c.requires.few
    c.intern_key.new.texts c.in_ok-key.ensures.grows c.in_ok-key.key c.in_ok-key.ensures.key c.in_ok-key.ensures.known
    later (subst (λ (fs : List Frame). IsInterned fs p.loaded.table later) same c.in_ok-trace.ensures.table) c.in_ok-trace.trace
    (subst (λ (fs : List Frame). slice_get later c.in_ok-trace.trace.0 ≡ Some fs) same c.in_ok-trace.ensures.number)
    c.push.new.self c.in_ok-push.ensures.ok

pub returns-clause-done : goal.returns-clause-done
returns-clause-done c =
    let p = c.args.self.now in
    let later = c.intern.new.self in
    let same = c.as_slice.ensures.value in
    push_done p c.args.row c.requires.known c.requires.among c.requires.short c.requires.few
    c.intern_key.new.texts c.in_ok-key.ensures.grows c.in_ok-key.key c.in_ok-key.ensures.key c.in_ok-key.ensures.known
    later (subst (λ (fs : List Frame). IsInterned fs p.loaded.table later) same c.in_ok-trace.ensures.table) c.in_ok-trace.trace
    (subst (λ (fs : List Frame). slice_get later c.in_ok-trace.trace.0 ≡ Some fs) same c.in_ok-trace.ensures.number)
    c.push.new.self c.in_ok-push.ensures.ok

pub returns-clause-rows : goal.returns-clause-rows
returns-clause-rows c =
    let p = c.args.self.now in
    let later = c.intern.new.self in
    let same = c.as_slice.ensures.value in
    push_rows p c.args.row c.requires.known c.requires.among c.requires.short c.requires.few
    c.intern_key.new.texts c.in_ok-key.ensures.grows c.in_ok-key.key c.in_ok-key.ensures.key c.in_ok-key.ensures.known
    later (subst (λ (fs : List Frame). IsInterned fs p.loaded.table later) same c.in_ok-trace.ensures.table) c.in_ok-trace.trace
    (subst (λ (fs : List Frame). slice_get later c.in_ok-trace.trace.0 ≡ Some fs) same c.in_ok-trace.ensures.number)
    c.push.new.self c.in_ok-push.ensures.ok
