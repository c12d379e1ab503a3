use Rattle.std.proofs.Common.{◌+◌, ◌++◌, ◌∷◌, [], ◌∙◌, sym, ap, subst, take, arith}
use Rattle.mem_base.specs.declared.reply.Frame.{Frame}
use Rattle.frame_stack.specs.Tracebacks.{unknown_frame}
use Rattle.snap_stats.specs.declared.sums.Sum.{Sum}
use Rattle.snap_stats.specs.Sums.{frame_key, parts_at, same_frame, AddsUp}
use Rattle.snap_stats.proofs.Adding.{adds_itself, counts_added}
use Rattle.snap_stats.proofs.Framing.{append_more, counts_fewer, map_more, map_whole}
use Rattle.snap_stats.proofs.sums.add_frames.Goals as goal

pub add-requires-clause-sound : goal.add-requires-clause-sound
add-requires-clause-sound c =
    (c.loop-frame.invariant c.args.sums.now.entries (adds_itself same_frame c.args.sums.now.entries c.requires.sound)).sound

pub add-requires-clause-room : goal.add-requires-clause-room
add-requires-clause-room c =
    let first = c.args.sums.now.entries in
    let i = c.loop-frame.frame-index in
    let parts = first ++ parts_at c.args.by_line c.args.more (take i c.args.frames.now) in
    let added = counts_added same_frame parts c.loop-frame.sums.entries (c.loop-frame.invariant first (adds_itself same_frame first c.requires.sound)) in
    omega (arith, added, counts_fewer c.args.by_line c.args.more first c.args.frames.now i c.loop-frame-test.true, c.requires.room)

pub loop-frame-preserved : goal.loop-frame-preserved
loop-frame-preserved c = λ before adds.
    let i = c.loop-frame.frame-index in
    let frames = c.args.frames.now in
    let at : Frame → Frame × Sum = λ f. (frame_key c.args.by_line f, c.args.more) in
    let done = parts_at c.args.by_line c.args.more (take i frames) in
    let more = map_more at frames i unknown_frame c.loop-frame-test.true in
    let key = ap (λ (f : Frame). done ++ (f, c.args.more) ∷ []) (sym c.frame_key.ensures) in
    let next = parts_at c.args.by_line c.args.more (take (i + 1) frames) in
    let all = append_more before done ((c.frame_key.result, c.args.more) ∷ []) next (more ∙ key) in
    subst (λ ps. AddsUp same_frame ps c.add.new.sums.entries) all (c.in_ok-add.ensures (before ++ done) (c.loop-frame.invariant before adds))

pub returns : goal.returns
returns c = λ before adds.
    let at : Frame → Frame × Sum = λ f. (frame_key c.args.by_line f, c.args.more) in
    let all = map_whole at c.args.frames.now c.loop-frame.frame-index (omega arith) in
    subst (λ ps. AddsUp same_frame (before ++ ps) c.loop-frame.sums.entries) all (c.loop-frame.invariant before adds)
