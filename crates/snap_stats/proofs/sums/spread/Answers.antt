use Rattle.std.proofs.Common.{arith, ◌≡◌, ◌<◌, List, [], length, ap, sym, subst}
use Rattle.std.specs.List.{AllByRecursion}
use Rattle.frame_stack.specs.declared.tracebacks.TbId.{TbId}
use Rattle.snap_stats.specs.declared.sums.Sum.{Sum}
use Rattle.snap_stats.specs.Sums.{frame_parts, same_frame, AreSound}
use Rattle.snap_stats.proofs.Adding.{adds_nothing}
use Rattle.snap_stats.proofs.Framing.{has_room, goes_on}
use Rattle.snap_stats.proofs.sums.spread.Goals as goal

pub loop-id-init : goal.loop-id-init
loop-id-init c =
    let rest : c.into_iter-id-iterator.result ≡ c.args.sums.now.entries = c.into_iter-id-iterator.ensures.into_iter_gives.0 in
    record {
      done = [];
      adds = adds_nothing same_frame c.new-by_frame.result.entries c.new-by_frame.ensures.empty;
      split = ap (frame_parts c.args.by_line c.args.cumulative c.args.table.now) rest;
      sound = subst AreSound (sym rest) c.requires.sound;
      known = subst (λ (l : List (TbId × Sum)). AllByRecursion (λ s. s.0.0 < length c.args.table.now) l) (sym rest) c.requires.known;
    }

pub add_frames-requires-clause-room : goal.add_frames-requires-clause-room
add_frames-requires-clause-room c =
    let all = c.args.sums.now.entries in
    let room = has_room c.args.by_line c.args.cumulative c.args.table.now all c.loop-id.id-iterator c.next.new.self c.loop-id.by_frame.entries c.in-Some.id.now c.in-Some.sum.now c.frames.result.now c.frames_seen-frames.result.now c.loop-id.invariant c.in-Some.ensures.steps c.frames.ensures c.frames_seen-frames.ensures in
    omega (arith, room, c.requires.room)

pub loop-id-preserved : goal.loop-id-preserved
loop-id-preserved c =
    let all = c.args.sums.now.entries in
    goes_on c.args.by_line c.args.cumulative c.args.table.now all c.loop-id.id-iterator c.next.new.self c.loop-id.by_frame.entries c.in-Some.id.now c.in-Some.sum.now c.frames.result.now c.frames_seen-frames.result.now c.loop-id.invariant c.in-Some.ensures.steps c.frames.ensures c.frames_seen-frames.ensures c.add_frames.new.sums.entries
    (c.in_ok-add_frames.ensures c.loop-id.invariant.done c.loop-id.invariant.adds)
