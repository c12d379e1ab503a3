use Rattle.event_model.specs.Events.{left_in}
use Rattle.machine_core.specs.View.{tracks_of, state_of}
use Rattle.domain_api.specs.Held.{AreOut}
use Rattle.replay_tool.specs.Replays.{moment}
use Rattle.replay_tool.specs.Served.{both}
use Rattle.replay_tool.specs.Streams.{stream}
use Rattle.replay_tool.proofs.Kept.{FollowsIts, Going}
use Rattle.replay_tool.proofs.events.write_report.Given as goal

-- the texts of the events so far were written, the sources answered their requests, and the picks were followed
abbrev pub invariant-loop-t : goal.invariant-loop-t
invariant-loop-t g l = record {
  going : Going
      (moment l.fn.machine (stream (g.O.Sink.written l.fn.out) (g.O.Sink.faults l.fn.out)) (both (g.A.ArenaSource.seen l.fn.arenas) (g.R.RawSource.seen l.fn.raws)))
      (moment l.machine (stream (g.O.Sink.written l.out) (g.O.Sink.faults l.out)) (both (g.A.ArenaSource.seen l.arenas) (g.R.RawSource.seen l.raws)));
  follows : FollowsIts l.machine;
  held : AreOut l.machine.arenas l.machine.raws (g.A.ArenaSource.seen l.arenas) (g.R.RawSource.seen l.raws);
}

-- what is left to do
abbrev pub decreases-loop-t : goal.decreases-loop-t
decreases-loop-t g l = left_in (tracks_of l.machine) (state_of l.machine)
