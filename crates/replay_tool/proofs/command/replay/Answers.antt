use Rattle.std.proofs.Common.{ℕ, List, [], refl, ap, sym, subst, ◌∙◌, arith}
use Rattle.std.proofs.KnownBytes.{Appends-nil}
use Rattle.extents.specs.Extent.{Extent}
use Rattle.sources.specs.Holder.{Traded}
use Rattle.sources.specs.Source.{ArenaShape, SourceView}
use Rattle.sources.proofs.CallerLemmas.{traded_then}
use Rattle.mem_base.specs.declared.trace.Trace.{Trace}
use Rattle.trace_model.specs.Plain.{plain}
use Rattle.event_model.specs.Schedule.{one_by_one}
use Rattle.replay_tool.specs.declared.status.Status.{Status}
use Rattle.replay_tool.specs.Replays.{Replay, ReplayEnds, RanOut, moment, replay_between, the_report}
use Rattle.replay_tool.specs.Served.{both}
use Rattle.replay_tool.specs.Streams.{stream}
use Rattle.replay_tool.proofs.Ends.{ends_whole, ends_halted, gives_back}
use Rattle.replay_tool.proofs.ServedLaws.{none_out, served_none, served_nearly}
use Rattle.replay_tool.proofs.command.replay.Goals as goal
use Rattle.replay_tool.proofs.command.replay.Goals.{in-Ok-write_report, in-Err}

pub returns-clause-back : goal.returns-clause-back
returns-clause-back g c =
    let first = g.A.ArenaSource.seen c.shape.new.self in
    let mid = g.A.ArenaSource.seen c.write_report.new.arenas in
    let last = g.A.ArenaSource.seen c.end.new.arenas in
    let first_raw = g.R.RawSource.seen c.shape-2.new.self in
    let mid_raw = g.R.RawSource.seen c.write_report.new.raws in
    let last_raw = g.R.RawSource.seen c.end.new.raws in
    let arenas = traded_then c.in-Ok.machine.arenas c.write_report.new.machine.arenas [] first mid last c.write_report.ensures.traded.arenas c.end.ensures.arenas in
    let raws = traded_then c.in-Ok.machine.raws c.write_report.new.machine.raws [] first_raw mid_raw last_raw c.write_report.ensures.traded.raws c.end.ensures.raws in
    record {
      arenas = none_out first last (subst (λ (h : List Extent). Traded h [] first last) c.in-Ok.ensures.arenas arenas)
          (ap (λ (s : SourceView ArenaShape). s.out) c.shape.ensures ∙ c.requires.none_out.arenas);
      raw = none_out first_raw last_raw (subst (λ (h : List Extent). Traded h [] first_raw last_raw) c.in-Ok.ensures.raws raws)
          (ap (λ (s : SourceView ℕ). s.out) c.shape-2.ensures ∙ c.requires.none_out.raw);
    }

pub returns-clause-ends : goal.returns-clause-ends
returns-clause-ends g c =
    let m = c.write_report.new.machine in
    let before = stream (g.O.Sink.written c.args.out.now) (g.O.Sink.faults c.args.out.now) in
    let now = stream (g.O.Sink.written c.write_report.new.out) (g.O.Sink.faults c.write_report.new.out) in
    let first = both (g.A.ArenaSource.seen c.shape.new.self) (g.R.RawSource.seen c.shape-2.new.self) in
    let mid = both (g.A.ArenaSource.seen c.write_report.new.arenas) (g.R.RawSource.seen c.write_report.new.raws) in
    let last = both (g.A.ArenaSource.seen c.end.new.arenas) (g.R.RawSource.seen c.end.new.raws) in
    let status = c.match-write_report.status in
    let ran : Replay = replay_between (moment c.in-Ok.machine before first) (moment m now mid) in
    let ended : ReplayEnds ran status = elim c.match-write_report.branch [
      | in-Ok-write_report w ↦ ends_whole ran c.write_report.result _ status c.write_report.ensures.ends w.in-Ok-write_report.is (w.status-is ∙ w.status_of-status.ensures)
      | in-Err w ↦ ends_halted ran c.write_report.result w.in-Err.halt status c.write_report.ensures.ends w.in-Err.is (w.status-is ∙ w.status-status.ensures)
    ] in
    let trace_is = c.write_report.ensures.trace ∙ c.in-Ok.ensures.trace in
    subst (λ (r : Replay). ReplayEnds r status) (λ i. record {
      tracks = (plain (trace_is i)).tracks;
      picks = (plain (trace_is i)).picks;
      entries = sym c.end.ensures.history i;
      out = before;
      out_then = now;
      sources = both (c.shape.ensures i) (c.shape-2.ensures i);
      sources_then = last;
    }) (gives_back ran last m.arenas m.raws c.end.ensures.nothing c.end.ensures.arenas c.end.ensures.raws status ended)

-- there was no memory for a machine, so no event was done
pub returns-in_default-clause-ends : goal.returns-in_default-clause-ends
returns-in_default-clause-ends g c =
    let tracks = (plain c.args.trace).tracks in
    let before = stream (g.O.Sink.written c.args.out.now) (g.O.Sink.faults c.args.out.now) in
    let first = both (g.A.ArenaSource.seen c.shape.new.self) (g.R.RawSource.seen c.shape-2.new.self) in
    let none : Replay = record { tracks = tracks; picks = (plain c.args.trace).picks; entries = []; out = before; out_then = before; sources = first; sources_then = first } in
    let ran : RanOut the_report none = record {
      legal = tt;
      follows = (one_by_one (plain c.args.trace).picks, refl);
      earlier = [];
      later = [];
      all = refl;
      few = omega arith;
      written = record { bytes = Appends-nil before.bytes; calm = refl };
      served = served_nearly tracks [] first first (served_none tracks first);
    } in
    subst (λ (p : Replay × Status). ReplayEnds p.0 p.1) (λ i. (
      record {
        tracks = tracks;
        picks = (plain c.args.trace).picks;
        entries = sym c.without_events.ensures.none i;
        out = before;
        out_then = before;
        sources = both (c.shape.ensures i) (c.shape-2.ensures i);
        sources_then = first;
      },
      sym c.without_events.ensures.status i,
    )) ran

-- a new machine has all picks of its trace
pub write_report-requires-clause-picks : goal.write_report-requires-clause-picks
write_report-requires-clause-picks g c = c.in-Ok.ensures.picks ∙ ap (λ (t : Trace). one_by_one (plain t).picks) (sym c.in-Ok.ensures.trace)
