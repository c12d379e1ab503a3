use Rattle.std.proofs.Common.{[], Option, ap, sym, ◌∙◌}
use Rattle.std.specs.Prelude.{unwrap_or}
use Rattle.std.specs.Str.{bytes_eq}
use Rattle.mem_base.specs.Name.{Name}
use Rattle.trace_reader.proofs.TrackSteps.{index_found, index_none, past_end}
use Rattle.trace_reader.proofs.progress.track_named.Goals as goal

pub returns-then-eq : goal.returns-then-eq
returns-then-eq c =
    sym (index_found c.args.texts.now c.args.tracks.now c.args.name.now c.loop-track.at c.in-Some.track.now (sym c.in-Some.ensures.value)
    (ap (λ (o : Option Name). bytes_eq (unwrap_or o []) c.args.name.now) c.get-in-Some.ensures ∙ sym c.eq.ensures ∙ c.if-eq.true) c.loop-track.invariant.none)

pub returns : goal.returns
returns c =
    sym (index_none c.args.texts.now c.args.tracks.now c.args.name.now c.loop-track.at (past_end c.args.tracks.now c.loop-track.at (sym c.in_default.ensures.value)) c.loop-track.invariant.none)
