use Rattle.std.proofs.Common.{sym, ap, arith, ◌∙◌, List, [], ◌∷◌, ◌++◌}
use Rattle.mem_base.specs.declared.trace.Op.{Op}
use Rattle.trace_reader.proofs.TrackSteps.{same_track, too_many, started, start_known}
use Rattle.trace_reader.proofs.progress.Progress.begin.Goals as goal

pub returns-then-is_ok-clause-read : goal.returns-then-is_ok-clause-read
returns-then-is_ok-clause-read c =
    same_track c.args.self.now c.args.text.now c.requires c.track_named.result c.track_named.ensures (sym c.is_ok.ensures.value ∙ c.if-is_ok.true)

pub returns-then-len-ge-MAX_TRACKS-clause-read : goal.returns-then-len-ge-MAX_TRACKS-clause-read
returns-then-len-ge-MAX_TRACKS-clause-read c =
    too_many c.args.self.now c.args.text.now c.requires c.track_named.result c.track_named.ensures (sym c.is_ok.ensures.value ∙ c.if-is_ok.false) (omega (arith, c.if-len-ge-MAX_TRACKS.true, c.len.ensures))

pub returns-clause-known : goal.returns-clause-known
returns-clause-known c =
    start_known c.args.self.now c.args.text.now c.requires c.track_named.result c.track_named.ensures (sym c.is_ok.ensures.value ∙ c.if-is_ok.false)
    c.intern.new.texts c.in_ok-name.name c.in_ok-name.ensures.grows c.in_ok-name.ensures.number (omega (arith, c.if-len-ge-MAX_TRACKS.false, c.len.ensures)) c.push.new.self
    (c.in_ok-push.ensures.ok ∙ ap (λ (o : List Op). c.args.self.now.trace.tracks ++ record { name = c.in_ok-name.name; ops = o } ∷ []) c.new-ops.ensures) c.in_ok-name.ensures.known c.in_ok-name.ensures.table

pub returns-clause-read : goal.returns-clause-read
returns-clause-read c =
    started c.args.self.now c.args.text.now c.requires c.track_named.result c.track_named.ensures (sym c.is_ok.ensures.value ∙ c.if-is_ok.false)
    c.intern.new.texts c.in_ok-name.name c.in_ok-name.ensures.grows c.in_ok-name.ensures.number (omega (arith, c.if-len-ge-MAX_TRACKS.false, c.len.ensures)) c.push.new.self
    (c.in_ok-push.ensures.ok ∙ ap (λ (o : List Op). c.args.self.now.trace.tracks ++ record { name = c.in_ok-name.name; ops = o } ∷ []) c.new-ops.ensures)
