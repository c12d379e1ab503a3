use Rattle.std.proofs.Common.{List, ℕ, ◌++◌, ap, sym, ◌∙◌}
use Rattle.std.specs.List.{flat_map}
use Rattle.std.proofs.lemmas.List.{take_all}
use Rattle.std.proofs.lemmas.List.Folds.{flat_map-map}
use Rattle.mem_base.specs.declared.reply.Frame.{Frame}
use Rattle.event_model.specs.Replies.{frame_of}
use Rattle.report_model.specs.Report.{frame_line}
use Rattle.report_text.proofs.frames.push_frame_lines.Goals as goal

pub returns-clause-ok : goal.returns-clause-ok
returns-clause-ok c =
    let old = c.args.text.now.items in
    let line : Frame → List ℕ = λ f. frame_line (frame_of c.args.texts.now f) in
    let kept = c.args.kept.now in
    c.loop-frame.invariant
    ∙ ap (λ (fs : List Frame). old ++ flat_map line fs) (take_all c.loop-frame.frame-index kept c.loop-frame-test.false)
    ∙ ap (λ (l : List ℕ). old ++ l) (sym (flat_map-map frame_line (frame_of c.args.texts.now) kept))
