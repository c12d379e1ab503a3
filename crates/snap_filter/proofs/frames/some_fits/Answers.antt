use Rattle.std.proofs.Common.{◌≡◌, ◌&&◌, ◌∙◌, Bool, List, true, false, ap, sym, get_or, take, length}
use Rattle.std.specs.List.{list_any}
use Rattle.std.proofs.lemmas.List.Folds.{list_any_at}
use Rattle.mem_base.specs.declared.reply.Frame.{Frame}
use Rattle.frame_model.specs.Frames.{PlainFrame, frame_of, frames_of}
use Rattle.frame_stack.specs.Tracebacks.{unknown_frame}
use Rattle.snapshot_model.specs.Rules.{frame_fits, is_or_none}
use Rattle.snap_filter.specs.Questions.{AskedOfFiles, file_matches}
use Rattle.snap_filter.proofs.Filtering.{any_map, take_whole}
use Rattle.snap_filter.proofs.frames.some_fits.Goals as goal

pub returns-then-matches-clause-answer : goal.returns-then-matches-clause-answer
returns-then-matches-clause-answer c =
    let frames = c.args.frames.now in
    let texts = c.args.files.now.texts in
    let p = frame_fits c.args.line c.args.files.now.pattern in
    let f : Frame = get_or frames c.loop-frame.frame-index unknown_frame in
    let m : file_matches c.args.files.now f.file ≡ true
    = ap (λ (a : AskedOfFiles). file_matches a f.file) (sym c.loop-frame.invariant.same) ∙ sym c.matches.ensures.answer ∙ c.if-matches.true in
    let l : is_or_none c.args.line f.line ≡ true = sym c.is_or_none.ensures ∙ c.if-is_or_none.true in
    let here : p (frame_of texts f) ≡ true
    = λ i. m i && l i in
    sym (any_map p (frame_of texts) frames ∙ list_any_at (λ f. p (frame_of texts f)) frames c.loop-frame.frame-index unknown_frame c.loop-frame-test.true here)

pub returns-clause-answer : goal.returns-clause-answer
returns-clause-answer c =
    let frames = c.args.frames.now in
    let texts = c.args.files.now.texts in
    let p = frame_fits c.args.line c.args.files.now.pattern in
    let whole : take c.loop-frame.frame-index frames ≡ frames = take_whole frames c.loop-frame.frame-index c.loop-frame-test.false in
    sym (any_map p (frame_of texts) frames ∙ ap (list_any (λ f. p (frame_of texts f))) (sym whole) ∙ c.loop-frame.invariant.none)
