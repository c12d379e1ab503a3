use Rattle.std.proofs.Common.{ℕ, List, All, ◌++◌, sym, ap, subst, ◌∙◌}
use Rattle.std.specs.List.{join_with_byte}
use Rattle.std.proofs.lemmas.List.Elements.{All-tail}
use Rattle.std.proofs.lemmas.Simd.{map-map}
use Rattle.mem_base.specs.declared.reply.Frame.{Frame}
use Rattle.trace_model.specs.Known.{IsKnown}
use Rattle.trace_model.specs.Spelling.{blank}
use Rattle.event_model.specs.Replies.{frame_of}
use Rattle.dump_model.specs.Spelling.{frame_word}
use Rattle.report_text.proofs.Pieces.{words_come_last}
use Rattle.report_text.proofs.groups.push_key.Goals as goal

-- the frames behind the first are known, as all are
pub push_frame-requires-in-loop-frame : goal.push_frame-requires-in-loop-frame
push_frame-requires-in-loop-frame c =
    let known : Frame → Type 0 = λ f. IsKnown c.args.texts.now f.file in
    All-tail known c.in-Some.first.now c.in-Some.rest.now (subst (All known) c.in-Some.ensures.cases.0 c.requires)
    c.loop-frame.frame-index _ c.loop-frame-test.true

pub returns-clause-ok : goal.returns-clause-ok
returns-clause-ok c =
    let texts = c.args.texts.now in
    let word : Frame → List ℕ = λ f. frame_word (frame_of texts f) in
    words_come_last word blank _ _ _ _ _ _ _ c.in-Some.ensures.cases.0 c.in_ok-push_frame.ensures.ok c.loop-frame.invariant
    c.loop-frame-test.false
    ∙ ap (λ (ws : List (List ℕ)). c.args.text.now.items ++ join_with_byte blank ws)
    (sym (map-map frame_word (frame_of texts) c.args.key.now))
