use Rattle.std.proofs.Common.{◌≡◌, arith, ◌∙◌, ◌≤◌, ap, length, refl}
use Rattle.std.proofs.lemmas.Grind.{common_steps}
use Rattle.frame_model.specs.Frames.{frames_on}
use Rattle.frame_stack.specs.Tracebacks.{at_line}
use Rattle.frame_stack.proofs.TableLemmas.{last_on}
use Rattle.frame_stack.proofs.frames.Frames.line.Goals as goal

pub returns : goal.returns
returns c =
    let old = c.self.inside.frames.items in
    let all : c.len-last.result ≡ length old = grind (arith, common_steps) in
    let some : 1 ≤ length old = grind (arith, common_steps) in
    last_on old _ c.len-last.result c.args.line c.index_mut.result.now all some refl c.index_mut.ensures.value
    ∙ ap (frames_on (at_line c.args.line)) c.self.view_is
