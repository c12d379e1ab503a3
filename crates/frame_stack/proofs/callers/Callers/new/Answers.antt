use Rattle.std.proofs.Common.{ap, ◌∙◌}
use Rattle.frame_stack.specs.Callers.{frames_in}
use Rattle.frame_stack.proofs.StackLemmas.{no_frames_in}
use Rattle.frame_stack.proofs.callers.Callers.new.Goals as goal

pub returns : goal.returns
returns c =
    let frames = ap frames_in c.in_ok-stacks.ensures ∙ no_frames_in c.args.tracks in
    λ i. record { files = c.args.files; frames = frames i; table = c.new.ensures i }
