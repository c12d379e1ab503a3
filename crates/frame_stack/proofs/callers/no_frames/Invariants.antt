use Rattle.std.proofs.Common.{◌≡◌, [], replicate, None}
use Rattle.frame_stack.proofs.callers.no_frames.Given as goal

-- as many stacks so far
abbrev pub invariant-loop : goal.invariant-loop
invariant-loop l = l.stacks.items ≡ replicate l.counter (record { frames = []; known = None })
