use Rattle.std.proofs.Common.{◌≡◌, ℕ, ◌<◌, ◌≤◌, ◌++◌, true, false, map, get_or, take, drop}
use Rattle.std.specs.Prelude.{◌==◌}
use Rattle.std.specs.List.{list_all, slice_split}
use Rattle.trace_model.specs.Operands.{is_between}
use Rattle.trace_model.specs.Spelling.{blank}
use Rattle.line_text.proofs.lines.cut.Given as goal

-- the words so far, and those of what is left from the last blank on, are all; no byte behind that blank is one
abbrev pub invariant-loop-at : goal.invariant-loop-at
invariant-loop-at l = record {
  parts : map (λ w. w.now) l.words.items ++ slice_split (λ b. b == blank) (drop l.start l.line) ≡ slice_split (λ b. b == blank) l.line;
  begun : l.start ≤ l.at;
  whole : (k : ℕ) → l.start ≤ k → k < l.at → (get_or l.line k 0 == blank) ≡ false;
  plain : list_all (is_between 32 126) (take l.at l.line) ≡ true;
}
