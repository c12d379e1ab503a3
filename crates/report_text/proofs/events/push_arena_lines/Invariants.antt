use Rattle.std.proofs.Common.{◌≡◌, ◌++◌, take}
use Rattle.std.specs.List.{flat_map}
use Rattle.report_model.specs.Report.{arena_line}
use Rattle.report_text.proofs.events.push_arena_lines.Given as goal

-- the lines so far
abbrev pub invariant-loop-arena : goal.invariant-loop-arena
invariant-loop-arena l = l.text.items ≡ l.fn.text.items ++ flat_map arena_line (take l.arena-index l.arenas)
