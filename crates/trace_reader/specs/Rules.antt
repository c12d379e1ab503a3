-- What the functions that read rules answer.
use Rattle.std.specs.Prelude.{Bool}
use Rattle.mem_base.specs.declared.trace.Rule.{Rule}
use Rattle.mem_base.specs.declared.trace.Rule.TheVariants.{File}
use Rattle.trace_reader.specs.declared.rules.FileRule.{FileRule}

-- the rule that a reader found behind its first part
abbrev pub rule_of : Bool → FileRule → Rule
rule_of inclusive found = File inclusive found.all_frames found.line found.domain found.pattern.now
