-- Rules as they are held against rows, in which files and tracebacks are numbers.
use Rattle.std.specs.Prelude.{ℕ, ◌<◌, Bool, true, not, ◌&&◌, ◌||◌, List, Option, Some, None, IfSome, length}
use Rattle.std.specs.List.{list_any}
use Rattle.mem_base.specs.Name.{Name}
use Rattle.mem_base.specs.declared.reply.Frame.{Frame}
use Rattle.mem_base.specs.declared.trace.Rule.{Rule}
use Rattle.mem_base.specs.declared.trace.Rule.TheVariants.{File, Domain}
use Rattle.frame_stack.specs.declared.tracebacks.TbId.{TbId}
use Rattle.snapshot_model.specs.Rules.{is_or_none}
use Rattle.trace_table.specs.declared.key.TraceKey.{TraceKey}
use Rattle.trace_table.specs.declared.key.TraceKey.TheVariants as keys
use Rattle.trace_table.specs.declared.snapshot.Row.{Row}
use Rattle.snap_filter.specs.Questions.{AskedOfTraces, trace_fits}
use Rattle.snap_filter.specs.declared.rules.HeldRule.{HeldRule}

-- the rule, over these texts and tracebacks: one of a domain alone asks for no frames
abbrev pub held_rule : List Name → List (List Frame) → Rule → HeldRule
held_rule texts table (File inclusive all_frames line domain pattern) = record {
  inclusive = inclusive;
  domain = domain;
  frames = Some (record {
    files = record { pattern = pattern; texts = texts };
    line = line;
    all_frames = all_frames;
    table = table;
  });
}
held_rule texts table (Domain inclusive domain) = record {
  inclusive = inclusive;
  domain = Some domain;
  frames = None;
}

-- the domain of a key: that of the allocators, 0, or that of a marked number
abbrev pub domain_in : TraceKey → ℕ
domain_in (keys.Block name) = 0
domain_in (keys.Number domain number) = domain

-- whether a frame of the traceback fits, where any is asked for
abbrev pub frames_fit : Option AskedOfTraces → TbId → Bool
frames_fit None trace = true
frames_fit (Some asked) trace = trace_fits asked trace

-- whether the rule is about the row
abbrev pub is_about : HeldRule → Row → Bool
is_about rule row = frames_fit rule.frames row.trace && is_or_none rule.domain (domain_in row.key)

-- the row's traceback has a number in the table that the rule looks at
abbrev pub HasTrace : Row → HeldRule → Type 0
HasTrace row rule = IfSome rule.frames (λ asked. row.trace.0 < length asked.table)

-- whether the row stays: an inclusive rule is about it, or none is inclusive, and no exclusive rule is
abbrev pub stays : List HeldRule → Row → Bool
stays rules row =
    (list_any (λ rule. rule.inclusive && is_about rule row) rules || not (list_any (λ rule. rule.inclusive) rules))
    && not (list_any (λ rule. not rule.inclusive && is_about rule row) rules)
