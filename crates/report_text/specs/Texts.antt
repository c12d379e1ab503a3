-- The texts of a step and of a run's numbers, over the trace that was run.
use Rattle.std.specs.Prelude.{ℕ, List, ◌∷◌, slice_get}
use Rattle.mem_base.specs.declared.reply.Step.{Step}
use Rattle.mem_base.specs.declared.reply.Totals.{Totals}
use Rattle.mem_base.specs.declared.trace.Rule.{Rule}
use Rattle.mem_base.specs.declared.trace.Trace.{Trace}
use Rattle.trace_model.specs.Plain.{plain}
use Rattle.trace_model.specs.Rules.{rule_word}
use Rattle.trace_model.specs.Spelling.{blank}
use Rattle.event_model.specs.Events.{action_after}
use Rattle.event_model.specs.Replies.{plain_reply}
use Rattle.report_model.specs.Report.{lines_for, owner_word, summary_lines}

-- the text of a step with that number, by the operation that its entry names
abbrev pub step_text : Trace → ℕ → Step → List ℕ
step_text trace number step =
    let tracks = (plain trace).tracks in
    lines_for number (slice_get tracks step.entry.track) (action_after tracks step.entry.track step.entry.at)
    (plain_reply trace.texts step.reply)

-- the summary of these numbers and this status, with the name of the lock's owner
abbrev pub summary_of : Trace → Totals → ℕ → List ℕ
summary_of trace totals status = summary_lines (owner_word (plain trace).tracks totals.owner) totals status

-- a rule with the blank before it
abbrev pub next_rule : Rule → List ℕ
next_rule r = blank ∷ rule_word r
