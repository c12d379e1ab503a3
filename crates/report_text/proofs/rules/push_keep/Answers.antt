use Rattle.trace_model.specs.Plain.{keyword_text}
use Rattle.trace_model.specs.declared.keyword.Keyword.TheVariants.{Keep}
use Rattle.report_text.proofs.Pieces.{rules_come_last}
use Rattle.report_text.proofs.rules.push_keep.Goals as goal

pub returns-clause-ok : goal.returns-clause-ok
returns-clause-ok c =
    rules_come_last c.push_rules.result _ _ _ _ _ (keyword_text Keep) _ _ c.args.rules.now c.in_ok-push_keyword.ensures.ok
    c.in_ok-push_name.ensures.ok c.in_ok-push_name-2.ensures.ok c.push_rules.ensures.ok
