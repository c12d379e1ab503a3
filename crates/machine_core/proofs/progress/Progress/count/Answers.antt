use Rattle.std.proofs.Common.{◌∙◌, refl, sym}
use Rattle.std.proofs.lemmas.List.{get_or_default}
use Rattle.machine_core.proofs.UnfinishedLemmas.{last_done, more_left}
use Rattle.machine_core.proofs.progress.Progress.count.Goals as goal

pub returns-then-not-more-clause-is : goal.returns-then-not-more-clause-is
returns-then-not-more-clause-is c =
    last_done c.args.trace.now c.args.self.now _ c.requires.is c.args.t c.index.result.now c.requires.track
    (c.index.ensures ∙ get_or_default c.args.self.now.done.items c.args.t _ 0 c.requires.track) refl
    (sym c.has_op-more.ensures ∙ c.if-not-more.true) c.take_out.ensures

pub returns-else-not-more-clause-is : goal.returns-else-not-more-clause-is
returns-else-not-more-clause-is c =
    more_left c.args.trace.now c.args.self.now _ c.requires.is c.args.t c.index.result.now c.requires.track
    (c.index.ensures ∙ get_or_default c.args.self.now.done.items c.args.t _ 0 c.requires.track) refl
    (sym c.has_op-more.ensures ∙ c.if-not-more.false) refl
