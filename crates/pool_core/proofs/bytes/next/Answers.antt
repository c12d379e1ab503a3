use Rattle.std.proofs.Common.{◌∙◌, ap, get_or, arith}
use Rattle.pool_core.proofs.Words.{header_word}
use Rattle.pool_core.proofs.bytes.next.Goals as goal

pub returns-clause-word : goal.returns-clause-word
returns-clause-word c = c.word.ensures ∙ header_word c.args.r.now.cells c.args.at 2 (omega arith)

pub returns-clause-link : goal.returns-clause-link
returns-clause-link c p s = c.word.ensures ∙ ap (λ h. get_or h 2 0) s.header
