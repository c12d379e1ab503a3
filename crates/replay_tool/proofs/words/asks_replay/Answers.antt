use Rattle.std.proofs.Common.{◌∙◌, ap, arith}
use Rattle.std.specs.Prelude.{codes}
use Rattle.std.specs.Str.{bytes_eq}
use Rattle.replay_tool.specs.Words.{texts_of}
use Rattle.replay_tool.proofs.RunLemmas.{one_word, is_the_word}
use Rattle.replay_tool.proofs.words.asks_replay.Goals as goal

pub returns-in-len1 : goal.returns-in-len1
returns-in-len1 c =
    is_the_word (texts_of c.args.words.now) _ c.eq.result (one_word c.args.words.now c.word-item.result (omega arith) (omega arith) c.word-item.is)
    (c.eq.ensures ∙ ap (λ t. bytes_eq t (codes "replay")) c.as_str.ensures.value)
