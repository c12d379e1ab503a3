use Rattle.std.proofs.Common.{sym, ◌∙◌, arith}
use Rattle.raw_region.proofs.CallerLemmas.{home_part}
use Rattle.pool_core.proofs.Words.{header_word}
use Rattle.pool_core.proofs.header.word.Goals as goal

pub read_word-requires : goal.read_word-requires
read_word-requires c = let few = c.requires.one in home_part c.args.r.now.cells c.args.at 48 _ 8 c.requires.home (omega arith) (omega arith)

pub returns : goal.returns
returns c = c.read_word.ensures ∙ sym (header_word c.args.r.now.cells c.args.at c.args.k c.requires.one)
