use Rattle.std.proofs.Common.{length, refl}
use Rattle.raw_region.proofs.Rules.{lent_kept}
use Rattle.raw_region.proofs.laws.lent_beside_a_run.Goals as goal

pub returns : goal.returns
returns c = λ cells off run inside o k out lent. lent_kept cells off (length run) inside run refl o k out lent
