use Rattle.std.proofs.Common.{length, refl}
use Rattle.raw_region.proofs.Rules.{home_written}
use Rattle.raw_region.proofs.laws.home_after_a_write.Goals as goal

pub returns : goal.returns
returns c = λ cells off bytes inside o k home. home_written cells off (length bytes) inside bytes refl o k home
