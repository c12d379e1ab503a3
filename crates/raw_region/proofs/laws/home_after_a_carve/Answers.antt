use Rattle.raw_region.proofs.Rules.{home_away, lent_away}
use Rattle.raw_region.proofs.laws.home_after_a_carve.Goals as goal

pub returns-clause-lent : goal.returns-clause-lent
returns-clause-lent c = λ cells off len inside. lent_away cells off len inside

pub returns-clause-home : goal.returns-clause-home
returns-clause-home c = λ cells off len inside o k out home. home_away cells off len inside o k out home
