use Rattle.std.proofs.Common.{length, sym, subst, ap, ◌∙◌}
use Rattle.raw_region.specs.Cells.{AllHome}
use Rattle.raw_region.proofs.CallerLemmas.{all_home-zeroed, length-zeroed}
use Rattle.sources.proofs.regions.make_region.Goals as goal

pub returns : goal.returns
returns c = let e = c.in_ok-region.ensures in let z = e.1 in record { base = e.0; len = ap length z ∙ length-zeroed c.args.len; home = subst AllHome (sym z) (all_home-zeroed c.args.len) }
