use Rattle.std.proofs.Common.{◌∙◌, ap, refl, map, Some}
use Rattle.raw_region.specs.Cells.{zeroed}
use Rattle.raw_region.proofs.Runs.{map-replicate}
use Rattle.raw_region.proofs.region.Region.new.Goals as goal

pub returns : goal.returns
unfolding zeroed
returns c = (refl, c.take_apart-cells.ensures.1 ∙ ap (map Some) (ap (λ v. v.items) c.as_mut_ptr.ensures.unchanged ∙ c.in_ok-bytes.ensures.items_if_clones_equal (λ y h. h)) ∙ map-replicate c.args.len 0)
