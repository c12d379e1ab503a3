use Rattle.std.proofs.Common.{ℕ, arith, length-append}
use Rattle.block_model.specs.Block.{body_of}
use Rattle.block_model.proofs.sizes_add_up.Goals as goal

pub returns : goal.returns
unfolding body_of
returns c = λ v bytes. grind (arith, length-append {A = ℕ})
