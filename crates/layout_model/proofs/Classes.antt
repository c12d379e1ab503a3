-- Classes and sizes.
use Rattle.std.proofs.Common.{arith}
use Rattle.layout_model.specs.Sizes.{ClassesAreLeast}

pub classes_are_least : ClassesAreLeast
classes_are_least m low high = (omega arith, omega arith, λ c h. omega arith)
