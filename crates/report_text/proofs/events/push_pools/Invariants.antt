use Rattle.std.proofs.Common.{◌≡◌, ◌++◌, take}
use Rattle.std.specs.List.{flat_map}
use Rattle.report_text.proofs.Pieces.{next_pool}
use Rattle.report_text.proofs.events.push_pools.Given as goal

-- what the first pool left, and the pools so far with a comma before each
abbrev pub invariant-loop-pool : goal.invariant-loop-pool
invariant-loop-pool l = l.text.items ≡ l.initial.text.items ++ flat_map next_pool (take l.pool-index l.rest)
