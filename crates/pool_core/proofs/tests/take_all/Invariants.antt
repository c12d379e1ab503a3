use Rattle.std.proofs.Common.{◌≤◌}
use Rattle.pool_core.specs.Tests.{IsTestPool}
use Rattle.pool_core.proofs.tests.take_all.Given as goal

-- each turn takes one block
abbrev pub invariant-loop-i : goal.invariant-loop-i
invariant-loop-i l = record { pool : IsTestPool l.r.cells l.i; few : l.full ≤ l.i }
