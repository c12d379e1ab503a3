use Rattle.std.proofs.Common.{length, sym, ap, ◌∙◌}
use Rattle.arena_set.specs.Arena.{ArenaView}
use Rattle.arena_set.proofs.FreeChains.{counted}
use Rattle.arena_set.proofs.arena.Arena.free_pools.Goals as goal

pub returns-clause-free : goal.returns-clause-free
returns-clause-free c = sym (counted c.self.inside.region c.self.inside.first c.self.inside.free c.self.inside.used c.self.invariant.list) ∙ ap (λ (v : ArenaView). length v.free) c.self.view_is
