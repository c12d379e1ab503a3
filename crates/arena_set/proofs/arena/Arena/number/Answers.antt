use Rattle.std.proofs.Common.{◌≡◌, ◌<◌, IsSome, Some, None, get_or, length, refl, sym, subst, arith}
use Rattle.layout_model.specs.Geometry.{first_pool}
use Rattle.arena_set.specs.FreeChain.{free_list}
use Rattle.arena_set.specs.Arena.{ArenaView, arena_view}
use Rattle.arena_set.proofs.Flats.{inside, read}
use Rattle.arena_set.proofs.Starteds.{length-started}
use Rattle.arena_set.proofs.Acts.{number_at, some_there}
use Rattle.arena_set.proofs.arena.Arena.number.Goals as goal

pub index-requires : goal.index-requires
index-requires c =
    let s = some_there _ (subst (λ (v : ArenaView). IsSome (get_or v.pools c.args.pool None)) (sym c.self.view_is) c.requires) in
    let lt : c.args.pool < length (arena_view c.self.inside.region (free_list c.self.inside.region c.self.inside.first c.self.inside.free c.self.inside.used) c.self.inside.numbers.items).pools = inside _ _ _ s.1 in
    let e = length-started c.self.inside.region.cells (first_pool c.self.inside.region.base) c.self.inside.numbers.items in omega arith

pub unreachable-requires : goal.unreachable-requires
unreachable-requires c =
    let s = some_there _ (subst (λ (v : ArenaView). IsSome (get_or v.pools c.args.pool None)) (sym c.self.view_is) c.requires) in
    let n = number_at c.self.inside.region (free_list c.self.inside.region c.self.inside.first c.self.inside.free c.self.inside.used) c.self.inside.numbers.items c.args.pool c.self.invariant.arena _ refl s.0 s.1 in let w = subst (λ o. o ≡ get_or c.self.inside.numbers.items c.args.pool o) c.in-None.is c.index.ensures in absurd (cc)

pub returns : goal.returns
returns c s there =
    let n = number_at c.self.inside.region (free_list c.self.inside.region c.self.inside.first c.self.inside.free c.self.inside.used) c.self.inside.numbers.items c.args.pool c.self.invariant.arena _ refl s (subst (λ (v : ArenaView). get_or v.pools c.args.pool None ≡ Some s) (sym c.self.view_is) there) in read c.self.inside.numbers.items c.args.pool c.index.result.now s.number c.in-Some.number n c.index.ensures c.in-Some.is
