use Rattle.std.proofs.Common.{rules, ◌≡◌, length, ap, arith}
use Rattle.arena_set.specs.Kept.{PlacedSet, spare_of}
use Rattle.arena_set.specs.Set.{SetView}
use Rattle.arena_set.proofs.Roomy.{with_room}
use Rattle.arena_set.proofs.set.ArenaSet.reserve_one.Goals as goal

pub invariant_of-self-2 : goal.invariant_of-self-2
invariant_of-self-2 c =
    let before : PlacedSet = record { usable = c.self.inside.usable.nodes; arenas = c.self.inside.arenas.items; spare = spare_of c.self.inside.spare } in
    let long : length before.arenas ≡ length c.args.self.now.arenas = ap (λ (v : SetView). length v.arenas) c.self.view_is in
    with_room before _ _ c.self.invariant 1 _ _ _ _ c.reserve-2.ensures.nodes c.reserve.ensures.items c.reserve-2.ensures.ranks (omega (arith, c.requires)) (search rules) (search rules)
