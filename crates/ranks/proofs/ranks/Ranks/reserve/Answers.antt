use Rattle.std.proofs.Common.{sym, subst, arith}
use Rattle.ranks.specs.Ranks.{IsRanked}
use Rattle.ranks.proofs.Growing.{still_ranked}
use Rattle.ranks.proofs.ranks.Ranks.reserve.Goals as goal

pub invariant_of-self-2 : goal.invariant_of-self-2
invariant_of-self-2 c =
    let e = c.reserve.ensures.nodes in let room = c.in_ok-reserve.ensures.room in let space = c.self.invariant.space in
    subst (λ xs. IsRanked xs c.grow.new.ranks.items c.self.inside.lasts.items c.reserve.new.self.room) (sym e)
    (still_ranked c.self.inside.chain.nodes c.self.inside.ranks.items c.grow.new.ranks.items c.self.inside.lasts.items c.self.inside.chain.room c.reserve.new.self.room c.self.invariant c.grow.ensures.same (omega (arith, c.grow.ensures.more)) (omega (arith, c.grow.ensures.most)))
