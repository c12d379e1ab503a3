use Rattle.std.proofs.Common.{◌≡◌, ◌≤◌, ◌∙◌, ap, sym, subst, length}
use Rattle.block_model.specs.Block.{carried, size_of}
use Rattle.debug_guard.specs.Guard.{Guard, guard_extent}
use Rattle.debug_guard.proofs.GuardLemmas.{length-carried, same_stretch, size_at, splice-carried}
use Rattle.debug_guard.proofs.guarded.carry.Goals as goal

pub returns-clause-body : goal.returns-clause-body
returns-clause-body c =
    let from = size_at c.from.inside.piece c.from.inside.size c.from.invariant.room in
    let to = size_at c.to.inside.piece c.to.inside.size c.to.invariant.room in
    let m : size_of c.args.from.now.body ≡ c.from.inside.size = ap (λ (g : Guard). size_of g.body) (sym c.from.view_is) ∙ from.0 in
    let n : size_of c.args.to.now.body ≡ c.to.inside.size = ap (λ (g : Guard). size_of g.body) (sym c.to.view_is) ∙ to.0 in
    let long : 16 ≤ length c.args.from.now.body = subst (λ (g : Guard). 16 ≤ length g.body) c.from.view_is from.1 in
    c.write.ensures ∙ (λ i. record c.args.to.now {
      body = splice-carried c.args.from.now.body c.args.to.now.body c.body.result.now c.min-count.result c.from.inside.size c.to.inside.size c.body.ensures.bytes c.min-count.ensures m n long i;
    })

pub returns-clause-size : goal.returns-clause-size
returns-clause-size c =
    let to = size_at c.to.inside.piece c.to.inside.size c.to.invariant.room in
    let long : 16 ≤ length c.args.to.now.body = subst (λ (g : Guard). 16 ≤ length g.body) c.to.view_is to.1 in
    ap (λ (g : Guard). length g.body) (returns-clause-body c) ∙ length-carried c.args.from.now.body c.args.to.now.body long

pub returns-clause-extent : goal.returns-clause-extent
returns-clause-extent c =
    let to = size_at c.to.inside.piece c.to.inside.size c.to.invariant.room in
    let long : 16 ≤ length c.args.to.now.body = subst (λ (g : Guard). 16 ≤ length g.body) c.to.view_is to.1 in
    ap guard_extent (returns-clause-body c) ∙ same_stretch c.args.to.now (carried c.args.from.now.body c.args.to.now.body) (length-carried c.args.from.now.body c.args.to.now.body long)
