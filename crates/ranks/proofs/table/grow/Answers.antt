use Rattle.std.proofs.Common.{◌∙◌, ap, length, arith}
use Rattle.std.proofs.lemmas.List.{length_push}
use Rattle.ranks.specs.Ranks.{rank_in}
use Rattle.ranks.proofs.Growing.{rank_more}
use Rattle.ranks.proofs.table.grow.Goals as goal

pub loop-ranks-preserved : goal.loop-ranks-preserved
loop-ranks-preserved c =
    let i = c.loop-ranks.invariant in let long = ap length c.in_ok-push.ensures.items ∙ length_push c.loop-ranks.ranks.items 0 in
    record {
      same = λ x. ap (λ xs. rank_in xs x) c.in_ok-push.ensures.items ∙ (rank_more c.loop-ranks.ranks.items x ∙ i.same x);
      more = omega (arith, i.more);
      most = omega (arith, i.most, c.loop-ranks-test.true);
    }
