use Rattle.std.proofs.Common.{◌≡◌, length, rules, arith, subst}
use Rattle.std.specs.Ordering.{is_lt}
use Rattle.std.proofs.lemmas.Fn.{always_returns_same}
use Rattle.std.proofs.lemmas.List.Sorted.{ranks_by}
use Rattle.trace_table.specs.Ranks.{text_cmp}
use Rattle.trace_table.proofs.RankLemmas.{sorted_numbers, text_cmp_total, AreFirst}
use Rattle.trace_table.proofs.ranks.in_order.Goals as goal

pub returns : goal.returns
returns c =
    let texts = c.args.texts.now in
    let all : c.loop-id.id ≡ length texts = omega (arith, c.len-id-end.ensures.count) in
    sorted_numbers texts c.loop-id.order.items c.sort_unstable_by.new.self.items c.len-id-end.ensures.table
    (subst (λ n. AreFirst n c.loop-id.order.items) all c.loop-id.invariant) c.sort_unstable_by.ensures.permutation
    (c.sort_unstable_by.ensures.sorted (λ a b. is_lt (text_cmp texts a b)) (ranks_by (text_cmp_total texts) (λ a. a))
    (always_returns_same _ _ _ (λ a r f k. search rules)))
