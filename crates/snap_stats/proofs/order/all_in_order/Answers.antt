use Rattle.std.proofs.Common.{map, rules, is_lt, sym, subst, List}
use Rattle.std.proofs.lemmas.List.Sorted.{ranks_by, IsStrictWeakOrder-flip, IsPermutation-map}
use Rattle.std.proofs.lemmas.Fn.{always_returns_same}
use Rattle.std.specs.List.Sorted.{IsPermutation}
use Rattle.snapshot_model.specs.Stats.{group_cmp, plain_group}
use Rattle.snapshot_model.proofs.CallerLemmas.{group_cmp_total}
use Rattle.snap_stats.specs.declared.groups.Summed.{Summed}
use Rattle.snap_stats.specs.Groups.{whole, AreInOrder}
use Rattle.snap_stats.proofs.Fronts.{whole_in_order}
use Rattle.snap_stats.proofs.order.all_in_order.Goals as goal

pub returns-clause-same : goal.returns-clause-same
returns-clause-same c =
    let moved : List Summed = c.sort_unstable_by.new.self in
    let same = IsPermutation-map whole c.args.groups.now moved c.sort_unstable_by.ensures.permutation in
    subst (IsPermutation (map whole c.args.groups.now)) (sym c.in_ok-answer.ensures) same

pub returns-clause-sorted : goal.returns-clause-sorted
returns-clause-sorted c =
    let plain = λ (s : Summed). plain_group c.args.texts.now (whole s) in
    let moved : List Summed = c.sort_unstable_by.new.self in
    let sorted = c.sort_unstable_by.ensures.sorted (λ a b. is_lt (group_cmp (plain b) (plain a))) (IsStrictWeakOrder-flip (λ a b. is_lt (group_cmp (plain a) (plain b))) (ranks_by group_cmp_total plain)) (always_returns_same _ _ _ (λ a r f k. search rules)) in
    subst (AreInOrder group_cmp (plain_group c.args.texts.now)) (sym c.in_ok-answer.ensures) (whole_in_order group_cmp whole (plain_group c.args.texts.now) moved sorted)
