use Rattle.std.proofs.Common.{map, rules, is_lt, sym, subst, List}
use Rattle.std.proofs.lemmas.List.Sorted.{ranks_by, IsStrictWeakOrder-flip, IsPermutation-map}
use Rattle.std.proofs.lemmas.Fn.{always_returns_same}
use Rattle.std.specs.List.Sorted.{IsPermutation}
use Rattle.snapshot_model.specs.Compared.{change_cmp, plain_change}
use Rattle.snapshot_model.proofs.CallerLemmas.{change_cmp_total}
use Rattle.snap_stats.specs.declared.changed.Changed.{Changed}
use Rattle.snap_stats.specs.Groups.{AreInOrder}
use Rattle.snap_stats.specs.Pairs.{whole_change}
use Rattle.snap_stats.proofs.Fronts.{whole_in_order}
use Rattle.snap_stats.proofs.change_order.all_in_order.Goals as goal

pub returns-clause-same : goal.returns-clause-same
returns-clause-same c =
    let moved : List Changed = c.sort_unstable_by.new.self in
    let same = IsPermutation-map whole_change c.args.changes.now moved c.sort_unstable_by.ensures.permutation in
    subst (IsPermutation (map whole_change c.args.changes.now)) (sym c.in_ok-answer.ensures) same

pub returns-clause-sorted : goal.returns-clause-sorted
returns-clause-sorted c =
    let plain = λ (s : Changed). plain_change c.args.texts.now (whole_change s) in
    let moved : List Changed = c.sort_unstable_by.new.self in
    let sorted = c.sort_unstable_by.ensures.sorted (λ a b. is_lt (change_cmp (plain b) (plain a))) (IsStrictWeakOrder-flip (λ a b. is_lt (change_cmp (plain a) (plain b))) (ranks_by change_cmp_total plain)) (always_returns_same _ _ _ (λ a r f k. search rules)) in
    subst (AreInOrder change_cmp (plain_change c.args.texts.now)) (sym c.in_ok-answer.ensures) (whole_in_order change_cmp whole_change (plain_change c.args.texts.now) moved sorted)
