use Rattle.std.proofs.Common.{map, arith, rules, is_lt}
use Rattle.std.proofs.lemmas.List.Sorted.{ranks_by, IsStrictWeakOrder-flip}
use Rattle.std.proofs.lemmas.Fn.{always_returns_same}
use Rattle.snapshot_model.specs.Compared.{change_cmp, plain_change}
use Rattle.snapshot_model.proofs.CallerLemmas.{change_cmp_total}
use Rattle.snap_stats.specs.declared.changed.Changed.{Changed}
use Rattle.snap_stats.specs.Pairs.{whole_change}
use Rattle.snap_stats.proofs.Fronts.{as_many, is_front, is_whole}
use Rattle.snap_stats.proofs.change_order.first_changes_in_order.Goals as goal

pub returns-then-most-changes-clause-len : goal.returns-then-most-changes-clause-len
returns-then-most-changes-clause-len c =
    let long = as_many whole_change c.args.changes.now c.in_ok-all.all c.in_ok-all.ensures.same in
    omega (arith, long, c.if-most-changes.true)

pub returns-then-most-changes-clause-front : goal.returns-then-most-changes-clause-front
returns-then-most-changes-clause-front c = is_whole change_cmp whole_change (plain_change c.args.texts.now) (map whole_change c.args.changes.now) c.in_ok-all.all c.in_ok-all.ensures.same c.in_ok-all.ensures.sorted

pub returns-clause-len : goal.returns-clause-len
returns-clause-len c =
    let parts = c.select_nth_unstable_by-front.result in
    let long = as_many whole_change parts.0.now c.in_ok-first.first c.in_ok-first.ensures.same in
    omega (arith, long, c.if-most-changes.false, c.select_nth_unstable_by-front.ensures.front_len)

pub returns-clause-front : goal.returns-clause-front
returns-clause-front c =
    let texts = c.args.texts.now in
    let plain = λ (s : Changed). plain_change texts (whole_change s) in
    let parts = c.select_nth_unstable_by-front.result in
    let weak = IsStrictWeakOrder-flip (λ a b. is_lt (change_cmp (plain a) (plain b))) (ranks_by change_cmp_total plain) in
    let split = c.select_nth_unstable_by-front.ensures.partitioned (λ a b. is_lt (change_cmp (plain b) (plain a))) weak (always_returns_same _ _ _ (λ a r f k. search rules)) in
    is_front change_cmp whole_change (plain_change texts) change_cmp_total c.args.changes.now parts.0.now parts.2.now parts.1.now c.in_ok-first.first c.select_nth_unstable_by-front.ensures.permutation split c.in_ok-first.ensures.same c.in_ok-first.ensures.sorted
