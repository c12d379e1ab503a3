use Rattle.std.proofs.Common.{map, arith, rules, is_lt}
use Rattle.std.proofs.lemmas.List.Sorted.{ranks_by, IsStrictWeakOrder-flip}
use Rattle.std.proofs.lemmas.Fn.{always_returns_same}
use Rattle.snapshot_model.specs.Stats.{group_cmp, plain_group}
use Rattle.snapshot_model.proofs.CallerLemmas.{group_cmp_total}
use Rattle.snap_stats.specs.declared.groups.Summed.{Summed}
use Rattle.snap_stats.specs.Groups.{whole}
use Rattle.snap_stats.proofs.Fronts.{as_many, is_front, is_whole}
use Rattle.snap_stats.proofs.order.first_in_order.Goals as goal

pub returns-then-most-groups-clause-len : goal.returns-then-most-groups-clause-len
returns-then-most-groups-clause-len c =
    let long = as_many whole c.args.groups.now c.in_ok-all.all c.in_ok-all.ensures.same in
    omega (arith, long, c.if-most-groups.true)

pub returns-then-most-groups-clause-front : goal.returns-then-most-groups-clause-front
returns-then-most-groups-clause-front c = is_whole group_cmp whole (plain_group c.args.texts.now) (map whole c.args.groups.now) c.in_ok-all.all c.in_ok-all.ensures.same c.in_ok-all.ensures.sorted

pub returns-clause-len : goal.returns-clause-len
returns-clause-len c =
    let parts = c.select_nth_unstable_by-front.result in
    let long = as_many whole parts.0.now c.in_ok-first.first c.in_ok-first.ensures.same in
    omega (arith, long, c.if-most-groups.false, c.select_nth_unstable_by-front.ensures.front_len)

pub returns-clause-front : goal.returns-clause-front
returns-clause-front c =
    let texts = c.args.texts.now in
    let plain = λ (s : Summed). plain_group texts (whole s) in
    let parts = c.select_nth_unstable_by-front.result in
    let weak = IsStrictWeakOrder-flip (λ a b. is_lt (group_cmp (plain a) (plain b))) (ranks_by group_cmp_total plain) in
    let split = c.select_nth_unstable_by-front.ensures.partitioned (λ a b. is_lt (group_cmp (plain b) (plain a))) weak (always_returns_same _ _ _ (λ a r f k. search rules)) in
    is_front group_cmp whole (plain_group texts) group_cmp_total c.args.groups.now parts.0.now parts.2.now parts.1.now c.in_ok-first.first c.select_nth_unstable_by-front.ensures.permutation split c.in_ok-first.ensures.same c.in_ok-first.ensures.sorted
