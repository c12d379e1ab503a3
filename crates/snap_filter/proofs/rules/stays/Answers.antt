use Rattle.std.proofs.Common.{◌≡◌, ◌<◌, List, length, ap, sym, subst, get_or, arith}
use Rattle.std.specs.Prelude.{All}
use Rattle.snap_filter.specs.declared.rules.HeldRule.{HeldRule}
use Rattle.snap_filter.specs.Held.{HasTrace}
use Rattle.snap_filter.proofs.rules.stays.Goals as goal

pub is_about-about-requires : goal.is_about-about-requires
is_about-about-requires c =
    let known : All (HasTrace c.args.row.now) c.loop-rule.rules = subst (λ (rs : List HeldRule). All (HasTrace c.args.row.now) rs) (sym c.loop-rule.invariant.same) c.requires in
    known c.loop-rule.rule-index c.rule-item.result (omega (arith, c.loop-rule-test.true, c.loop-rule.auto.rules))
