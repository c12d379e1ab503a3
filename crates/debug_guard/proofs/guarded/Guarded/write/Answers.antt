use Rattle.std.proofs.Common.{◌≡◌, ◌+◌, ◌++◌, ◌∙◌, ap, length, take, drop, arith, length-take}
use Rattle.raw_region.specs.Region.{with_bytes}
use Rattle.debug_guard.specs.Guard.{guard_at}
use Rattle.debug_guard.proofs.GuardLemmas.{write_body-view}
use Rattle.debug_guard.proofs.guarded.Guarded.write.Goals as goal

pub returns : goal.returns
returns c =
    let p = c.self.inside.piece in let n = c.self.inside.size in let new = c.write_at.new.body in let bytes = c.args.bytes.now in
    let split = c.split_at_mut-rest.ensures in let behind = c.split_at_mut-rest.result.1.now in
    let front : c.split_at_mut-rest.result.0.now ≡ take 8 p.bytes = split.front ∙ ap (take 8) c.bytes_mut.ensures.value in
    let back : behind ≡ drop 8 p.bytes = split.back ∙ ap (drop 8) c.bytes_mut.ensures.value in
    let was : take (n + 16) behind ≡ c.args.self.now.body = ap (take (n + 16)) back ∙ ap (λ g. g.body) c.self.view_is in
    let is : new ≡ take c.args.at c.args.self.now.body ++ bytes ++ drop (c.args.at + length bytes) c.args.self.now.body =
    c.write_at.ensures ∙ ap (λ body. take c.args.at body ++ bytes ++ drop (c.args.at + length bytes) body) was in
    let long : length new ≡ n + 16 = omega (arith, c.write_at.auto.body, split.back_len, ap length c.bytes_mut.ensures.value, c.self.invariant.room, length-take (n + 16) behind) in
    (λ i. guard_at (with_bytes p (front i ++ (new ++ drop (n + 16) (back i)))) n) ∙ write_body-view p n new c.self.invariant.room long ∙ (λ i. record (c.self.view_is i) { body = is i })
