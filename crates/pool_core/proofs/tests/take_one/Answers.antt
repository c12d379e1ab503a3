use Rattle.std.proofs.Common.{◌≡◌, ◌+◌, ap, ◌∙◌, arith}
use Rattle.layout_model.specs.Sizes.{capacity}
use Rattle.layout_model.specs.Pool.{HasRoom}
use Rattle.layout_model.specs.Plain.{after_taking}
use Rattle.pool_core.proofs.TestLemmas.{whole_kept}
use Rattle.pool_core.proofs.tests.take_one.Goals as goal

pub returns : goal.returns
returns c =
    let t = c.requires.pool in
    let size : capacity t.p.pool.class ≡ 31 = ap capacity t.class in
    let few = c.requires.room in let live = t.live in
    let room : HasRoom t.p.pool = omega arith in
    let done = c.take.ensures.taken t.p t.stands room in
    record { p = after_taking t.p; stands = done.stands; class = t.class; live = done.live ∙ ap (λ n. n + 1) t.live; whole = whole_kept _ _ c.take.ensures.only t.whole }
