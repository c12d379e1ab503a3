use Rattle.std.proofs.Common.{suc, refl, inl, inr, arith}
use Rattle.std.proofs.lemmas.Bool.Decides.{leb_tells}
use Rattle.pool_core.proofs.Stands.{full_by_words}
use Rattle.pool_core.proofs.bytes.is_full.Goals as goal

pub returns-then-word-eq0 : goal.returns-then-word-eq0
returns-then-word-eq0 c p s =
    let t = full_by_words c.args.r.now.cells c.args.at p s c.word.result c.word-ends.result c.word.ensures c.word-ends.ensures in
    let zero = c.if-word-eq0.true in
    elim (leb_tells (suc c.high.result) c.low.result) [
      | inl w ↦ rw w.0 ((λ _. t.0 (zero, omega (arith, w.1, c.high.ensures, c.low.ensures))), (λ _. refl))
      | inr w ↦ rw w.0 ((λ h. absurd (cc)), (λ h. absurd (let y = (t.1 h).1 in omega (arith, w.1, c.high.ensures, c.low.ensures))))
    ]
