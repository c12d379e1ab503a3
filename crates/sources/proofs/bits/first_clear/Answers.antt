use Rattle.std.proofs.Common.{◌≡◌, ℕ, ◌+◌, ◌*◌, ◌^◌, ◌<◌, length, get_or, refl, sym, subst, arith}
use Rattle.sources.specs.Bits.{bit_in}
use Rattle.sources.proofs.BitLaws.{all_before, first_is_clear, full_below, low}
use Rattle.sources.proofs.bits.first_clear.Goals as goal
use Rattle.sources.proofs.bits.first_clear.Goals.{After-trailing_ones}

module _ (c : After-trailing_ones) where
  abbrev word : ℕ
  word = get_or c.args.words.now c.loop-at.at 0

  some : word + 1 < 2 ^ 64
  some = omega (arith, c.if-word.true, c.type_inv.words c.loop-at.at)

pub returns-then-word-clause-clear : goal.returns-then-word-clause-clear
returns-then-word-clause-clear c =
    let l = low c.args.words.now c.loop-at.at c.loop-at.invariant (word c) refl (some c) in let in_loop = c.loop-at-test.true in
    subst (λ n. (c.loop-at.at * 64 + n < 64 * length c.args.words.now) × (bit_in c.args.words.now (c.loop-at.at * 64 + n) ≡ 0)) (sym c.trailing_ones.ensures)
    (omega arith, first_is_clear c.args.words.now c.loop-at.at c.loop-at.invariant (word c) refl (some c))

pub returns-then-word-clause-below : goal.returns-then-word-clause-below
returns-then-word-clause-below c =
    subst (λ n. (j : ℕ) → j < c.loop-at.at * 64 + n → bit_in c.args.words.now j ≡ 1) (sym c.trailing_ones.ensures)
    (all_before c.args.words.now c.loop-at.at c.loop-at.invariant (word c) refl (some c))

pub unreachable-requires : goal.unreachable-requires
unreachable-requires c =
    let s = c.requires.some in let past = c.loop-at-test.false in let inside = s.inside in let zero = s.clear in
    let one = full_below c.args.words.now c.loop-at.at c.loop-at.invariant s.k (omega arith) in absurd (omega arith)
