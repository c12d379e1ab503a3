use Rattle.std.proofs.Common.{◌≡◌, ℕ, ◌*◌, ◌/◌, ◌%◌, ◌^◌, get_or, bit_and, ap, ◌∙◌, arith}
use Rattle.std.proofs.lemmas.Nat.Bits.{bit_at_clear_same, bit_at_clear_other}
use Rattle.std.specs.Int.{w64, bit_at, bit_not}
use Rattle.sources.proofs.BitLaws.{one_changed, others_kept, same_word}
use Rattle.sources.proofs.bits.clear_bit.Goals as goal

abbrev after : ℕ → ℕ → ℕ
after word k = bit_and word (bit_not w64 (1 * 2 ^ (k % 64) % 2 ^ 64))

pub returns-clause-clear : goal.returns-clause-clear
returns-clause-clear c = one_changed c.args.words.now.items c.args.k (after c.index.result.now c.args.k) c.requires 0 (bit_at_clear_same w64 c.index.result.now (c.args.k % 64) (omega arith))

pub returns-clause-others : goal.returns-clause-others
returns-clause-others c =
    let word : c.index.result.now ≡ get_or c.args.words.now.items (c.args.k / 64) 0 = same_word c.args.words.now.items c.args.k 0 c.requires c.index.result.now c.index.ensures in
    others_kept c.args.words.now.items c.args.k (after c.index.result.now c.args.k) c.requires (λ i lt other. bit_at_clear_other w64 c.index.result.now (c.args.k % 64) (omega arith) i lt other ∙ ap (λ w. bit_at w i) word)
