use Rattle.std.proofs.Common.{◌≡◌, ◌+◌, ◌≤◌, ◌∙◌, length, sym, subst, ap, arith}
use Rattle.raw_region.specs.Cells.{AtHome, AreLent}
use Rattle.raw_region.proofs.CallerLemmas.{home_zeroed, length-zeroed, length-away, lent_away}
use Rattle.debug_guard.proofs.tests.lend.Goals as goal

pub carve-piece-requires : goal.carve-piece-requires
carve-piece-requires c = (c.requires.0, subst (λ l. AtHome l 0 c.args.len) (sym c.in_ok-region.ensures.1) (home_zeroed c.args.len 0 c.args.len (omega arith)))

pub returns : goal.returns
returns c =
    let old = c.in_ok-region.region.cells in let carved = c.carve-piece.ensures in
    let fresh : length old ≡ c.args.len = ap length c.in_ok-region.ensures.1 ∙ length-zeroed c.args.len in
    let inside : 0 + c.args.len ≤ length old = omega (arith, fresh) in
    let all : length c.carve-piece.new.self.cells ≡ c.args.len = ap length carved.cells ∙ length-away old 0 c.args.len inside ∙ fresh in
    let place : c.carve-piece.result.place ≡ c.carve-piece.new.self.base = omega (arith, carved.piece.0, carved.same.0) in (
      λ i. record { place = place i; len = (carved.piece.3 ∙ sym all) i; maker = (carved.piece.1 ∙ sym carved.same.1) i },
      subst (λ n. AreLent c.carve-piece.new.self.cells 0 n) (sym all) (subst (λ l. AreLent l 0 c.args.len) (sym carved.cells) (lent_away old 0 c.args.len inside)),
      carved.piece.3,
    )
