use Rattle.std.proofs.Common.{◌≡◌, ◌-◌, [], ◌∷◌, length, get_or, map, set, Some, None, sym, subst, ◌∙◌, ap, arith}
use Rattle.std.specs.List.{refill}
use Rattle.raw_region.specs.Cells.{AtHome, away, bytes_of, with_run}
use Rattle.raw_region.proofs.Rules.{home_zeroed, zeroed_is}
use Rattle.raw_region.proofs.tests.a_piece_goes_and_comes_home_with_its_bytes.Goals as goal

pub carve-piece-requires : goal.carve-piece-requires
carve-piece-requires g c = (omega arith, subst (λ l. AtHome l 8 2) (sym c.in_ok-region.ensures.1) (home_zeroed 64 8 2 (omega arith)))

pub read_byte-back-requires : goal.read_byte-back-requires
read_byte-back-requires g c =
    let carved = c.carve-piece.ensures in let fresh = (c.in_ok-region.ensures.1 ∙ zeroed_is 64) in
    let cells = carved.cells ∙ ap (λ l. away l 8 2) fresh in
    let off : c.carve-piece.result.place - c.carve-piece.new.self.base ≡ 8 = omega (arith, carved.piece.0, carved.same.0) in
    let bytes : c.carve-piece.result.bytes ≡ 0 ∷ 0 ∷ [] = carved.piece.2 ∙ ap (λ l. bytes_of l 8 2) fresh in
    let lent : c.bytes_mut-bytes.result.now ≡ 0 ∷ 0 ∷ [] = c.bytes_mut-bytes.ensures.value ∙ bytes in
    let written : refill (length c.carve-piece.result.bytes) c.carve-piece.result.bytes (set c.bytes_mut-bytes.result.now 1 5) ≡ 0 ∷ 5 ∷ [] = λ i. refill (length (bytes i)) (bytes i) (set (lent i) 1 5) in
    (5, ap (λ l. get_or l 9 None) (c.mend.ensures.cells ∙ (λ i. with_run (cells i) (off i) (length (written i)) (map Some (written i)))))
