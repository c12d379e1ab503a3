use Rattle.std.proofs.Common.{ℕ, ◌+◌, ◌++◌, List, length, map, replicate, Some, None, refl, sym, ◌∙◌, ap}
use Rattle.std.specs.List.{refill, length_refill}
use Rattle.raw_region.specs.Cells.{at_home}
use Rattle.raw_region.specs.Region.{with_bytes}
use Rattle.raw_region.proofs.Runs.{at_home-behind, at_home-map, map-injective, run_of_piece, piece_refilled}
use Rattle.raw_region.proofs.piece.Piece.bytes_mut.Goals as goal

pub invariant_of-self-lent : goal.invariant_of-self-lent
invariant_of-self-lent c = λ w.
    let p = c.self.inside in let cells = p.cells.cells in let xs = at_home cells in let inv = c.self.invariant in let ys = refill p.len xs w in
    let written = piece_refilled cells xs p.off p.len inv.cells inv.length w in let are = ap at_home written ∙ at_home-behind p.off (map Some ys) ∙ at_home-map ys in
    record {
      start = inv.start;
      cells = written ∙ ap (λ l. replicate p.off None ++ map Some l) (sym are);
      length = ap length are ∙ sym (length_refill p.len xs w (sym inv.length));
      some = inv.some;
      addresses = inv.addresses;
    }

pub returns : goal.returns
returns c =
    let p = c.self.inside in let cells = p.cells.cells in let xs = at_home cells in let inv = c.self.invariant in
    let bytes_are = λ (w : List ℕ). ap at_home (piece_refilled cells xs p.off p.len inv.cells inv.length w) ∙ at_home-behind p.off (map Some (refill p.len xs w)) ∙ at_home-map (refill p.len xs w) ∙ ap (λ n. refill n xs w) (sym inv.length) in (
      (
        refl,
        λ w. (λ i. record { place = p.base + p.off; maker = record { start = p.start; base = p.base }; bytes = bytes_are w i }) ∙ ap (λ v. with_bytes v w) c.self.view_is,
      ),
      record {
        writes_back = tt;
        value = map-injective c.bytes_mut.result.now xs (sym c.bytes_mut.ensures.value ∙ run_of_piece cells xs p.off p.len inv.cells inv.length) ∙ ap (λ v. v.bytes) c.self.view_is;
      },
    )
