use Rattle.std.proofs.Common.{sym, ◌∙◌, ap}
use Rattle.raw_region.specs.Cells.{at_home}
use Rattle.raw_region.proofs.Runs.{map-injective, run_of_piece}
use Rattle.raw_region.proofs.piece.Piece.bytes.Goals as goal

pub returns-clause-bytes : goal.returns-clause-bytes
returns-clause-bytes c =
    let p = c.self.inside in let xs = at_home p.cells.cells in
    map-injective c.bytes-bytes.result.now xs (sym c.bytes-bytes.ensures ∙ run_of_piece p.cells.cells xs p.off p.len c.self.invariant.cells c.self.invariant.length) ∙ ap (λ v. v.bytes) c.self.view_is
