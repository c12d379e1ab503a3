use Rattle.std.proofs.Common.{◌↔◌, ◌*◌, ◌<◌, ◌≤◌, IsTrue, subst}
use Rattle.extents.specs.Sums.{Has}
use Rattle.extents.specs.Extent.{piece_extent}
use Rattle.py_heap.specs.Heap.{StaysInPool}
use Rattle.py_heap.specs.State.{state_of}
use Rattle.py_heap.proofs.Holds.{stays_in_pool}
use Rattle.py_heap.proofs.heap.Heap.fits_in_place.Goals as goal

pub returns-clause-size : goal.returns-clause-size
returns-clause-size c =
    let e = piece_extent c.args.piece.now in
    let fits = subst (λ s. IsTrue c.fits.result ↔ ((c.args.n ≤ s) × (3 * s < 4 * c.args.n))) c.len-size.ensures.len c.fits.ensures in
    subst (λ h. Has e h.loans → StaysInPool e c.args.n h c.fits.result) c.self.view_is (λ loan. stays_in_pool (state_of c.self.inside.pools) c.self.invariant e c.args.n c.fits.result fits loan)
