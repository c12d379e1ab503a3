use Rattle.std.proofs.Common.{◌≡◌, ◌+◌, ◌^◌, ◌<◌, ◌≤◌, replicate, Some}
use Rattle.raw_region.specs.Cells.{with_run}
use Rattle.raw_region.proofs.region.Region.fill.Given as goal

abbrev pub invariant-loop-i : goal.invariant-loop-i
invariant-loop-i l = record {
  inside : 0 < l.len → l.off + l.len ≤ 2 ^ 48;
  written : l.self.cells ≡ with_run l.fn.self.cells l.off l.i (replicate l.i (Some l.b));
  same : (l.self.base ≡ l.fn.self.base) × (l.self.maker ≡ l.fn.self.maker);
}
