use Rattle.std.proofs.Common.{◌≡◌, ◌+◌, ◌^◌, ◌≤◌, map, take, Some}
use Rattle.std.specs.Int.{to_le_bytes, w64}
use Rattle.raw_region.specs.Cells.{with_run}
use Rattle.raw_region.proofs.region.Region.write_word.Given as goal

abbrev pub invariant-loop-i : goal.invariant-loop-i
invariant-loop-i l = record {
  inside : l.off + 8 ≤ 2 ^ 48;
  word : l.bytes ≡ to_le_bytes w64 l.w;
  written : l.self.cells ≡ with_run l.fn.self.cells l.off l.i (map Some (take l.i l.bytes));
  same : (l.self.base ≡ l.fn.self.base) × (l.self.maker ≡ l.fn.self.maker);
}
