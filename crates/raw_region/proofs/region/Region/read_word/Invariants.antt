use Rattle.std.proofs.Common.{◌≡◌, ◌+◌, ◌^◌, ◌≤◌, length, take}
use Rattle.raw_region.specs.Cells.{bytes_of}
use Rattle.raw_region.proofs.region.Region.read_word.Given as goal

abbrev pub invariant-loop-i : goal.invariant-loop-i
invariant-loop-i l = record { inside : l.off + 8 ≤ 2 ^ 48; eight : length l.bytes ≡ 8; read : take l.i l.bytes ≡ bytes_of l.self.cells l.off l.i }
