use Rattle.std.proofs.Common.{map, Some}
use Rattle.std.proofs.Crossing.{Vec-send}
use Rattle.std.specs.Vec.{with_items}
use denote.Builtin.{u8}
use denote.Param.Send.{IsSend, struct_send, sendable}
use denote.Struct.Declared as declared
use Rattle.raw_region.proofs.Crossing.{cells_keyless}
use Rattle.raw_region.proofs.Shells.{Bytes}
use Rattle.raw_region.specs.contracts.shell.Shell as Shell
use Rattle.raw_region.specs.contracts.shell.Shell.TheInside as Inside

bytes_send : IsSend Bytes
bytes_send = Vec-send u8 (search sendable)

pub send : IsSend Shell.the_row
send = record {
  owned = λ e vs. ((λ _. tt), λ inside. (tt, λ xs. ((tt, cells_keyless e.first (map Some xs)), (struct_send (declared.shape Inside.the_type) (bytes_send, tt)).owned (with_items inside.vec xs, tt) vs)));
  leaving = λ k x w. tt;
}
