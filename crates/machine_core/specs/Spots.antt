-- Where the live blocks of a machine lie.
use Rattle.std.specs.Prelude.{◌++◌, length}
use Rattle.map_model.specs.Map.{find}
use Rattle.trace_model.specs.Plain.{text_at}
use Rattle.block_store.specs.Spots.{Living}
use Rattle.machine_core.specs.View.{MachineView, state_of}

-- the blocks of a machine: a number has the block of its name
abbrev pub living_in : MachineView → Living
living_in m = record {
  count = length m.trace.texts;
  block_of = λ name. find (state_of m).held.blocks (text_at m.trace.texts name);
  pieces = m.pieces;
  regions = m.arenas ++ m.raws;
}
