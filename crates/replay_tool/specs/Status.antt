-- The number of a status, and why writing is given up.
use Rattle.std.specs.Prelude.{◌≡◌, ℕ, List, [], Result, Ok, Err}
use Rattle.replay_tool.specs.declared.status.Halt.{Halt}
use Rattle.replay_tool.specs.declared.status.Halt.TheVariants as halt
use Rattle.replay_tool.specs.declared.status.Status.{Status}
use Rattle.replay_tool.specs.declared.status.Status.TheVariants.{Done, Faulted, Usage, FaultyLine, ReadFault}
use Rattle.replay_tool.specs.declared.status.Status.TheVariants.{WriteFault, OutOfMemory, TooLong}
use Rattle.replay_tool.specs.Streams.{Stream, Wrote, BrokeWithin}

-- the number that a program ends with
abbrev pub number_of : Status → ℕ
number_of Done = 0
number_of Faulted = 1
number_of Usage = 2
number_of FaultyLine = 3
number_of ReadFault = 4
number_of WriteFault = 5
number_of OutOfMemory = 6
number_of TooLong = 7

-- the status where writing was given up
abbrev pub halted : Halt → Status
halted halt.WriteFault = WriteFault
halted halt.OutOfMemory = OutOfMemory

-- how writing a text ended: it was written, a write failed within it, or there was no memory for it and nothing was written
abbrev pub Tells : {T : Type 0} → List ℕ → Stream → Stream → Result T Halt → Type 0
Tells text before after (Ok done) = Wrote before after text
Tells text before after (Err halt.WriteFault) = BrokeWithin before after [] text
Tells text before after (Err halt.OutOfMemory) = after ≡ before
