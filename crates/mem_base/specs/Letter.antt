-- The letters of the allocation domains.
use Rattle.std.specs.Prelude.{ℕ}
use Rattle.mem_base.specs.declared.trace.Letter.{Letter}
use Rattle.mem_base.specs.declared.trace.Letter.TheVariants.{Raw, Mem, Obj}

-- r, m or o
abbrev pub letter_byte : Letter → ℕ
letter_byte Raw = 114
letter_byte Mem = 109
letter_byte Obj = 111
