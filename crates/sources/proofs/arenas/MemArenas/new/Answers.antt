use Rattle.std.proofs.Common.{length, sym, ap, arith}
use Rattle.sources.specs.Kept.{first_slot}
use Rattle.sources.proofs.Bitmap.{new_told}
use Rattle.sources.proofs.arenas.MemArenas.new.Goals as goal

pub invariant_of-result : goal.invariant_of-result
invariant_of-result c =
    let slots = c.in_ok-free_slots.ensures in let bits = c.in_ok-clear_bits.ensures in (
      record { all = slots.0; count = sym (ap length (slots.1 (first_slot 0))); most = omega arith },
      new_told c.in_ok-free_slots.field-0.items c.in_ok-clear_bits.field-0.items (slots.1 0) bits.length bits.clear,
    )
