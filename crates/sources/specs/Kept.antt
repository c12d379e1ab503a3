-- What the sources in memory keep of the regions that are out.
use Rattle.std.specs.Prelude.{◌≡◌, ℕ, ◌+◌, ◌*◌, ◌%◌, ◌<◌, ◌≤◌, List, [], ◌∷◌, length, map, get_or, slice_set}
use Rattle.std.specs.Prelude.{Option, None, Some, IsSome}
use Rattle.raw_region.specs.declared.maker.Maker.{Maker}
use Rattle.raw_region.specs.Cells.{AllHome}
use Rattle.raw_region.specs.Region.{RegionView}
use Rattle.extents.specs.Extent.{Extent, covers, begins}
use Rattle.extents.specs.Sums.{tally}
use Rattle.sources.specs.Bits.{bit_in}
use Rattle.sources.specs.Memory.{bytes_of, slot_place}
use Rattle.sources.specs.declared.raw.Held.{Held}

-- the region begins there, has that length, and is whole
pub record IsNew (place asked : ℕ) (region : RegionView) : Type 0 where
  pub base : region.base ≡ place
  pub len : length region.cells ≡ asked
  pub home : AllHome region.cells

-- the arenas that are out, where the first of these slots begins there
abbrev pub slots_out : ℕ → List (Option Maker) → List Extent
slots_out place [] = []
slots_out place (None ∷ slots) = slots_out (place + 0x100000) slots
slots_out place (Some maker ∷ slots) =
    record { place = place; len = 0x100000; maker = maker } ∷ slots_out (place + 0x100000) slots

-- where the first slot begins
abbrev pub first_slot : ℕ → ℕ
first_slot skew = 0x100000000000 + skew * 4096

-- one of the 1,024 slots begins there
pub record IsSlotPlace (skew place : ℕ) : Type 0 where
  pub slot : ℕ
  pub inside : slot < 1024
  pub is : place ≡ slot_place skew slot

-- a new region has taken the least free slot
pub record TakesSlot (skew : ℕ) (region : RegionView) (old new : List (Option Maker)) : Type 0 where
  pub slot : ℕ
  pub inside : slot < 1024
  pub shift : skew < 256
  pub made : IsNew (slot_place skew slot) 0x100000 region
  pub free : get_or old slot None ≡ None
  pub below : (j : ℕ) → j < slot → IsSome (get_or old j None)
  pub is : new ≡ slice_set old slot (Some region.maker)

-- 1 where a region is out of the slot
abbrev pub taken : Option Maker → ℕ
taken None = 0
taken (Some maker) = 1

-- the bits of 16 words tell which of 1,024 slots are taken
pub record AreTold (slots : List (Option Maker)) (words : List ℕ) : Type 0 where
  pub all : length words ≡ 16
  pub bits : (j : ℕ) → j < 1024 → bit_in words j ≡ taken (get_or slots j None)

-- there are 1,024 slots, of which so many are out, and at most 1,024 may be
pub record AreSlots (slots : List (Option Maker)) (skew held max : ℕ) : Type 0 where
  pub all : length slots ≡ 1024
  pub count : held ≡ length (slots_out (first_slot skew) slots)
  pub most : max ≤ 1024

-- the raw regions that are out, of what is kept of them by their places
abbrev pub held_out : List (ℕ × Held) → List Extent
held_out entries = map (λ e. record { place = e.0; len = e.1.len; maker = e.1.maker }) entries

-- all that is out lies below the next place, no two regions begin at one place, and the bytes add up
pub record IsRow (out : List Extent) (bytes max_bytes next : ℕ) : Type 0 where
  pub below : (x : ℕ) → next ≤ x → tally (covers x) out + tally (begins x) out ≡ 0
  pub once : (x : ℕ) → tally (begins x) out ≤ 1
  pub sum : bytes ≡ bytes_of out
  pub most : bytes ≤ max_bytes
  pub low : 0x200000000000 ≤ next
  pub high : next ≤ 0xa00000000000
  pub aligned : next % 16 ≡ 0
