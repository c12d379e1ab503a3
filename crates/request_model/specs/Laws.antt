-- Laws over requests.
use Rattle.std.specs.Prelude.{◌≡◌, ◌↔◌, ◌⊎◌, ℕ, ◌+◌, ◌*◌, ◌<◌, ◌≤◌, Bool, true, false, List, [], ◌∷◌, ◌++◌, length, Option, Some, None}
use Rattle.mem_base.specs.declared.history.Entry.{Entry}
use Rattle.mem_base.specs.declared.reply.Fault.{Fault}
use Rattle.mem_base.specs.declared.trace.Letter.{Letter}
use Rattle.mem_base.specs.declared.trace.Side.{Side}
use Rattle.request_model.specs.Counts.{asked_in, asks_in, refused_in, refusals_in}
use Rattle.request_model.specs.Decision.{max_size, max_data, call_fault, decision, fits_in_place, too_great, faults, asks}

-- a size is too great past the limit of a request, and for a call without a fault past that of a block's data
abbrev pub TooGreatExactly : Type 0
TooGreatExactly = (v : Letter) (n : ℕ) (locked : Bool) (found : Option Fault)
    → (decision v n locked found ≡ too_great)
    ↔ ((max_size < n) ⊎ ((max_data < n) × (call_fault v locked found ≡ None)))

-- a call whose size a request may have comes to its fault
abbrev pub FaultsExactly : Type 0
FaultsExactly = (v : Letter) (n : ℕ) (locked : Bool) (found : Option Fault) (fault : Fault)
    → (decision v n locked found ≡ faults fault) ↔ ((n ≤ max_size) × (call_fault v locked found ≡ Some fault))

-- a source may be asked where the size fits with the hooks' bytes and the call has no fault
abbrev pub AsksExactly : Type 0
AsksExactly = (v : Letter) (n : ℕ) (locked : Bool) (found : Option Fault)
    → (decision v n locked found ≡ asks) ↔ ((n ≤ max_data) × (call_fault v locked found ≡ None))

-- a block may stay exactly where the bytes fit and are more than three quarters of it
abbrev pub FitsInPlaceExactly : Type 0
FitsInPlaceExactly = (s m : ℕ) → (fits_in_place s m ≡ true) ↔ ((m ≤ s) × (3 * s < 4 * m))

-- of a block of 128 bytes, 104 bytes stay and 96, which are three quarters, do not
abbrev pub ThreeQuartersMove : Type 0
ThreeQuartersMove = (fits_in_place 128 104 ≡ true) × (fits_in_place 128 96 ≡ false)

-- one more entry adds its requests and its refusals
abbrev pub OneMoreCounts : Type 0
OneMoreCounts = (side : Side) (es : List Entry) (e : Entry)
    → (asked_in side (es ++ e ∷ []) ≡ asked_in side es + asks_in side e)
    × (refused_in side (es ++ e ∷ []) ≡ refused_in side es + refusals_in side e)

-- no history has more requests than entries, nor more refusals than requests
abbrev pub FewAreAsked : Type 0
FewAreAsked = (side : Side) (es : List Entry)
    → (asked_in side es ≤ length es) × (refused_in side es ≤ asked_in side es)
