-- What an operation of the code comes to.
use Rattle.std.specs.Prelude.{◌≡◌, Bool, List, []}
use Rattle.mem_base.specs.Name.{Name}
use Rattle.mem_base.specs.Texts.{text_at}
use Rattle.mem_base.specs.declared.texts.TextId.{TextId}
use Rattle.mem_base.specs.declared.trace.Op.{Op}
use Rattle.trace_model.specs.Plain.{action_of}
use Rattle.event_model.specs.Deeds.{Deed, deed_of, calls}
use Rattle.event_model.specs.Effects.{is_quiet as is_quiet_deed}
use Rattle.event_model.specs.Memory.{SizedCall}

-- with its names among these texts
abbrev pub deed_for : List Name → Op → Deed
deed_for texts op = deed_of (action_of texts op)

-- the operation asks no source and tells it nothing, which its names do not change
abbrev pub is_quiet : Op → Bool
is_quiet op = is_quiet_deed (deed_for [] op)

-- the operation is this call for a block under the name with that number
abbrev pub IsCallFor : Op → TextId → SizedCall → Type 0
IsCallFor op name call = (texts : List Name) → deed_for texts op ≡ calls (text_at texts name) call
