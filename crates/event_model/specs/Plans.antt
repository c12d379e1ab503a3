-- Which requests a history's operations want to be refused.
use Rattle.std.specs.Prelude.{◌≡◌, ℕ, ◌+◌, Bool, false, ◌||◌, List, [], ◌∷◌, Option, Some, None}
use Rattle.mem_base.specs.Plan.{Plan, IsPlanned}
use Rattle.mem_base.specs.declared.trace.Side.{Side}
use Rattle.mem_base.specs.declared.history.Entry.{Entry}
use Rattle.request_model.specs.Counts.{asks_in, refusals_in}
use Rattle.trace_model.specs.Plain.{Action, PlainTrack}
use Rattle.event_model.specs.Deeds.{deed_of}
use Rattle.event_model.specs.Effects.{lists_as}
use Rattle.event_model.specs.Events.{next_action, event}
use Rattle.event_model.specs.History.{opening}
use Rattle.event_model.specs.State.{State}

-- a track's next operation, where there is one, lists the request of number n of a source, of which so many
-- were made before it
abbrev pub lists : Side → ℕ → Option Action → ℕ → Bool
lists s asked None n = false
lists s asked (Some a) n = lists_as s asked (deed_of a) n

-- the operations of entries that come after this state list it
abbrev pub planned_from : List PlainTrack → Side → State → ℕ → List Entry → ℕ → Bool
planned_from tracks side s asked [] n = false
planned_from tracks side s asked (e ∷ es) n =
    lists side asked (next_action tracks s e.track) n
    || planned_from tracks side (event tracks s e).0 (asked + asks_in side e) es n

-- the operations of a history list it
abbrev pub is_planned : List PlainTrack → Side → ℕ → List Entry → ℕ → Bool
is_planned tracks side asked es n = planned_from tracks side (opening tracks) asked es n

-- a plan has these numbers more, where it is told
abbrev pub GrowsBy : (ℕ → Bool) → Plan → Plan → Type 0
GrowsBy more None now = now ≡ None
GrowsBy more (Some plan) None = ⊥
GrowsBy more (Some plan) (Some now) = (n : ℕ) → now n ≡ (more n || plan n)

-- each request of a source that the plan has was refused, where so many were made before the history
abbrev pub Heeds : Side → Plan → ℕ → List Entry → Type 0
Heeds side plan asked [] = Unit {0}
Heeds side plan asked (e ∷ es) =
    (asks_in side e ≡ 1 → IsPlanned plan (asked + 1) → refusals_in side e ≡ 1)
    × Heeds side plan (asked + asks_in side e) es
