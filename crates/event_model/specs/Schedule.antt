-- The schedule: which track does the next event, which histories follow the picks of a trace, and which picks
-- a history is the schedule of.
use Rattle.std.specs.Prelude.{◌≡◌, ◌≢◌, ◌⊎◌, ℕ, ◌+◌, ◌<◌, Bool, true, false, ◌==◌, if◌then◌else◌, List, []}
use Rattle.std.specs.Prelude.{◌∷◌, ◌++◌, replicate}
use Rattle.std.specs.List.{AllByRecursion, flat_map}
use Rattle.mem_base.specs.declared.history.Entry.{Entry}
use Rattle.trace_model.specs.Plain.{PlainTrack}
use Rattle.event_model.specs.Events.{is_ready, event}
use Rattle.event_model.specs.History.{opening}
use Rattle.event_model.specs.State.{State}

-- picks one by one: each track as often as it is picked
abbrev pub one_by_one : List (ℕ × ℕ) → List ℕ
one_by_one picks = flat_map (λ p. replicate p.1 p.0) picks

-- ---- the next event

module _ (ready : ℕ → Bool) where
  -- none of these tracks is ready
  abbrev pub NoneIsReady : List ℕ → Type 0
  NoneIsReady ts = AllByRecursion (λ t. ready t ≡ false) ts

  -- it is the first track of the trace that is ready
  pub record IsFirstReady (t : ℕ) : Type 0 where
    pub is : ready t ≡ true
    pub before : (u : ℕ) → u < t → ready u ≡ false

  -- the picks are some that are passed over, none of a ready track, then one of this track, which is ready, and
  -- then those that are left
  pub record IsPicked (picks : List ℕ) (t : ℕ) (left : List ℕ) : Type 0 where
    pub passed : List ℕ
    pub all : picks ≡ passed ++ t ∷ left
    pub over : NoneIsReady passed
    pub is : ready t ≡ true

  -- all picks are passed over, none of a ready track, and this is the first track that is ready
  pub record IsUnpicked (picks : List ℕ) (t : ℕ) (left : List ℕ) : Type 0 where
    pub over : NoneIsReady picks
    pub first : IsFirstReady t
    pub none : left ≡ []

  -- with these picks, the schedule takes this track for the next event and leaves those picks
  abbrev pub Takes : List ℕ → ℕ → List ℕ → Type 0
  Takes picks t left = IsPicked picks t left ⊎ IsUnpicked picks t left

-- ---- histories

-- entries that come after this state are of the tracks that the schedule takes from these picks, and leave those
abbrev pub FollowsFrom : List PlainTrack → State → List ℕ → List Entry → List ℕ → Type 0
FollowsFrom tracks s picks [] left = left ≡ picks
FollowsFrom tracks s picks (e ∷ es) left =
    (rest : List ℕ) × Takes (is_ready tracks s) picks e.track rest × FollowsFrom tracks (event tracks s e).0 rest es left

-- a history follows the picks, and leaves these of them
abbrev pub FollowsTo : List PlainTrack → List (ℕ × ℕ) → List Entry → List ℕ → Type 0
FollowsTo tracks picks es left = FollowsFrom tracks (opening tracks) (one_by_one picks) es left

-- the tracks of a history are those that the schedule takes from the picks
abbrev pub Follows : List PlainTrack → List (ℕ × ℕ) → List Entry → Type 0
Follows tracks picks es = (left : List ℕ) × FollowsTo tracks picks es left

-- ---- runs

-- one more event of a track in front of runs: it makes the first of them longer, or is one of its own
abbrev pub in_front : ℕ → List (ℕ × ℕ) → List (ℕ × ℕ)
in_front t [] = (t, 1) ∷ []
in_front t (run ∷ runs) = if t == run.0 then (run.0, run.1 + 1) ∷ runs else (t, 1) ∷ run ∷ runs

-- the runs of a history: the track and the number of events, for each stretch of events of one track
abbrev pub runs : List Entry → List (ℕ × ℕ)
runs [] = []
runs (e ∷ es) = in_front e.track (runs es)

-- no run is of the same track as the one before it
abbrev pub NeighboursDiffer : List (ℕ × ℕ) → Type 0
NeighboursDiffer [] = Unit {0}
NeighboursDiffer (p ∷ []) = Unit {0}
NeighboursDiffer (p ∷ q ∷ ps) = (p.0 ≢ q.0) × NeighboursDiffer (q ∷ ps)
