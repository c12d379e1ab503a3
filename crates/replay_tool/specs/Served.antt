-- What the sources did in a run.
use Rattle.std.specs.Prelude.{◌≡◌, ℕ, ◌+◌, ◌≤◌, List, []}
use Rattle.mem_base.specs.Plan.{IsPlanned}
use Rattle.mem_base.specs.declared.history.Entry.{Entry}
use Rattle.mem_base.specs.declared.limits.TheConstants.{DEFAULT_ARENAS, MAX_RAW_BYTES}
use Rattle.mem_base.specs.declared.trace.Side.{Side}
use Rattle.mem_base.specs.declared.trace.Side.TheVariants as sides
use Rattle.trace_model.specs.Plain.{PlainTrack}
use Rattle.event_model.specs.Plans.{GrowsBy, Heeds, is_planned}
use Rattle.request_model.specs.Counts.{asked_in, refused_in}
use Rattle.sources.specs.Source.{ArenaShape, SourceView, shape_after}

-- both sources of a run
pub record Sources : Type 0 where
  pub arenas : SourceView ArenaShape
  pub raw : SourceView ℕ

abbrev pub both : SourceView ArenaShape → SourceView ℕ → Sources
both arenas raw = record { arenas = arenas; raw = raw }

-- a run asks for room for so many arenas, without skew
abbrev pub arenas_shaped : SourceView ArenaShape → SourceView ArenaShape
arenas_shaped seen = record seen { shape = shape_after seen.out (record { max = DEFAULT_ARENAS; skew = 0 }) seen.shape }

-- and for room for so many raw bytes
abbrev pub raw_shaped : SourceView ℕ → SourceView ℕ
raw_shaped seen = record seen { shape = shape_after seen.out MAX_RAW_BYTES seen.shape }

abbrev pub shaped : Sources → Sources
shaped s = both (arenas_shaped s.arenas) (raw_shaped s.raw)

-- nothing is out of either source
pub record NothingOut (s : Sources) : Type 0 where
  pub arenas : s.arenas.out ≡ []
  pub raw : s.raw.out ≡ []

module _ {S : Type 0} where
  -- the source of a side answered just the requests of a history: its counts rose by theirs, its plan grew by
  -- what the operations list, and each request that the plan has was refused
  pub record ServedOn (side : Side) (tracks : List PlainTrack) (es : List Entry) (before now : SourceView S) : Type 0 where
    pub asked : now.asked ≡ before.asked + asked_in side es
    pub refused : now.refused ≡ before.refused + refused_in side es
    pub plan : GrowsBy (is_planned tracks side before.asked es) before.plan now.plan
    pub heeds : Heeds side now.plan before.asked es
    pub window : now.window ≡ before.window
    pub shape : now.shape ≡ before.shape

  -- the same, but that the source may have been asked once more, for an event that found no memory: it refused
  -- that request where its plan had it
  pub record NearlyOn (side : Side) (tracks : List PlainTrack) (es : List Entry) (before now : SourceView S) : Type 0 where
    pub asks : ℕ
    pub refusals : ℕ
    pub few : (refusals ≤ asks) × (asks ≤ 1)
    pub asked : now.asked ≡ before.asked + asked_in side es + asks
    pub refused : now.refused ≡ before.refused + refused_in side es + refusals
    pub heeded : asks ≡ 1 → IsPlanned now.plan (before.asked + asked_in side es + 1) → refusals ≡ 1
    pub plan : GrowsBy (is_planned tracks side before.asked es) before.plan now.plan
    pub heeds : Heeds side now.plan before.asked es
    pub window : now.window ≡ before.window
    pub shape : now.shape ≡ before.shape

-- both sources answered just the requests of a history
pub record Served (tracks : List PlainTrack) (es : List Entry) (before now : Sources) : Type 0 where
  pub arenas : ServedOn sides.Arena tracks es before.arenas now.arenas
  pub raw : ServedOn sides.Raw tracks es before.raw now.raw

-- The same, but for an event that found no memory. The raw source refused it nothing, and was asked where the
-- arena source refused: a refusal is never told as want of memory.
pub record ServedNearly (tracks : List PlainTrack) (es : List Entry) (before now : Sources) : Type 0 where
  pub arenas : NearlyOn sides.Arena tracks es before.arenas now.arenas
  pub raw : NearlyOn sides.Raw tracks es before.raw now.raw
  pub unrefused : raw.refusals ≡ 0
  pub passed : arenas.refusals ≤ raw.asks
