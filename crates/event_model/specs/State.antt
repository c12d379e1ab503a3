-- All that is held at one moment of a run.
use Rattle.std.specs.Prelude.{ℕ, Bool, false, ◌==◌, List, Option, Some, None}
use Rattle.frame_model.specs.Frames.{PlainFrame}
use Rattle.tracing_model.specs.Tracing.{Tracing}
use Rattle.layout_model.specs.Layout.{Layout}
use Rattle.event_model.specs.Blocks.{Blocks}
use Rattle.event_model.specs.Snapshots.{Snapshots}

-- what operations work on
pub record Held : Type 0 where
  pub blocks : Blocks
  -- the pools and arenas of the mem and object domains
  pub layout : Layout
  -- the track that owns the lock
  pub owner : Option ℕ
  -- the frames of each track, oldest first
  pub frames : List (List PlainFrame)
  -- the traces of blocks and of marked numbers, while anything is traced
  pub tracing : Option Tracing
  -- the snapshots by their names
  pub snapshots : Snapshots

-- a run between two events
pub record State : Type 0 where
  pub held : Held
  -- for each track how many of its operations are done
  pub done : List ℕ
  -- whether a fault has come
  pub faulted : Bool

-- the track owns the lock
abbrev pub is_owner : Option ℕ → ℕ → Bool
is_owner None t = false
is_owner (Some u) t = u == t
