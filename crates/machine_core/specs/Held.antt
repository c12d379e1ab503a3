-- What a machine holds by number, and what it stands for by name.
use Rattle.std.specs.Prelude.{◌≡◌, ℕ, List, length, map, slice_get, sum_by, Option, Some, None, IfSome}
use Rattle.mem_base.specs.Name.{Name}
use Rattle.map_model.specs.Map.{AreDistinct, find}
use Rattle.event_model.specs.Blocks.{Block, Blocks}
use Rattle.event_model.specs.Replies.{frames_of}
use Rattle.event_model.specs.State.{Held}
use Rattle.trace_table.specs.Ranks.{AreRanks}
use Rattle.trace_table.specs.Tracing.{HoldsTheSame}
use Rattle.snap_store.specs.Stand.{SnapshotsStand}
use Rattle.machine_core.specs.Traces.{KeepsNumbers, TracesStand}
use Rattle.machine_core.specs.declared.held.Held.{Held as Holding}

-- each number has the block of its name, and all sums over the blocks are the same
pub record Holds (texts : List Name) (slots : List (Option Block)) (blocks : Blocks) : Type 0 where
  pub size : length slots ≡ length texts
  pub each : (i : ℕ) (name : Name)
      → slice_get texts i ≡ Some name → slice_get slots i ≡ Some (find blocks name)
  pub distinct : AreDistinct blocks
  pub sums : (f : Option Block → ℕ) → f None ≡ 0 → sum_by (λ b. f (Some b.1)) blocks ≡ sum_by f slots

-- what is held by number stands for what is held by name
pub record StandsFor (texts : List Name) (now : Holding) (h : Held) : Type 0 where
  pub blocks : Holds texts now.store.blocks h.blocks
  pub layout : now.store.layout ≡ h.layout
  pub owner : now.owner ≡ h.owner
  pub files : now.callers.files ≡ length texts
  pub frames : h.frames ≡ map (frames_of texts) now.callers.frames
  pub traces : TracesStand texts now.callers.table now.tracing h.tracing
  pub ranks : IfSome now.ranks (AreRanks texts)
  pub snapshots : SnapshotsStand texts now.callers.table now.snapshots h.snapshots

-- all is as it was, but that more tracebacks may have numbers, and that there may be memory for more traces
pub record IsAsItWas (old new : Holding) : Type 0 where
  pub store : new.store ≡ old.store
  pub owner : new.owner ≡ old.owner
  pub callers : new.callers ≡ record old.callers { table = new.callers.table }
  pub numbers : KeepsNumbers old.callers.table new.callers.table
  pub tracing : HoldsTheSame old.tracing new.tracing
  pub ranks : new.ranks ≡ old.ranks
  pub snapshots : new.snapshots ≡ old.snapshots
