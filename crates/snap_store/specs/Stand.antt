-- Snapshots under the numbers of their names, and what they stand for.
use Rattle.std.specs.Prelude.{◌≡◌, ◌≢◌, ℕ, ◌<◌, ◌^◌, ◌==◌, if◌then◌else◌, List, [], ◌∷◌, length, map, take}
use Rattle.std.specs.Prelude.{Bool, Option, Some, None}
use Rattle.std.specs.List.{AllByRecursion}
use Rattle.std.specs.Option.{option_map}
use Rattle.mem_base.specs.Name.{Name}
use Rattle.mem_base.specs.Texts.{text_at}
use Rattle.mem_base.specs.declared.reply.Diff.{Diff}
use Rattle.mem_base.specs.declared.reply.Frame.{Frame}
use Rattle.mem_base.specs.declared.reply.Group.{Group}
use Rattle.mem_base.specs.declared.texts.TextId.{TextId}
use Rattle.mem_base.specs.declared.trace.Rule.{Rule}
use Rattle.map_model.specs.Map.{Map, find}
use Rattle.frame_stack.specs.Callers.{AreAmong}
pub use Rattle.frame_stack.specs.Tracebacks.{KeepsNumbers}
use Rattle.dump_model.specs.Spelling.{dump_text}
use Rattle.snapshot_model.specs.Compared.{plain_change}
use Rattle.snapshot_model.specs.Occurrences.{occurrences}
use Rattle.snapshot_model.specs.Rules.{kept_by}
use Rattle.snapshot_model.specs.Snapshots.{PlainSnapshot}
use Rattle.snapshot_model.specs.Stats.{PlainGroup, plain_group, stats_of}
use Rattle.trace_table.specs.Plain.{AreTraced, plain_snapshot}
use Rattle.trace_table.specs.declared.snapshot.Snapshot.{Snapshot}
use Rattle.snap_stats.specs.Answers.{changes_between}
use Rattle.snap_stats.specs.declared.stats.Grouping.{Grouping}
use Rattle.snap_store.specs.declared.store.Named.{Named}

abbrev pub SnapshotsView : Type 0
SnapshotsView = List Named

-- the name's snapshot
abbrev pub snapshot_at : SnapshotsView → TextId → Option Snapshot
snapshot_at [] name = None
snapshot_at (n ∷ all) name = if n.name.0 == name.0 then Some n.snapshot else snapshot_at all name

-- it is the snapshot of that name
abbrev pub is_of : TextId → Named → Bool
is_of name n = n.name.0 == name.0

-- the name has this snapshot, and each other name what it had
pub record Keeps (name : TextId) (s : Snapshot) (old new : SnapshotsView) : Type 0 where
  pub its : snapshot_at new name ≡ Some s
  pub others : (other : TextId) → other.0 ≢ name.0 → snapshot_at new other ≡ snapshot_at old other

-- ---- what they stand for

-- the rows are few, and have their tracebacks in the table
pub record IsStored (table : List (List Frame)) (s : Snapshot) : Type 0 where
  pub few : length s.rows < 2 ^ 32
  pub traced : AreTraced table s.rows

abbrev pub AreStored : List (List Frame) → SnapshotsView → Type 0
AreStored table all = (name : TextId) (s : Snapshot) → snapshot_at all name ≡ Some s → IsStored table s

-- each name has what its number has
pub record SnapshotsStand (texts : List Name) (table : List (List Frame)) (all : SnapshotsView)
    (plain : Map PlainSnapshot) : Type 0 where
  pub named : (name : TextId) → name.0 < length texts
      → find plain (text_at texts name) ≡ option_map (plain_snapshot texts table) (snapshot_at all name)
  pub stored : AreStored table all

-- ---- what is made of them

-- the old name has a snapshot, and what the rules keep of it, so many traces, is what the new name has then
pub record IsKeptBy (texts : List Name) (table : List (List Frame)) (rules : List Rule) (new old : TextId)
    (before after : SnapshotsView) (count : ℕ) : Type 0 where
  pub from : Snapshot
  pub had : snapshot_at before old ≡ Some from
  pub rest : Snapshot
  pub keeps : Keeps new rest before after
  pub kept : plain_snapshot texts table rest ≡ kept_by rules (plain_snapshot texts table from)
  pub stored : IsStored table rest
  pub counted : count ≡ length rest.rows

-- the statistics of a snapshot
abbrev pub stats_in : List Name → List (List Frame) → Grouping → Snapshot → List PlainGroup
stats_in texts table by s = stats_of (occurrences by.key by.cumulative (plain_snapshot texts table s).rows)

-- there is a snapshot, and it has so many statistics, of which these are the first
pub record AreFirst (texts : List Name) (table : List (List Frame)) (by : Grouping) (most : ℕ)
    (of : Option Snapshot) (answer : ℕ × List Group) : Type 0 where
  pub from : Snapshot
  pub had : of ≡ Some from
  pub counted : answer.0 ≡ length (stats_in texts table by from)
  pub first : map (plain_group texts) answer.1 ≡ take most (stats_in texts table by from)
  pub known : AllByRecursion (λ g. AreAmong (length texts) g.key) answer.1

-- there are a new and an old snapshot, and so many changes from the old one to the new, of which these are the first
pub record AreFirstChanges (texts : List Name) (table : List (List Frame)) (by : Grouping) (most : ℕ)
    (of : Option Snapshot × Option Snapshot) (answer : ℕ × List Diff) : Type 0 where
  pub new : Snapshot
  pub old : Snapshot
  pub had_new : of.0 ≡ Some new
  pub had_old : of.1 ≡ Some old
  pub counted : answer.0 ≡ length (changes_between texts table by new old)
  pub first : map (plain_change texts) answer.1 ≡ take most (changes_between texts table by new old)
  pub known : AllByRecursion (λ d. AreAmong (length texts) d.key) answer.1

-- there is a snapshot, and this is its text as a dump
pub record IsTextOf (texts : List Name) (table : List (List Frame)) (of : Option Snapshot) (text : List ℕ) : Type 0 where
  pub from : Snapshot
  pub had : of ≡ Some from
  pub spelt : text ≡ dump_text (plain_snapshot texts table from)
