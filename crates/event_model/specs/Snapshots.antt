-- Snapshots under their names: what is kept of what is traced, what rules leave of a snapshot, and what is asked of
-- snapshots: statistics, changes from one to another, and the text of a dump.
use Rattle.std.specs.Prelude.{ℕ, Bool, List, length, take, Option, Some, None}
use Rattle.mem_base.specs.Name.{Name}
use Rattle.mem_base.specs.declared.trace.KeyKind.{KeyKind}
use Rattle.mem_base.specs.declared.trace.Rule.{Rule}
use Rattle.map_model.specs.Map.{Map, find, put}
use Rattle.tracing_model.specs.Tracing.{Tracing}
use Rattle.snapshot_model.specs.Snapshots.{PlainSnapshot, snapshot_of}
use Rattle.snapshot_model.specs.Rules.{kept_by}
use Rattle.snapshot_model.specs.Occurrences.{occurrences}
use Rattle.snapshot_model.specs.Stats.{PlainGroup, stats_of}
use Rattle.snapshot_model.specs.Compared.{Change, changes_of}
use Rattle.dump_model.specs.Spelling.{dump_text}
use Rattle.event_model.specs.Replies.{PlainReply, not_tracing, no_snapshot, kept, groups, changed, dumped}

abbrev pub Snapshots : Type 0
Snapshots = Map PlainSnapshot

-- the name holds this snapshot, and the answer is how many traces it has
abbrev pub keep_under : Name → PlainSnapshot → Snapshots → Snapshots × PlainReply
keep_under name s all = (put all name s, kept (length s.rows))

-- what is traced is kept under the name, where anything is
abbrev pub snapshot_turn : Option Tracing → Name → Snapshots → Snapshots × PlainReply
snapshot_turn None name all = (all, not_tracing)
snapshot_turn (Some tracing) name all = keep_under name (snapshot_of tracing) all

-- what the rules leave of a snapshot is kept under the name, where there is that snapshot
abbrev pub keep_from : Name → List Rule → Option PlainSnapshot → Snapshots → Snapshots × PlainReply
keep_from new rules None all = (all, no_snapshot)
keep_from new rules (Some s) all = keep_under new (kept_by rules s) all

abbrev pub keep_turn : Name → Name → List Rule → Snapshots → Snapshots × PlainReply
keep_turn new old rules all = keep_from new rules (find all old) all

-- so many groups, and the first of them
abbrev pub first_groups : ℕ → List PlainGroup → PlainReply
first_groups most all = groups (length all) (take most all)

-- the statistics of a snapshot by a key, where there is that snapshot
abbrev pub stats_in : KeyKind → Bool → ℕ → Option PlainSnapshot → PlainReply
stats_in key cumulative most None = no_snapshot
stats_in key cumulative most (Some s) = first_groups most (stats_of (occurrences key cumulative s.rows))

-- so many changes, and the first of them
abbrev pub first_changes : ℕ → List Change → PlainReply
first_changes most all = changed (length all) (take most all)

-- the changes by a key from an old snapshot to a new one, where there are both
abbrev pub changes_in : KeyKind → Bool → ℕ → Option PlainSnapshot → Option PlainSnapshot → PlainReply
changes_in key cumulative most None old = no_snapshot
changes_in key cumulative most (Some new) None = no_snapshot
changes_in key cumulative most (Some new) (Some old) =
    first_changes most (changes_of (occurrences key cumulative new.rows) (occurrences key cumulative old.rows))

-- the dump of a snapshot, where there is that snapshot
abbrev pub text_in : Option PlainSnapshot → PlainReply
text_in None = no_snapshot
text_in (Some s) = dumped (dump_text s)

-- ---- what is asked of snapshots

pub data Question : Type 0 where
  -- the first groups of a snapshot's statistics by a key, at most so many
  groups_of : Name → KeyKind → (cumulative : Bool) → (most : ℕ) → Question
  -- the first changes from an old snapshot to a new one, at most so many
  changes_between : (new old : Name) → KeyKind → (cumulative : Bool) → (most : ℕ) → Question
  -- a snapshot's dump
  text_of : Name → Question

abbrev pub answer_to : Snapshots → Question → PlainReply
answer_to all (groups_of name key cumulative most) = stats_in key cumulative most (find all name)
answer_to all (changes_between new old key cumulative most) = changes_in key cumulative most (find all new) (find all old)
answer_to all (text_of name) = text_in (find all name)
