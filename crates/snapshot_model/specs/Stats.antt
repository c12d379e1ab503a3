-- Statistics: for each key that occurs, the sum of its sizes and the number of its occurrences.
use Rattle.std.specs.Prelude.{◌≡◌, ℕ, ◌≤◌, if◌then◌else◌, List, [], ◌∷◌, map}
use Rattle.std.specs.declared.cmp.Ordering.{Ordering}
use Rattle.std.specs.Ordering.{ordering_then, nat_cmp, eq_by_cmp}
use Rattle.std.specs.Cmp.Lexicographic.{slice_cmp}
use Rattle.std.specs.List.{list_any}
use Rattle.mem_base.specs.Name.{Name}
use Rattle.mem_base.specs.declared.reply.Group.{Group}
use Rattle.extents.specs.Sums.{tally, Has}
use Rattle.frame_model.specs.Frames.{PlainFrame, frames_of}
use Rattle.snapshot_model.specs.Occurrences.{Key, Occurrence}
pub use Rattle.snapshot_model.specs.Order.{Falls}
use Rattle.snapshot_model.specs.Order.{falling}

-- a group: a key, the sum of its sizes, and how often it occurs
pub record PlainGroup : Type 0 where
  pub key : Key
  pub size : ℕ
  pub count : ℕ

-- what a group of the code stands for, with its files among these texts
abbrev pub plain_group : List Name → Group → PlainGroup
plain_group texts g = record { key = frames_of texts g.key; size = g.size; count = g.count }

-- ---- the order

-- files by their bytes, and then by the line
abbrev pub frame_cmp : PlainFrame → PlainFrame → Ordering
frame_cmp a b = ordering_then (slice_cmp nat_cmp a.file b.file) (nat_cmp a.line b.line)

-- keys by their first frames that differ
abbrev pub key_cmp : Key → Key → Ordering
key_cmp = slice_cmp frame_cmp

-- by size, then by count, then by key
abbrev pub group_cmp : PlainGroup → PlainGroup → Ordering
group_cmp a b = ordering_then (nat_cmp a.size b.size) (ordering_then (nat_cmp a.count b.count) (key_cmp a.key b.key))

-- ---- the sums

-- 1 where the occurrence is of the key, else 0
abbrev pub once_at : Key → Occurrence → ℕ
once_at k o = if eq_by_cmp key_cmp k o.key then 1 else 0

-- its size where the occurrence is of the key, else 0
abbrev pub size_at : Key → Occurrence → ℕ
size_at k o = if eq_by_cmp key_cmp k o.key then o.size else 0

-- the group's key occurs, and these are its sum and its count
pub record IsGroupOf (occurrences : List Occurrence) (l : PlainGroup) : Type 0 where
  pub occurs : 1 ≤ l.count
  pub count : l.count ≡ tally (once_at l.key) occurrences
  pub size : l.size ≡ tally (size_at l.key) occurrences

-- the groups of the occurrences, from the greatest to the least
pub record IsStats (occurrences : List Occurrence) (groups : List PlainGroup) : Type 0 where
  pub falls : Falls group_cmp groups
  pub each : (l : PlainGroup) → Has l groups → IsGroupOf occurrences l
  pub all : (l : PlainGroup) → IsGroupOf occurrences l → Has l groups

-- ---- the statistics

-- the keys that occur, each once
abbrev pub keys_in : List Occurrence → List Key
keys_in [] = []
keys_in (o ∷ os) = let keys = keys_in os in if list_any (eq_by_cmp key_cmp o.key) keys then keys else o.key ∷ keys

-- the group of a key
abbrev pub group_at : List Occurrence → Key → PlainGroup
group_at os k = record { key = k; size = tally (size_at k) os; count = tally (once_at k) os }

-- the groups of all keys that occur, from the greatest to the least
abbrev pub stats_of : List Occurrence → List PlainGroup
stats_of os = falling group_cmp (map (group_at os) (keys_in os))
