-- A comparison of two snapshots: a change for each key of either, with what has changed.
use Rattle.std.specs.Prelude.{◌≡◌, ℕ, suc, ◌+◌, ◌≤◌, ℤ, pos, negsuc, ◌-ℤ◌, List, ◌++◌, map}
use Rattle.std.specs.declared.cmp.Ordering.{Ordering}
use Rattle.std.specs.Ordering.{ordering_then, nat_cmp}
use Rattle.mem_base.specs.Name.{Name}
use Rattle.mem_base.specs.declared.reply.Diff.{Diff}
use Rattle.extents.specs.Sums.{tally, Has}
use Rattle.frame_model.specs.Frames.{frames_of}
use Rattle.snapshot_model.specs.Occurrences.{Key, Occurrence}
use Rattle.snapshot_model.specs.Order.{Falls, falling}
use Rattle.snapshot_model.specs.Stats.{key_cmp, keys_in, once_at, size_at}

-- a change: a key, its new sum and count, and new less old of both
pub record Change : Type 0 where
  pub key : Key
  pub size : ℕ
  pub size_diff : ℤ
  pub count : ℕ
  pub count_diff : ℤ

-- what a change of the code stands for, with its files among these texts
abbrev pub plain_change : List Name → Diff → Change
plain_change texts d = record {
  key = frames_of texts d.key;
  size = d.size;
  size_diff = d.size_diff;
  count = d.count;
  count_diff = d.count_diff;
}

-- a number without its sign
abbrev pub magnitude : ℤ → ℕ
magnitude (pos n) = n
magnitude (negsuc n) = suc n

-- by the size's change, the size, the count's change, the count, and the key; a change counts without its sign
abbrev pub change_cmp : Change → Change → Ordering
change_cmp a b =
    ordering_then (nat_cmp (magnitude a.size_diff) (magnitude b.size_diff))
    (ordering_then (nat_cmp a.size b.size)
    (ordering_then (nat_cmp (magnitude a.count_diff) (magnitude b.count_diff))
    (ordering_then (nat_cmp a.count b.count) (key_cmp a.key b.key))))

-- the change's key occurs in either, and these are its sums and counts, 0 where it does not occur
pub record IsChangeOf (new old : List Occurrence) (c : Change) : Type 0 where
  pub occurs : 1 ≤ tally (once_at c.key) new + tally (once_at c.key) old
  pub size : c.size ≡ tally (size_at c.key) new
  pub size_diff : c.size_diff ≡ pos (tally (size_at c.key) new) -ℤ pos (tally (size_at c.key) old)
  pub count : c.count ≡ tally (once_at c.key) new
  pub count_diff : c.count_diff ≡ pos (tally (once_at c.key) new) -ℤ pos (tally (once_at c.key) old)

-- the changes, from the greatest to the least
pub record IsCompared (new old : List Occurrence) (changes : List Change) : Type 0 where
  pub falls : Falls change_cmp changes
  pub each : (c : Change) → Has c changes → IsChangeOf new old c
  pub all : (c : Change) → IsChangeOf new old c → Has c changes

-- the change of a key
abbrev pub change_at : List Occurrence → List Occurrence → Key → Change
change_at new old k = record {
  key = k;
  size = tally (size_at k) new;
  size_diff = pos (tally (size_at k) new) -ℤ pos (tally (size_at k) old);
  count = tally (once_at k) new;
  count_diff = pos (tally (once_at k) new) -ℤ pos (tally (once_at k) old);
}

-- the changes of all keys that occur in either, from the greatest to the least
abbrev pub changes_of : List Occurrence → List Occurrence → List Change
changes_of new old = falling change_cmp (map (change_at new old) (keys_in (new ++ old)))
