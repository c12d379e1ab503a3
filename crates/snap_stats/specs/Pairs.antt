-- The new and the old sum of each key, and how much the new one is above the old one.
use Rattle.std.specs.Prelude.{Bool, is_none, unwrap_or, pos, ◌-ℤ◌, List, ◌++◌, map, filter}
use Rattle.std.specs.Map.{lookup}
use Rattle.mem_base.specs.declared.reply.Diff.{Diff}
use Rattle.mem_base.specs.declared.reply.Frame.{Frame}
use Rattle.snap_stats.specs.declared.changed.Changed.{Changed}
use Rattle.snap_stats.specs.declared.pairs.Pair.{Pair}
use Rattle.snap_stats.specs.Sums.{IsSmall}
use Rattle.snap_stats.specs.declared.sums.Sum.{Sum}

-- the sum of no sizes
abbrev pub nothing : Sum
nothing = record { size = 0; count = 0 }

module _ {K : Type 0} (eq : K → K → Bool) where
  -- the key's sum, or that of no sizes
  abbrev pub sum_at : List (K × Sum) → K → Sum
  sum_at sums key = unwrap_or (lookup (eq key) sums) nothing

  -- a key that is new, with the sum that it had
  abbrev pub pair_at : List (K × Sum) → K × Sum → Pair K
  pair_at old s = record { key = s.0; new = s.1; old = sum_at old s.0 }

  -- a key that is no longer there
  abbrev pub gone : K × Sum → Pair K
  gone s = record { key = s.0; new = nothing; old = s.1 }

  -- the keys that only the old sums have
  abbrev pub vanished : List (K × Sum) → List (K × Sum) → List (Pair K)
  vanished new old = map gone (filter (λ s. is_none (lookup (eq s.0) new)) old)

  -- each key of either, once
  abbrev pub pairs_of : List (K × Sum) → List (K × Sum) → List (Pair K)
  pairs_of new old = map (pair_at old) new ++ vanished new old

-- ---- changes

-- both sums are small
pub record IsSmallPair {K : Type 0} (p : Pair K) : Type 0 where
  pub new : IsSmall p.new
  pub old : IsSmall p.old

-- the change of a key with these frames
abbrev pub diff_of : List Frame → Sum → Sum → Diff
diff_of key new old = record {
  key = key;
  size = new.size;
  size_diff = pos new.size -ℤ pos old.size;
  count = new.count;
  count_diff = pos new.count -ℤ pos old.count;
}

-- the change of a pair, where keys have these frames
abbrev pub diff_by : {K : Type 0} → (K → List Frame) → Pair K → Diff
diff_by frames p = diff_of (frames p.key) p.new p.old

-- the change with its key's frames
abbrev pub whole_change : Changed → Diff
whole_change c = diff_of c.key.now c.new c.old
