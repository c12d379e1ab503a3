-- Groups whose keys' frames stand elsewhere, and the order of what is answered.
use Rattle.std.specs.Prelude.{◌≡◌, List, ◌++◌, false}
use Rattle.std.specs.declared.cmp.Ordering.{Ordering}
use Rattle.std.specs.Ordering.{is_lt}
use Rattle.std.specs.List.Sorted.{IsPermutation, IsSorted}
use Rattle.mem_base.specs.declared.reply.Group.{Group}
use Rattle.extents.specs.Sums.{Has}
use Rattle.snap_stats.specs.declared.groups.Summed.{Summed}

-- the group with its key's frames
abbrev pub whole : Summed → Group
whole s = record { key = s.key.now; size = s.sum.size; count = s.sum.count }

-- these are in order, the greatest first, by what they stand for
abbrev pub AreInOrder : {G P : Type 0} → (P → P → Ordering) → (G → P) → List G → Type 0
AreInOrder cmp plain these = IsSorted (λ a b. cmp (plain b) (plain a)) these

-- the front is in order, all are the front and a rest, and none of the front is below one of the rest
pub record IsFrontOf {G P : Type 0} (cmp : P → P → Ordering) (plain : G → P) (all front : List G) : Type 0 where
  pub rest : List G
  pub sorted : AreInOrder cmp plain front
  pub same : IsPermutation all (front ++ rest)
  pub above : (a b : G) → Has a front → Has b rest → is_lt (cmp (plain a) (plain b)) ≡ false
