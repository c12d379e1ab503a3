use Rattle.std.proofs.Common.{◌≡◌, ℕ, ◌-◌, ◌≤◌, length, max}
use Rattle.ranks.specs.Ranks.{rank_in}
use Rattle.ranks.proofs.table.grow.Given as goal

-- no rank has changed, and there are no more than there may be
abbrev pub invariant-loop-ranks : goal.invariant-loop-ranks
invariant-loop-ranks l = record {
  same : (x : ℕ) → rank_in l.ranks.items x ≡ rank_in l.initial.ranks.items x;
  more : length l.initial.ranks.items ≤ length l.ranks.items;
  most : length l.ranks.items ≤ max (length l.initial.ranks.items) l.n;
}

abbrev pub decreases-loop-ranks : goal.decreases-loop-ranks
decreases-loop-ranks l = l.n - length l.ranks.items
