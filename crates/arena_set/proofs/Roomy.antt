-- A set with room for more arenas.
use Rattle.std.proofs.Common.{◌≡◌, ℕ, ◌+◌, ◌^◌, ◌<◌, ◌≤◌, List, length, Option, sym, subst, ◌∙◌}
use Rattle.ranks.specs.Ranks.{rank_in}
use Rattle.arena_set.specs.Arena.{ArenaView}
use Rattle.arena_set.specs.Kept.{PlacedSet, IsKeptSet}

module _ (v : PlacedSet) (space : ℕ) (ranks : List ℕ) (kept : IsKeptSet v space ranks) (spare roomy : ℕ) (more : List ℕ) where
  -- the same set, in a larger table and a larger list
  moved : ((x : ℕ) → rank_in more x ≡ rank_in ranks x) → length v.arenas + spare < 2 ^ 32 → length v.arenas + spare ≤ roomy → length v.arenas + spare ≤ length more → IsKeptSet (record { usable = v.usable; arenas = v.arenas; spare = spare }) roomy more
  moved stay few table room = record {
    set = record { listed = kept.set.listed; arenas = kept.set.arenas; apart = kept.set.apart; named = kept.set.named };
    few = few;
    table = table;
    room = room;
    ranked = λ i h. stay i ∙ kept.ranked i h;
  }

  pub with_room : (usable : List ℕ) (arenas : List (Option ArenaView)) → usable ≡ v.usable → arenas ≡ v.arenas → ((x : ℕ) → rank_in more x ≡ rank_in ranks x)
      → length v.arenas + spare < 2 ^ 32 → length v.arenas + spare ≤ roomy → length v.arenas + spare ≤ length more → IsKeptSet (record { usable = usable; arenas = arenas; spare = spare }) roomy more
  with_room usable arenas same_list same_table stay few table room =
      subst (λ us. IsKeptSet (record { usable = us; arenas = arenas; spare = spare }) roomy more) (sym same_list)
      (subst (λ t. IsKeptSet (record { usable = v.usable; arenas = t; spare = spare }) roomy more) (sym same_table) (moved stay few table room))
