-- Tables before anything is taken.
use Rattle.std.proofs.Common.{◌≡◌, ℕ, zero, suc, List, [], get_or, replicate, refl, arith}
use Rattle.layout_model.proofs.CallerLemmas.{empty_layout_is_sound}
use Rattle.heap_model.specs.Tables.{Spot, empty_tables}
use Rattle.heap_model.specs.Kept.{IsKept}

abbrev none : List Spot
none = []

no_spots : (n c : ℕ) → get_or (replicate n none) c none ≡ none
no_spots zero c = refl
no_spots (suc n) zero = refl
no_spots (suc n) (suc c) = no_spots n c

pub empty_tables_are_kept : IsKept empty_tables
empty_tables_are_kept = record {
  orderly = record {
    classes = refl;
    pools = λ x h. absurd h;
    numbers = λ k. omega arith;
    spots = λ s. omega arith;
    listed = λ c s. rw (no_spots 32 c) refl;
  };
  sound = empty_layout_is_sound;
}
