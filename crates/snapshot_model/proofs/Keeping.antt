-- What rules leave of a snapshot.
use Rattle.std.proofs.Common.{◌≡◌, Bool, true, false, cond, List, [], ◌∷◌, refl, ap, inl, inr}
use Rattle.std.specs.Prelude.{filter}
use Rattle.std.specs.declared.cmp.Ordering.{Ordering}
use Rattle.mem_base.specs.declared.trace.Rule.{Rule}
use Rattle.extents.specs.Sums.{Has}
use Rattle.snapshot_model.specs.Snapshots.{PlainRow, PlainSnapshot, IsSnapshot, Rises}
use Rattle.snapshot_model.specs.Rules.{stays, kept_by}

module _ {X : Type 0} where
  pub has_filter : (p : X → Bool) (x : X) (xs : List X) → Has x (filter p xs) → Has x xs
  has_filter p x [] h = absurd h
  has_filter p x (y ∷ ys) h = by (has_filter p x ys) (p y) h
    where
      by : (Has x (filter p ys) → Has x ys) → (b : Bool) → Has x (cond b (y ∷ filter p ys) (filter p ys)) → Has x (y ∷ ys)
      by later true (inl e) = inl e
      by later true (inr h) = inr (later h)
      by later false h = inr (later h)

  pub rises_filter : (cmp : X → X → Ordering) (p : X → Bool) (xs : List X) → Rises cmp xs → Rises cmp (filter p xs)
  rises_filter cmp p [] r = tt
  rises_filter cmp p (x ∷ xs) r = by (rises_filter cmp p xs r.1) (p x)
    where
      by : Rises cmp (filter p xs) → (b : Bool) → Rises cmp (cond b (x ∷ filter p xs) (filter p xs))
      by later true = ((λ y h. r.0 y (has_filter p y xs h)), later)
      by later false = later

pub keeps_snapshot : (rules : List Rule) (s : PlainSnapshot) → IsSnapshot s → IsSnapshot (kept_by rules s)
keeps_snapshot rules s is = record {
  rises = rises_filter _ (stays rules) s.rows is.rises;
  keeps = λ row h. is.keeps row (has_filter (stays rules) row s.rows h);
}

all_stay : (rows : List PlainRow) → filter (stays []) rows ≡ rows
all_stay [] = refl
all_stay (r ∷ rs) = ap (λ (l : List PlainRow). r ∷ l) (all_stay rs)

pub no_rules : (s : PlainSnapshot) → kept_by [] s ≡ s
no_rules s = ap (λ (rows : List PlainRow). record s { rows = rows }) (all_stay s.rows)
