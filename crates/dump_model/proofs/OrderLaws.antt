-- Traces that rise, and a trace that stands behind them.
use Rattle.std.proofs.Common.{◌≡◌, true, List, [], ◌∷◌, ◌++◌, refl, sym, ap, ◌∙◌, inl, inr, true≢false}
use Rattle.std.specs.declared.cmp.Ordering.{Ordering}
use Rattle.std.specs.declared.cmp.Ordering.TheVariants.{Less, Equal, Greater}
use Rattle.std.specs.Ordering.{is_lt}
use Rattle.extents.specs.Sums.{Has}
use Rattle.extents.proofs.CallerLemmas.{has_either}
use Rattle.tracing_model.specs.Traces.{Key as TraceKey}
use Rattle.snapshot_model.specs.Snapshots.{PlainRow, Rises, row_cmp, trace_cmp}
use Rattle.snapshot_model.proofs.CallerLemmas.{trace_cmp_total}
use Rattle.dump_model.specs.Reading.{is_after}

-- what is above all that rise may stand behind them
pub rises_push :
    {X : Type 0} (cmp : X → X → Ordering) (xs : List X) (x : X) → Rises cmp xs → ((y : X) → Has y xs → cmp y x ≡ Less)
    → Rises cmp (xs ++ x ∷ [])
rises_push cmp [] x rises below = ((λ y h. absurd h), tt)
rises_push {X} cmp (y ∷ ys) x rises below =
    (first, rises_push cmp ys x rises.1 (λ z h. below z (inr h)))
  where
    first : (z : X) → Has z (ys ++ x ∷ []) → cmp y z ≡ Less
    first z h = elim (has_either z ys (x ∷ []) h) [
      | inl a ↦ rises.0 z a
      | inr b ↦ elim b [ inl is ↦ ap (cmp y) (sym is) ∙ below y (inl refl) | inr none ↦ absurd none ]
    ]

less_is : (o : Ordering) → is_lt o ≡ true → o ≡ Less
less_is Less e = refl
less_is Equal e = absurd (true≢false (sym e))
less_is Greater e = absurd (true≢false (sym e))

-- a key behind the last of traces that rise is above them all
pub above_all :
    (rows : List PlainRow) (key : TraceKey) → Rises row_cmp rows → is_after rows key ≡ true
    → (row : PlainRow) → Has row rows → trace_cmp row.key key ≡ Less
above_all [] key rises after row h = absurd h
above_all (x ∷ []) key rises after row (inl is) =
    ap (λ (r : PlainRow). trace_cmp r.key key) (sym is) ∙ less_is (trace_cmp x.key key) after
above_all (x ∷ []) key rises after row (inr none) = absurd none
above_all (x ∷ y ∷ ys) key rises after row (inl is) =
    let next = above_all (y ∷ ys) key rises.1 after y (inl refl) in
    ap (λ (r : PlainRow). trace_cmp r.key key) (sym is)
    ∙ trace_cmp_total.trans x.key y.key key (rises.0 y (inl refl)) next
above_all (x ∷ y ∷ ys) key rises after row (inr h) = above_all (y ∷ ys) key rises.1 after row h

-- and in traces that rise each stands behind those before it
pub after_front :
    (rows : List PlainRow) (row : PlainRow) (more : List PlainRow) → Rises row_cmp (rows ++ row ∷ more)
    → is_after rows row.key ≡ true
after_front [] row more rises = refl
after_front (x ∷ []) row more rises = ap is_lt (rises.0 row (inl refl))
after_front (x ∷ y ∷ ys) row more rises = after_front (y ∷ ys) row more rises.1
