-- What proofs of other crates may cite: what snapshots by number stand for, as they come and as the table of tracebacks
-- grows.
use Rattle.std.proofs.Common.{◌≡◌, ◌<◌, true, List, [], ◌∷◌, length, map, get_or, slice_get}
use Rattle.std.proofs.Common.{Option, Some, None, refl, sym, ap, subst, ◌∙◌, inl, inr}
use Rattle.std.specs.Prelude.{All, is_some, unwrap_or}
use Rattle.std.specs.Option.{option_map}
use Rattle.std.specs.declared.cmp.Ordering.{Ordering}
use Rattle.std.specs.declared.cmp.Ordering.TheVariants.{Less}
use Rattle.std.proofs.lemmas.Bool.Decides.{eqb_tells}
use Rattle.std.proofs.lemmas.List.Elements.{All-cons, All-head, All-nil, All-tail}
use Rattle.std.proofs.lemmas.Option.{slice_get-get_or, slice_get_within}
use Rattle.mem_base.specs.Name.{Name}
use Rattle.mem_base.specs.Texts.{IsDistinct, text_at}
use Rattle.mem_base.specs.declared.reply.Frame.{Frame}
use Rattle.mem_base.specs.declared.texts.TextId.{TextId}
use Rattle.extents.specs.Sums.{Has}
use Rattle.extents.proofs.CallerLemmas.{has-map}
use Rattle.map_model.specs.Map.{Map, find, put}
use Rattle.map_model.proofs.CallerLemmas.{find-hold_same, find-hold_other}
use Rattle.frame_model.specs.Frames.{frames_of}
use Rattle.tracing_model.specs.Traces.{AreDistinct, Key, TraceOf, trace_at}
use Rattle.tracing_model.specs.Tracing.{Tracing}
use Rattle.snapshot_model.specs.Order.{Rises}
use Rattle.snapshot_model.specs.Snapshots.{PlainRow, PlainSnapshot, row_cmp, row_of, snapshot_of}
use Rattle.snapshot_model.proofs.CallerLemmas.{from_map, snapshot_one}
use Rattle.frame_stack.specs.Tracebacks.{traceback_at}
use Rattle.frame_stack.specs.declared.tracebacks.TbId.{TbId}
use Rattle.trace_table.specs.Plain.{AreTraced, IsKnownKey, IsTaken, key_of, plain_row, plain_rows, plain_snapshot}
use Rattle.trace_table.specs.Plain.{row_of as stored_row, stored_of, trace_of}
use Rattle.trace_table.specs.Traces.{trace_at as stored_at}
use Rattle.trace_table.specs.Tracing.{TracingView}
use Rattle.trace_table.specs.declared.key.TraceKey.{TraceKey}
use Rattle.trace_table.specs.declared.key.TraceOf.{TraceOf as Stored}
use Rattle.trace_table.specs.declared.snapshot.Row.{Row}
use Rattle.trace_table.specs.declared.snapshot.Snapshot.{Snapshot}
use Rattle.snap_store.specs.Stand.{KeepsNumbers, SnapshotsView, AreStored, IsStored, Keeps, SnapshotsStand, snapshot_at}

-- no snapshot stands for none
pub none_stand : (texts : List Name) (table : List (List Frame)) → SnapshotsStand texts table [] []
none_stand texts table = record {
  named = λ name lt. refl;
  stored = λ name s is. let none : None ≡ Some s = is in absurd cc;
}

-- ---- a table that grows

module _ (texts : List Name) (old new : List (List Frame)) (keep : KeepsNumbers old new) where
  later_frames : (id : TbId) → id.0 < length old → traceback_at old id ≡ traceback_at new id
  later_frames id lt =
      let at = slice_get-get_or old id.0 [] lt in
      ap (λ (o : Option (List Frame)). unwrap_or o []) (at ∙ sym (keep id.0 (get_or old id.0 []) at))

  later_rows : (rows : List Row) → AreTraced old rows → plain_rows texts old rows ≡ plain_rows texts new rows
  later_rows [] all = refl
  later_rows (row ∷ rows) all =
      let its = later_frames row.trace (All-head (λ (r : Row). r.trace.0 < length old) row rows all) in
      let rest = later_rows rows (All-tail (λ (r : Row). r.trace.0 < length old) row rows all) in
      λ i.
      record { key = key_of texts row.key; size = row.size; frames = frames_of texts (its i); total = row.total }
      ∷ rest i

  later_traced : (rows : List Row) → AreTraced old rows → AreTraced new rows
  later_traced [] all = All-nil (λ (r : Row). r.trace.0 < length new)
  later_traced (row ∷ rows) all =
      let lt = All-head (λ (r : Row). r.trace.0 < length old) row rows all in
      All-cons (λ (r : Row). r.trace.0 < length new) row rows
      (slice_get_within new row.trace.0 (get_or old row.trace.0 [])
      (keep row.trace.0 (get_or old row.trace.0 []) (slice_get-get_or old row.trace.0 [] lt)))
      (later_traced rows (All-tail (λ (r : Row). r.trace.0 < length old) row rows all))

  -- what has a number keeps it, so snapshots stand for the same
  pub stand_later : (all : SnapshotsView) (plain : Map PlainSnapshot) → SnapshotsStand texts old all plain
      → SnapshotsStand texts new all plain
  stand_later all plain stands = record {
    named = λ name lt. stands.named name lt ∙ by (snapshot_at all name) (λ s is. stands.stored name s is);
    stored = λ name s is.
        let stored = stands.stored name s is in
        record { few = stored.few; traced = later_traced s.rows stored.traced };
  }
    where
      by : (o : Option Snapshot) → ((s : Snapshot) → o ≡ Some s → IsStored old s)
          → option_map (plain_snapshot texts old) o ≡ option_map (plain_snapshot texts new) o
      by None stored = refl
      by (Some s) stored =
          let rows = later_rows s.rows (stored s refl).traced in
          λ i. Some (record { limit = s.limit; rows = rows i })

-- ---- a name that gets a snapshot

named_at : (texts : List Name) (name : TextId) → name.0 < length texts → slice_get texts name.0 ≡ Some (text_at texts name)
named_at texts name lt = read ∙ ap Some (sym (ap (λ (o : Option Name). unwrap_or o []) read))
  where
    read : slice_get texts name.0 ≡ Some (get_or texts name.0 [])
    read = slice_get-get_or texts name.0 [] lt

-- all snapshots are then in the table
pub keeps_stored : (table : List (List Frame)) (name : TextId) (s : Snapshot) (old new : SnapshotsView) → Keeps name s old new
    → IsStored table s → AreStored table old → AreStored table new
keeps_stored table name s old new keeps stored are other found is = elim (eqb_tells name.0 other.0) [
  | inl here ↦
      let same : name ≡ other = λ i. record { 0 = here.1 i } in
      let one : Some s ≡ Some found = sym keeps.its ∙ ap (snapshot_at new) same ∙ is in
      let eq : s ≡ found = cc in
      subst (IsStored table) eq stored
  | inr away ↦ are other found (sym (keeps.others other (λ e. away.1 (sym e))) ∙ is)
]

module _ (texts : List Name) (table : List (List Frame)) (name : TextId) (s : Snapshot) (old new : SnapshotsView)
    (plain : Map PlainSnapshot) (distinct : IsDistinct texts) (known : name.0 < length texts) (stored : IsStored table s)
    (keeps : Keeps name s old new) (stands : SnapshotsStand texts table old plain) where
  abbrev its : PlainSnapshot
  its = plain_snapshot texts table s

  abbrev text : Name
  text = text_at texts name

  -- by number and by name
  pub stand_with : SnapshotsStand texts table new (put plain text its)
  stand_with = record {
    named = λ other lt. elim (eqb_tells name.0 other.0) [
      | inl here ↦
          let same : name ≡ other = λ i. record { 0 = here.1 i } in
          subst (λ (n : TextId). find (put plain text its) (text_at texts n)
          ≡ option_map (plain_snapshot texts table) (snapshot_at new n)) same
          (find-hold_same plain text (Some its) ∙ ap (option_map (plain_snapshot texts table)) (sym keeps.its))
      | inr away ↦
          find-hold_other plain text (text_at texts other) (Some its)
          (λ e. away.1 (distinct name.0 other.0 (text_at texts other) (named_at texts name known ∙ ap Some (sym e))
          (named_at texts other lt)))
          ∙ stands.named other lt
          ∙ ap (option_map (plain_snapshot texts table)) (sym (keeps.others other (λ e. away.1 (sym e))))
    ];
    stored = keeps_stored table name s old new keeps stored stands.stored;
  }

-- ---- what is taken of what is traced

rises_map : {X Y : Type 0} (S : Y → Y → Ordering) (g : X → Y) (xs : List X) → Rises (λ a b. S (g a) (g b)) xs
    → Rises S (map g xs)
rises_map S g [] rises = tt
rises_map S g (x ∷ xs) rises = (
  λ y h. let r = from_map g y xs h in subst (λ z. S (g x) z ≡ Less) (sym r.2) (rises.0 r.0 r.1),
  rises_map S g xs rises.1,
)

all_of_has : {X : Type 0} (P : X → Type 0) (xs : List X) → ((x : X) → Has x xs → P x) → All P xs
all_of_has P [] each = All-nil P
all_of_has P (x ∷ xs) each = All-cons P x xs (each x (inl refl)) (all_of_has P xs (λ y h. each y (inr h)))

-- the trace that an answer comes from
mapped : {A B : Type 0} (f : A → B) (o : Option A) (b : B) → option_map f o ≡ Some b → (a : A) × (o ≡ Some a) × (f a ≡ b)
mapped f None b is = absurd cc
mapped f (Some a) b is = let same : Some (f a) ≡ Some b = is in let eq : f a ≡ b = cc in (a, refl, eq)

-- each stored trace has its traceback in the table, so the rows do
pub taken_stored : (texts : List Name) (table : List (List Frame)) (t : TracingView) (s : Snapshot) → IsTaken texts t s
    → ((key : TraceKey) (of : Stored) → stored_at t.traces key ≡ Some of → of.trace.0 < length table)
    → IsStored table s
taken_stored texts table t s taken numbered = record {
  few = taken.few;
  traced = all_of_has (λ (r : Row). r.trace.0 < length table) s.rows
      (λ row h. numbered row.key (stored_of row) (taken.each row h));
}

-- what is traced by number stands for what is traced by name, and a snapshot of it for that snapshot
pub taken_is : (texts : List Name) (table : List (List Frame)) (t : TracingView) (s : Snapshot) (x : Tracing)
    → IsTaken texts t s → t.limit ≡ Some x.limit → AreDistinct x.traces
    → ((key : TraceKey) → IsKnownKey (length texts) key
    → trace_at x.traces (key_of texts key) ≡ option_map (trace_of texts table) (stored_at t.traces key))
    → ((key : TraceKey) → is_some (stored_at t.traces key) ≡ true → IsKnownKey (length texts) key)
    → ((k : Key) (of : TraceOf) → trace_at x.traces k ≡ Some of
    → (key : TraceKey) × IsKnownKey (length texts) key × (key_of texts key ≡ k))
    → plain_snapshot texts table s ≡ snapshot_of x
taken_is texts table t s x taken limited distinct each known named =
    let limit : s.limit ≡ x.limit =
    let both : Some s.limit ≡ Some x.limit = sym taken.limit ∙ limited in cc in
    let rows = snapshot_one x (plain_rows texts table s.rows) distinct
    (rises_map row_cmp (plain_row texts table) s.rows taken.rises) has from in
    λ i. record { limit = limit i; rows = rows i }
  where
    has : (k : Key) (of : TraceOf) → trace_at x.traces k ≡ Some of → Has (row_of (k, of)) (plain_rows texts table s.rows)
    has k of at =
        let key = named k of at in
        let here : trace_at x.traces (key_of texts key.0) ≡ Some of = ap (trace_at x.traces) key.2 ∙ at in
        let stored = mapped (trace_of texts table) (stored_at t.traces key.0) of (sym (each key.0 key.1) ∙ here) in
        let there = has-map (plain_row texts table) (stored_row key.0 stored.0) s.rows (taken.all key.0 stored.0 stored.1) in
        subst (λ (row : PlainRow). Has row (plain_rows texts table s.rows))
        (λ i. row_of (key.2 i, stored.2 i)) there

    from : (row : PlainRow) → Has row (plain_rows texts table s.rows)
        → (of : TraceOf) × (trace_at x.traces row.key ≡ Some of) × (row ≡ row_of (row.key, of))
    from row h =
        let r = from_map (plain_row texts table) row s.rows h in
        let at = taken.each r.0 r.1 in
        let its = known r.0.key (ap (λ (o : Option Stored). is_some o) at) in
        let named_so : trace_at x.traces (key_of texts r.0.key) ≡ Some (trace_of texts table (stored_of r.0)) =
        each r.0.key its ∙ ap (option_map (trace_of texts table)) at in
        subst (λ (y : PlainRow). (of : TraceOf) × (trace_at x.traces y.key ≡ Some of) × (y ≡ row_of (y.key, of)))
        (sym r.2) (trace_of texts table (stored_of r.0), named_so, refl)
