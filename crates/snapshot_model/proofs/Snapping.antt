-- The rows of a snapshot: one for each key that has a trace, in order.
use Rattle.std.proofs.Common.{◌≡◌, ℕ, Bool, true, false, cond, List, [], ◌∷◌, map, Some, None, refl, sym, ap, ◌∙◌}
use Rattle.std.proofs.Common.{subst, inl, inr}
use Rattle.std.specs.declared.cmp.Ordering.{Ordering}
use Rattle.std.specs.declared.cmp.Ordering.TheVariants.{Less, Equal}
use Rattle.std.specs.Ordering.{nat_cmp, ordering_then, ordering_reverse}
use Rattle.std.specs.Cmp.{IsTotalOrder}
use Rattle.std.proofs.lemmas.Cmp.{nat_cmp_total, nat_list_cmp_total, on_total, then_total, back_total}
use Rattle.extents.specs.Sums.{Has}
use Rattle.extents.proofs.CallerLemmas.{has-map}
use Rattle.tracing_model.specs.Traces.{Key, of_block, of_mark, TraceOf, Traces, AreDistinct, same_key, trace_at}
use Rattle.tracing_model.specs.Tracing.{Tracing}
use Rattle.tracing_model.proofs.CallerLemmas.{same_keys, key_is}
use Rattle.snapshot_model.specs.Order.{Rises}
use Rattle.snapshot_model.specs.Snapshots.{PlainRow, trace_cmp, row_cmp, row_of, snapshot_of}
use Rattle.snapshot_model.proofs.Rising.{AreApart, from_map, rising_has, has_rising, rising_rises, falls_back}
use Rattle.snapshot_model.proofs.Order.{falls_same, then_both, same_nat, same_list}

-- ---- the order of keys

-- marked numbers by their domains and then by number
abbrev mark_cmp : ℕ × ℕ → ℕ × ℕ → Ordering
mark_cmp p q = ordering_then (nat_cmp p.0 q.0) (nat_cmp p.1 q.1)

marks_total : IsTotalOrder mark_cmp
marks_total = then_total (on_total (λ (p : ℕ × ℕ). p.0) nat_cmp_total) (on_total (λ (p : ℕ × ℕ). p.1) nat_cmp_total)

keys_turn : (a b : Key) → trace_cmp a b ≡ ordering_reverse (trace_cmp b a)
keys_turn (of_block a) (of_block b) = nat_list_cmp_total.antisymm a b
keys_turn (of_block a) (of_mark e n) = refl
keys_turn (of_mark d m) (of_block b) = refl
keys_turn (of_mark d m) (of_mark e n) = marks_total.antisymm (d, m) (e, n)

keys_go : (a b c : Key) → trace_cmp a b ≡ Less → trace_cmp b c ≡ Less → trace_cmp a c ≡ Less
keys_go (of_block a) (of_block b) (of_block c) p q = nat_list_cmp_total.trans a b c p q
keys_go (of_block a) (of_block b) (of_mark f o) p q = refl
keys_go (of_block a) (of_mark e n) (of_block c) p q = absurd (cc)
keys_go (of_block a) (of_mark e n) (of_mark f o) p q = refl
keys_go (of_mark d m) (of_block b) c p q = absurd (cc)
keys_go (of_mark d m) (of_mark e n) (of_block c) p q = absurd (cc)
keys_go (of_mark d m) (of_mark e n) (of_mark f o) p q = marks_total.trans (d, m) (e, n) (f, o) p q

keys_tie : (a b c : Key) → trace_cmp a b ≡ Equal → trace_cmp a c ≡ trace_cmp b c
keys_tie (of_block a) (of_block b) (of_block c) p = nat_list_cmp_total.congr a b c p
keys_tie (of_block a) (of_block b) (of_mark f o) p = refl
keys_tie (of_block a) (of_mark e n) c p = absurd (cc)
keys_tie (of_mark d m) (of_block b) c p = absurd (cc)
keys_tie (of_mark d m) (of_mark e n) (of_block c) p = refl
keys_tie (of_mark d m) (of_mark e n) (of_mark f o) p = marks_total.congr (d, m) (e, n) (f, o) p

pub trace_cmp_total : IsTotalOrder trace_cmp
trace_cmp_total = record { antisymm = keys_turn; trans = keys_go; congr = keys_tie }

pub row_cmp_total : IsTotalOrder row_cmp
row_cmp_total = on_total (λ (row : PlainRow). row.key) trace_cmp_total

pub same_trace_key : (a b : Key) → trace_cmp a b ≡ Equal → a ≡ b
same_trace_key (of_block a) (of_block b) tied = ap of_block (same_list nat_cmp same_nat a b tied)
same_trace_key (of_block a) (of_mark e n) tied = absurd (cc)
same_trace_key (of_mark d m) (of_block b) tied = absurd (cc)
same_trace_key (of_mark d m) (of_mark e n) tied =
    let both = then_both (nat_cmp d e) (nat_cmp m n) tied in
    let domains : d ≡ e = same_nat d e both.0 in
    let numbers : m ≡ n = same_nat m n both.1 in
    λ i. of_mark (domains i) (numbers i)

-- ---- traces under their keys

-- the trace of a key stands in the list
pub has_trace : (ts : Traces) (key : Key) (of : TraceOf) → trace_at ts key ≡ Some of → Has (key, of) ts
has_trace [] key of at = absurd (cc)
has_trace (e ∷ ts) key of at = by (same_key e.0 key) refl at (has_trace ts key of)
  where
    by : (b : Bool) → same_key e.0 key ≡ b → cond b (Some e.1) (trace_at ts key) ≡ Some of
        → (trace_at ts key ≡ Some of → Has (key, of) ts) → Has (key, of) (e ∷ ts)
    by true is at later =
        let keys : e.0 ≡ key = same_keys e.0 key is in
        let traces : e.1 ≡ of = cc in
        inl (λ i. (keys i, traces i))
    by false is at later = inr (later at)

-- what stands in the list is the trace of its key
pub trace_of_has : (ts : Traces) (e : Key × TraceOf) → AreDistinct ts → Has e ts → trace_at ts e.0 ≡ Some e.1
trace_of_has [] e are h = absurd h
trace_of_has (f ∷ ts) e are (inl same) =
    subst (λ (g : Key × TraceOf). trace_at (f ∷ ts) g.0 ≡ Some g.1) same
    (ap (λ (b : Bool). cond b (Some f.1) (trace_at ts f.0)) (key_is f.0))
trace_of_has (f ∷ ts) e are (inr h) = by (same_key f.0 e.0) refl (trace_of_has ts e are.1 h)
  where
    by : (b : Bool) → same_key f.0 e.0 ≡ b → trace_at ts e.0 ≡ Some e.1 → cond b (Some f.1) (trace_at ts e.0) ≡ Some e.1
    by true is later = let none : trace_at ts e.0 ≡ None = ap (trace_at ts) (sym (same_keys f.0 e.0 is)) ∙ are.0 in absurd (cc)
    by false is later = later

pub rows_apart : (ts : Traces) → AreDistinct ts → AreApart row_cmp (map row_of ts)
rows_apart [] are = tt
rows_apart (e ∷ ts) are = (apart, rows_apart ts are.1)
  where
    apart : (row : PlainRow) → Has row (map row_of ts) → row_cmp (row_of e) row ≡ Equal → ⊥
    apart row h tied =
        let r = from_map row_of row ts h in
        let keys : e.0 ≡ r.0.0 = same_trace_key e.0 r.0.0 (ap (row_cmp (row_of e)) (sym r.2) ∙ tied) in
        let some : trace_at ts e.0 ≡ Some r.0.1 = ap (trace_at ts) keys ∙ trace_of_has ts r.0 are.1 r.1 in
        let none : trace_at ts e.0 ≡ None = are.0 in
        absurd (cc)

-- ---- the snapshot

pub snapshot_rises : (t : Tracing) → AreDistinct t.traces → Rises row_cmp (snapshot_of t).rows
snapshot_rises t are = rising_rises row_cmp_total (map row_of t.traces) (rows_apart t.traces are)

pub snapshot_has :
    (t : Tracing) (key : Key) (of : TraceOf) → trace_at t.traces key ≡ Some of
    → Has (row_of (key, of)) (snapshot_of t).rows
snapshot_has t key of at =
    rising_has row_cmp (row_of (key, of)) (map row_of t.traces)
    (has-map row_of (key, of) t.traces (has_trace t.traces key of at))

pub snapshot_from :
    (t : Tracing) → AreDistinct t.traces → (row : PlainRow) → Has row (snapshot_of t).rows
    → (of : TraceOf) × (trace_at t.traces row.key ≡ Some of) × (row ≡ row_of (row.key, of))
snapshot_from t are row h =
    let r = from_map row_of row t.traces (has_rising row_cmp row (map row_of t.traces) h) in
    let keys : row.key ≡ r.0.0 = ap (λ (x : PlainRow). x.key) r.2 in
    let at : trace_at t.traces row.key ≡ Some r.0.1 = ap (trace_at t.traces) keys ∙ trace_of_has t.traces r.0 are r.1 in
    let is : row ≡ row_of (row.key, r.0.1) = r.2 ∙ ap (λ (key : Key). row_of (key, r.0.1)) (sym keys) in
    (r.0.1, at, is)

pub snapshot_one :
    (t : Tracing) (rows : List PlainRow) → AreDistinct t.traces → Rises row_cmp rows
    → ((key : Key) (of : TraceOf) → trace_at t.traces key ≡ Some of → Has (row_of (key, of)) rows)
    → ((row : PlainRow) → Has row rows → (of : TraceOf) × (trace_at t.traces row.key ≡ Some of) × (row ≡ row_of (row.key, of)))
    → rows ≡ (snapshot_of t).rows
snapshot_one t rows are rises has from =
    falls_same (back_total row_cmp_total) rows (snapshot_of t).rows (falls_back row_cmp rows rises)
    (falls_back row_cmp (snapshot_of t).rows (snapshot_rises t are)) there here
  where
    there : (row : PlainRow) → Has row rows → Has row (snapshot_of t).rows
    there row h =
        let r = from row h in
        subst (λ (x : PlainRow). Has x (snapshot_of t).rows) (sym r.2) (snapshot_has t row.key r.0 r.1)

    here : (row : PlainRow) → Has row (snapshot_of t).rows → Has row rows
    here row h =
        let r = snapshot_from t are row h in
        subst (λ (x : PlainRow). Has x rows) (sym r.2) (has row.key r.0 r.1)
