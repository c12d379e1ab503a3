-- The rows of traces, in the order of their keys.
use Rattle.std.proofs.Common.{◌≡◌, ◌≢◌, ℕ, ◌<◌, ◌^◌, Bool, true, false, List, [], ◌∷◌, map, length, get_or, refl, sym}
use Rattle.std.proofs.Common.{ap, subst, ◌∙◌, arith, true≢false, Option, Some, inl, inr}
use Rattle.std.specs.Prelude.{is_some, slice_index}
use Rattle.std.specs.declared.cmp.Ordering.{Ordering}
use Rattle.std.specs.declared.cmp.Ordering.TheVariants.{Less, Equal, Greater}
use Rattle.std.specs.Ordering.{nat_cmp, ordering_then}
use Rattle.std.specs.Cmp.{IsTotalOrder, IsEquivalence}
use Rattle.std.specs.List.{AllByRecursion, AllPairs, IsDistinct}
use Rattle.std.specs.Map.{keys_of}
use Rattle.std.proofs.lemmas.Cmp.{nat_cmp_total, on_total, then_total}
use Rattle.std.proofs.lemmas.List.{length-map}
use Rattle.std.proofs.lemmas.List.Sorted.{IsPermutation-sym, length_permutation}
use Rattle.std.proofs.lemmas.Map.Entries.{lookup_from_place, place_from_lookup}
use Rattle.std.proofs.lemmas.Map.Keys.{IsDistinct-IsPermutation, IsDistinct-cons, IsDistinct-from_apart, IsDistinct-head}
use Rattle.std.proofs.lemmas.Map.Keys.{IsDistinct-tail, apart_from_distinct}
use Rattle.std.proofs.lemmas.Map.Lookups.{exact_unsigned}
use Rattle.std.proofs.lemmas.Option.{get_or_from_slice_get, slice_get-get_or, slice_get_within}
use Rattle.mem_base.specs.Name.{Name}
use Rattle.mem_base.specs.Texts.{IsDistinct as AreDistinctTexts}
use Rattle.extents.specs.Sums.{Has}
use Rattle.extents.proofs.CallerLemmas.{has_at, has-map}
use Rattle.snapshot_model.specs.Order.{Rises}
use Rattle.snapshot_model.specs.Snapshots.{trace_cmp}
use Rattle.snapshot_model.proofs.CallerLemmas.{then_both}
use Rattle.trace_table.specs.Plain.{key_of, row_of, stored_of, IsKnownKey, IsTaken}
use Rattle.trace_table.specs.Ranks.{AreRanks}
use Rattle.trace_table.specs.Rows.{ranked_cmp, AreAllRows}
use Rattle.trace_table.specs.Traces.{Traces, same_key, trace_at}
use Rattle.trace_table.specs.Tracing.{TracingView}
use Rattle.trace_table.specs.declared.key.TraceKey.{TraceKey}
use Rattle.trace_table.specs.declared.key.TraceKey.TheVariants as keys
use Rattle.trace_table.specs.declared.key.TraceOf.{TraceOf}
use Rattle.trace_table.specs.declared.snapshot.Row.{Row}
use Rattle.trace_table.specs.declared.snapshot.Snapshot.{Snapshot}
use Rattle.trace_table.proofs.CallerLemmas.{keys_tell}
use Rattle.trace_table.proofs.RankLemmas.{texts_differ}
use Rattle.trace_table.proofs.Sorting.{has_moved, pairs_rise, place_of, rises_so}

-- ---- keys as numbers

abbrev kind_in : TraceKey → ℕ
kind_in (keys.Block name) = 0
kind_in (keys.Number domain number) = 1

abbrev first_in : List ℕ → TraceKey → ℕ
first_in ranks (keys.Block name) = slice_index ranks name.0
first_in ranks (keys.Number domain number) = domain

abbrev second_in : TraceKey → ℕ
second_in (keys.Block name) = 0
second_in (keys.Number domain number) = number

abbrev coded_cmp : List ℕ → TraceKey → TraceKey → Ordering
coded_cmp ranks a b =
    ordering_then (nat_cmp (kind_in a) (kind_in b))
    (ordering_then (nat_cmp (first_in ranks a) (first_in ranks b)) (nat_cmp (second_in a) (second_in b)))

then_nothing : (o : Ordering) → ordering_then o Equal ≡ o
then_nothing Less = refl
then_nothing Equal = refl
then_nothing Greater = refl

coded_same : (ranks : List ℕ) (a b : TraceKey) → coded_cmp ranks a b ≡ ranked_cmp ranks a b
coded_same ranks (keys.Block a) (keys.Block b) = then_nothing (nat_cmp (slice_index ranks a.0) (slice_index ranks b.0))
coded_same ranks (keys.Block a) (keys.Number e n) = refl
coded_same ranks (keys.Number d m) (keys.Block b) = refl
coded_same ranks (keys.Number d m) (keys.Number e n) = refl

coded_total : (ranks : List ℕ) → IsTotalOrder (coded_cmp ranks)
coded_total ranks =
    then_total (on_total kind_in nat_cmp_total)
    (then_total (on_total (first_in ranks) nat_cmp_total) (on_total second_in nat_cmp_total))

pub ranked_total : (ranks : List ℕ) → IsTotalOrder (ranked_cmp ranks)
ranked_total ranks =
    subst (λ (R : TraceKey → TraceKey → Ordering). IsTotalOrder R) (λ i a b. coded_same ranks a b i) (coded_total ranks)

abbrev pub row_rank : List ℕ → Row → Row → Ordering
row_rank ranks a b = ranked_cmp ranks a.key b.key

pub rows_total : (ranks : List ℕ) → IsTotalOrder (row_rank ranks)
rows_total ranks = on_total (λ (r : Row). r.key) (ranked_total ranks)

-- ---- ranks stand for names

ranked_is : (texts : List Name) (ranks : List ℕ) → AreRanks texts ranks → (a b : TraceKey) → IsKnownKey (length ranks) a
    → IsKnownKey (length ranks) b → ranked_cmp ranks a b ≡ trace_cmp (key_of texts a) (key_of texts b)
ranked_is texts ranks are (keys.Block a) (keys.Block b) p q = are.order a b (omega (arith, p, are.size))
    (omega (arith, q, are.size))
ranked_is texts ranks are (keys.Block a) (keys.Number e n) p q = refl
ranked_is texts ranks are (keys.Number d m) (keys.Block b) p q = refl
ranked_is texts ranks are (keys.Number d m) (keys.Number e n) p q = refl

-- keys that differ do not tie
keys_differ : (texts : List Name) (ranks : List ℕ) → AreDistinctTexts texts → AreRanks texts ranks → (a b : TraceKey)
    → IsKnownKey (length ranks) a → IsKnownKey (length ranks) b → a ≢ b → ranked_cmp ranks a b ≢ Equal
keys_differ texts ranks distinct are (keys.Block a) (keys.Block b) p q ne tied =
    let l : a.0 < length texts = omega (arith, p, are.size) in
    let m : b.0 < length texts = omega (arith, q, are.size) in
    texts_differ texts distinct a.0 b.0 l m (λ e. ne (λ i. keys.Block (record { 0 = e i }))) (sym (are.order a b l m) ∙ tied)
keys_differ texts ranks distinct are (keys.Block a) (keys.Number e n) p q ne tied = absurd (cc)
keys_differ texts ranks distinct are (keys.Number d m) (keys.Block b) p q ne tied = absurd (cc)
keys_differ texts ranks distinct are (keys.Number d m) (keys.Number e n) p q ne tied =
    let both = then_both (nat_cmp d e) (nat_cmp m n) tied in
    let x = exact_unsigned d e both.0 in
    let y = exact_unsigned m n both.1 in
    ne (λ i. keys.Number (x i) (y i))

-- ---- keys are told apart

agree : (p q : Bool) → (p ≡ true → q ≡ true) → (q ≡ true → p ≡ true) → p ≡ q
agree true true f g = refl
agree true false f g = sym (f refl)
agree false true f g = g refl
agree false false f g = refl

same_flips : (a b : TraceKey) → same_key a b ≡ same_key b a
same_flips a b = agree (same_key a b) (same_key b a)
    (λ h. (keys_tell b a).1 (sym ((keys_tell a b).0 h))) (λ h. (keys_tell a b).1 (sym ((keys_tell b a).0 h)))

same_equivalence : IsEquivalence same_key
same_equivalence = record {
  refl = λ a. (keys_tell a a).1 refl;
  symm = same_flips;
  congr = λ a b k h. ap (λ (x : TraceKey). same_key x k) ((keys_tell a b).0 h);
}

apart_keys : (a b : TraceKey) → same_key a b ≡ false → a ≢ b
apart_keys a b h e = true≢false (sym ((keys_tell a b).1 e) ∙ h)

-- ---- rows and traces

abbrev pub row_for : TraceKey × TraceOf → Row
row_for e = row_of e.0 e.1

abbrev same_rows : Row → Row → Bool
same_rows a b = same_key a.key b.key

firsts : (k : TraceKey) (ts : Traces) → AllByRecursion (λ y. same_key k y ≡ false) (keys_of ts)
    → AllByRecursion (λ (r : Row). same_key k r.key ≡ false) (map row_for ts)
firsts k [] h = tt
firsts k (e ∷ ts) h = (h.0, firsts k ts h.1)

rows_once : (ts : Traces) → IsDistinct same_key (keys_of ts) → IsDistinct same_rows (map row_for ts)
rows_once [] h = IsDistinct-from_apart same_rows [] (λ i j d lt within. absurd (omega (arith, within)))
rows_once (e ∷ ts) h =
    IsDistinct-cons same_rows (row_for e) (map row_for ts) (firsts e.0 ts (IsDistinct-head same_key e.0 (keys_of ts) h))
    (rows_once ts (IsDistinct-tail same_key e.0 (keys_of ts) h))

from_map : (row : Row) (ts : Traces) → Has row (map row_for ts) → (e : TraceKey × TraceOf) × Has e ts × (row_for e ≡ row)
from_map row [] h = absurd h
from_map row (e ∷ ts) (inl same) = (e, inl refl, same)
from_map row (e ∷ ts) (inr h) = let r = from_map row ts h in (r.0, inr r.1, r.2)

found : (ts : Traces) (e : TraceKey × TraceOf) → IsDistinct same_key (keys_of ts) → Has e ts → trace_at ts e.0 ≡ Some e.1
found ts e once h =
    let at = place_of e ts h in
    lookup_from_place same_equivalence ts at.0 e.0 e.1 once
    (slice_get-get_or ts at.0 e at.1 ∙ ap (λ (x : TraceKey × TraceOf). Some x) at.2)

-- each row is the trace under its key
pub each_row : (ranks : List ℕ) (ts : Traces) (rows : List Row) → AreAllRows ranks ts rows → (row : Row) → Has row rows
    → trace_at ts row.key ≡ Some (stored_of row)
each_row ranks ts rows all row h =
    let r = from_map row ts (has_moved row rows (map row_for ts) (IsPermutation-sym (map row_for ts) rows all.same) h) in
    subst (λ (x : Row). trace_at ts x.key ≡ Some (stored_of x)) r.2 (found ts r.0 all.once r.1)

-- the trace under a key has a row
pub all_rows : (ranks : List ℕ) (ts : Traces) (rows : List Row) → AreAllRows ranks ts rows → (key : TraceKey) (of : TraceOf)
    → trace_at ts key ≡ Some of → Has (row_of key of) rows
all_rows ranks ts rows all key of h =
    let at = place_from_lookup (same_key key) ts of h in
    let e : TraceKey × TraceOf = (at.1, of) in
    let here : Has e ts = subst (λ (x : TraceKey × TraceOf). Has x ts) (get_or_from_slice_get ts at.0 e e at.2)
    (has_at ts at.0 e (slice_get_within ts at.0 e at.2)) in
    let there = has_moved (row_for e) (map row_for ts) rows all.same (has-map row_for e ts here) in
    subst (λ (k : TraceKey). Has (row_of k of) rows) (sym ((keys_tell key at.1).0 at.3)) there

-- the rows rise by the names and numbers of their keys
rows_rise : (texts : List Name) (ranks : List ℕ) (ts : Traces) (rows : List Row) → AreDistinctTexts texts → AreRanks texts ranks
    → AreAllRows ranks ts rows → ((key : TraceKey) → is_some (trace_at ts key) ≡ true → IsKnownKey (length ranks) key)
    → Rises (λ (a : Row) (b : Row). trace_cmp (key_of texts a.key) (key_of texts b.key)) rows
rows_rise texts ranks ts rows distinct are all known =
    let known_at : (i : ℕ) (d : Row) → i < length rows → IsKnownKey (length ranks) (get_or rows i d).key
    = λ i d lt. known (get_or rows i d).key (ap (λ (o : Option TraceOf). is_some o)
    (each_row ranks ts rows all (get_or rows i d) (has_at rows i d lt))) in
    let once = IsDistinct-IsPermutation same_rows (λ a b. same_flips a.key b.key) (map row_for ts) rows all.same
    (rows_once ts all.once) in
    let apart : AllPairs (λ a b. row_rank ranks a b ≢ Equal) rows
    = λ i j d lt within. keys_differ texts ranks distinct are (get_or rows i d).key (get_or rows j d).key
    (known_at i d (omega (arith, lt, within))) (known_at j d within)
    (apart_keys _ _ (apart_from_distinct same_rows rows i j d once lt within)) in
    let rise = pairs_rise (rows_total ranks) rows all.sorted apart in
    rises_so (λ (a : Row) (b : Row). trace_cmp (key_of texts a.key) (key_of texts b.key)) rows
    (λ i j d lt within. sym (ranked_is texts ranks are (get_or rows i d).key (get_or rows j d).key
    (known_at i d (omega (arith, lt, within))) (known_at j d within)) ∙ rise i j d lt within)

pub is_taken : (texts : List Name) (ranks : List ℕ) (t : TracingView) (s : Snapshot) → AreDistinctTexts texts
    → AreRanks texts ranks → AreAllRows ranks t.traces s.rows
    → ((key : TraceKey) → is_some (trace_at t.traces key) ≡ true → IsKnownKey (length ranks) key)
    → t.limit ≡ Some s.limit → length t.traces < 2 ^ 32 → IsTaken texts t s
is_taken texts ranks t s distinct are all known limit few = record {
  limit = limit;
  each = each_row ranks t.traces s.rows all;
  all = all_rows ranks t.traces s.rows all;
  rises = rows_rise texts ranks t.traces s.rows distinct are all known;
  few = omega (arith, length_permutation (map row_for t.traces) s.rows all.same, length-map t.traces row_for, few);
}
