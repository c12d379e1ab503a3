-- What proofs of other crates may cite: what keys have, and the peak.
use Rattle.std.proofs.Common.{◌≡◌, ◌≢◌, ℕ, ◌+◌, max, Bool, true, false, cond, List, [], ◌∷◌, ◌++◌, Option, Some, None, refl, sym, ap, ◌∙◌, arith, true≢false}
use Rattle.std.specs.Prelude.{◌&&◌, ◌==◌}
use Rattle.std.proofs.lemmas.List.Sums.{sum_by-cons}
use Rattle.std.proofs.lemmas.Bool.Decides.{Decides-eqb}
use Rattle.std.proofs.lemmas.Slice.Eq.{bytes_eq-Decides}
use Rattle.frame_model.specs.Frames.{PlainFrame}
use Rattle.tracing_model.specs.Traces.{Key, of_block, of_mark, TraceOf, Traces, AreDistinct, same_key, size_in, trace_at, traced_bytes, traces_with, traces_without}
use Rattle.tracing_model.specs.Tracing.{Tracing, Change, gets, forgets, starts, stops, clears, resets, keeps, after, greatest, peak, traced_now}
use Rattle.tracing_model.specs.Laws.{goes_on}

-- ---- keys

pub same_keys : (a b : Key) → same_key a b ≡ true → a ≡ b
same_keys (of_block a) (of_block b) is = ap of_block ((bytes_eq-Decides a b).0 is)
same_keys (of_block a) (of_mark e n) is = absurd (true≢false (sym is))
same_keys (of_mark d m) (of_block b) is = absurd (true≢false (sym is))
same_keys (of_mark d m) (of_mark e n) is = by (d == e) (m == n) refl refl is
  where
    by : (x y : Bool) → (d == e) ≡ x → (m == n) ≡ y → (x && y) ≡ true → of_mark d m ≡ of_mark e n
    by true true f g h =
        let first = (Decides-eqb d e).0 f in let second = (Decides-eqb m n).0 g in
        λ i. of_mark (first i) (second i)
    by true false f g h = absurd (true≢false (sym h))
    by false y f g h = absurd (true≢false (sym h))

pub key_is : (a : Key) → same_key a a ≡ true
key_is (of_block a) = (bytes_eq-Decides a a).1 refl
key_is (of_mark d m) = λ i. (Decides-eqb d d).1 refl i && (Decides-eqb m m).1 refl i

other_key : (a b : Key) → b ≢ a → same_key a b ≡ false
other_key a b ne = by (same_key a b) refl
  where
    by : (v : Bool) → same_key a b ≡ v → v ≡ false
    by true e = absurd (ne (sym (same_keys a b e)))
    by false e = refl

-- ---- what a key has

pub gone_at : (ts : Traces) (key : Key) → trace_at (traces_without ts key) key ≡ None
gone_at [] key = refl
gone_at (e ∷ ts) key = by (same_key e.0 key) refl (gone_at ts key)
  where
    by : (b : Bool) → same_key e.0 key ≡ b → trace_at (traces_without ts key) key ≡ None → trace_at (cond b (traces_without ts key) (e ∷ traces_without ts key)) key ≡ None
    by true h rest = rest
    by false h rest = ap (λ (b : Bool). cond b (Some e.1) (trace_at (traces_without ts key) key)) h ∙ rest

pub gone_other : (ts : Traces) (key other : Key) → other ≢ key → trace_at (traces_without ts key) other ≡ trace_at ts other
gone_other [] key other ne = refl
gone_other (e ∷ ts) key other ne = by (same_key e.0 key) refl (gone_other ts key other ne)
  where
    by : (b : Bool) → same_key e.0 key ≡ b → trace_at (traces_without ts key) other ≡ trace_at ts other
        → trace_at (cond b (traces_without ts key) (e ∷ traces_without ts key)) other ≡ trace_at (e ∷ ts) other
    by true h rest =
        let away : same_key e.0 other ≡ false = other_key e.0 other (λ k. ne (k ∙ same_keys e.0 key h)) in
        rest ∙ sym (ap (λ (b : Bool). cond b (Some e.1) (trace_at ts other)) away)
    by false h rest = ap (λ (o : Option TraceOf). cond (same_key e.0 other) (Some e.1) o) rest

pub got_at : (ts : Traces) (key : Key) (t : TraceOf) → trace_at (traces_with ts key t) key ≡ Some t
got_at ts key t = ap (λ (b : Bool). cond b (Some t) (trace_at (traces_without ts key) key)) (key_is key)

pub got_other : (ts : Traces) (key other : Key) (t : TraceOf) → other ≢ key → trace_at (traces_with ts key t) other ≡ trace_at ts other
got_other ts key other t ne = ap (λ (b : Bool). cond b (Some t) (trace_at (traces_without ts key) other)) (other_key key other ne) ∙ gone_other ts key other ne

-- a key that has no trace has none among fewer
none_fewer : (ts : Traces) (key k : Key) → trace_at ts k ≡ None → trace_at (traces_without ts key) k ≡ None
none_fewer ts key k none = by (same_key key k) refl
  where
    by : (b : Bool) → same_key key k ≡ b → trace_at (traces_without ts key) k ≡ None
    by true h = ap (trace_at (traces_without ts key)) (sym (same_keys key k h)) ∙ gone_at ts key
    by false h = gone_other ts key k (λ same. true≢false (sym (ap (same_key key) same ∙ key_is key) ∙ h)) ∙ none

pub fewer_distinct : (ts : Traces) (key : Key) → AreDistinct ts → AreDistinct (traces_without ts key)
fewer_distinct [] key are = tt
fewer_distinct (e ∷ ts) key are = by (same_key e.0 key) (fewer_distinct ts key are.1) (none_fewer ts key e.0 are.0)
  where
    by : (b : Bool) → AreDistinct (traces_without ts key) → trace_at (traces_without ts key) e.0 ≡ None → AreDistinct (cond b (traces_without ts key) (e ∷ traces_without ts key))
    by true rest none = rest
    by false rest none = (none, rest)

pub with_distinct : (ts : Traces) (key : Key) (t : TraceOf) → AreDistinct ts → AreDistinct (traces_with ts key t)
with_distinct ts key t are = (gone_at ts key, fewer_distinct ts key are)

-- ---- sums

abbrev size_of_entry : Key × TraceOf → ℕ
size_of_entry e = e.1.size

pub fewer_bytes : (ts : Traces) (key : Key) → AreDistinct ts → traced_bytes (traces_without ts key) + size_in (trace_at ts key) ≡ traced_bytes ts
fewer_bytes [] key are = refl
fewer_bytes (e ∷ ts) key are = by (same_key e.0 key) refl (fewer_bytes ts key are.1)
  where
    by : (b : Bool) → same_key e.0 key ≡ b → traced_bytes (traces_without ts key) + size_in (trace_at ts key) ≡ traced_bytes ts
        → traced_bytes (cond b (traces_without ts key) (e ∷ traces_without ts key)) + size_in (cond b (Some e.1) (trace_at ts key)) ≡ traced_bytes (e ∷ ts)
    by true h rest =
        let none : size_in (trace_at ts key) ≡ 0 = ap size_in (ap (trace_at ts) (sym (same_keys e.0 key h)) ∙ are.0) in
        omega (arith, rest, none, sum_by-cons size_of_entry e ts)
    by false h rest = omega (arith, rest, sum_by-cons size_of_entry e ts, sum_by-cons size_of_entry e (traces_without ts key))

pub more_bytes : (ts : Traces) (key : Key) (t : TraceOf) → AreDistinct ts → traced_bytes (traces_with ts key t) + size_in (trace_at ts key) ≡ traced_bytes ts + t.size
more_bytes ts key t are = omega (arith, fewer_bytes ts key are, sum_by-cons size_of_entry (key, t) (traces_without ts key))

-- ---- the peak

greatest_more : (ns : List ℕ) (n : ℕ) → greatest (ns ++ n ∷ []) ≡ max (greatest ns) n
greatest_more [] n = omega arith
greatest_more (m ∷ ns) n = omega (arith, greatest_more ns n)

pub peak_rises : (unknown : PlainFrame) (frames : List PlainFrame) (change : Change) (t : Tracing) → goes_on change ≡ true
    → peak (after unknown frames change (Some t)) ≡ max (peak (Some t)) (traced_now (after unknown frames change (Some t)))
peak_rises unknown frames (gets key size) t on = greatest_more t.sums _
peak_rises unknown frames (forgets key) t on = greatest_more t.sums _
peak_rises unknown frames (starts limit) t on = greatest_more t.sums _
peak_rises unknown frames stops t on = absurd (true≢false (sym on))
peak_rises unknown frames clears t on = absurd (true≢false (sym on))
peak_rises unknown frames resets t on = absurd (true≢false (sym on))
peak_rises unknown frames keeps t on = greatest_more t.sums _

least : (n : ℕ) → max n 0 ≡ n
least n = omega arith

pub peak_begins : (unknown : PlainFrame) (frames : List PlainFrame) (limit : ℕ) (t : Tracing)
    → (peak (after unknown frames (starts limit) None) ≡ traced_now (after unknown frames (starts limit) None))
    × (peak (after unknown frames clears (Some t)) ≡ traced_now (after unknown frames clears (Some t)))
    × (peak (after unknown frames resets (Some t)) ≡ traced_now (after unknown frames resets (Some t)))
peak_begins unknown frames limit t = (refl, refl, least (traced_bytes t.traces))

pub only_starts : (unknown : PlainFrame) (frames : List PlainFrame) (change : Change) → ((limit : ℕ) → change ≢ starts limit) → after unknown frames change None ≡ None
only_starts unknown frames (gets key size) not_start = refl
only_starts unknown frames (forgets key) not_start = refl
only_starts unknown frames (starts limit) not_start = absurd (not_start limit refl)
only_starts unknown frames stops not_start = refl
only_starts unknown frames clears not_start = refl
only_starts unknown frames resets not_start = refl
only_starts unknown frames keeps not_start = refl
