-- What is traced by number and by name, and what each change leaves of it.
use Rattle.std.proofs.Common.{◌≡◌, ◌≢◌, ℕ, ◌+◌, ◌<◌, max, Bool, true, false, List, [], length, get_or}
use Rattle.std.proofs.Common.{slice_get, Option, Some, None, refl, sym, ap, subst, ◌∙◌, arith, true≢false}
use Rattle.std.specs.Prelude.{IfSome, IfNone, is_some, unwrap_or}
use Rattle.std.specs.Option.{option_map}
use Rattle.std.proofs.lemmas.Option.{slice_get_within, slice_get-get_or}
use Rattle.mem_base.specs.Name.{Name}
use Rattle.mem_base.specs.Texts.{IsDistinct}
use Rattle.mem_base.specs.declared.reply.Frame.{Frame}
use Rattle.mem_base.specs.declared.texts.TextId.{TextId}
use Rattle.frame_model.specs.Frames.{PlainFrame}
use Rattle.tracing_model.specs.Traces.{Key, TraceOf, AreDistinct, same_key as same_named, size_in}
use Rattle.tracing_model.specs.Tracing.{Tracing, gets, forgets, starts, stops, clears, resets, keeps, after, peak}
use Rattle.tracing_model.specs.Tracing.{trace_of as trace_now, traced_now}
use Rattle.tracing_model.proofs.CallerLemmas.{fewer_bytes, fewer_distinct, gone_at, gone_other, got_at, got_other}
use Rattle.tracing_model.proofs.CallerLemmas.{key_is, more_bytes, peak_rises, same_keys, with_distinct}
use Rattle.trace_model.specs.Plain.{text_at}
use Rattle.event_model.specs.Replies.{frames_of}
use Rattle.event_model.specs.Tracing.{trace_in, unknown_frame}
use Rattle.trace_table.specs.Traces.{Traces, same_key, size_in as stored_size, trace_at as stored_at, traced_bytes}
use Rattle.trace_table.specs.Tracing.{TracingView, ChangesOne, HoldsTheSame, IsIdle}
use Rattle.trace_table.specs.declared.key.TraceKey.{TraceKey}
use Rattle.trace_table.specs.declared.key.TraceKey.TheVariants as keys
use Rattle.trace_table.specs.declared.key.TraceOf.{TraceOf as Stored}
use Rattle.trace_table.proofs.CallerLemmas.{keys_tell}
use Rattle.machine_core.specs.Traces.{IsKnownKey, IsNumbered, KeepsNumbers, KeyStands, TracesStand, key_of}
use Rattle.machine_core.specs.Traces.{trace_of, traceback_at}

-- ---- keys

named_at : (texts : List Name) (name : TextId) → name.0 < length texts → slice_get texts name.0 ≡ Some (text_at texts name)
named_at texts name lt = read ∙ ap Some (sym (ap (λ (o : Option Name). unwrap_or o []) read))
  where
    read : slice_get texts name.0 ≡ Some (get_or texts name.0 [])
    read = slice_get-get_or texts name.0 [] lt

-- other numbers are other names
other_keys : (texts : List Name) → IsDistinct texts → (a b : TraceKey) → IsKnownKey (length texts) a
    → IsKnownKey (length texts) b → same_key a b ≡ false → key_of texts b ≢ key_of texts a
other_keys texts distinct (keys.Block a) (keys.Block b) here there away e =
    let named : text_at texts b ≡ text_at texts a = cc in
    let number = distinct a.0 b.0 (text_at texts b) (named_at texts a here ∙ ap Some (sym named)) (named_at texts b there) in
    true≢false (sym ((keys_tell (keys.Block a) (keys.Block b)).1 (λ i. keys.Block (record { 0 = number i }))) ∙ away)
other_keys texts distinct (keys.Block a) (keys.Number e n) here there away same = absurd cc
other_keys texts distinct (keys.Number d m) (keys.Block b) here there away same = absurd cc
other_keys texts distinct (keys.Number d m) (keys.Number e n) here there away same =
    let domain : d ≡ e = cc in
    let number : m ≡ n = cc in
    true≢false (sym ((keys_tell (keys.Number d m) (keys.Number e n)).1 (λ i. keys.Number (domain i) (number i))) ∙ away)

-- ---- a table that grows

-- what has a number keeps it
numbered_stays : (old new : List (List Frame)) → KeepsNumbers old new → (of : Option Stored) → IsNumbered old of
    → IsNumbered new of
numbered_stays old new keep None numbered = tt
numbered_stays old new keep (Some of) lt =
    slice_get_within new of.trace.0 (get_or old of.trace.0 [])
    (keep of.trace.0 (get_or old of.trace.0 []) (slice_get-get_or old of.trace.0 [] lt))

-- and means the same trace
trace_stays : (texts : List Name) (old new : List (List Frame)) → KeepsNumbers old new → (of : Option Stored)
    → IsNumbered old of → option_map (trace_of texts old) of ≡ option_map (trace_of texts new) of
trace_stays texts old new keep None numbered = refl
trace_stays texts old new keep (Some of) lt =
    let at = slice_get-get_or old of.trace.0 [] lt in
    let frames : traceback_at old of.trace ≡ traceback_at new of.trace =
    ap (λ (o : Option (List Frame)). unwrap_or o []) (at ∙ sym (keep of.trace.0 (get_or old of.trace.0 []) at)) in
    ap (λ (fs : List Frame). Some (shown fs)) frames
  where
    shown : List Frame → TraceOf
    shown fs = record { size = of.size; frames = frames_of texts fs; total = of.total }

-- as more tracebacks come, and memory for more traces, what is held stands for the same
pub traces_stay : (texts : List Name) (old new : List (List Frame)) (before later : TracingView)
    (t : Option Tracing) → KeepsNumbers old new → HoldsTheSame before later → TracesStand texts old before t
    → TracesStand texts new later t
traces_stay texts old new before later t keep same stands = record {
  limit = same.limit ∙ stands.limit;
  each = λ key known.
      let one = stands.each key known in
      record {
        named = one.named ∙ trace_stays texts old new keep (stored_at before.traces key) one.numbered
            ∙ ap (option_map (trace_of texts new)) (sym (same.each key));
        numbered = subst (IsNumbered new) (sym (same.each key))
            (numbered_stays old new keep (stored_at before.traces key) one.numbered);
      };
  known = λ key some. stands.known key (ap (λ (o : Option Stored). is_some o) (sym (same.each key)) ∙ some);
  named = stands.named;
  bytes = same.bytes ∙ stands.bytes;
  most = same.peak ∙ stands.most;
  below = stands.below;
  distinct = stands.distinct;
}

-- ---- one key

size_is : (texts : List Name) (table : List (List Frame)) (of : Option Stored)
    → size_in (option_map (trace_of texts table) of) ≡ stored_size of
size_is texts table None = refl
size_is texts table (Some of) = refl

-- one key comes to have a trace or none, and so does its name
module _ (texts : List Name) (table : List (List Frame)) (old new : TracingView) (t later : Option Tracing)
    (key : TraceKey) (of : Option Stored)
    (distinct : IsDistinct texts) (stands : TracesStand texts table old t) (known : IsKnownKey (length texts) key)
    (change : ChangesOne key of old new) (numbered : IsNumbered table of)
    (its : trace_in later (key_of texts key) ≡ option_map (trace_of texts table) of)
    (others : (k : Key) → k ≢ key_of texts key → trace_in later k ≡ trace_in t k) where
  each_then : (k : TraceKey) → IsKnownKey (length texts) k → KeyStands texts table new.traces later k
  each_then k there = by (same_key key k) refl
    where
      by : (b : Bool) → same_key key k ≡ b → KeyStands texts table new.traces later k
      by true same =
          subst (KeyStands texts table new.traces later) ((keys_tell key k).0 same) (record {
            named = its ∙ ap (option_map (trace_of texts table)) (sym change.changes.its);
            numbered = subst (IsNumbered table) (sym change.changes.its) numbered;
          })
      by false away =
          let one = stands.each k there in
          let same = change.changes.others k away in
          record {
            named = others (key_of texts k) (other_keys texts distinct key k known there away) ∙ one.named
                ∙ ap (option_map (trace_of texts table)) (sym same);
            numbered = subst (IsNumbered table) (sym same) one.numbered;
          }

  known_then : (k : TraceKey) → is_some (stored_at new.traces k) ≡ true → IsKnownKey (length texts) k
  known_then k some = by (same_key key k) refl
    where
      by : (b : Bool) → same_key key k ≡ b → IsKnownKey (length texts) k
      by true same = subst (IsKnownKey (length texts)) ((keys_tell key k).0 same) known
      by false away = stands.known k (ap (λ (o : Option Stored). is_some o) (sym (change.changes.others k away)) ∙ some)

  named_then : (k : Key) (one : TraceOf) → trace_in later k ≡ Some one
      → (its : TraceKey) × IsKnownKey (length texts) its × (key_of texts its ≡ k)
  named_then k one is = by (same_named (key_of texts key) k) refl
    where
      by : (b : Bool) → same_named (key_of texts key) k ≡ b
          → (its : TraceKey) × IsKnownKey (length texts) its × (key_of texts its ≡ k)
      by true same = (key, known, same_keys (key_of texts key) k same)
      by false away = stands.named k one (sym (others k other) ∙ is)
        where
          other : k ≢ key_of texts key
          other e = true≢false (sym (key_is k) ∙ ap (λ (j : Key). same_named j k) e ∙ away)

  changed : option_map (λ (x : Tracing). x.limit) later ≡ option_map (λ (x : Tracing). x.limit) t
      → traced_now later + size_in (trace_in t (key_of texts key)) ≡ traced_now t + size_in (trace_in later (key_of texts key))
      → peak later ≡ max (peak t) (traced_now later) → IfSome later (λ (x : Tracing). AreDistinct x.traces)
      → TracesStand texts table new later
  changed limit sums most apart =
      let had = ap size_in (stands.each key known).named ∙ size_is texts table (stored_at old.traces key) in
      let has = ap size_in its ∙ size_is texts table of in
      let bytes : traced_bytes new.traces ≡ traced_now later =
      omega (arith, change.changes.bytes, stands.bytes, sums, had, has) in
      record {
        limit = change.limit ∙ stands.limit ∙ sym limit;
        each = each_then;
        known = known_then;
        named = named_then;
        bytes = bytes;
        most = omega (arith, change.peak, stands.most, bytes, most);
        below = omega (arith, most);
        distinct = apart;
      }

module _ (texts : List Name) (table : List (List Frame)) (old new : TracingView) (key : TraceKey) (frames : List PlainFrame)
    (distinct : IsDistinct texts) (known : IsKnownKey (length texts) key) where
  -- the key gets a trace
  pub gets_stand : (t : Option Tracing) (limit size : ℕ) (of : Stored) → TracesStand texts table old t
      → old.limit ≡ Some limit → ChangesOne key (Some of) old new → of.trace.0 < length table
      → trace_now unknown_frame limit frames size ≡ trace_of texts table of
      → TracesStand texts table new (after unknown_frame frames (gets (key_of texts key) size) t)
  gets_stand None limit size of stands limited change numbered is = let none : None ≡ Some limit =
      sym stands.limit ∙ limited in absurd cc
  gets_stand (Some x) limit size of stands limited change numbered is =
      let here : Some x.limit ≡ Some limit = sym stands.limit ∙ limited in
      let same : x.limit ≡ limit = cc in
      let k = key_of texts key in
      let trace = trace_now unknown_frame x.limit frames size in
      let later = after unknown_frame frames (gets k size) (Some x) in
      let at = got_at x.traces k trace in
      changed texts table old new (Some x) later key (Some of) distinct stands known change numbered
      (at ∙ ap (λ (n : ℕ). Some (trace_now unknown_frame n frames size)) same ∙ ap Some is)
      (λ other ne. got_other x.traces k other trace ne)
      refl (omega (arith, more_bytes x.traces k trace stands.distinct, ap size_in at))
      (peak_rises unknown_frame frames (gets k size) x refl) (with_distinct x.traces k trace stands.distinct)

  -- the key loses its trace
  pub forgets_stand : (t : Option Tracing) → TracesStand texts table old t → ChangesOne key None old new
      → TracesStand texts table new (after unknown_frame frames (forgets (key_of texts key)) t)
  forgets_stand None stands change =
      changed texts table old new None None key None distinct stands known change tt refl (λ k ne. refl) refl refl
      (omega arith) tt
  forgets_stand (Some x) stands change =
      let k = key_of texts key in
      let later = after unknown_frame frames (forgets k) (Some x) in
      let at = gone_at x.traces k in
      changed texts table old new (Some x) later key None distinct stands known change tt at
      (λ other ne. gone_other x.traces k other ne)
      refl (omega (arith, fewer_bytes x.traces k stands.distinct, ap size_in at))
      (peak_rises unknown_frame frames (forgets k) x refl) (fewer_distinct x.traces k stands.distinct)

-- ---- while nothing is traced

-- no key gets a trace or loses one
pub idle_stands : (texts : List Name) (table : List (List Frame)) (now : TracingView) (fs : List PlainFrame)
    (key : Key) (size : ℕ) (t : Option Tracing) → TracesStand texts table now t → now.limit ≡ None
    → TracesStand texts table now (after unknown_frame fs (gets key size) t)
idle_stands texts table now fs key size None stands none = stands
idle_stands texts table now fs key size (Some x) stands none = let some : Some x.limit ≡ None =
    sym stands.limit ∙ none in absurd cc

pub idle_forgets : (texts : List Name) (table : List (List Frame)) (now : TracingView) (fs : List PlainFrame)
    (key : Key) (t : Option Tracing) → TracesStand texts table now t → now.limit ≡ None
    → TracesStand texts table now (after unknown_frame fs (forgets key) t)
idle_forgets texts table now fs key None stands none = stands
idle_forgets texts table now fs key (Some x) stands none = let some : Some x.limit ≡ None = sym stands.limit ∙ none in absurd cc

-- ---- all keys

module _ (texts : List Name) (table : List (List Frame)) (frames : List PlainFrame) where
  -- the traces are the same, and the sums go on
  pub keeps_stand : (now : TracingView) (t : Option Tracing) → TracesStand texts table now t
      → TracesStand texts table now (after unknown_frame frames keeps t)
  keeps_stand now None stands = stands
  keeps_stand now (Some x) stands =
      let most = peak_rises unknown_frame frames keeps x refl in
      record {
        limit = stands.limit;
        each = λ key known. let one = stands.each key known in record { named = one.named; numbered = one.numbered };
        known = stands.known;
        named = λ k one is. stands.named k one is;
        bytes = stands.bytes;
        most = omega (arith, stands.most, stands.below, most);
        below = omega (arith, most);
        distinct = stands.distinct;
      }

  -- there is no trace, by number or by name
  none_each : (ts : Traces) (t : Option Tracing) → ts ≡ [] → ((key : Key) → trace_in t key ≡ None)
      → (key : TraceKey) → KeyStands texts table ts t key
  none_each ts t empty none key =
      let at : stored_at ts key ≡ None = ap (λ (l : Traces). stored_at l key) empty in
      record {
        named = none (key_of texts key)
            ∙ ap (option_map (trace_of texts table)) (sym at);
        numbered = subst (IsNumbered table) (sym at) tt;
      }

  -- there is no trace, and the peak is 0
  none_stand : (now : TracingView) (t : Option Tracing) → now.limit ≡ option_map (λ (x : Tracing). x.limit) t
      → now.traces ≡ [] → now.peak ≡ 0 → ((key : Key) → trace_in t key ≡ None)
      → traced_now t ≡ 0 → peak t ≡ 0 → IfSome t (λ (x : Tracing). AreDistinct x.traces) → TracesStand texts table now t
  none_stand now t limit empty nothing none sum most distinct = record {
    limit = limit;
    each = λ key known. none_each now.traces t empty none key;
    known = λ key some. absurd
        (true≢false (sym some ∙ ap (λ (l : Traces). is_some (stored_at l key)) empty));
    named = λ k one is. let some : None ≡ Some one = sym (none k) ∙ is in absurd cc;
    bytes = ap traced_bytes empty ∙ sym sum;
    most = nothing ∙ sym most;
    below = omega (arith, sum);
    distinct = distinct;
  }

  -- nothing is traced
  pub idle_stand : (now : TracingView) → IsIdle now → TracesStand texts table now None
  idle_stand now idle = none_stand now None idle.limit idle.traces idle.peak (λ key. refl) refl refl tt

  pub stops_stand : (now : TracingView) (t : Option Tracing) → IsIdle now
      → TracesStand texts table now (after unknown_frame frames stops t)
  stops_stand now t idle = idle_stand now idle

  pub starts_stand : (old new : TracingView) (limit : ℕ) (t : Option Tracing) → TracesStand texts table old t
      → IfNone old.limit (new ≡ record old { limit = Some limit })
      → IfNone old.limit ((new.traces ≡ []) × (new.peak ≡ 0)) → IfSome old.limit (λ n. new ≡ old)
      → TracesStand texts table new (after unknown_frame frames (starts limit) t)
  starts_stand old new limit None stands begins nothing goes_on =
      let first : new ≡ record old { limit = Some limit } =
      subst (λ (o : Option ℕ). IfNone o (new ≡ record old { limit = Some limit })) stands.limit begins in
      let none : (new.traces ≡ []) × (new.peak ≡ 0) =
      subst (λ (o : Option ℕ). IfNone o ((new.traces ≡ []) × (new.peak ≡ 0))) stands.limit nothing in
      none_stand new (after unknown_frame frames (starts limit) None) (ap (λ (v : TracingView). v.limit) first)
      none.0 none.1 (λ key. refl) refl refl tt
  starts_stand old new limit (Some x) stands begins nothing goes_on =
      let same : new ≡ old = subst (λ (o : Option ℕ). IfSome o (λ n. new ≡ old)) stands.limit goes_on in
      subst (λ (v : TracingView). TracesStand texts table v (after unknown_frame frames keeps (Some x))) (sym same)
      (keeps_stand old (Some x) stands)

  pub clears_stand : (old new : TracingView) (t : Option Tracing) → TracesStand texts table old t
      → new.limit ≡ old.limit → new.traces ≡ [] → new.peak ≡ 0
      → TracesStand texts table new (after unknown_frame frames clears t)
  clears_stand old new None stands limit empty nothing =
      none_stand new None (limit ∙ stands.limit) empty nothing (λ key. refl) refl refl tt
  clears_stand old new (Some x) stands limit empty nothing =
      none_stand new (after unknown_frame frames clears (Some x)) (limit ∙ stands.limit) empty nothing (λ key. refl) refl refl tt

  pub resets_stand : (old new : TracingView) (t : Option Tracing) → TracesStand texts table old t
      → new ≡ record old { peak = traced_bytes old.traces }
      → TracesStand texts table new (after unknown_frame frames resets t)
  resets_stand old new None stands reset =
      subst (λ (v : TracingView). TracesStand texts table v None) (sym reset) (record {
        limit = stands.limit;
        each = stands.each;
        known = stands.known;
        named = stands.named;
        bytes = stands.bytes;
        most = stands.bytes;
        below = stands.below;
        distinct = tt;
      })
  resets_stand old new (Some x) stands reset =
      subst (λ (v : TracingView). TracesStand texts table v (after unknown_frame frames resets (Some x))) (sym reset) (record {
        limit = stands.limit;
        each = λ key known. let one = stands.each key known in record { named = one.named; numbered = one.numbered };
        known = stands.known;
        named = λ k one is. stands.named k one is;
        bytes = stands.bytes;
        most = omega (arith, stands.bytes);
        below = omega arith;
        distinct = stands.distinct;
      })
