-- A track that begins, and picks of a track.
use Rattle.std.proofs.Common.{◌≡◌, ℕ, zero, suc, ◌+◌, ◌<◌, ◌≤◌, Bool, true, false, cond, ◌||◌, List, [], ◌∷◌}
use Rattle.std.proofs.Common.{◌++◌, length, slice_get, Some, None, Result, Ok, Err, refl, sym, ap, subst, ◌∙◌}
use Rattle.std.proofs.Common.{arith, add-one, length-append, inl, inr}
use Rattle.std.specs.Prelude.{is_ok, unwrap_or, nat_lt}
use Rattle.std.specs.List.{AllByRecursion, list_any}
use Rattle.std.specs.Str.{bytes_eq}
use Rattle.std.proofs.lemmas.Bool.{lt-ltb, le-leb, le-ltb, lt-leb, cases_lt}
use Rattle.std.proofs.lemmas.List.{map-append, length-map}
use Rattle.std.proofs.lemmas.List.Sums.{sum_by-append}
use Rattle.mem_base.specs.declared.limits.TheConstants.{MAX_PICKS, MAX_TRACKS}
use Rattle.mem_base.specs.declared.texts.TextId.{TextId}
use Rattle.mem_base.specs.declared.trace.Pick.{Pick}
use Rattle.mem_base.specs.declared.trace.Track.{Track}
use Rattle.mem_base.specs.Name.{Name}
use Rattle.mem_base.specs.Texts.{with_text}
use Rattle.trace_model.specs.Operands.{◌>>=◌}
use Rattle.trace_model.specs.Plain.{PlainTrack, PlainTrace, plain, text_at, tracks_of, picks_of}
use Rattle.trace_model.specs.Spelling.{action_count, report_count, pick_count, snapshot_names}
use Rattle.trace_model.specs.Known.{IsKnown}
use Rattle.trace_model.specs.Table.{table_of}
use Rattle.trace_model.specs.Reading.{start, with_track, open_frames, index_of, pick}
use Rattle.trace_model.specs.declared.cause.TraceCause.{TraceCause}
use Rattle.trace_model.specs.declared.cause.TraceCause.TheVariants.{NoTrack, SameTrack, TooMany}
use Rattle.trace_model.proofs.CallerLemmas.{all_push, count_of_new, reports_of_new, open_with_last, table_with_track}
use Rattle.trace_model.proofs.CallerLemmas.{snapshots_of_new}
use Rattle.trace_reader.specs.Progress.{Extends, IsKnownTrack, IsKnownSoFar}
use Rattle.trace_reader.specs.declared.progress.Progress.{Progress}
use Rattle.trace_reader.proofs.Growth.{tracks_stay, tracks_still_known, few_more, still_among, texts_stay}

-- ---- the track of a name

-- what holds of all holds of the one at a place
pub all_at : {X : Type 0} (P : X → Type 0) (xs : List X) (at : ℕ) (x : X) → AllByRecursion P xs → slice_get xs at ≡ Some x → P x
all_at P [] at x all is = absurd cc
all_at P (y ∷ ys) zero x all is =
    let same : y ≡ x = cc in
    subst P same all.0
all_at P (y ∷ ys) (suc at) x all is = all_at P ys at x all.1 is

pub name_is_known : (texts : List Name) (ts : List Track) (at : ℕ) (t : Track) → AllByRecursion (IsKnownTrack texts) ts
    → slice_get ts at ≡ Some t → IsKnown texts t.name
name_is_known texts ts at t known is = (all_at (IsKnownTrack texts) ts at t known is).name

-- no track before a place has the name
abbrev pub NoneBefore : List Name → List Track → Name → ℕ → Type 0
NoneBefore texts ts name at = (k : ℕ) (u : Track) → k < at → slice_get ts k ≡ Some u → bytes_eq (text_at texts u.name) name ≡ false

pub index_found : (texts : List Name) (ts : List Track) (name : Name) (at : ℕ) (t : Track) → slice_get ts at ≡ Some t → bytes_eq (text_at texts t.name) name ≡ true → NoneBefore texts ts name at
    → index_of (tracks_of texts ts) name ≡ Ok at
index_found texts [] name at t is same none = absurd cc
index_found texts (u ∷ us) name zero t is same none =
    let here : u ≡ t = cc in
    ap (λ (b : Bool). cond b (Ok 0) (index_of (tracks_of texts us) name >>= λ i. Ok (i + 1))) (ap (λ (x : Track). bytes_eq (text_at texts x.name) name) here ∙ same)
index_found texts (u ∷ us) name (suc at) t is same none =
    ap (λ (b : Bool). cond b (Ok 0) (index_of (tracks_of texts us) name >>= λ i. Ok (i + 1))) (none 0 u (omega arith) refl)
    ∙ ap (λ (r : Result ℕ TraceCause). r >>= λ i. Ok (i + 1)) (index_found texts us name at t is same (λ k v lt there. none (suc k) v (omega (arith, lt)) there))
    ∙ ap (λ (k : ℕ). Ok k) (add-one at)

pub index_none : (texts : List Name) (ts : List Track) (name : Name) (at : ℕ) → length ts ≤ at → NoneBefore texts ts name at → index_of (tracks_of texts ts) name ≡ Err NoTrack
index_none texts [] name at past none = refl
index_none texts (u ∷ us) name zero past none = absurd (omega (arith, past))
index_none texts (u ∷ us) name (suc at) past none =
    ap (λ (b : Bool). cond b (Ok 0) (index_of (tracks_of texts us) name >>= λ i. Ok (i + 1))) (none 0 u (omega arith) refl)
    ∙ ap (λ (r : Result ℕ TraceCause). r >>= λ i. Ok (i + 1)) (index_none texts us name at (omega (arith, past)) (λ k v lt there. none (suc k) v (omega (arith, lt)) there))

pub past_end : (ts : List Track) (at : ℕ) → slice_get ts at ≡ None → length ts ≤ at
past_end [] at none = omega arith
past_end (t ∷ ts) zero none = absurd cc
past_end (t ∷ ts) (suc at) none = omega (arith, past_end ts at none)

pub none_more : (texts : List Name) (ts : List Track) (name : Name) (at : ℕ) (t : Track) → slice_get ts at ≡ Some t → bytes_eq (text_at texts t.name) name ≡ false → NoneBefore texts ts name at → NoneBefore texts ts name (at + 1)
none_more texts ts name at t is other none k u lt there = elim (cases_lt k at) [
  | inl before ↦ none k u before there
  | inr not_before ↦
      let here : k ≡ at = omega (arith, lt, not_before) in
      let same : Some u ≡ Some t = sym there ∙ ap (slice_get ts) here ∙ is in
      let it : u ≡ t = cc in
      ap (λ (x : Track). bytes_eq (text_at texts x.name) name) it ∙ other
]

-- ---- a track begins

-- a name is taken where a track has it
taken_is : (ts : List PlainTrack) (name : Name) → list_any (λ t. bytes_eq t.name name) ts ≡ is_ok (index_of ts name)
taken_is [] name = refl
taken_is (t ∷ ts) name = by (bytes_eq t.name name) (index_of ts name) (taken_is ts name)
  where
    by : (b : Bool) (r : Result ℕ TraceCause) → list_any (λ t. bytes_eq t.name name) ts ≡ is_ok r → (b || list_any (λ t. bytes_eq t.name name) ts) ≡ is_ok (cond b (Ok 0) (r >>= λ i. Ok (i + 1)))
    by true r rest = refl
    by false (Ok i) rest = rest
    by false (Err c) rest = rest

module _ (p : Progress) (name : Name) (known : IsKnownSoFar p) where
  abbrev t : PlainTrace
  t = plain p.trace

  count_plain : length t.tracks ≡ length p.trace.tracks
  count_plain = length-map p.trace.tracks _

  pub same_track : (found : Result ℕ TraceCause) → found ≡ index_of t.tracks name → is_ok found ≡ true → start t name ≡ Err SameTrack
  same_track found is ok =
      ap (λ (b : Bool). cond b (Err SameTrack) (cond (nat_lt (length t.tracks) MAX_TRACKS) (Ok (with_track t name)) (Err TooMany))) (taken_is t.tracks name ∙ ap is_ok (sym is) ∙ ok)

  module _ (found : Result ℕ TraceCause) (is : found ≡ index_of t.tracks name) (fresh : is_ok found ≡ false) where
    then_starts : start t name ≡ cond (nat_lt (length t.tracks) MAX_TRACKS) (Ok (with_track t name)) (Err TooMany)
    then_starts =
        ap (λ (b : Bool). cond b (Err SameTrack) (cond (nat_lt (length t.tracks) MAX_TRACKS) (Ok (with_track t name)) (Err TooMany))) (taken_is t.tracks name ∙ ap is_ok (sym is) ∙ fresh)

    pub too_many : MAX_TRACKS ≤ length p.trace.tracks → start t name ≡ Err TooMany
    too_many full = then_starts ∙ ap (λ (b : Bool). cond b (Ok (with_track t name)) (Err TooMany)) (le-ltb (length t.tracks) MAX_TRACKS (omega (arith, full, count_plain)))

    module _ (news : List Name) (id : TextId) (grows : Extends p.trace.texts news) (at : slice_get news id.0 ≡ Some name) (room : length p.trace.tracks < MAX_TRACKS)
        (ts : List Track) (pushed : ts ≡ p.trace.tracks ++ record { name = id; ops = [] } ∷ []) where
      abbrev begun : Progress
      begun = record {
        trace = record { texts = news; tracks = ts; picks = p.trace.picks };
        counts = record p.counts { frames = 0 };
      }

      tracks_then : tracks_of news ts ≡ t.tracks ++ record { name = name; actions = [] } ∷ []
      tracks_then =
          ap (tracks_of news) pushed ∙ map-append _ p.trace.tracks (record { name = id; ops = [] } ∷ [])
          ∙ (λ i. tracks_stay p.trace.texts news p.trace.tracks grows known.tracks i ++ record { name = unwrap_or (at i) []; actions = [] } ∷ [])

      pub started : start t name ≡ Ok (plain begun.trace)
      started =
          then_starts ∙ ap (λ (b : Bool). cond b (Ok (with_track t name)) (Err TooMany)) (lt-ltb (length t.tracks) MAX_TRACKS (omega (arith, room, count_plain)))
          ∙ (λ i. Ok (record t { tracks = sym tracks_then i }))

      pub start_known : IsKnown news id → news ≡ with_text p.trace.texts name → IsKnownSoFar begun
      start_known there more =
          let longer : length ts ≡ length p.trace.tracks + 1 = ap length pushed ∙ length-append p.trace.tracks (record { name = id; ops = [] } ∷ []) in
          record {
            tracks = subst (AllByRecursion (IsKnownTrack news)) (sym pushed)
                (all_push (IsKnownTrack news) p.trace.tracks (record { name = id; ops = [] }) (tracks_still_known p.trace.texts news p.trace.tracks grows known.tracks) (record { name = there; ops = tt }));
            snapshots = still_among p.trace.texts news p.counts.snapshots grows known.snapshots;
            few = omega (arith, longer, room);
            table =
                more ∙ ap (λ (l : List Name). with_text l name) known.table
                ∙ sym (table_with_track t.tracks name) ∙ ap table_of (sym tracks_then);
            texts = omega (arith, longer, known.texts, few_more p.trace.texts news grows);
            counts = record {
              ops = known.counts.ops ∙ sym (count_of_new t.tracks name) ∙ ap action_count (sym tracks_then);
              reports = known.counts.reports ∙ sym (reports_of_new t.tracks name) ∙ ap report_count (sym tracks_then);
              picks = known.counts.picks;
              frames = sym (open_with_last t.tracks (record { name = name; actions = [] })) ∙ ap open_frames (sym tracks_then);
              snapshots = texts_stay p.trace.texts news p.counts.snapshots grows known.snapshots
                  ∙ known.counts.snapshots ∙ sym (snapshots_of_new t.tracks name)
                  ∙ ap snapshot_names (sym tracks_then);
            };
            few_ops = known.few_ops;
            few_picks = known.few_picks;
            few_frames = omega arith;
            few_snapshots = known.few_snapshots;
          }

-- ---- picks of a track

module _ (p : Progress) (track times : ℕ) (known : IsKnownSoFar p) where
  abbrev before : PlainTrace
  before = plain p.trace

  pub too_many_picks : MAX_PICKS < p.counts.picks + times → pick before track times ≡ Err TooMany
  too_many_picks past =
      ap (λ (b : Bool). cond b (Ok (record before { picks = before.picks ++ (track, times) ∷ [] })) (Err TooMany)) (lt-leb (pick_count before.picks + times) MAX_PICKS (omega (arith, past, known.counts.picks)))

  module _ (few : p.counts.picks + times ≤ MAX_PICKS) (picks : List Pick) (pushed : picks ≡ p.trace.picks ++ record { track = track; times = times } ∷ []) where
    abbrev picked : Progress
    picked = record {
      trace = record { texts = p.trace.texts; tracks = p.trace.tracks; picks = picks };
      counts = record p.counts { picks = p.counts.picks + times };
    }

    picks_then : picks_of picks ≡ before.picks ++ (track, times) ∷ []
    picks_then = ap picks_of pushed ∙ map-append _ p.trace.picks (record { track = track; times = times } ∷ [])

    pub was_picked : pick before track times ≡ Ok (plain picked.trace)
    was_picked =
        ap (λ (b : Bool). cond b (Ok (record before { picks = before.picks ++ (track, times) ∷ [] })) (Err TooMany)) (le-leb (pick_count before.picks + times) MAX_PICKS (omega (arith, few, known.counts.picks)))
        ∙ (λ i. Ok (record before { picks = sym picks_then i }))

    pub pick_known : IsKnownSoFar picked
    pick_known = record {
      tracks = known.tracks;
      snapshots = known.snapshots;
      few = known.few;
      table = known.table;
      texts = known.texts;
      counts = record {
        ops = known.counts.ops;
        reports = known.counts.reports;
        picks = omega (arith, known.counts.picks, ap pick_count picks_then, sum_by-append (λ (q : ℕ × ℕ). q.1) before.picks ((track, times) ∷ []));
        frames = known.counts.frames;
        snapshots = known.counts.snapshots;
      };
      few_ops = known.few_ops;
      few_picks = few;
      few_frames = known.few_frames;
      few_snapshots = known.few_snapshots;
    }
