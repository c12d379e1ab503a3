-- An operation that was read is added to the trace.
use Rattle.std.proofs.Common.{◌≡◌, ℕ, ◌+◌, ◌<◌, ◌≤◌, Bool, true, false, cond, not, ◌&&◌, ◌||◌, List, [], ◌∷◌}
use Rattle.std.proofs.Common.{◌++◌}
use Rattle.std.proofs.Common.{length, Result, Ok, Err, refl, sym, ap, subst, ◌∙◌, arith, true≢false}
use Rattle.std.specs.Prelude.{◌==◌, nat_le, nat_lt}
use Rattle.std.specs.List.{AllByRecursion}
use Rattle.std.specs.Option.{option_to_list}
use Rattle.std.proofs.lemmas.Bool.{leb-true, ltb-true}
use Rattle.std.proofs.lemmas.List.{map-append, length-map}
use Rattle.mem_base.specs.declared.limits.TheConstants.{MAX_FRAMES, MAX_OPS, MAX_REPORTS, MAX_SNAPSHOTS}
use Rattle.mem_base.specs.declared.trace.Op.{Op}
use Rattle.mem_base.specs.declared.trace.Track.{Track}
use Rattle.mem_base.specs.Name.{Name}
use Rattle.trace_model.specs.Operands.{◌>>=◌}
use Rattle.trace_model.specs.Plain.{Action, PlainTrack, PlainTrace, plain, text_at, track_of, tracks_of}
use Rattle.trace_model.specs.Plain.{action_of, action_at}
use Rattle.trace_model.specs.Plain.{depth_after, has_few_rules, has_frame, is_report, keeps_few, says}
use Rattle.trace_model.specs.Plain.{written_by}
use Rattle.trace_model.specs.Spelling.{action_count, report_count, snapshot_names}
use Rattle.trace_model.specs.Known.{IsKnownOp}
use Rattle.trace_model.specs.Table.{table_of, with_texts}
use Rattle.trace_model.specs.Reading.{item_at, is_misplaced, add, has_room, open_frames, with_action}
use Rattle.trace_model.specs.declared.cause.TraceCause.{TraceCause}
use Rattle.trace_model.specs.declared.cause.TraceCause.TheVariants.{NoFrame, TooMany}
use Rattle.trace_model.specs.declared.keyword.Keyword.{Keyword}
use Rattle.trace_model.specs.declared.keyword.Head.TheVariants as heads
use Rattle.trace_model.proofs.CallerLemmas.{both, test_fails, test_holds, open_with, all_push, suc_not_zero}
use Rattle.trace_model.proofs.CallerLemmas.{action_count-with, report_count-with, table_with_action}
use Rattle.trace_model.proofs.CallerLemmas.{snapshots_with}
use Rattle.trace_reader.specs.Progress.{AddsTexts, Extends, IsKnownTrack, IsKnownSoFar, CountsWith, bare}
use Rattle.trace_reader.specs.Progress.{has_place, place_for, snapshots_after, with_op}
use Rattle.trace_reader.specs.Answers.{Fails}
use Rattle.trace_reader.specs.declared.counts.Counts.{Counts}
use Rattle.trace_reader.specs.declared.error.LineError.{LineError}
use Rattle.trace_reader.specs.declared.error.LineError.TheVariants as line
use Rattle.trace_reader.specs.declared.progress.Progress.{Progress}
use Rattle.trace_reader.proofs.Growth.{tracks_stay, tracks_still_known, few_more, report_is, need_is, depth_is}
use Rattle.trace_reader.proofs.Growth.{rules_are, texts_stay}

-- ---- the tracks with one more operation

pub with_op_last : (ts : List Track) (t : Track) (op : Op) → with_op (ts ++ t ∷ []) op ≡ ts ++ record { name = t.name; ops = t.ops ++ op ∷ [] } ∷ []
with_op_last [] t op = refl
with_op_last (u ∷ []) t op = refl
with_op_last (u ∷ v ∷ ts) t op = ap (λ (l : List Track). u ∷ l) (with_op_last (v ∷ ts) t op)

with_op_length : (ts : List Track) (op : Op) → length (with_op ts op) ≡ length ts
with_op_length [] op = refl
with_op_length (t ∷ []) op = refl
with_op_length (t ∷ u ∷ ts) op = omega (arith, with_op_length (u ∷ ts) op)

with_op_known : (texts : List Name) (ts : List Track) (op : Op) → IsKnownOp texts op → AllByRecursion (IsKnownTrack texts) ts → AllByRecursion (IsKnownTrack texts) (with_op ts op)
with_op_known texts [] op fits known = tt
with_op_known texts (t ∷ []) op fits known = (record { name = known.0.name; ops = all_push (IsKnownOp texts) t.ops op known.0.ops fits }, tt)
with_op_known texts (t ∷ u ∷ ts) op fits known = (known.0, with_op_known texts (u ∷ ts) op fits known.1)

with_op_is : (texts : List Name) (ts : List Track) (op : Op) → tracks_of texts (with_op ts op) ≡ with_action (tracks_of texts ts) (action_of texts op)
with_op_is texts [] op = refl
with_op_is texts (t ∷ []) op = λ i. record { name = text_at texts t.name; actions = map-append (action_of texts) t.ops (op ∷ []) i } ∷ []
with_op_is texts (t ∷ u ∷ ts) op = ap (λ (l : List PlainTrack). track_of texts t ∷ l) (with_op_is texts (u ∷ ts) op)

-- where an operation has a place, a track was begun
pub some_begun : (p : Progress) (k : Keyword) → is_misplaced (plain p.trace) (heads.Op k) ≡ false → 0 < length p.trace.tracks
some_begun p k placed = by p.trace.tracks placed
  where
    by : (ts : List Track) → (length (tracks_of p.trace.texts ts) == 0 || nat_lt 0 (length (plain p.trace).picks)) ≡ false → 0 < length ts
    by [] h = absurd (true≢false h)
    by (t ∷ ts) h = omega arith

-- ---- what the line comes to

-- whether an operation may come, by whether its frame is there and whether there is room
abbrev verdict : Bool → Bool → Result (Unit {0}) TraceCause
verdict framed room = cond (not framed) (Err NoFrame) (cond room (Ok tt) (Err TooMany))

-- what is done where it may come
verdict_is : (framed room : Bool) (t : PlainTrace) → cond (not framed) (Err NoFrame) (cond room (Ok t) (Err TooMany)) ≡ (verdict framed room >>= λ _. Ok t)
verdict_is true true t = refl
verdict_is true false t = refl
verdict_is false room t = refl

-- what fails at a step fails with what follows it
pub fails_then : {X Y : Type 0} (e : LineError) (r : Result X TraceCause) (f : X → Result Y TraceCause) → Fails e r
    → Fails e (r >>= f)
fails_then line.OutOfMemory r f failed = tt
fails_then (line.Wrong c) r f failed = ap (λ s. s >>= f) failed

report_counts : (report : Bool) (n : ℕ) → cond report (n + 1) n ≡ n + cond report 1 0
report_counts true n = refl
report_counts false n = omega arith

module _ (p : Progress) (news : List Name) (op : Op) (known : IsKnownSoFar p) (grows : Extends p.trace.texts news)
    (some : 0 < length p.trace.tracks) where
  abbrev t : PlainTrace
  t = plain p.trace

  abbrev a : Action
  a = action_of news op

  -- the trace with the operation
  abbrev longer : PlainTrace
  longer = record t { tracks = with_action t.tracks a }

  begun : (length t.tracks == 0) ≡ false
  begun = begun_is t.tracks (omega (arith, some, length-map p.trace.tracks (track_of p.trace.texts)))
    where
      begun_is : (ts : List PlainTrack) → 0 < length ts → (length ts == 0) ≡ false
      begun_is [] lt = absurd (omega arith)
      begun_is (u ∷ us) lt = suc_not_zero (length us)

  -- whether it has the frame that it speaks of, and whether there is room, is told by the counts
  frame_is : has_frame (open_frames t.tracks) a ≡ has_frame p.counts.frames (bare op)
  frame_is = λ i. not (need_is news op i) || nat_lt 0 (sym known.counts.frames i)

  few_is : keeps_few (open_frames t.tracks) a ≡ keeps_few p.counts.frames (bare op)
  few_is =
      ap (λ (n : ℕ). nat_le n MAX_FRAMES) (depth_is news (open_frames t.tracks) op)
      ∙ ap (λ (n : ℕ). keeps_few n (bare op)) (sym known.counts.frames)

  names_are : snapshots_after news p.counts.snapshots op ≡ snapshot_names (with_action t.tracks a)
  names_are =
      ap (λ (l : List Name). with_texts l (option_to_list (written_by a)))
      (texts_stay p.trace.texts news p.counts.snapshots grows known.snapshots ∙ known.counts.snapshots)
      ∙ sym (snapshots_with t.tracks a begun)

  room_is : (has_room t a && keeps_few (open_frames t.tracks) a) ≡ has_place news p.counts op
  room_is = λ i.
      (nat_lt (sym known.counts.ops i) MAX_OPS
      && (not (report_is news op i) || nat_lt (sym known.counts.reports i) MAX_REPORTS)
      && nat_le (length (sym names_are i)) MAX_SNAPSHOTS && rules_are news op i)
      && few_is i

  added_is : add t a ≡ (place_for news p.counts op >>= λ _. Ok longer)
  added_is =
      (λ i. cond (not (frame_is i)) (Err NoFrame) (cond (room_is i) (Ok longer) (Err TooMany)))
      ∙ verdict_is (has_frame p.counts.frames (bare op)) (has_place news p.counts op) longer

  -- the line comes to what the counts allow
  pub comes_to : (k : Keyword) (ws : List (List ℕ)) → action_at k ws ≡ Ok a
      → item_at t (heads.Op k) ws ≡ (place_for news p.counts op >>= λ _. Ok longer)
  comes_to k ws read = ap (λ s. s >>= λ b. add t b) read ∙ added_is

  -- it did not come
  pub refused : (k : Keyword) (ws : List (List ℕ)) (e : LineError) → action_at k ws ≡ Ok a
      → Fails e (place_for news p.counts op) → Fails e (item_at t (heads.Op k) ws)
  refused k ws e read failed =
      subst (Fails e) (sym (comes_to k ws read))
      (fails_then e (place_for news p.counts op) (λ _. Ok longer) failed)

  -- there is room for the operation, for the report where it is one, and for the name of its snapshot
  abbrev for_report : Bool
  for_report = not (is_report (bare op)) || nat_lt p.counts.reports MAX_REPORTS

  abbrev for_both : Bool
  for_both = nat_lt p.counts.ops MAX_OPS && for_report

  abbrev for_names : Bool
  for_names = nat_le (length (snapshots_after news p.counts.snapshots op)) MAX_SNAPSHOTS

  module _ (ops : List Track) (is : ops ≡ with_op p.trace.tracks op) (counts : Counts)
      (counted : CountsWith news p.counts op counts) where
    abbrev then : Progress
    then = record { trace = record { texts = news; tracks = ops; picks = p.trace.picks }; counts = counts }

    tracks_then : tracks_of news ops ≡ with_action t.tracks a
    tracks_then =
        ap (tracks_of news) is ∙ with_op_is news p.trace.tracks op
        ∙ ap (λ (ts : List PlainTrack). with_action ts a) (tracks_stay p.trace.texts news p.trace.tracks grows known.tracks)

    -- it came
    pub added : (k : Keyword) (ws : List (List ℕ)) → action_at k ws ≡ Ok a → place_for news p.counts op ≡ Ok tt
        → item_at t (heads.Op k) ws ≡ Ok (plain then.trace)
    added k ws read came =
        comes_to k ws read ∙ ap (λ s. s >>= λ _. Ok longer) came
        ∙ (λ i. Ok (record t { tracks = sym tracks_then i }))

    pub still_known : IsKnownOp news op → AddsTexts p.trace.texts news op → place_for news p.counts op ≡ Ok tt
        → IsKnownSoFar then
    still_known fits more came =
        let fits_in = cond (has_place news p.counts op) (Ok tt) (Err TooMany) in
        let framed = test_fails (not (has_frame p.counts.frames (bare op))) fits_in NoFrame tt came in
        let room = test_holds (has_place news p.counts op) (Ok tt) TooMany tt framed.1 in
        let ruling = has_few_rules (bare op) in
        let kept = both ((for_both && for_names) && ruling) (keeps_few p.counts.frames (bare op)) room.0 in
        let ruled = both (for_both && for_names) ruling kept.0 in
        let named = both for_both for_names ruled.0 in
        let rooms = both (nat_lt p.counts.ops MAX_OPS) for_report named.0 in
        let below : p.counts.ops < MAX_OPS = ltb-true _ _ rooms.0 in
        let same : length ops ≡ length p.trace.tracks = ap length is ∙ with_op_length p.trace.tracks op in
        let frames : depth_after p.counts.frames (bare op) ≤ MAX_FRAMES = leb-true _ _ kept.1 in
        let names : length (snapshots_after news p.counts.snapshots op) ≤ MAX_SNAPSHOTS =
        leb-true _ _ named.1
        in
        record {
          tracks = subst (AllByRecursion (IsKnownTrack news)) (sym is) (with_op_known news p.trace.tracks op fits (tracks_still_known p.trace.texts news p.trace.tracks grows known.tracks));
          snapshots = counted.known;
          few = omega (arith, same, known.few);
          table =
              more ∙ ap (λ (l : List Name). with_texts l (says a)) known.table
              ∙ sym (table_with_action t.tracks a begun) ∙ ap table_of (sym tracks_then);
          texts = omega (arith, same, counted.ops, known.texts, few_more p.trace.texts news grows);
          counts = record {
            ops = counted.ops ∙ ap (λ (n : ℕ). n + 1) known.counts.ops
                ∙ sym (action_count-with t.tracks a begun) ∙ ap action_count (sym tracks_then);
            reports = counted.reports ∙ report_counts (is_report (bare op)) p.counts.reports
                ∙ (λ i. known.counts.reports i + cond (sym (report_is news op) i) 1 0)
                ∙ sym (report_count-with t.tracks a begun) ∙ ap report_count (sym tracks_then);
            picks = counted.picks ∙ known.counts.picks;
            frames = counted.frames ∙ sym (depth_is news p.counts.frames op)
                ∙ ap (λ (n : ℕ). depth_after n a) known.counts.frames
                ∙ sym (open_with t.tracks a begun) ∙ ap open_frames (sym tracks_then);
            snapshots = counted.snapshots ∙ names_are ∙ ap snapshot_names (sym tracks_then);
          };
          few_ops = omega (arith, counted.ops, below);
          few_picks = omega (arith, counted.picks, known.few_picks);
          few_frames = omega (arith, counted.frames, frames);
          few_snapshots =
              omega (arith, ap length counted.snapshots, length-map counts.snapshots (text_at news), names);
        }
