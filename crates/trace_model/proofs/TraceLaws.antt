-- What is read is spelled so, and what is spelled so is read.
use Rattle.std.proofs.Common.{◌≡◌, ℕ, zero, suc, ◌+◌, ◌<◌, ◌≤◌, Bool, true, false, cond, not, ◌&&◌, ◌||◌}
use Rattle.std.proofs.Common.{List, [], ◌∷◌, ◌++◌, length, Result, Ok, Err, refl, sym, ap, subst, ◌∙◌}
use Rattle.std.proofs.Common.{append_assoc, append-nil, arith, length-append, lit<, true≢false}
use Rattle.std.specs.Prelude.{◌==◌, nat_le, nat_lt, decimal}
use Rattle.std.specs.List.{AllByRecursion, list_all, list_any, slice_split, join_with_byte}
use Rattle.std.specs.Str.{bytes_eq}
use Rattle.std.proofs.lemmas.Bool.{eqb-true, ltb-true, leb-true, lt-ltb, le-leb}
use Rattle.std.proofs.lemmas.List.{nil_from_length}
use Rattle.std.proofs.lemmas.List.Concat.{flat_map-cons}
use Rattle.std.proofs.lemmas.List.Sums.{sum_by-cons, sum_by-append}
use Rattle.std.proofs.lemmas.Grind.{flat_map-append}
use Rattle.std.proofs.lemmas.List.Splits.{join_with_byte-slice_split}
use Rattle.std.proofs.lemmas.Slice.Eq.{bytes_eq-Decides}
use Rattle.mem_base.specs.declared.limits.TheConstants.{MAX_OPS, MAX_PICKS, MAX_REPORTS, MAX_SNAPSHOTS, MAX_TRACKS}
use Rattle.mem_base.specs.Texts.{IsDistinct}
use Rattle.mem_base.specs.Name.{Name}
use Rattle.trace_model.specs.Operands.{is_between, is_name}
use Rattle.trace_model.specs.Plain.{Action, PlainTrack, PlainTrace, is_report, depth, has_frame, keeps_few}
use Rattle.trace_model.specs.Plain.{Fits, KeepFrames, has_few_rules}
use Rattle.trace_model.specs.Spelling.{head_text, line_of, track_line, pick_line, with_end, action_lines}
use Rattle.trace_model.specs.Spelling.{track_lines, pick_lines, names_of, name_at_index, action_count}
use Rattle.trace_model.specs.Spelling.{reports_in, report_count, pick_count, header, body, spelling, line_end}
use Rattle.trace_model.specs.Spelling.{snapshot_names, FitsTrack, FitsPick, IsWellFormed}
use Rattle.trace_model.specs.declared.keyword.Keyword.{Keyword}
use Rattle.trace_model.specs.declared.keyword.Head.TheVariants as heads
use Rattle.trace_model.specs.declared.cause.TraceCause.{TraceCause}
use Rattle.trace_model.specs.declared.cause.TraceCause.TheVariants.{BadEnd, BadHeader, NoFrame, SameTrack, TooMany}
use Rattle.trace_model.specs.Reading.{Stop, then_lines, line_at, lines_at, header_at, trace_at, opening}
use Rattle.trace_model.specs.Reading.{is_empty, index_of, pick, start, with_track, with_action, open_frames}
use Rattle.trace_model.specs.Reading.{has_room, add}
use Rattle.trace_model.proofs.OperandLaws.{both, test_holds, test_fails, ok_is}
use Rattle.trace_model.proofs.WordLaws.{words_plain, track_words_fit, pick_words_fit, cut_first, not_sep}
use Rattle.trace_model.proofs.ActionLaws.{line_words}
use Rattle.trace_model.proofs.LineLaws.{Adds, a_track, a_pick, an_action, line_takes, action_line_again}
use Rattle.trace_model.proofs.LineLaws.{track_line_again, pick_line_again}
use Rattle.trace_model.proofs.NameLaws.{distinct_push, fresh_name, names_with, index_takes, index_again}
use Rattle.trace_model.proofs.LineSteps.{with_header, with_line}
use Rattle.trace_model.proofs.SnapshotLaws.{snapshots_of_new, snapshots_front, snapshots_begun}
use Rattle.trace_model.proofs.TrackLaws.{all_push, HasFewRules, lines_of, new_track, count_of_new, reports_of_new}
use Rattle.trace_model.proofs.TrackLaws.{reports_in-cons, reports_in-push, room_kept, room_had, depth_push}
use Rattle.trace_model.proofs.TrackLaws.{open_with_last, suc_not_zero, length-with_action, action_count-with}
use Rattle.trace_model.proofs.TrackLaws.{report_count-with, fits_with, lines_with, with_last}
use Rattle.trace_model.proofs.TrackLaws.{counts_with_last, reports_with_last}

abbrev pub fine : PlainTrace → Result PlainTrace Stop
fine t = Ok t

pub fine_is : (t u : PlainTrace) → fine t ≡ fine u → t ≡ u
fine_is t u e = cc

-- well formed, and spelt with one line more than before
abbrev pub Grows : PlainTrace → List ℕ → PlainTrace → Type 0
Grows t line u = IsWellFormed u × (body u ≡ body t ++ with_end line)

-- picks stay fit while tracks come
picks_stay : (ts us : List PlainTrack) (picks : List (ℕ × ℕ)) → length ts ≤ length us → AllByRecursion (FitsPick ts) picks → AllByRecursion (FitsPick us) picks
picks_stay ts us [] more fits = tt
picks_stay ts us (p ∷ ps) more fits = ((omega (arith, more, fits.0.0), fits.0.1), picks_stay ts us ps more fits.1)

no_picks : (picks : List (ℕ × ℕ)) → nat_lt 0 (length picks) ≡ false → picks ≡ []
no_picks [] none = refl
no_picks (p ∷ ps) none = absurd (true≢false (sym (lt-ltb 0 (length (p ∷ ps)) (omega arith)) ∙ none))

-- without picks, what comes behind the tracks' lines is behind all
bare : (ts us : List PlainTrack) (picks : List (ℕ × ℕ)) (line : List ℕ) → picks ≡ [] → track_lines us ≡ track_lines ts ++ with_end line
    → track_lines us ++ pick_lines us picks ≡ (track_lines ts ++ pick_lines ts picks) ++ with_end line
bare ts us picks line none grown =
    ap (λ (ps : List (ℕ × ℕ)). track_lines us ++ pick_lines us ps) none
    ∙ append-nil (track_lines us)
    ∙ grown
    ∙ ap (λ (l : List ℕ). l ++ with_end line) (sym (append-nil (track_lines ts)))
    ∙ ap (λ (ps : List (ℕ × ℕ)). (track_lines ts ++ pick_lines ts ps) ++ with_end line) (sym none)

start_grows : (t u : PlainTrace) (name : Name) → is_name name ≡ true → t.picks ≡ [] → start t name ≡ Ok u → IsWellFormed t → Grows t (track_line name) u
start_grows t u name named none e well =
    let differ = test_fails (list_any (λ track. bytes_eq track.name name) t.tracks) (cond (nat_lt (length t.tracks) MAX_TRACKS) (Ok (with_track t name)) (Err TooMany)) SameTrack u e in
    let p = test_holds (nat_lt (length t.tracks) MAX_TRACKS) (Ok (with_track t name)) TooMany u differ.1 in
    let few : length t.tracks < MAX_TRACKS = ltb-true _ _ p.0 in
    let fit : FitsTrack (record { name = name; actions = [] }) = record { name = named; actions = tt; frames = tt; rules = tt } in
    let more = length-append t.tracks (record { name = name; actions = [] } ∷ []) in
    subst (Grows t (track_line name)) (ok_is (with_track t name) u p.1) (
      record {
        tracks = omega (arith, more, few);
        distinct = distinct_push t.tracks name differ.0 well.distinct;
        few = omega (arith, count_of_new t.tracks name, well.few);
        reports = omega (arith, reports_of_new t.tracks name, well.reports);
        snapshots = omega (arith, ap length (snapshots_of_new t.tracks name), well.snapshots);
        fits = all_push FitsTrack t.tracks (record { name = name; actions = [] }) well.fits fit;
        picks = picks_stay t.tracks (t.tracks ++ record { name = name; actions = [] } ∷ []) t.picks (omega (arith, more)) well.picks;
        picked = well.picked;
      },
      bare t.tracks (t.tracks ++ record { name = name; actions = [] } ∷ []) t.picks (track_line name) none (new_track t.tracks name),
    )

-- what is not untrue
is_so : (b : Bool) → not b ≡ false → b ≡ true
is_so true e = refl
is_so false e = sym e

add_grows : (t u : PlainTrace) (a : Action) → Fits a → (length t.tracks == 0) ≡ false → t.picks ≡ [] → add t a ≡ Ok u → IsWellFormed t → Grows t (line_of a) u
add_grows t u a fits some none e well =
    let height = open_frames t.tracks in
    let longer = record t { tracks = with_action t.tracks a } in
    let f = test_fails (not (has_frame height a)) (cond (has_room t a && keeps_few height a) (Ok longer) (Err TooMany)) NoFrame u e in
    let p = test_holds (has_room t a && keeps_few height a) (Ok longer) TooMany u f.1 in
    let allowed = both (has_room t a) (keeps_few height a) p.0 in
    let reports = not (is_report a) || nat_lt (report_count t.tracks) MAX_REPORTS in
    let names = nat_le (length (snapshot_names longer.tracks)) MAX_SNAPSHOTS in
    let ops = nat_lt (action_count t.tracks) MAX_OPS in
    let for_rules = both (ops && reports && names) (has_few_rules a) allowed.0 in
    let for_names = both (ops && reports) names for_rules.0 in
    let for_both = both ops reports for_names.0 in
    let room : action_count t.tracks < MAX_OPS = ltb-true _ _ for_both.0 in
    let same = length-with_action t.tracks a in
    subst (Grows t (line_of a)) (ok_is (record t { tracks = with_action t.tracks a }) u p.1) (
      record {
        tracks = omega (arith, same, well.tracks);
        distinct = subst IsDistinct (sym (names_with t.tracks a)) well.distinct;
        few = omega (arith, action_count-with t.tracks a some, room);
        reports = omega (
          arith,
          report_count-with t.tracks a some,
          room_kept (is_report a) (report_count t.tracks) MAX_REPORTS
              for_both.1 well.reports,
        );
        snapshots = leb-true _ _ for_names.1;
        fits = fits_with t.tracks a fits (is_so (has_frame height a) f.0) allowed.1 for_rules.1 well.fits;
        picks = picks_stay t.tracks (with_action t.tracks a) t.picks (omega (arith, same)) well.picks;
        picked = well.picked;
      },
      bare t.tracks (with_action t.tracks a) t.picks (line_of a) none (lines_with t.tracks a some),
    )

pick_grows : (t u : PlainTrace) (name : Name) (i times : ℕ) → 1 ≤ times → index_of t.tracks name ≡ Ok i → pick t i times ≡ Ok u → IsWellFormed t → Grows t (pick_line name times) u
pick_grows t u name i times some found e well =
    let p = test_holds (nat_le (pick_count t.picks + times) MAX_PICKS) (Ok (record t { picks = t.picks ++ (i, times) ∷ [] })) TooMany u e in
    let there = index_takes t.tracks name i found in
    let few : pick_count t.picks + times ≤ MAX_PICKS = leb-true _ _ p.0 in
    let spelt = λ (q : ℕ × ℕ). with_end (pick_line (name_at_index t.tracks q.0) q.1) in
    subst (Grows t (pick_line name times)) (ok_is (record t { picks = t.picks ++ (i, times) ∷ [] }) u p.1) (
      record {
        tracks = well.tracks;
        distinct = well.distinct;
        few = well.few;
        reports = well.reports;
        snapshots = well.snapshots;
        fits = well.fits;
        picks = all_push (FitsPick t.tracks) t.picks (i, times) well.picks (there.0, some);
        picked = omega (arith, sum_by-append (λ (q : ℕ × ℕ). q.1) t.picks ((i, times) ∷ []), few);
      },
      ap (λ (l : List ℕ). track_lines t.tracks ++ l) (
          flat_map-append spelt t.picks ((i, times) ∷ [])
          ∙ ap (λ (l : List ℕ). pick_lines t.tracks t.picks ++ l) (append-nil (spelt (i, times)) ∙ ap (λ (n : Name). with_end (pick_line n times)) there.1)
          )
          ∙ sym (append_assoc (track_lines t.tracks) (pick_lines t.tracks t.picks) (with_end (pick_line name times))),
    )

pub line_grows : (t u : PlainTrace) (line : List ℕ) → Adds t u line → IsWellFormed t → Grows t line u
line_grows t u line (a_track name named is placed made) well =
    subst (λ (x : List ℕ). Grows t x u) (sym is) (start_grows t u name named (no_picks t.picks placed) made well)
line_grows t u line (a_pick name i times named found some is made) well =
    subst (λ (x : List ℕ). Grows t x u) (sym is) (pick_grows t u name i times some found made well)
line_grows t u line (an_action a k fits is placed made) well =
    let parts = neither (length t.tracks == 0) (nat_lt 0 (length t.picks)) placed in
    subst (λ (x : List ℕ). Grows t x u) (sym is) (add_grows t u a fits parts.0 (no_picks t.picks parts.1) made well)
  where
    neither : (a b : Bool) → (a || b) ≡ false → (a ≡ false) × (b ≡ false)
    neither true b h = absurd (true≢false h)
    neither false b h = (refl, h)

pub done_lines : (k : ℕ) (r : Result PlainTrace TraceCause) (f : PlainTrace → Result PlainTrace Stop) (u : PlainTrace) → then_lines k r f ≡ Ok u → (v : PlainTrace) × (r ≡ Ok v) × (f v ≡ Ok u)
done_lines k (Ok v) f u e = (v, refl, e)
done_lines k (Err c) f u e = absurd cc

-- a test that stopped nothing
pub went_on : (b : Bool) (r : Result PlainTrace Stop) (d : Stop) (y : PlainTrace) → cond b r (Err d) ≡ Ok y → (b ≡ true) × (r ≡ Ok y)
went_on true r d y e = (refl, e)
went_on false r d y e = absurd cc

lines_take : (k : ℕ) (t u : PlainTrace) (parts : List (List ℕ)) → lines_at k t parts ≡ Ok u → IsWellFormed t → IsWellFormed u × (body u ≡ body t ++ join_with_byte 10 parts)
lines_take k t u [] e well =
    subst (λ (v : PlainTrace). IsWellFormed v × (body v ≡ body t ++ [])) (fine_is t u e) (well, sym (append-nil (body t)))
lines_take k t u (line ∷ []) e well =
    let p = went_on (is_empty line) (fine t) (k, BadEnd) u e in
    let none : line ≡ [] = nil_from_length line (eqb-true (length line) 0 p.0) in
    subst (λ (v : PlainTrace). IsWellFormed v × (body v ≡ body t ++ line)) (fine_is t u p.1)
    (well, sym (append-nil (body t)) ∙ ap (λ (x : List ℕ). body t ++ x) (sym none))
lines_take k t u (line ∷ next ∷ more) e well =
    let d = done_lines k (line_at t line) (λ v. lines_at (k + 1) v (next ∷ more)) u e in
    let one = line_grows t d.0 line (line_takes t d.0 line d.1) well in
    let rest = lines_take (k + 1) d.0 u (next ∷ more) d.2 one.0 in (
      rest.0,
      rest.1 ∙ ap (λ (x : List ℕ). x ++ join_with_byte 10 (next ∷ more)) one.1 ∙ append_assoc (body t) (with_end line) (join_with_byte 10 (next ∷ more))
          ∙ ap (λ (x : List ℕ). body t ++ x) (append_assoc line (10 ∷ []) (join_with_byte 10 (next ∷ more))),
    )

pub no_tracks : IsWellFormed opening
no_tracks = record {
  tracks = omega arith;
  distinct = λ i j text at_i at_j. absurd cc;
  few = omega arith;
  reports = omega arith;
  snapshots = omega arith;
  fits = tt;
  picks = tt;
  picked = omega arith;
}

pub trace_takes : (bytes : List ℕ) (t : PlainTrace) → trace_at bytes ≡ Ok t → IsWellFormed t × (bytes ≡ spelling t)
unfolding trace_at
trace_takes bytes t e = by (slice_split (λ b. b == line_end) bytes) e (join_with_byte-slice_split 10 bytes)
  where
    by : (parts : List (List ℕ)) → header_at parts ≡ Ok t → join_with_byte 10 parts ≡ bytes → IsWellFormed t × (bytes ≡ spelling t)
    by [] h whole = absurd cc
    by (line ∷ []) h whole = absurd cc
    by (line ∷ next ∷ more) h whole =
        let p = went_on (bytes_eq line header) (lines_at 2 opening (next ∷ more)) (1, BadHeader) t h in
        let rest = lines_take 2 opening t (next ∷ more) p.1 no_tracks in (
          rest.0,
          sym whole ∙ ap (λ (x : List ℕ). x ++ 10 ∷ join_with_byte 10 (next ∷ more)) ((bytes_eq-Decides line header).0 p.0)
              ∙ ap (λ (x : List ℕ). header ++ 10 ∷ x) (sym rest.1) ∙ sym (append_assoc header (10 ∷ []) (body t)),
        )

-- ---- the other way

-- a line that is spelled is cut off at its end
cut_line : (line rest : List ℕ) → list_all (is_between 32 126) line ≡ true → slice_split (λ b. b == 10) (with_end line ++ rest) ≡ line ∷ slice_split (λ b. b == 10) rest
cut_line line rest plain =
    ap (slice_split (λ b. b == 10)) (append_assoc line (10 ∷ []) rest) ∙ cut_first (λ b. b == 10) (is_between 32 126) (not_sep 10 32 (lit< tt)) line 10 rest refl plain

-- a line that is spelled is read, and then those behind it
line_step : (k : ℕ) (t u : PlainTrace) (line rest : List ℕ) → list_all (is_between 32 126) line ≡ true → line_at t line ≡ Ok u
    → lines_at k t (slice_split (λ b. b == 10) (with_end line ++ rest)) ≡ lines_at (k + 1) u (slice_split (λ b. b == 10) rest)
line_step k t u line rest plain read =
    with_line (λ b. b == 10) (with_end line ++ rest) line rest (cut_line line rest plain) k t
    ∙ ap (λ (r : Result PlainTrace TraceCause). then_lines k r (λ v. lines_at (k + 1) v (slice_split (λ b. b == 10) rest))) read

-- a trace without picks
abbrev unpicked : List PlainTrack → PlainTrace
unpicked ts = record { tracks = ts; picks = [] }

abbrev cut : List ℕ → List (List ℕ)
cut bytes = slice_split (λ b. b == 10) bytes

-- lines are read up to what stands behind them, which is then at some line
abbrev ReadsOn : ℕ → PlainTrace → List ℕ → PlainTrace → List ℕ → Type 0
ReadsOn k t bytes u rest = (m : ℕ) × (lines_at k t (cut bytes) ≡ lines_at m u (cut rest))

-- with one line in front
line_in_front : (k : ℕ) (t u v : PlainTrace) (line bytes rest : List ℕ) → list_all (is_between 32 126) line ≡ true → line_at t line ≡ Ok u → ReadsOn (k + 1) u bytes v rest
    → ReadsOn k t (with_end line ++ bytes) v rest
line_in_front k t u v line bytes rest plain read on = (on.0, line_step k t u line bytes plain read ∙ on.1)

some_tracks : (ts : List PlainTrack) (t : PlainTrack) → (length (ts ++ t ∷ []) == 0) ≡ false
some_tracks [] t = refl
some_tracks (u ∷ ts) t = suc_not_zero (length (ts ++ t ∷ []))

actions_again : (k : ℕ) (ts : List PlainTrack) (name : Name) (did todo : List Action) (rest : List ℕ) → AllByRecursion Fits todo → KeepFrames (depth did) todo
    → action_count ts + length did + length todo ≤ MAX_OPS → report_count ts + reports_in did + reports_in todo ≤ MAX_REPORTS
    → length (snapshot_names (ts ++ record { name = name; actions = did ++ todo } ∷ [])) ≤ MAX_SNAPSHOTS
    → AllByRecursion HasFewRules todo
    → ReadsOn k (unpicked (ts ++ record { name = name; actions = did } ∷ [])) (action_lines todo ++ rest) (unpicked (ts ++ record { name = name; actions = did ++ todo } ∷ [])) rest
actions_again k ts name did [] rest fits keep few reports names rules =
    (k, ap (λ (acts : List Action). lines_at k (unpicked (ts ++ record { name = name; actions = acts } ∷ [])) (cut rest)) (sym (append-nil did)))
actions_again k ts name did (a ∷ todo) rest fits keep few reports names rules =
    let last : PlainTrack = record { name = name; actions = did } in
    let t : PlainTrace = unpicked (ts ++ last ∷ []) in
    let u : PlainTrace = unpicked (ts ++ record { name = name; actions = did ++ a ∷ [] } ∷ []) in
    let pushed = reports_in-push did a in
    let counted = reports_in-cons a todo in
    let for_all : nat_lt (action_count t.tracks) MAX_OPS ≡ true = lt-ltb _ _ (omega (arith, counts_with_last ts last, few)) in
    let for_reports : (not (is_report a) || nat_lt (report_count t.tracks) MAX_REPORTS) ≡ true =
    room_had (is_report a) (report_count t.tracks) MAX_REPORTS (omega (arith, reports_with_last ts last, counted, reports)) in
    let whole = append_assoc did (a ∷ []) todo in
    let names_then : length (snapshot_names (ts ++ record { name = name; actions = (did ++ a ∷ []) ++ todo } ∷ []))
    ≤ MAX_SNAPSHOTS =
    subst (λ (acts : List Action). length (snapshot_names (ts ++ record { name = name; actions = acts } ∷ [])) ≤ MAX_SNAPSHOTS)
    (sym whole) names in
    let for_names : nat_le (length (snapshot_names (with_action t.tracks a))) MAX_SNAPSHOTS ≡ true =
    ap (λ (l : List PlainTrack). nat_le (length (snapshot_names l)) MAX_SNAPSHOTS) (with_last ts last a)
    ∙ le-leb _ _ (omega (arith, snapshots_begun ts name (did ++ a ∷ []) todo, names_then)) in
    let room : has_room t a ≡ true = (λ i. for_all i && for_reports i && for_names i && rules.0 i) in
    let height : open_frames t.tracks ≡ depth did = open_with_last ts last in
    let longer = record t { tracks = with_action t.tracks a } in
    let framed : has_frame (open_frames t.tracks) a ≡ true = ap (λ (n : ℕ). has_frame n a) height ∙ keep.0 in
    let fewer : keeps_few (open_frames t.tracks) a ≡ true = ap (λ (n : ℕ). keeps_few n a) height ∙ keep.1 in
    let added : add t a ≡ Ok u =
    ap (λ (v : Bool). cond (not v) (Err NoFrame) (cond (has_room t a && keeps_few (open_frames t.tracks) a) (Ok longer) (Err TooMany))) framed
    ∙ (λ i. cond (room i && fewer i) (Ok longer) (Err TooMany)) ∙ ap (λ (l : List PlainTrack). Ok (unpicked l)) (with_last ts last a) in
    let kept : KeepFrames (depth (did ++ a ∷ [])) todo = subst (λ (n : ℕ). KeepFrames n todo) (sym (depth_push 0 did a)) keep.2 in
    let on = actions_again (k + 1) ts name (did ++ a ∷ []) todo rest fits.1 kept (omega (arith, length-append did (a ∷ []), few))
    (omega (arith, pushed, counted, reports)) names_then rules.1 in
    let placed = λ (key : Keyword). ap (λ (b : Bool). b || false) (some_tracks ts last) in
    let read = line_in_front k t u (unpicked (ts ++ record { name = name; actions = (did ++ a ∷ []) ++ todo } ∷ [])) (line_of a) (action_lines todo ++ rest) rest
    (line_words a fits.0) (action_line_again t u a fits.0 placed added) on in (
      read.0,
      ap (λ (x : List ℕ). lines_at k t (cut (x ++ rest))) (flat_map-cons (λ b. with_end (line_of b)) a todo)
          ∙ ap (λ (x : List ℕ). lines_at k t (cut x)) (append_assoc (with_end (line_of a)) (action_lines todo) rest)
          ∙ read.1
          ∙ ap (λ (acts : List Action). lines_at read.0 (unpicked (ts ++ record { name = name; actions = acts } ∷ [])) (cut rest))
          whole,
    )

fits_at : (done todo : List PlainTrack) (t : PlainTrack) → AllByRecursion FitsTrack (done ++ t ∷ todo) → FitsTrack t
fits_at [] todo t fits = fits.0
fits_at (u ∷ us) todo t fits = fits_at us todo t fits.1

tracks_again : (k : ℕ) (done todo : List PlainTrack) (rest : List ℕ) → IsWellFormed (unpicked (done ++ todo)) → ReadsOn k (unpicked done) (track_lines todo ++ rest) (unpicked (done ++ todo)) rest
tracks_again k done [] rest well = (k, ap (λ (ts : List PlainTrack). lines_at k (unpicked ts) (cut rest)) (sym (append-nil done)))
tracks_again k done (t ∷ todo) rest well =
    let last : PlainTrack = record { name = t.name; actions = [] } in
    let whole : (done ++ t ∷ []) ++ todo ≡ done ++ t ∷ todo = append_assoc done (t ∷ []) todo in
    let fit = fits_at done todo t well.fits in
    let ops = sum_by-append (λ (u : PlainTrack). length u.actions) done (t ∷ todo) in
    let ops_too = sum_by-cons (λ (u : PlainTrack). length u.actions) t todo in
    let prints = sum_by-append (λ (u : PlainTrack). reports_in u.actions) done (t ∷ todo) in
    let prints_too = sum_by-cons (λ (u : PlainTrack). reports_in u.actions) t todo in
    let place : nat_lt (length done) MAX_TRACKS ≡ true = lt-ltb _ _ (omega (arith, length-append done (t ∷ todo), well.tracks)) in
    let begun : start (unpicked done) t.name ≡ Ok (unpicked (done ++ last ∷ [])) =
    ap (λ (b : Bool). cond b (Err SameTrack) (cond (nat_lt (length done) MAX_TRACKS) (Ok (with_track (unpicked done) t.name)) (Err TooMany))) (fresh_name done todo t well.distinct)
    ∙ ap (λ (b : Bool). cond b (Ok (with_track (unpicked done) t.name)) (Err TooMany)) place in
    let together = ap (λ (ts : List PlainTrack). length (snapshot_names ts)) whole in
    let names : length (snapshot_names (done ++ t ∷ [])) ≤ MAX_SNAPSHOTS =
    omega (arith, snapshots_front (done ++ t ∷ []) todo, together, well.snapshots) in
    let acts = actions_again (k + 1) done t.name [] t.actions (track_lines todo ++ rest) fit.actions fit.frames
    (omega (arith, ops, ops_too, well.few)) (omega (arith, prints, prints_too, well.reports)) names fit.rules in
    let on = tracks_again acts.0 (done ++ t ∷ []) todo rest (subst (λ (ts : List PlainTrack). IsWellFormed (unpicked ts)) (sym whole) well) in
    let read = line_in_front k (unpicked done) (unpicked (done ++ last ∷ [])) (unpicked ((done ++ t ∷ []) ++ todo)) (track_line t.name) (action_lines t.actions ++ (track_lines todo ++ rest)) rest
    (words_plain (head_text heads.Track ∷ t.name ∷ []) (track_words_fit t.name fit.name)) (track_line_again (unpicked done) (unpicked (done ++ last ∷ [])) t.name fit.name refl begun) (on.0, acts.1 ∙ on.1) in (
      read.0,
      ap (λ (x : List ℕ). lines_at k (unpicked done) (cut (x ++ rest))) (flat_map-cons lines_of t todo)
          ∙ ap (λ (x : List ℕ). lines_at k (unpicked done) (cut x)) (append_assoc (lines_of t) (track_lines todo) rest ∙ append_assoc (with_end (track_line t.name)) (action_lines t.actions) (track_lines todo ++ rest))
          ∙ read.1
          ∙ ap (λ (ts : List PlainTrack). lines_at read.0 (unpicked ts) (cut rest)) whole,
    )

named_at : (tracks : List PlainTrack) (i : ℕ) → i < length tracks → AllByRecursion FitsTrack tracks → is_name (name_at_index tracks i) ≡ true
named_at [] i lt fits = absurd (omega arith)
named_at (t ∷ ts) zero lt fits = fits.0.name
named_at (t ∷ ts) (suc i) lt fits = named_at ts i (omega arith) fits.1

-- these tracks, and these picks of them
abbrev picking : List PlainTrack → List (ℕ × ℕ) → PlainTrace
picking tracks picks = record { tracks = tracks; picks = picks }

picks_again : (k : ℕ) (tracks : List PlainTrack) (did todo : List (ℕ × ℕ)) → IsDistinct (names_of tracks) → AllByRecursion FitsTrack tracks → AllByRecursion (FitsPick tracks) todo → pick_count did + pick_count todo ≤ MAX_PICKS
    → lines_at k (picking tracks did) (cut (pick_lines tracks todo)) ≡ Ok (picking tracks (did ++ todo))
picks_again k tracks did [] distinct fits fit few = ap (λ (ps : List (ℕ × ℕ)). fine (picking tracks ps)) (sym (append-nil did))
picks_again k tracks did (p ∷ todo) distinct fits fit few =
    let name = name_at_index tracks p.0 in
    let named = named_at tracks p.0 fit.0.0 fits in
    let spelt = λ (q : ℕ × ℕ). with_end (pick_line (name_at_index tracks q.0) q.1) in
    let counted = sum_by-cons (λ (q : ℕ × ℕ). q.1) p todo in
    let room : nat_le (pick_count did + p.1) MAX_PICKS ≡ true = le-leb _ _ (omega (arith, counted, few)) in
    let most : p.1 ≤ MAX_PICKS = omega (arith, counted, few) in
    let picked : pick (picking tracks did) p.0 p.1 ≡ Ok (picking tracks (did ++ p ∷ [])) = ap (λ (v : Bool). cond v (Ok (picking tracks (did ++ p ∷ []))) (Err TooMany)) room in
    ap (λ (x : List ℕ). lines_at k (picking tracks did) (cut x)) (flat_map-cons spelt p todo)
    ∙ line_step k (picking tracks did) (picking tracks (did ++ p ∷ [])) (pick_line name p.1) (pick_lines tracks todo) (words_plain (head_text heads.Pick ∷ name ∷ decimal p.1 ∷ []) (pick_words_fit name p.1 named most))
    (pick_line_again (picking tracks did) (picking tracks (did ++ p ∷ [])) name p.0 p.1 named fit.0.1 most (index_again tracks p.0 distinct fit.0.0) picked)
    ∙ picks_again (k + 1) tracks (did ++ p ∷ []) todo distinct fits fit.1 (omega (arith, counted, few, sum_by-append (λ (q : ℕ × ℕ). q.1) did (p ∷ [])))
    ∙ ap (λ (ps : List (ℕ × ℕ)). fine (picking tracks ps)) (append_assoc did (p ∷ []) todo)

pub trace_again : (t : PlainTrace) → IsWellFormed t → trace_at (spelling t) ≡ Ok t
unfolding trace_at
trace_again t well =
    let plain : IsWellFormed (unpicked t.tracks) = record {
      tracks = well.tracks;
      distinct = well.distinct;
      few = well.few;
      reports = well.reports;
      snapshots = well.snapshots;
      fits = well.fits;
      picks = tt;
      picked = omega arith;
    } in
    let read = tracks_again 2 [] t.tracks (pick_lines t.tracks t.picks) plain in
    with_header (λ b. b == line_end) (spelling t) header (body t) (cut_line header (body t) refl) ∙ read.1
    ∙ picks_again read.0 t.tracks [] t.picks well.distinct well.fits well.picks (omega (arith, well.picked))

-- ---- the laws

pub spelt_once_lem : (a b : PlainTrace) → IsWellFormed a → IsWellFormed b → spelling a ≡ spelling b → a ≡ b
spelt_once_lem a b wa wb same = fine_is a b (sym (trace_again a wa) ∙ ap trace_at same ∙ trace_again b wb)

pub read_back : (bytes : List ℕ) (t : PlainTrace) → IsWellFormed t → bytes ≡ spelling t → trace_at bytes ≡ Ok t
read_back bytes t well is = ap trace_at is ∙ trace_again t well
