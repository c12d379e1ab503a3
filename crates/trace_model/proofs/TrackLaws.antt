-- What one more track and one more operation add to a trace's spelling.
use Rattle.std.proofs.Common.{◌≡◌, ℕ, suc, ◌+◌, ◌<◌, ◌≤◌, Bool, true, false, cond, not, ◌||◌, List, [], ◌∷◌}
use Rattle.std.proofs.Common.{◌++◌, length, refl, sym, ap, ◌∙◌, append_assoc, append-nil, arith}
use Rattle.std.proofs.Common.{length-append, true≢false}
use Rattle.std.specs.Prelude.{◌==◌, nat_lt, IsTrue}
use Rattle.std.specs.List.{AllByRecursion}
use Rattle.std.proofs.lemmas.Bool.{eqb-true, ltb-true, lt-ltb}
use Rattle.std.proofs.lemmas.List.Concat.{flat_map-cons}
use Rattle.std.proofs.lemmas.List.Sums.{sum_by-cons, sum_by-append}
use Rattle.std.proofs.lemmas.Grind.{flat_map-append}
use Rattle.mem_base.specs.Name.{Name}
use Rattle.trace_model.specs.Plain.{Action, PlainTrack, is_report, depth, depth_after, depth_from, has_frame}
use Rattle.trace_model.specs.Plain.{keeps_few, Fits, KeepFrames, has_few_rules}
use Rattle.trace_model.specs.Spelling.{line_of, track_line, with_end, action_lines, track_lines, action_count}
use Rattle.trace_model.specs.Spelling.{reports_in, report_count, FitsTrack}
use Rattle.trace_model.specs.Reading.{open_frames, with_action}

pub all_push : {X : Type 0} (P : X → Type 0) (xs : List X) (x : X) → AllByRecursion P xs → P x → AllByRecursion P (xs ++ x ∷ [])
all_push P [] x fits fit = (fit, tt)
all_push P (y ∷ ys) x fits fit = (fits.0, all_push P ys x fits.1 fit)

-- the bytes of a track
abbrev pub lines_of : PlainTrack → List ℕ
lines_of t = with_end (track_line t.name) ++ action_lines t.actions

pub actions_push : (actions : List Action) (a : Action) → action_lines (actions ++ a ∷ []) ≡ action_lines actions ++ with_end (line_of a)
actions_push actions a = flat_map-append (λ b. with_end (line_of b)) actions (a ∷ []) ∙ ap (λ (x : List ℕ). action_lines actions ++ x) (append-nil (with_end (line_of a)))

pub track_lines-one : (t : PlainTrack) → track_lines (t ∷ []) ≡ lines_of t
track_lines-one t = append-nil (lines_of t)

pub track_lines-push : (ts : List PlainTrack) (t : PlainTrack) → track_lines (ts ++ t ∷ []) ≡ track_lines ts ++ lines_of t
track_lines-push ts t = flat_map-append lines_of ts (t ∷ []) ∙ ap (λ (x : List ℕ). track_lines ts ++ x) (track_lines-one t)

pub new_track : (ts : List PlainTrack) (name : Name) → track_lines (ts ++ record { name = name; actions = [] } ∷ []) ≡ track_lines ts ++ with_end (track_line name)
new_track ts name = track_lines-push ts (record { name = name; actions = [] }) ∙ ap (λ (x : List ℕ). track_lines ts ++ x) (append-nil (with_end (track_line name)))

pub count_of_new : (ts : List PlainTrack) (name : Name) → action_count (ts ++ record { name = name; actions = [] } ∷ []) ≡ action_count ts
count_of_new ts name =
    let both = sum_by-append (λ t. length t.actions) ts (record { name = name; actions = [] } ∷ []) in
    omega (arith, both)

pub reports_of_new : (ts : List PlainTrack) (name : Name) → report_count (ts ++ record { name = name; actions = [] } ∷ []) ≡ report_count ts
reports_of_new ts name =
    let both = sum_by-append (λ t. reports_in t.actions) ts (record { name = name; actions = [] } ∷ []) in
    omega (arith, both)

-- ---- frames

pub depth_push : (n : ℕ) (actions : List Action) (a : Action) → depth_from n (actions ++ a ∷ []) ≡ depth_after (depth_from n actions) a
depth_push n [] a = refl
depth_push n (b ∷ bs) a = depth_push (depth_after n b) bs a

-- one more operation keeps to the frames that are left
frames_push : (n : ℕ) (actions : List Action) (a : Action) → KeepFrames n actions → has_frame (depth_from n actions) a ≡ true
    → keeps_few (depth_from n actions) a ≡ true → KeepFrames n (actions ++ a ∷ [])
frames_push n [] a keep has few = (has, few, tt)
frames_push n (b ∷ bs) a keep has few = (keep.0, keep.1, frames_push (depth_after n b) bs a keep.2 has few)

pub open_with_last : (ts : List PlainTrack) (t : PlainTrack) → open_frames (ts ++ t ∷ []) ≡ depth t.actions
open_with_last [] t = refl
open_with_last (u ∷ []) t = refl
open_with_last (u ∷ v ∷ ts) t = open_with_last (v ∷ ts) t

-- ---- operations that print more than a reply

-- how many of these an operation is
abbrev pub reports_of : Action → ℕ
reports_of a = cond (is_report a) 1 0

pub reports_in-cons : (a : Action) (actions : List Action) → reports_in (a ∷ actions) ≡ reports_of a + reports_in actions
reports_in-cons a actions = sum_by-cons reports_of a actions

pub reports_in-push : (actions : List Action) (a : Action) → reports_in (actions ++ a ∷ []) ≡ reports_in actions + reports_of a
reports_in-push actions a = sum_by-append reports_of actions (a ∷ []) ∙ omega arith

-- with room for one more, the count stays within the limit
pub room_kept : (report : Bool) (count most : ℕ) → (not report || nat_lt count most) ≡ true → count ≤ most → count + cond report 1 0 ≤ most
room_kept true count most room few =
    let below : count < most = ltb-true count most room in
    omega arith
room_kept false count most room few = omega arith

-- a count that stays within the limit had room
pub room_had : (report : Bool) (count most : ℕ) → count + cond report 1 0 ≤ most → (not report || nat_lt count most) ≡ true
room_had true count most few = lt-ltb count most (omega arith)
room_had false count most few = refl

-- ---- one more operation of the last track

abbrev pub HasFewRules : Action → Type 0
HasFewRules a = IsTrue (has_few_rules a)

pub suc_not_zero : (n : ℕ) → (suc n == 0) ≡ false
suc_not_zero n = by (suc n == 0) refl
  where
    by : (v : Bool) → (suc n == 0) ≡ v → v ≡ false
    by true e =
        let none : suc n ≡ 0 = eqb-true (suc n) 0 e in
        absurd (omega arith)
    by false e = refl

pub length-with_action : (ts : List PlainTrack) (a : Action) → length (with_action ts a) ≡ length ts
length-with_action [] a = refl
length-with_action (t ∷ []) a = refl
length-with_action (t ∷ u ∷ ts) a = ap suc (length-with_action (u ∷ ts) a)

pub action_count-with : (ts : List PlainTrack) (a : Action) → (length ts == 0) ≡ false → action_count (with_action ts a) ≡ action_count ts + 1
action_count-with [] a some = absurd (true≢false some)
action_count-with (t ∷ []) a some = omega (arith, length-append t.actions (a ∷ []))
action_count-with (t ∷ u ∷ ts) a some =
    let f = λ (v : PlainTrack). length v.actions in
    omega (arith, sum_by-cons f t (with_action (u ∷ ts) a), sum_by-cons f t (u ∷ ts), action_count-with (u ∷ ts) a (suc_not_zero (length ts)))

pub report_count-with : (ts : List PlainTrack) (a : Action) → (length ts == 0) ≡ false → report_count (with_action ts a) ≡ report_count ts + reports_of a
report_count-with [] a some = absurd (true≢false some)
report_count-with (t ∷ []) a some = omega (arith, reports_in-push t.actions a)
report_count-with (t ∷ u ∷ ts) a some =
    let f = λ (v : PlainTrack). reports_in v.actions in
    omega (arith, sum_by-cons f t (with_action (u ∷ ts) a), sum_by-cons f t (u ∷ ts), report_count-with (u ∷ ts) a (suc_not_zero (length ts)))

-- how many frames are open with it
pub open_with : (ts : List PlainTrack) (a : Action) → (length ts == 0) ≡ false → open_frames (with_action ts a) ≡ depth_after (open_frames ts) a
open_with [] a some = absurd (true≢false some)
open_with (t ∷ []) a some = depth_push 0 t.actions a
open_with (t ∷ u ∷ []) a some = depth_push 0 u.actions a
open_with (t ∷ u ∷ v ∷ ts) a some = open_with (u ∷ v ∷ ts) a (suc_not_zero (length (v ∷ ts)))

pub fits_with : (ts : List PlainTrack) (a : Action) → Fits a → has_frame (open_frames ts) a ≡ true → keeps_few (open_frames ts) a ≡ true
    → has_few_rules a ≡ true → AllByRecursion FitsTrack ts → AllByRecursion FitsTrack (with_action ts a)
fits_with [] a fit has few rules fits = tt
fits_with (t ∷ []) a fit has few rules fits =
    let track : FitsTrack (record { name = t.name; actions = t.actions ++ a ∷ [] }) = record {
      name = fits.0.name;
      actions = all_push Fits t.actions a fits.0.actions fit;
      frames = frames_push 0 t.actions a fits.0.frames has few;
      rules = all_push HasFewRules t.actions a fits.0.rules rules;
    } in
    (track, tt)
fits_with (t ∷ u ∷ ts) a fit has few rules fits = (fits.0, fits_with (u ∷ ts) a fit has few rules fits.1)

pub lines_with : (ts : List PlainTrack) (a : Action) → (length ts == 0) ≡ false → track_lines (with_action ts a) ≡ track_lines ts ++ with_end (line_of a)
lines_with [] a some = absurd (true≢false some)
lines_with (t ∷ []) a some =
    track_lines-one (record { name = t.name; actions = t.actions ++ a ∷ [] })
    ∙ ap (λ (x : List ℕ). with_end (track_line t.name) ++ x) (actions_push t.actions a)
    ∙ sym (append_assoc (with_end (track_line t.name)) (action_lines t.actions) (with_end (line_of a)))
    ∙ ap (λ (x : List ℕ). x ++ with_end (line_of a)) (sym (track_lines-one t))
lines_with (t ∷ u ∷ ts) a some =
    flat_map-cons lines_of t (with_action (u ∷ ts) a)
    ∙ ap (λ (x : List ℕ). lines_of t ++ x) (lines_with (u ∷ ts) a (suc_not_zero (length ts)))
    ∙ sym (append_assoc (lines_of t) (track_lines (u ∷ ts)) (with_end (line_of a)))
    ∙ ap (λ (x : List ℕ). x ++ with_end (line_of a)) (sym (flat_map-cons lines_of t (u ∷ ts)))

-- the tracks with one more operation of the last, which is written out
pub with_last : (ts : List PlainTrack) (t : PlainTrack) (a : Action) → with_action (ts ++ t ∷ []) a ≡ ts ++ record { name = t.name; actions = t.actions ++ a ∷ [] } ∷ []
with_last [] t a = refl
with_last (u ∷ []) t a = refl
with_last (u ∷ v ∷ ts) t a = ap (λ (l : List PlainTrack). u ∷ l) (with_last (v ∷ ts) t a)

pub counts_with_last : (ts : List PlainTrack) (t : PlainTrack) → action_count (ts ++ t ∷ []) ≡ action_count ts + length t.actions
counts_with_last ts t = omega (arith, sum_by-append (λ (u : PlainTrack). length u.actions) ts (t ∷ []))

pub reports_with_last : (ts : List PlainTrack) (t : PlainTrack) → report_count (ts ++ t ∷ []) ≡ report_count ts + reports_in t.actions
reports_with_last ts t = omega (arith, sum_by-append (λ (u : PlainTrack). reports_in u.actions) ts (t ∷ []))
