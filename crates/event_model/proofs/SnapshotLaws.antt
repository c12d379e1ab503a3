-- Snapshots along a history: they rise, and each of their traces keeps as many frames as its limit allows.
use Rattle.std.proofs.Common.{◌≡◌, ℕ, zero, suc, ◌≤◌, min, Bool, true, false, cond, List, [], ◌∷◌, length, slice_get}
use Rattle.std.proofs.Common.{slice_index, Option, Some, None, refl, sym, ap, subst, ◌∙◌, inl, inr}
use Rattle.std.specs.List.{AllByRecursion}
use Rattle.mem_base.specs.Name.{Name}
use Rattle.mem_base.specs.declared.history.Grant.{Grant}
use Rattle.mem_base.specs.declared.history.Ask.{Ask}
use Rattle.mem_base.specs.declared.trace.Rule.{Rule}
use Rattle.trace_model.specs.Plain.{Action, PlainTrack, Fits, malloc, calloc, realloc, free, start_tracing}
use Rattle.trace_model.specs.Spelling.{FitsTrack}
use Rattle.frame_model.specs.Frames.{PlainFrame}
use Rattle.frame_model.proofs.CallerLemmas.{keeps_many}
use Rattle.map_model.specs.Map.{find, put}
use Rattle.map_model.proofs.CallerLemmas.{find-hold_other, find-hold_same}
use Rattle.tracing_model.specs.Traces.{Key, TraceOf, Traces, AreDistinct, same_key, trace_at, traces_without}
use Rattle.tracing_model.specs.Tracing.{Tracing, Change, gets, forgets, starts, stops, clears, resets, keeps, after}
use Rattle.tracing_model.specs.Tracing.{trace_of}
use Rattle.tracing_model.proofs.CallerLemmas.{fewer_distinct, with_distinct}
use Rattle.snapshot_model.specs.Snapshots.{PlainRow, PlainSnapshot, IsSnapshot, snapshot_of}
use Rattle.snapshot_model.proofs.CallerLemmas.{keeps_snapshot, snapshot_from, snapshot_rises}
use Rattle.event_model.specs.Deeds.{Deed, deed_of, takes_snapshot, keeps_by}
use Rattle.event_model.specs.Effects.{act, change_of, effect}
use Rattle.event_model.specs.Events.{next_action}
use Rattle.event_model.specs.Frames.{frames_at}
use Rattle.event_model.specs.History.{opening}
use Rattle.event_model.specs.Laws.{SnapshotsAreSound}
use Rattle.event_model.specs.Replies.{PlainReply, is_ok}
use Rattle.event_model.specs.Snapshots.{Snapshots, keep_from, snapshot_turn}
use Rattle.event_model.specs.State.{Held, State}
use Rattle.event_model.specs.Tracing.{unknown_frame, where_ok}
use Rattle.event_model.proofs.DeedLaws.{effect_keeps_tracing}
use Rattle.event_model.proofs.EventLaws.{StaysTrue, after_stays}
use Rattle.event_model.proofs.LeftLaws.{at_track}
use Rattle.event_model.proofs.TraceLaws.{same_or_other}

-- ---- what is traced

-- each trace keeps as many frames as the limit allows
abbrev pub Keep : ℕ → Traces → Type 0
Keep limit [] = Unit {0}
Keep limit (e ∷ ts) = (length e.1.frames ≡ min limit e.1.total) × Keep limit ts

-- traces under keys of their own, each of which keeps one frame at least and as many as the limit allows
pub record AreKept (t : Tracing) : Type 0 where
  pub distinct : AreDistinct t.traces
  pub some : 1 ≤ t.limit
  pub keep : Keep t.limit t.traces

-- the same where anything is traced
abbrev pub AreTraced : Option Tracing → Type 0
AreTraced None = Unit {0}
AreTraced (Some t) = AreKept t

-- the frames of the trace under a key
keep_at : (limit : ℕ) (ts : Traces) (key : Key) (of : TraceOf) → Keep limit ts → trace_at ts key ≡ Some of
    → length of.frames ≡ min limit of.total
keep_at limit [] key of keep at = absurd cc
keep_at limit (e ∷ ts) key of keep at = by (same_key e.0 key) at (keep_at limit ts key of keep.1)
  where
    by : (b : Bool) → cond b (Some e.1) (trace_at ts key) ≡ Some of
        → (trace_at ts key ≡ Some of → length of.frames ≡ min limit of.total) → length of.frames ≡ min limit of.total
    by true at later =
        let same : e.1 ≡ of = cc in
        subst (λ (x : TraceOf). length x.frames ≡ min limit x.total) same keep.0
    by false at later = later at

fewer_keep : (limit : ℕ) (ts : Traces) (key : Key) → Keep limit ts → Keep limit (traces_without ts key)
fewer_keep limit [] key keep = tt
fewer_keep limit (e ∷ ts) key keep = by (same_key e.0 key) (fewer_keep limit ts key keep.1)
  where
    by : (b : Bool) → Keep limit (traces_without ts key)
        → Keep limit (cond b (traces_without ts key) (e ∷ traces_without ts key))
    by true rest = rest
    by false rest = (keep.0, rest)

-- tracing starts with a limit of one frame at least
abbrev pub StartsWithSome : Change → Type 0
StartsWithSome (gets key size) = Unit {0}
StartsWithSome (forgets key) = Unit {0}
StartsWithSome (starts limit) = 1 ≤ limit
StartsWithSome stops = Unit {0}
StartsWithSome clears = Unit {0}
StartsWithSome resets = Unit {0}
StartsWithSome keeps = Unit {0}

after_traced : (unknown : PlainFrame) (fs : List PlainFrame) (change : Change) (tracing : Option Tracing)
    → StartsWithSome change → AreTraced tracing → AreTraced (after unknown fs change tracing)
after_traced unknown fs (gets key size) None some are = tt
after_traced unknown fs (gets key size) (Some t) some are =
    let new = trace_of unknown t.limit fs size in
    record {
      distinct = with_distinct t.traces key new are.distinct;
      some = are.some;
      keep = (keeps_many unknown t.limit fs are.some, fewer_keep t.limit t.traces key are.keep);
    }
after_traced unknown fs (forgets key) None some are = tt
after_traced unknown fs (forgets key) (Some t) some are = record {
  distinct = fewer_distinct t.traces key are.distinct;
  some = are.some;
  keep = fewer_keep t.limit t.traces key are.keep;
}
after_traced unknown fs (starts limit) None some are = record { distinct = tt; some = some; keep = tt }
after_traced unknown fs (starts limit) (Some t) some are =
    record { distinct = are.distinct; some = are.some; keep = are.keep }
after_traced unknown fs stops tracing some are = tt
after_traced unknown fs clears None some are = tt
after_traced unknown fs clears (Some t) some are = record { distinct = tt; some = are.some; keep = tt }
after_traced unknown fs resets None some are = tt
after_traced unknown fs resets (Some t) some are =
    record { distinct = are.distinct; some = are.some; keep = are.keep }
after_traced unknown fs keeps None some are = tt
after_traced unknown fs keeps (Some t) some are =
    record { distinct = are.distinct; some = are.some; keep = are.keep }

-- ---- snapshots

-- the snapshot of what is traced is one
traced_is : (t : Tracing) → AreKept t → IsSnapshot (snapshot_of t)
traced_is t are = record {
  rises = snapshot_rises t are.distinct;
  keeps = λ row has.
      let r = snapshot_from t are.distinct row has in
      subst (λ (x : PlainRow). length x.frames ≡ min t.limit x.total) (sym r.2)
      (keep_at t.limit t.traces row.key r.0 are.keep r.1);
}

-- each snapshot that a name holds is one
abbrev pub AreSnapshots : Snapshots → Type 0
AreSnapshots all = (name : Name) (s : PlainSnapshot) → find all name ≡ Some s → IsSnapshot s

put_are : (all : Snapshots) (name : Name) (s : PlainSnapshot) → IsSnapshot s → AreSnapshots all
    → AreSnapshots (put all name s)
put_are all name s is are = λ mine found at.
    elim (same_or_other mine name) [
      | inl same ↦
          let one : Some s ≡ Some found =
          sym (find-hold_same all name (Some s)) ∙ ap (find (put all name s)) (sym same) ∙ at in
          let same : s ≡ found = cc in subst IsSnapshot same is
      | inr away ↦ are mine found (sym (find-hold_other all name mine (Some s) away) ∙ at)
    ]

snapshot_are : (tracing : Option Tracing) (name : Name) (all : Snapshots) → AreTraced tracing → AreSnapshots all
    → AreSnapshots (snapshot_turn tracing name all).0
snapshot_are None name all traced are = are
snapshot_are (Some t) name all traced are = put_are all name (snapshot_of t) (traced_is t traced) are

keep_are : (new : Name) (rules : List Rule) (old : Option PlainSnapshot) (all : Snapshots)
    → ((s : PlainSnapshot) → old ≡ Some s → IsSnapshot s) → AreSnapshots all
    → AreSnapshots (keep_from new rules old all).0
keep_are new rules None all is are = are
keep_are new rules (Some s) all is are = put_are all new _ (keeps_snapshot rules s (is s refl)) are

-- ---- operations

-- what is traced is kept, and so are the snapshots
abbrev pub IsKeeping : Held → Type 0
IsKeeping h = AreTraced h.tracing × AreSnapshots h.snapshots

effect_are : (h : Held) (t : ℕ) (d : Deed) (arena : Grant) (raw : Ask) → IsKeeping h
    → AreSnapshots (effect h t d arena raw).0.snapshots
effect_are h t (takes_snapshot name) arena raw is = snapshot_are h.tracing name h.snapshots is.0 is.1
effect_are h t (keeps_by new old rules) arena raw is =
    keep_are new rules (find h.snapshots old) h.snapshots (is.1 old) is.1
effect_are h t d arena raw is = is.1

where_ok_some : (reply : PlainReply) (change : Change) → StartsWithSome change → StartsWithSome (where_ok reply change)
where_ok_some reply change some = by (is_ok reply)
  where
    by : (b : Bool) → StartsWithSome (cond b change keeps)
    by true = some
    by false = tt

-- an operation whose operands are in their ranges starts tracing with one frame at least
starts_with_some : (a : Action) (reply : PlainReply) → Fits a → StartsWithSome (change_of (deed_of a) reply)
starts_with_some (malloc v name n) reply fits = where_ok_some reply _ tt
starts_with_some (calloc v name count n) reply fits = where_ok_some reply _ tt
starts_with_some (realloc v name n) reply fits = where_ok_some reply _ tt
starts_with_some (free v name) reply fits = where_ok_some reply _ tt
starts_with_some (start_tracing limit) reply fits = fits.0
starts_with_some a reply fits = tt

act_keeps : (h : Held) (t : ℕ) (a : Action) (arena : Grant) (raw : Ask) → Fits a → IsKeeping h
    → IsKeeping (act h t (deed_of a) arena raw).0
act_keeps h t a arena raw fits is =
    let r = effect h t (deed_of a) arena raw in
    let traced = subst AreTraced (sym (effect_keeps_tracing h t (deed_of a) arena raw)) is.0 in (
      after_traced unknown_frame (frames_at r.0.frames t) (change_of (deed_of a) r.1) r.0.tracing
          (starts_with_some a r.1 fits) traced,
      effect_are h t (deed_of a) arena raw is,
    )

-- ---- histories

all_get : {X : Type 0} (P : X → Type 0) (xs : List X) (i : ℕ) (x : X) → AllByRecursion P xs → slice_get xs i ≡ Some x
    → P x
all_get P [] i x all at = absurd cc
all_get P (y ∷ ys) zero x all at = let same : y ≡ x = cc in subst P same all.0
all_get P (y ∷ ys) (suc i) x all at = all_get P ys i x all.1 at

next_fits : (tracks : List PlainTrack) (s : State) (t : ℕ) (a : Action) → AllByRecursion FitsTrack tracks
    → next_action tracks s t ≡ Some a → Fits a
next_fits tracks s t a fits is =
    let there = at_track (slice_get tracks t) (slice_index s.done t) a is in
    let track : FitsTrack there.0 = all_get FitsTrack tracks t there.0 fits there.1 in
    all_get Fits there.0.actions (slice_index s.done t) a track.actions there.2

keeping_stays : (tracks : List PlainTrack) → AllByRecursion FitsTrack tracks → StaysTrue tracks IsKeeping
keeping_stays tracks fits = record {
  by_owner = λ h owner is. is;
  by_act = λ s t a arena raw next is. act_keeps s.held t a arena raw (next_fits tracks s t a fits next) is;
}

pub snapshots_sound : SnapshotsAreSound
snapshots_sound tracks es name snapshot fits legal at =
    let begun : IsKeeping (opening tracks).held = (tt, λ name s at. absurd cc) in
    (after_stays tracks IsKeeping (keeping_stays tracks fits) (opening tracks) es begun).1 name snapshot at
