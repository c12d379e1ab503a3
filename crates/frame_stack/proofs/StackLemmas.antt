-- The frames of all tracks, and what is known of them as the table grows.
use Rattle.std.proofs.Common.{◌≡◌, ℕ, zero, suc, ◌-◌, ◌<◌, ◌≤◌, List, [], ◌∷◌, ◌++◌, length, map, take, drop, get_or, set, replicate, slice_get, option_map, Option, Some, None, IfSome, refl, sym, ap, subst, ◌∙◌, inl, inr, arith, Result, Ok, Err, OnOk, OnErr, length-append, length-drop}
use Rattle.std.specs.Prelude.{All, unwrap_or}
use Rattle.std.proofs.lemmas.Option.{slice_get-map, slice_get_read, slice_get_within}
use Rattle.std.proofs.lemmas.List.{length-map, length-take, map-set}
use Rattle.std.proofs.lemmas.List.Elements.{All-nil, All-push, All-replicate, All-set, All-weaker}
use Rattle.std.proofs.lemmas.Option.{get_or_from_slice_get}
use Rattle.mem_base.specs.declared.reply.Frame.{Frame}
use Rattle.frame_model.specs.Frames.{frames_below, frames_on, frames_with, latest, recent}
use Rattle.frame_stack.specs.declared.callers.Known.{Known}
use Rattle.frame_stack.specs.declared.callers.Stack.{Stack}
use Rattle.frame_stack.specs.Tracebacks.{at_line, unknown_frame, IsInterned, IsShort, KeepsNumbers}
use Rattle.frame_stack.specs.Callers.{AreAmong, AreCallers, CallersView, IsKnown, IsStack, frames_in, frames_of, with_frames}

-- ---- files of frames

among_append : (files : ℕ) (xs ys : List Frame) → AreAmong files xs → AreAmong files ys → AreAmong files (xs ++ ys)
among_append files [] ys p q = q
among_append files (x ∷ xs) ys p q = (p.0, among_append files xs ys p.1 q)

among_take : (files n : ℕ) (frames : List Frame) → AreAmong files frames → AreAmong files (take n frames)
among_take files zero frames are = tt
among_take files (suc n) [] are = tt
among_take files (suc n) (f ∷ fs) are = (are.0, among_take files n fs are.1)

among_drop : (files n : ℕ) (frames : List Frame) → AreAmong files frames → AreAmong files (drop n frames)
among_drop files zero frames are = are
among_drop files (suc n) [] are = tt
among_drop files (suc n) (f ∷ fs) are = among_drop files n fs are.1

among_at : (files line : ℕ) (frames : List Frame) → AreAmong files frames → AreAmong files (map (at_line line) frames)
among_at files line [] are = tt
among_at files line (f ∷ fs) are = (are.0, among_at files line fs are.1)

pub among_with : (files : ℕ) (frames : List Frame) (f : Frame) → AreAmong files frames → f.file.0 < files → AreAmong files (frames_with frames f)
among_with files frames f are lt = among_append files frames (f ∷ []) are (lt, tt)

pub among_below : (files : ℕ) (frames : List Frame) → AreAmong files frames → AreAmong files (frames_below frames)
among_below files frames are = among_take files (length frames - 1) frames are

pub among_on : (files line : ℕ) (frames : List Frame) → AreAmong files frames → AreAmong files (frames_on (at_line line) frames)
among_on files line frames are =
    among_append files (frames_below frames) (map (at_line line) (latest 1 frames)) (among_below files frames are)
    (among_at files line (latest 1 frames) (among_drop files (length frames - 1) frames are))

among_recent : (files limit : ℕ) (frames : List Frame) → 1 ≤ files → AreAmong files frames → AreAmong files (recent unknown_frame limit frames)
among_recent files limit [] some are = (omega (arith, some), tt)
among_recent files limit (f ∷ fs) some are = among_drop files (length (f ∷ fs) - limit) (f ∷ fs) are

-- ---- few frames

pub short_below : (frames : List Frame) → IsShort frames → IsShort (frames_below frames)
short_below frames short = omega (arith, short, length-take (length frames - 1) frames)

pub short_on : (line : ℕ) (frames : List Frame) → IsShort frames → IsShort (frames_on (at_line line) frames)
short_on line frames short =
    omega (
      arith,
      short,
      length-append (frames_below frames) (map (at_line line) (latest 1 frames)),
      length-map (latest 1 frames) (at_line line),
      length-take (length frames - 1) frames,
      length-drop (length frames - 1) frames,
    )

short_recent : (limit : ℕ) (frames : List Frame) → IsShort frames → IsShort (recent unknown_frame limit frames)
short_recent limit [] short = omega arith
short_recent limit (f ∷ fs) short = omega (arith, short, length-drop (length (f ∷ fs) - limit) (f ∷ fs))

-- ---- numbers in a table that grows

grown : (table : List (List Frame)) (t u : List Frame) (i : ℕ) → slice_get table i ≡ Some u → slice_get (table ++ t ∷ []) i ≡ Some u
grown [] t u i at = absurd cc
grown (x ∷ xs) t u zero at = at
grown (x ∷ xs) t u (suc i) at = grown xs t u i at

-- a number means the same frames once more frames have one
pub stays : (t : List Frame) (old new : List (List Frame)) → IsInterned t old new → KeepsNumbers old new
stays t old new is i u at = elim is [
  | inl there ↦ subst (λ (l : List (List Frame)). slice_get l i ≡ Some u) (sym there.1) at
  | inr added ↦ subst (λ (l : List (List Frame)). slice_get l i ≡ Some u) (sym added.1) (grown old t u i at)
]

stays_known : (t : List Frame) (old new : List (List Frame)) → IsInterned t old new → (s : Stack) → IsKnown old s → IsKnown new s
stays_known t old new is s known = by s.known known
  where
    by : (o : Option Known) → IfSome o (λ k. slice_get old k.trace.0 ≡ Some (recent unknown_frame k.limit s.frames)) → IfSome o (λ k. slice_get new k.trace.0 ≡ Some (recent unknown_frame k.limit s.frames))
    by None at = tt
    by (Some k) at = stays t old new is k.trace.0 (recent unknown_frame k.limit s.frames) at

-- ---- the stacks

-- what contracts see of these fields
abbrev seen : ℕ → List (List Frame) → List (List Frame) → CallersView
seen files frames table = record { files = files; frames = frames; table = table }

-- the stack that is read has the frames of its track
pub stack_read : (stacks : List Stack) (t : ℕ) (s : Stack) → t < length stacks → s ≡ get_or stacks t s → unwrap_or (slice_get (frames_in stacks) t) [] ≡ s.frames
stack_read stacks t s lt at =
    ap (λ (o : Option (List Frame)). unwrap_or o []) (slice_get-map (λ (x : Stack). x.frames) stacks t ∙ ap (option_map (λ (x : Stack). x.frames)) (slice_get_read stacks (length stacks) t s refl lt at))

-- a track is among the stacks as it is among the frames
pub track_in : (c : CallersView) (files : ℕ) (stacks : List Stack) (table : List (List Frame)) → record { files = files; frames = frames_in stacks; table = table } ≡ c
    → (t : ℕ) → t < length c.frames → t < length stacks
track_in c files stacks table view t lt = omega (arith, lt, ap (λ (v : CallersView). length v.frames) view, length-map stacks (λ (s : Stack). s.frames))

-- one stack comes to have these frames
pub changed : (c : CallersView) (files : ℕ) (stacks : List Stack) (table : List (List Frame)) → record { files = files; frames = frames_in stacks; table = table } ≡ c
    → (t : ℕ) (was now : Stack) (f : List Frame → List Frame) → t < length stacks → was ≡ get_or stacks t was → now.frames ≡ f was.frames
    → record { files = files; frames = frames_in (set stacks t now); table = table } ≡ with_frames c t (f (frames_of c t))
changed c files stacks table view t was now f lt at is =
    (λ i. record {
      files = files;
      frames = (map-set (λ (s : Stack). s.frames) stacks t now ∙ ap (set (frames_in stacks) t) (is ∙ ap f (sym (stack_read stacks t was lt at)))) i;
      table = table;
    })
    ∙ ap (λ (v : CallersView). with_frames v t (f (frames_of v t))) view

-- the stack that is read is one
pub is_stack : (files : ℕ) (stacks : List Stack) (table : List (List Frame)) → AreCallers files stacks table → (t : ℕ) (s : Stack) → t < length stacks → s ≡ get_or stacks t s → IsStack files table s
is_stack files stacks table are t s lt at = subst (IsStack files table) (sym at) (are.each t s lt)

-- one stack changes to one of which nothing is known
pub changed_are : (files : ℕ) (stacks : List Stack) (table : List (List Frame)) → AreCallers files stacks table → (t : ℕ) (now : Stack) → AreAmong files now.frames → IsShort now.frames → now.known ≡ None
    → AreCallers files (set stacks t now) table
changed_are files stacks table are t now among short none = record {
  some = are.some;
  each = All-set (IsStack files table) stacks t now (record {
    among = among;
    short = short;
    known = subst (λ (o : Option Known). IfSome o (λ k. slice_get table k.trace.0 ≡ Some (recent unknown_frame k.limit now.frames))) (sym none) tt;
  }) are.each;
  among = are.among;
  short = are.short;
}

-- a stack comes to have a number that is known, or there was no memory and the table is as it was
pub recent_are : (files : ℕ) (stacks : List Stack) (old new : List (List Frame)) → AreCallers files stacks old → (t limit : ℕ) (was now : Stack) → t < length stacks → was ≡ get_or stacks t was
    → now.frames ≡ was.frames → IsKnown new now → {A E : Type 0} (r : Result A E) → OnOk r (IsInterned (recent unknown_frame limit was.frames) old new) → OnErr r (new ≡ old)
    → AreCallers files (set stacks t now) new
recent_are files stacks old new are t limit was now lt at same known r is kept_all = by r is kept_all
  where
    kept : List Frame
    kept = recent unknown_frame limit was.frames

    here : IsStack files old was
    here = is_stack files stacks old are t was lt at

    with_table : All (IsStack files new) stacks → All (AreAmong files) new → All IsShort new → AreCallers files (set stacks t now) new
    with_table others among short = record {
      some = are.some;
      each = All-set (IsStack files new) stacks t now (record {
        among = subst (AreAmong files) (sym same) here.among;
        short = subst IsShort (sym same) here.short;
        known = known;
      }) others;
      among = among;
      short = short;
    }

    added : IsInterned kept old new → AreCallers files (set stacks t now) new
    added is =
        with_table (All-weaker (IsStack files old) (IsStack files new) (λ s h. record { among = h.among; short = h.short; known = stays_known kept old new is s h.known }) stacks are.each) (elim is [
          | inl there ↦ subst (All (AreAmong files)) (sym there.1) are.among
          | inr more ↦ subst (All (AreAmong files)) (sym more.1) (All-push (AreAmong files) old kept are.among (among_recent files limit was.frames are.some here.among))
        ]) (elim is [
          | inl there ↦ subst (All IsShort) (sym there.1) are.short
          | inr more ↦ subst (All IsShort) (sym more.1) (All-push IsShort old kept are.short (short_recent limit was.frames here.short))
        ])

    by : {A E : Type 0} (r : Result A E) → OnOk r (IsInterned kept old new) → OnErr r (new ≡ old) → AreCallers files (set stacks t now) new
    by (Ok a) is none = added is
    by (Err e) none same_table = with_table (subst (λ (l : List (List Frame)). All (IsStack files l) stacks) (sym same_table) are.each) (subst (All (AreAmong files)) (sym same_table) are.among) (subst (All IsShort) (sym same_table) are.short)

-- the frames of a traceback are of files
pub table_among : (files : ℕ) (table : List (List Frame)) (i : ℕ) (u : List Frame) → All (AreAmong files) table → slice_get table i ≡ Some u → AreAmong files u
table_among files table i u are at =
    subst (AreAmong files) (get_or_from_slice_get table i u u at) (are i u (slice_get_within table i u at))

-- no frames at all
pub no_frames_in : (n : ℕ) → frames_in (replicate n (record { frames = []; known = None })) ≡ replicate n []
no_frames_in zero = refl
no_frames_in (suc n) = ap (λ (l : List (List Frame)). [] ∷ l) (no_frames_in n)

pub opening_are : (files n : ℕ) → 1 ≤ files → AreCallers files (replicate n (record { frames = []; known = None })) []
opening_are files n some = record {
  some = some;
  each = All-replicate (IsStack files []) n (record { frames = []; known = None }) (record { among = tt; short = omega arith; known = tt });
  among = All-nil (AreAmong files);
  short = All-nil IsShort;
}

module _ (c : CallersView) (files : ℕ) (stacks : List Stack) (table : List (List Frame)) (view : record { files = files; frames = frames_in stacks; table = table } ≡ c)
    (t : ℕ) (was : Stack) where
  -- the frames of a track are those of the stack that is read
  pub frames_read : t < length stacks → was ≡ get_or stacks t was → was.frames ≡ frames_of c t
  frames_read lt at = sym (stack_read stacks t was lt at) ∙ ap (λ (v : CallersView). frames_of v t) view

  -- one stack is written that has the same frames
  pub unchanged : (now : Stack) → t < length stacks → was ≡ get_or stacks t was → now.frames ≡ was.frames → (more : List (List Frame))
      → seen files (frames_in (set stacks t now)) more ≡ seen c.files c.frames more
  unchanged now lt at same more =
      let written : frames_in (set stacks t now) ≡ frames_in stacks =
      map-set (λ (s : Stack). s.frames) stacks t now ∙ ap (set (frames_in stacks) t) (same ∙ sym (stack_read stacks t was lt at)) ∙ set_read (frames_in stacks) t in
      λ i. record { files = (view i).files; frames = (written ∙ ap (λ (v : CallersView). v.frames) view) i; table = more }
    where
      set_read : (l : List (List Frame)) (k : ℕ) → set l k (unwrap_or (slice_get l k) []) ≡ l
      set_read [] k = refl
      set_read (x ∷ xs) zero = refl
      set_read (x ∷ xs) (suc k) = ap (λ (r : List (List Frame)). x ∷ r) (set_read xs k)
