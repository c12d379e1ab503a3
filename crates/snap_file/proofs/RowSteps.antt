-- Frames that are read one after the other, as a loop does, and the operands before them.
use Rattle.std.proofs.Common.{◌≡◌, ℕ, zero, suc, ◌+◌, ◌<◌, ◌≤◌, add-one, List, [], ◌∷◌, ◌++◌, length, map, drop, get_or, Result, Ok, Err, refl}
use Rattle.std.proofs.Common.{sym, ap, subst, ◌∙◌, arith, append_assoc}
use Rattle.frame_model.specs.Frames.{PlainFrame}
use Rattle.tracing_model.specs.Traces.{Key as TraceKey}
use Rattle.snapshot_model.specs.Snapshots.{PlainRow}
use Rattle.trace_model.specs.Operands.{max_domain}
use Rattle.dump_model.specs.Operands.{◌>>=◌, frame_at, frames_at, frames_in, key_in, number_at, number_in, row_at, row_of_words}
use Rattle.dump_model.specs.declared.cause.LoadCause.{LoadCause}
use Rattle.snap_file.specs.declared.error.LineError.{LineError}
use Rattle.snap_file.specs.declared.error.LineError.TheVariants as faults
use Rattle.snap_file.specs.Answers.{Fails, Gives}
use Rattle.std.specs.Result.{IsErrAnd}
use Rattle.snap_file.specs.Steps.{frame_behind, frames_behind}

-- what a call failed with, its caller fails with
pub fails_on : {X Y : Type 0} (view : X → Y) (r : Result X LineError) (e : LineError) (read : Result Y LoadCause)
    → IsErrAnd r (λ d. d ≡ e) → Fails e read → Gives view r read
fails_on view (Ok x) e read is fails = absurd is
fails_on view (Err d) e read is fails = subst (λ (x : LineError). Fails x read) (sym is) fails

-- the same of what reading gives in other words
pub gives_as : {X Y : Type 0} (view : X → Y) (r : Result X LineError) (a b : Result Y LoadCause) → a ≡ b → Gives view r a → Gives view r b
gives_as view r a b same gives = subst (Gives view r) same gives

pub fails_as : {Y : Type 0} (e : LineError) (a b : Result Y LoadCause) → a ≡ b → Fails e a → Fails e b
fails_as e a b same fails = subst (Fails e) same fails

-- ---- frame after frame

module _ (front : List PlainFrame) (word : List ℕ) (words : List (List ℕ)) (total : Result (List PlainFrame) LoadCause)
    (so_far : frames_behind front (word ∷ words) ≡ total) where
  pub one_more_frame : (now : List PlainFrame) → frame_behind front (frame_at word) ≡ Ok now → frames_behind now words ≡ total
  one_more_frame now read = by (frame_at word) read so_far
    where
      regroup : (f : PlainFrame) (r : Result (List PlainFrame) LoadCause)
          → (r >>= λ fs. Ok ((front ++ f ∷ []) ++ fs)) ≡ ((r >>= λ fs. Ok (f ∷ fs)) >>= λ fs. Ok (front ++ fs))
      regroup f (Ok fs) = ap (λ (l : List PlainFrame). Ok l) (append_assoc front (f ∷ []) fs)
      regroup f (Err c) = refl

      by : (r : Result PlainFrame LoadCause) → frame_behind front r ≡ Ok now
          → ((r >>= λ f. frames_in words >>= λ fs. Ok (f ∷ fs)) >>= λ fs. Ok (front ++ fs)) ≡ total
          → frames_behind now words ≡ total
      by (Ok f) is all =
          let same : front ++ f ∷ [] ≡ now = cc in
          ap (λ (l : List PlainFrame). frames_behind l words) (sym same) ∙ regroup f (frames_in words) ∙ all
      by (Err c) is all = absurd cc

  pub frame_fails : (e : LineError) → Fails e (frame_behind front (frame_at word)) → Fails e total
  frame_fails faults.OutOfMemory read = tt
  frame_fails (faults.Wrong c) read = by (frame_at word) read so_far
    where
      by : (r : Result PlainFrame LoadCause) → frame_behind front r ≡ Err c
          → ((r >>= λ f. frames_in words >>= λ fs. Ok (f ∷ fs)) >>= λ fs. Ok (front ++ fs)) ≡ total → total ≡ Err c
      by (Ok f) is all = absurd cc
      by (Err d) is all = sym all ∙ is

-- the element at a place, and those behind it
here : {W : Type 0} (ws : List W) (i : ℕ) (d : W) → i < length ws → drop i ws ≡ get_or ws i d ∷ drop (suc i) ws
here [] i d lt = absurd (omega (arith, lt))
here (w ∷ ws) zero d lt = refl
here (w ∷ ws) (suc i) d lt = here ws i d (omega (arith, lt))

module _ {W : Type 0} (f : W → List ℕ) (ws : List W) (i : ℕ) (d : W) (lt : i < length ws) (front : List PlainFrame)
    (total : Result (List PlainFrame) LoadCause) (so_far : frames_behind front (map f (drop i ws)) ≡ total) where
  from_here : frames_behind front (f (get_or ws i d) ∷ map f (drop (suc i) ws)) ≡ total
  from_here = sym (ap (λ (l : List W). frames_behind front (map f l)) (here ws i d lt)) ∙ so_far

  pub frames_go_on : (now : List PlainFrame) → frame_behind front (frame_at (f (get_or ws i d))) ≡ Ok now
      → frames_behind now (map f (drop (i + 1) ws)) ≡ total
  frames_go_on now read =
      ap (λ (n : ℕ). frames_behind now (map f (drop n ws))) (add-one i)
      ∙ one_more_frame front (f (get_or ws i d)) (map f (drop (suc i) ws)) total from_here now read

  pub frames_fail : (e : LineError) → Fails e (frame_behind front (frame_at (f (get_or ws i d)))) → Fails e total
  frames_fail e read = frame_fails front (f (get_or ws i d)) (map f (drop (suc i) ws)) total from_here e read

-- no frame in front
pub none_behind : (words : List (List ℕ)) → frames_behind [] words ≡ frames_in words
none_behind words = by (frames_in words)
  where
    by : (r : Result (List PlainFrame) LoadCause) → (r >>= λ fs. Ok ([] ++ fs)) ≡ r
    by (Ok fs) = refl
    by (Err c) = refl

-- ---- the operands before the frames

-- a trace with these frames
abbrev pub with_frames : Result (List PlainFrame) LoadCause → PlainRow → Result PlainRow LoadCause
with_frames frames row = frames >>= λ fs. Ok (record row { frames = fs })

pub front_then_frames : (d k s t : List ℕ) (words : List (List ℕ))
    → row_of_words d k s t words ≡ (row_of_words d k s t [] >>= with_frames (frames_in words))
unfolding row_of_words
front_then_frames d k s t words = by_domain (number_in 0 max_domain d)
  where
    after_total : (dom size : ℕ) (key : TraceKey) (r : Result ℕ LoadCause)
        → (r >>= λ t. frames_in words >>= λ fs. Ok (record { key = key; size = size; frames = fs; total = t }))
        ≡ ((r >>= λ t. frames_in [] >>= λ fs. Ok (record { key = key; size = size; frames = fs; total = t })) >>= with_frames (frames_in words))
    after_total dom size key (Ok t) = refl
    after_total dom size key (Err c) = refl

    by_size : (dom : ℕ) (key : TraceKey) (r : Result ℕ LoadCause)
        → (r >>= λ n. frames_at t >>= λ t. frames_in words >>= λ fs. Ok (record { key = key; size = n; frames = fs; total = t }))
        ≡ ((r >>= λ n. frames_at t >>= λ t. frames_in [] >>= λ fs. Ok (record { key = key; size = n; frames = fs; total = t })) >>= with_frames (frames_in words))
    by_size dom key (Ok n) = after_total dom n key (frames_at t)
    by_size dom key (Err c) = refl

    by_key : (dom : ℕ) (r : Result TraceKey LoadCause)
        → (r >>= λ k. number_at s >>= λ n. frames_at t >>= λ t. frames_in words >>= λ fs. Ok (record { key = k; size = n; frames = fs; total = t }))
        ≡ ((r >>= λ k. number_at s >>= λ n. frames_at t >>= λ t. frames_in [] >>= λ fs. Ok (record { key = k; size = n; frames = fs; total = t })) >>= with_frames (frames_in words))
    by_key dom (Ok k) = by_size dom k (number_at s)
    by_key dom (Err c) = refl

    by_domain : (r : Result ℕ LoadCause)
        → (r >>= λ d. key_in d k >>= λ k. number_at s >>= λ n. frames_at t >>= λ t. frames_in words >>= λ fs. Ok (record { key = k; size = n; frames = fs; total = t }))
        ≡ ((r >>= λ d. key_in d k >>= λ k. number_at s >>= λ n. frames_at t >>= λ t. frames_in [] >>= λ fs. Ok (record { key = k; size = n; frames = fs; total = t })) >>= with_frames (frames_in words))
    by_domain (Ok d) = by_key d (key_in d k)
    by_domain (Err c) = refl

-- what reading the operands before the frames gives, and then the frames
module _ (d k s t : List ℕ) (words : List (List ℕ)) where
  pub front_fails : (c : LoadCause) → row_of_words d k s t [] ≡ Err c → row_of_words d k s t words ≡ Err c
  front_fails c read =
      front_then_frames d k s t words ∙ ap (λ (r : Result PlainRow LoadCause). r >>= with_frames (frames_in words)) read

  module _ (row : PlainRow) (read : row_of_words d k s t [] ≡ Ok row) where
    then_frames : row_of_words d k s t words ≡ with_frames (frames_in words) row
    then_frames =
        front_then_frames d k s t words ∙ ap (λ (r : Result PlainRow LoadCause). r >>= with_frames (frames_in words)) read

    pub behind_fails : (e : LineError) → Fails e (frames_in words) → Fails e (row_of_words d k s t words)
    behind_fails faults.OutOfMemory fails = tt
    behind_fails (faults.Wrong c) fails = then_frames ∙ ap (λ (r : Result (List PlainFrame) LoadCause). with_frames r row) fails

    pub all_read : (fs : List PlainFrame) → frames_in words ≡ Ok fs → row_of_words d k s t words ≡ Ok (record row { frames = fs })
    all_read fs are = then_frames ∙ ap (λ (r : Result (List PlainFrame) LoadCause). with_frames r row) are

-- five words at least are four, and those of the frames
pub row_of_all : {W : Type 0} (f : W → List ℕ) (ws : List W) (d : W) → 5 ≤ length ws
    → row_at (map f ws) ≡ row_of_words (f (get_or ws 0 d)) (f (get_or ws 1 d)) (f (get_or ws 2 d)) (f (get_or ws 3 d)) (map f (drop 4 ws))
row_of_all f (a ∷ b ∷ c ∷ e ∷ g ∷ gs) d le = refl
row_of_all f (a ∷ b ∷ c ∷ e ∷ []) d le = absurd (omega (arith, le))
row_of_all f (a ∷ b ∷ c ∷ []) d le = absurd (omega (arith, le))
row_of_all f (a ∷ b ∷ []) d le = absurd (omega (arith, le))
row_of_all f (a ∷ []) d le = absurd (omega (arith, le))
row_of_all f [] d le = absurd (omega (arith, le))
