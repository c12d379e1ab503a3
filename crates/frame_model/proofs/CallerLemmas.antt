-- What proofs of other crates may cite: what is kept of frames.
use Rattle.std.proofs.Common.{◌≡◌, ◌≢◌, ℕ, ◌+◌, ◌-◌, ◌≤◌, min, List, [], ◌∷◌, ◌++◌, length, take, drop, map, refl, sym, ap, ◌∙◌, arith, length-append, length-drop}
use Rattle.std.proofs.lemmas.List.{drop-map, length-map, take-append-drop, drop_at, take_at}
use Rattle.frame_model.specs.Frames.{frames_below, frames_on, frames_with, latest, recent, total}

pub below_with : {F : Type 0} (frames : List F) (f : F) → frames_below (frames_with frames f) ≡ frames
below_with frames f =
    let one : length (frames_with frames f) - 1 ≡ length frames = omega (arith, length-append frames (f ∷ [])) in
    ap (λ n. take n (frames_with frames f)) one ∙ take_at frames (f ∷ []) (length frames) refl

pub on_with : {F : Type 0} (frames : List F) (f : F) (on : F → F) → frames_on on (frames_with frames f) ≡ frames_with frames (on f)
on_with frames f on =
    let last : length (frames_with frames f) - 1 ≡ length frames = omega (arith, length-append frames (f ∷ [])) in
    let one : latest 1 (frames_with frames f) ≡ f ∷ [] = ap (λ n. drop n (frames_with frames f)) last ∙ drop_at frames (f ∷ []) (length frames) refl in
    λ i. below_with frames f i ++ map on (one i)

pub keeps_latest : {F : Type 0} (unknown : F) (n : ℕ) (frames : List F) → frames ≢ [] → (older : List F) × (frames ≡ older ++ recent unknown n frames)
keeps_latest unknown n [] some = absurd (some refl)
keeps_latest unknown n (f ∷ fs) some = (take (length (f ∷ fs) - n) (f ∷ fs), sym (take-append-drop (length (f ∷ fs) - n) (f ∷ fs)))

pub keeps_many : {F : Type 0} (unknown : F) (n : ℕ) (frames : List F) → 1 ≤ n → length (recent unknown n frames) ≡ min n (total frames)
keeps_many unknown n [] some = omega arith
keeps_many unknown n (f ∷ fs) some = omega (arith, length-drop (length (f ∷ fs) - n) (f ∷ fs))

pub recent_names : {F G : Type 0} (name : F → G) (unknown : F) (n : ℕ) (frames : List F) → map name (recent unknown n frames) ≡ recent (name unknown) n (map name frames)
recent_names name unknown n [] = refl
recent_names name unknown n (f ∷ fs) =
    sym (drop-map name (length (f ∷ fs) - n) (f ∷ fs)) ∙ ap (λ k. drop (k - n) (map name (f ∷ fs))) (sym (length-map (f ∷ fs) name))
