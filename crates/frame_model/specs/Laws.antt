-- Laws over frames.
use Rattle.std.specs.Prelude.{◌≡◌, ◌≢◌, ℕ, ◌≤◌, min, List, [], ◌++◌, length, map}
use Rattle.frame_model.specs.Frames.{frames_below, frames_on, frames_with, recent, total}

-- a call and its return leave the frames as they were; a frame that goes on leaves those below it
abbrev pub CallsCome : Type 0 → Type 0
CallsCome F = (frames : List F) (f : F) (on : F → F)
    → (frames_below (frames_with frames f) ≡ frames)
    × (frames_on on (frames_with frames f) ≡ frames_with frames (on f))

-- what is kept of some frames is the end of them
abbrev pub KeepsTheLatest : Type 0 → Type 0
KeepsTheLatest F = (unknown : F) (n : ℕ) (frames : List F) → frames ≢ []
    → (older : List F) × (frames ≡ older ++ recent unknown n frames)

-- as many are kept as the limit says, or as there are
abbrev pub KeepsSoMany : Type 0 → Type 0
KeepsSoMany F = (unknown : F) (n : ℕ) (frames : List F) → 1 ≤ n
    → length (recent unknown n frames) ≡ min n (total frames)

-- frames under other names: the same ones are kept
abbrev pub NumbersKeepFrames : Type 0 → Type 0 → Type 0
NumbersKeepFrames F G = (name : F → G) (unknown : F) (n : ℕ) (frames : List F)
    → map name (recent unknown n frames) ≡ recent (name unknown) n (map name frames)
