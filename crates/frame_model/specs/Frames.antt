-- The frames of a track, oldest first, and what is kept of them. F is what a frame is.
use Rattle.std.specs.Prelude.{ℕ, ◌-◌, max, List, [], ◌∷◌, ◌++◌, length, map, take, drop}
use Rattle.mem_base.specs.Name.{Name}
use Rattle.mem_base.specs.Texts.{text_at}
use Rattle.mem_base.specs.declared.reply.Frame.{Frame}

-- a place in a program: a file by its name, and a line of it
pub record PlainFrame : Type 0 where
  pub file : Name
  pub line : ℕ

-- what a frame of the code stands for, with its file among these texts
abbrev pub frame_of : List Name → Frame → PlainFrame
frame_of texts f = record { file = text_at texts f.file; line = f.line }

abbrev pub frames_of : List Name → List Frame → List PlainFrame
frames_of texts fs = map (frame_of texts) fs

module _ {F : Type 0} where
  -- the frames with one more call
  abbrev pub frames_with : List F → F → List F
  frames_with frames f = frames ++ f ∷ []

  -- the frames after a return
  abbrev pub frames_below : List F → List F
  frames_below frames = take (length frames - 1) frames

  -- the n most recent frames, or all of them
  abbrev pub latest : ℕ → List F → List F
  latest n frames = drop (length frames - n) frames

  -- the frames, where the most recent one has gone on so
  abbrev pub frames_on : (F → F) → List F → List F
  frames_on on frames = frames_below frames ++ map on (latest 1 frames)

  -- what a trace keeps of the frames, where it keeps at most n of them
  abbrev pub recent : F → ℕ → List F → List F
  recent unknown n [] = unknown ∷ []
  recent unknown n (f ∷ fs) = latest n (f ∷ fs)

  -- how many frames there are, as a trace tells it
  abbrev pub total : List F → ℕ
  total frames = max (length frames) 1
