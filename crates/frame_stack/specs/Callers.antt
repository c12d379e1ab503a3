-- The frames of all tracks, and the tracebacks that were kept of them.
use Rattle.std.specs.Prelude.{◌≡◌, ℕ, ◌<◌, ◌≤◌, List, [], map, slice_get, slice_set, unwrap_or, IfSome, Some, All}
use Rattle.std.specs.List.{AllByRecursion}
use Rattle.mem_base.specs.declared.reply.Frame.{Frame}
use Rattle.frame_model.specs.Frames.{recent}
use Rattle.frame_stack.specs.Tracebacks.{unknown_frame, IsShort}
use Rattle.frame_stack.specs.declared.callers.Stack.{Stack}

-- how many files there are, the frames of each track, the oldest first, and the table of tracebacks
pub record CallersView : Type 0 where
  pub files : ℕ
  pub frames : List (List Frame)
  pub table : List (List Frame)

-- the frames of a track
abbrev pub frames_of : CallersView → ℕ → List Frame
frames_of c t = unwrap_or (slice_get c.frames t) []

-- the callers, where a track has these frames
abbrev pub with_frames : CallersView → ℕ → List Frame → CallersView
with_frames c t frames = record c { frames = slice_set c.frames t frames }

-- the frames that the stacks hold
abbrev pub frames_in : List Stack → List (List Frame)
frames_in stacks = map (λ s. s.frames) stacks

-- the file of each frame is among so many
abbrev pub AreAmong : ℕ → List Frame → Type 0
AreAmong files frames = AllByRecursion (λ f. f.file.0 < files) frames

-- the number that is known of a stack, where one is, is that of what is kept of its frames
abbrev pub IsKnown : List (List Frame) → Stack → Type 0
IsKnown table s =
    IfSome s.known (λ k. slice_get table k.trace.0 ≡ Some (recent unknown_frame k.limit s.frames))

-- a stack of few frames whose files are among so many, with what is known of it
pub record IsStack (files : ℕ) (table : List (List Frame)) (s : Stack) : Type 0 where
  pub among : AreAmong files s.frames
  pub short : IsShort s.frames
  pub known : IsKnown table s

-- there is a file, the unknown one, and all frames are of files and few, in the stacks and in the table
pub record AreCallers (files : ℕ) (stacks : List Stack) (table : List (List Frame)) : Type 0 where
  pub some : 1 ≤ files
  pub each : All (IsStack files table) stacks
  pub among : All (AreAmong files) table
  pub short : All IsShort table
