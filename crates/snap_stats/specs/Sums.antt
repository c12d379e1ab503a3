-- Sums by key, and what rows add to them.
use Rattle.std.specs.Prelude.{◌≡◌, ℕ, ◌*◌, ◌^◌, ◌<◌, ◌≤◌, ◌==◌, ◌&&◌, Bool, true, false, List, [], ◌∷◌, ◌++◌, map}
use Rattle.std.specs.List.{AllByRecursion}
use Rattle.mem_base.specs.declared.reply.Frame.{Frame}
use Rattle.mem_base.specs.declared.reply.Group.{Group}
use Rattle.extents.specs.Sums.{tally}
use Rattle.frame_stack.specs.Tracebacks.{traceback_at}
use Rattle.frame_stack.specs.declared.tracebacks.TbId.{TbId}
use Rattle.trace_table.specs.declared.snapshot.Row.{Row}
use Rattle.snapshot_model.specs.Rules.{frames_seen}
use Rattle.snap_stats.specs.declared.sums.Sum.{Sum}

-- a sum of at least one size, each of less than 2 ^ 64 bytes
pub record IsSound (s : Sum) : Type 0 where
  pub some : 1 ≤ s.count
  pub small : s.size ≤ s.count * 2 ^ 64

-- a sum so small that what it differs from another by has a number
pub record IsSmall (s : Sum) : Type 0 where
  pub size : s.size < 2 ^ 127
  pub count : s.count < 2 ^ 63

module _ {K : Type 0} where
  -- all sizes, each as often as its key weighs
  abbrev pub sizes : (K → ℕ) → List (K × Sum) → ℕ
  sizes weight parts = tally (λ p. weight p.0 * p.1.size) parts

  -- all counts, each as often as its key weighs
  abbrev pub counts : (K → ℕ) → List (K × Sum) → ℕ
  counts weight parts = tally (λ p. weight p.0 * p.1.count) parts

  -- the weight with which each key counts once
  abbrev pub once : K → ℕ
  once key = 1

  abbrev pub AreSound : List (K × Sum) → Type 0
  AreSound sums = AllByRecursion (λ s. IsSound s.1) sums

  -- keys that are equal weigh the same
  abbrev pub Respects : (K → K → Bool) → (K → ℕ) → Type 0
  Respects eq weight = (a b : K) → eq a b ≡ true → weight a ≡ weight b

  -- the sums are those of the parts: they come to the same whatever keys weigh
  pub record AddsUp (eq : K → K → Bool) (parts sums : List (K × Sum)) : Type 0 where
    pub size : (weight : K → ℕ) → Respects eq weight → sizes weight sums ≡ sizes weight parts
    pub count : (weight : K → ℕ) → Respects eq weight → counts weight sums ≡ counts weight parts
    pub sound : AreSound sums

-- ---- rows

abbrev pub same_id : TbId → TbId → Bool
same_id a b = a.0 == b.0

-- the row's size, once for its traceback
abbrev pub part_of : Row → TbId × Sum
part_of row = (row.trace, record { size = row.size; count = 1 })

abbrev pub parts_of : List Row → List (TbId × Sum)
parts_of rows = map part_of rows

-- ---- frames

abbrev pub same_frame : Frame → Frame → Bool
same_frame a b = a.file.0 == b.file.0 && a.line == b.line

-- the frame that is a key: with its line, or with line 0
abbrev pub frame_key : Bool → Frame → Frame
frame_key true f = f
frame_key false f = record f { line = 0 }

-- a sum, once for each of the frames
abbrev pub parts_at : Bool → Sum → List Frame → List (Frame × Sum)
parts_at by_line sum frames = map (λ f. (frame_key by_line f, sum)) frames

-- the sum of each traceback, once for each of its frames that count
abbrev pub frame_parts : Bool → Bool → List (List Frame) → List (TbId × Sum) → List (Frame × Sum)
frame_parts by_line cumulative table [] = []
frame_parts by_line cumulative table (s ∷ sums) =
    parts_at by_line s.1 (frames_seen cumulative (traceback_at table s.0))
    ++ frame_parts by_line cumulative table sums

-- these are the sums of the frames that count for the rows, whose tracebacks are added up first
pub record AreOfFrames (by_line cumulative : Bool) (table : List (List Frame)) (rows : List Row)
    (sums : List (Frame × Sum)) : Type 0 where
  pub tracebacks : List (TbId × Sum)
  pub added : AddsUp same_id (parts_of rows) tracebacks
  pub spread : AddsUp same_frame (frame_parts by_line cumulative table tracebacks) sums

-- ---- groups

-- the group of a sum, where keys have these frames
abbrev pub group_by : {K : Type 0} → (K → List Frame) → K × Sum → Group
group_by frames s = record { key = frames s.0; size = s.1.size; count = s.1.count }
