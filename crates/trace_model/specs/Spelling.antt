-- The one spelling of a trace, and the traces that have one.
use Rattle.std.specs.Prelude.{ℕ, ◌<◌, ◌≤◌, if◌then◌else◌, List, [], ◌∷◌, ◌++◌, length, map, slice_get, sum_by}
use Rattle.std.specs.Prelude.{unwrap_or, codes, decimal, IsTrue}
use Rattle.std.specs.List.{AllByRecursion, flat_map, join_with_byte}
use Rattle.std.specs.Option.{option_to_list}
use Rattle.mem_base.specs.Name.{Name}
use Rattle.mem_base.specs.Texts.{IsDistinct}
use Rattle.mem_base.specs.declared.limits.TheConstants.{MAX_OPS, MAX_PICKS, MAX_REPORTS, MAX_SNAPSHOTS, MAX_TRACKS}
use Rattle.trace_model.specs.Operands.{is_name}
use Rattle.trace_model.specs.Plain.{Action, PlainTrack, PlainTrace, keyword_text, keyword_of, operands_of, is_report}
use Rattle.trace_model.specs.Plain.{Fits, KeepFrames, has_few_rules, written_by}
use Rattle.trace_model.specs.Table.{firsts}
use Rattle.trace_model.specs.declared.keyword.Head.{Head}
use Rattle.trace_model.specs.declared.keyword.Head.TheVariants as heads

-- what parts the words of a line
abbrev pub blank : ℕ
blank = 32

-- what ends a line
abbrev pub line_end : ℕ
line_end = 10

-- ---- lines

-- the first word of a line
abbrev pub head_text : Head → List ℕ
head_text heads.Track = codes "track"
head_text heads.Pick = codes "pick"
head_text (heads.Op k) = keyword_text k

-- the line of an operation, without its end
abbrev pub line_of : Action → List ℕ
line_of a = join_with_byte blank (keyword_text (keyword_of a) ∷ operands_of a)

-- the line that begins a track, without its end
abbrev pub track_line : Name → List ℕ
track_line name = join_with_byte blank (head_text heads.Track ∷ name ∷ [])

-- the line that picks the track of a name so many times, without its end
abbrev pub pick_line : Name → ℕ → List ℕ
pick_line name times = join_with_byte blank (head_text heads.Pick ∷ name ∷ decimal times ∷ [])

-- a line and its end
abbrev pub with_end : List ℕ → List ℕ
with_end line = line ++ line_end ∷ []

abbrev pub action_lines : List Action → List ℕ
action_lines actions = flat_map (λ a. with_end (line_of a)) actions

abbrev pub track_lines : List PlainTrack → List ℕ
track_lines tracks = flat_map (λ t. with_end (track_line t.name) ++ action_lines t.actions) tracks

-- the names of tracks
abbrev pub names_of : List PlainTrack → List Name
names_of tracks = map (λ t. t.name) tracks

-- the name of the track at an index
abbrev pub name_at_index : List PlainTrack → ℕ → Name
name_at_index tracks i = unwrap_or (slice_get (names_of tracks) i) []

abbrev pub pick_lines : List PlainTrack → List (ℕ × ℕ) → List ℕ
pick_lines tracks picks = flat_map (λ p. with_end (pick_line (name_at_index tracks p.0) p.1)) picks

-- the first line, without its end
abbrev pub header : List ℕ
header = codes "pymtrace 1"

-- what stands behind the header: each track's line with those of its operations, and then the picks
abbrev pub body : PlainTrace → List ℕ
body t = track_lines t.tracks ++ pick_lines t.tracks t.picks

abbrev pub spelling : PlainTrace → List ℕ
spelling t = with_end header ++ body t

-- ---- what has a spelling

pub record FitsTrack (t : PlainTrack) : Type 0 where
  pub name : IsTrue (is_name t.name)
  pub actions : AllByRecursion Fits t.actions
  pub frames : KeepFrames 0 t.actions
  pub rules : AllByRecursion (λ a. IsTrue (has_few_rules a)) t.actions

-- how many operations there are over all tracks
abbrev pub action_count : List PlainTrack → ℕ
action_count tracks = sum_by (λ t. length t.actions) tracks

-- how many of a track's operations print more than a reply
abbrev pub reports_in : List Action → ℕ
reports_in actions = sum_by (λ a. if is_report a then 1 else 0) actions

-- the same over all tracks
abbrev pub report_count : List PlainTrack → ℕ
report_count tracks = sum_by (λ t. reports_in t.actions) tracks

-- the names of the snapshots that operations write, in order
abbrev pub written_in : List Action → List Name
written_in actions = flat_map (λ a. option_to_list (written_by a)) actions

-- the same over all tracks, each name once
abbrev pub snapshot_names : List PlainTrack → List Name
snapshot_names tracks = firsts (flat_map (λ t. written_in t.actions) tracks)

-- how many picks there are, each as often as it says
abbrev pub pick_count : List (ℕ × ℕ) → ℕ
pick_count picks = sum_by (λ p. p.1) picks

-- it picks one of the tracks, once at least
abbrev pub FitsPick : List PlainTrack → ℕ × ℕ → Type 0
FitsPick tracks pick = (pick.0 < length tracks) × (1 ≤ pick.1)

-- there are not too many tracks, operations, snapshots and picks, no two tracks have one name, and each part has a spelling
pub record IsWellFormed (t : PlainTrace) : Type 0 where
  pub tracks : length t.tracks ≤ MAX_TRACKS
  pub distinct : IsDistinct (names_of t.tracks)
  pub few : action_count t.tracks ≤ MAX_OPS
  pub reports : report_count t.tracks ≤ MAX_REPORTS
  pub snapshots : length (snapshot_names t.tracks) ≤ MAX_SNAPSHOTS
  pub fits : AllByRecursion FitsTrack t.tracks
  pub picks : AllByRecursion (FitsPick t.tracks) t.picks
  pub picked : pick_count t.picks ≤ MAX_PICKS
