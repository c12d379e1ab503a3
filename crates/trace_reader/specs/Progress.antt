-- What a reader has read so far.
use Rattle.std.specs.Prelude.{◌≡◌, ◌+◌, ◌*◌, ◌≤◌, Bool, not, ◌&&◌, ◌||◌, List, [], ◌∷◌, ◌++◌, length, map}
use Rattle.std.specs.Prelude.{nat_le, nat_lt, Result, Ok, Err, if◌then◌else◌}
use Rattle.std.specs.List.{AllByRecursion}
use Rattle.std.specs.Option.{option_to_list}
use Rattle.mem_base.specs.declared.limits.TheConstants.{MAX_FRAMES, MAX_OPS, MAX_PICKS, MAX_REPORTS}
use Rattle.mem_base.specs.declared.limits.TheConstants.{MAX_SNAPSHOTS, MAX_TRACKS}
use Rattle.mem_base.specs.declared.texts.TextId.{TextId}
use Rattle.mem_base.specs.declared.trace.Op.{Op}
use Rattle.mem_base.specs.declared.trace.Track.{Track}
use Rattle.mem_base.specs.Name.{Name}
use Rattle.mem_base.specs.Texts.{text_at}
use Rattle.trace_model.specs.Plain.{Action, PlainTrace, plain, action_of, is_report, says, written_by}
use Rattle.trace_model.specs.Plain.{depth_after, has_few_rules, has_frame, keeps_few}
use Rattle.trace_model.specs.Spelling.{action_count, report_count, pick_count, snapshot_names}
use Rattle.trace_model.specs.Known.{IsKnown, IsKnownOp}
use Rattle.trace_model.specs.Reading.{open_frames}
use Rattle.trace_model.specs.Table.{table_of, with_texts}
use Rattle.trace_model.specs.declared.cause.TraceCause.{TraceCause}
use Rattle.trace_model.specs.declared.cause.TraceCause.TheVariants.{NoFrame, TooMany}
use Rattle.trace_reader.specs.declared.counts.Counts.{Counts}
use Rattle.trace_reader.specs.declared.progress.Progress.{Progress}

-- a table with at most as many more texts at its end as a line may name
pub record Extends (old new : List Name) : Type 0 where
  pub more : List Name
  pub few : length more ≤ 2
  pub grown : new ≡ old ++ more

-- the table got the texts that an operation says, each where it was not there
abbrev pub AddsTexts : List Name → List Name → Op → Type 0
AddsTexts old new op = new ≡ with_texts old (says (action_of new op))

-- its name and those of its operations are in the table
pub record IsKnownTrack (texts : List Name) (t : Track) : Type 0 where
  pub name : IsKnown texts t.name
  pub ops : AllByRecursion (IsKnownOp texts) t.ops

-- the texts with these numbers
abbrev pub texts_at : List Name → List TextId → List Name
texts_at texts ids = map (text_at texts) ids

-- the counts are those of the trace, with its names in that table
pub record AreCounted (texts : List Name) (c : Counts) (t : PlainTrace) : Type 0 where
  pub ops : c.ops ≡ action_count t.tracks
  pub reports : c.reports ≡ report_count t.tracks
  pub picks : c.picks ≡ pick_count t.picks
  pub frames : c.frames ≡ open_frames t.tracks
  pub snapshots : texts_at texts c.snapshots ≡ snapshot_names t.tracks

-- the table has the names of the lines so far, each line has added two texts at most, and the limits are kept
pub record IsKnownSoFar (p : Progress) : Type 0 where
  pub tracks : AllByRecursion (IsKnownTrack p.trace.texts) p.trace.tracks
  pub snapshots : AllByRecursion (IsKnown p.trace.texts) p.counts.snapshots
  pub few : length p.trace.tracks ≤ MAX_TRACKS
  pub table : p.trace.texts ≡ table_of (plain p.trace).tracks
  pub texts : length p.trace.texts ≤ 1 + 2 * length p.trace.tracks + 2 * p.counts.ops
  pub counts : AreCounted p.trace.texts p.counts (plain p.trace)
  pub few_ops : p.counts.ops ≤ MAX_OPS
  pub few_picks : p.counts.picks ≤ MAX_PICKS
  pub few_frames : p.counts.frames ≤ MAX_FRAMES
  pub few_snapshots : length p.counts.snapshots ≤ MAX_SNAPSHOTS

-- ---- one more operation

-- what an operation is but for the texts that it says, at which no count but that of snapshots looks
abbrev pub bare : Op → Action
bare op = action_of [] op

-- the names of snapshots with the one that an operation writes, where it writes one that is new
abbrev pub snapshots_after : List Name → List TextId → Op → List Name
snapshots_after texts ids op =
    with_texts (texts_at texts ids) (option_to_list (written_by (action_of texts op)))

-- there is room for one more operation, for one more report where it is one, for the name of its snapshot, for
-- its rules, and for its frame
abbrev pub has_place : List Name → Counts → Op → Bool
has_place texts c op =
    (nat_lt c.ops MAX_OPS && (not (is_report (bare op)) || nat_lt c.reports MAX_REPORTS)
    && nat_le (length (snapshots_after texts c.snapshots op)) MAX_SNAPSHOTS && has_few_rules (bare op))
    && keeps_few c.frames (bare op)

-- whether one more operation may come, and else the first cause why not
abbrev pub place_for : List Name → Counts → Op → Result (Unit {0}) TraceCause
place_for texts c op =
    if not (has_frame c.frames (bare op)) then Err NoFrame
    else if has_place texts c op then Ok tt
    else Err TooMany

-- the counts with it
pub record CountsWith (texts : List Name) (old : Counts) (op : Op) (new : Counts) : Type 0 where
  pub ops : new.ops ≡ old.ops + 1
  pub reports : new.reports ≡ (if is_report (bare op) then old.reports + 1 else old.reports)
  pub picks : new.picks ≡ old.picks
  pub frames : new.frames ≡ depth_after old.frames (bare op)
  pub snapshots : texts_at texts new.snapshots ≡ snapshots_after texts old.snapshots op
  pub known : AllByRecursion (IsKnown texts) new.snapshots

-- the tracks with one more operation of the last
abbrev pub with_op : List Track → Op → List Track
with_op [] op = []
with_op (t ∷ []) op = record { name = t.name; ops = t.ops ++ op ∷ [] } ∷ []
with_op (t ∷ u ∷ ts) op = t ∷ with_op (u ∷ ts) op
