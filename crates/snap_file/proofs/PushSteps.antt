-- One more frame in the buffer, and one more trace.
use Rattle.std.proofs.Common.{◌≡◌, suc, ◌-◌, ◌<◌, ◌≤◌, ◌^◌, List, [], ◌∷◌, ◌++◌, length, slice_get, Option, Some}
use Rattle.std.proofs.Common.{sym, ap, subst, ◌∙◌, arith, length-append}
use Rattle.std.specs.Prelude.{unwrap_or}
use Rattle.std.specs.Ordering.{is_lt}
use Rattle.std.proofs.lemmas.List.{map-append}
use Rattle.std.proofs.lemmas.Option.{slice_get_within}
use Rattle.mem_base.specs.Name.{Name}
use Rattle.mem_base.specs.declared.limits.TheConstants.{MAX_DUMP_ROWS}
use Rattle.mem_base.specs.declared.reply.Frame.{Frame}
use Rattle.mem_base.specs.declared.texts.TextId.{TextId}
use Rattle.frame_model.specs.Frames.{frame_of, frames_of}
use Rattle.tracing_model.specs.Traces.{Key as PlainKey}
use Rattle.snapshot_model.specs.Snapshots.{trace_cmp}
use Rattle.trace_model.proofs.CallerLemmas.{all_push}
use Rattle.dump_model.specs.Reading.{is_after}
use Rattle.frame_stack.specs.Callers.{AreAmong}
use Rattle.frame_stack.specs.Tracebacks.{IsInterned, IsShort, traceback_at}
use Rattle.frame_stack.specs.declared.tracebacks.TbId.{TbId}
use Rattle.trace_table.specs.Plain.{IsKnownKey, key_of, plain_row, plain_rows}
use Rattle.trace_table.specs.declared.key.TraceKey.{TraceKey}
use Rattle.trace_table.specs.declared.snapshot.Row.{Row}
use Rattle.snap_file.specs.Plain.{AreKnownFrames, AreKnownRows, Extends, IsKnownSoFar, plain_frame, plain_key, plain_text}
use Rattle.snap_file.specs.Plain.{plain_loaded, rows_of}
use Rattle.snap_file.specs.declared.operands.FrameText.{FrameText}
use Rattle.snap_file.specs.declared.progress.Progress.{Progress}
use Rattle.snap_file.specs.declared.rows.RowText.{RowText}
use Rattle.snap_file.proofs.Growth.{all_more, among_still, frames_stay, interned, interned_all, length_extends, rows_known}
use Rattle.snap_file.proofs.Growth.{rows_stay, snapshots_known, snapshots_stay}

-- ---- one more frame

module _ (texts news : List Name) (grows : Extends 1 texts news) (fs : List Frame) (among : AreAmong (length texts) fs)
    (f : FrameText) (id : TextId) (at : slice_get news id.0 ≡ Some f.file.now)
    (now : List Frame) (pushed : now ≡ fs ++ record { file = id; line = f.line } ∷ []) where
  pub frame_pushed : frames_of news now ≡ frames_of texts fs ++ plain_frame f ∷ []
  frame_pushed =
      let name = ap (λ (o : Option Name). unwrap_or o []) at in
      ap (frames_of news) pushed ∙ map-append (frame_of news) fs (record { file = id; line = f.line } ∷ [])
      ∙ (λ i. frames_stay 1 texts news grows fs among i ++ record { file = name i; line = f.line } ∷ [])

  pub frame_among : AreAmong (length news) now
  frame_among =
      subst (AreAmong (length news)) (sym pushed)
      (all_push (λ (g : Frame). g.file.0 < length news) fs (record { file = id; line = f.line })
      (among_still 1 texts news grows fs among) (slice_get_within news id.0 f.file.now at))

-- ---- the last trace

pub after_last : (texts : List Name) (table : List (List Frame)) (key : PlainKey) (rows : List Row) (row : Row)
    → slice_get rows (length rows - 1) ≡ Some row
    → is_after (plain_rows texts table rows) key ≡ is_lt (trace_cmp (key_of texts row.key) key)
after_last texts table key [] row is = absurd cc
after_last texts table key (r ∷ []) row is =
    let same : r ≡ row = cc in
    ap (λ (r : Row). is_lt (trace_cmp (key_of texts r.key) key)) same
after_last texts table key (r ∷ s ∷ rows) row is =
    let e : length (r ∷ s ∷ rows) - 1 ≡ suc (length (s ∷ rows) - 1) = omega arith in
    after_last texts table key (s ∷ rows) row (ap (slice_get (r ∷ s ∷ rows)) (sym e) ∙ is)

-- ---- one more trace

module _ (p : Progress) (row : RowText) (known : IsKnownSoFar p) (among : AreAmong (length p.loaded.texts) p.frames.items)
    (short : length p.frames.items ≤ 2 ^ 16) (few : length p.rows < MAX_DUMP_ROWS)
    (news : List Name) (grows : Extends 1 p.loaded.texts news)
    (key : TraceKey) (key_is : key_of news key ≡ plain_key row.key) (key_known : IsKnownKey (length news) key)
    (later : List (List Frame)) (kept : IsInterned p.frames.items p.loaded.table later)
    (id : TbId) (at : slice_get later id.0 ≡ Some p.frames.items)
    (rows : List Row) (pushed : rows ≡ p.rows ++ record { key = key; size = row.size; trace = id; total = row.total } ∷ []) where
  abbrev new_row : Row
  new_row = record { key = key; size = row.size; trace = id; total = row.total }

  abbrev after : Progress
  after = record {
    loaded = record { texts = news; table = later; snapshots = p.loaded.snapshots };
    left = p.left;
    at = p.at;
    rows = rows;
    frames = p.frames;
  }

  lasts : Extends 1 p.loaded.table later
  lasts = interned p.frames.items p.loaded.table later kept

  before_known : AreKnownRows (length news) (length later) p.rows
  before_known = rows_known 1 1 p.loaded.texts news p.loaded.table later grows lasts p.rows known.rows

  rows_then : AreKnownRows (length news) (length later) rows
  rows_then = subst (AreKnownRows (length news) (length later)) (sym pushed) (record {
    named = all_push (λ (r : Row). IsKnownKey (length news) r.key) p.rows new_row before_known.named key_known;
    traced = all_push (λ (r : Row). r.trace.0 < length later) p.rows new_row before_known.traced (slice_get_within later id.0 p.frames.items at);
    few = omega (arith, few, length-append p.rows (new_row ∷ []));
  })

  more_files : length p.loaded.texts ≤ length news
  more_files = (length_extends 1 p.loaded.texts news grows).0

  frames_then : AreKnownFrames (length news) later
  frames_then = record {
    among = interned_all (AreAmong (length news)) p.frames.items p.loaded.table later kept
        (among_still 1 p.loaded.texts news grows p.frames.items among)
        (all_more (AreAmong (length p.loaded.texts)) (AreAmong (length news)) p.loaded.table
        (λ fs its. among_still 1 p.loaded.texts news grows fs its) known.frames.among);
    short = interned_all IsShort p.frames.items p.loaded.table later kept short known.frames.short;
  }

  pub push_known : IsKnownSoFar after
  push_known = record {
    snapshots = snapshots_known 1 1 p.loaded.texts news p.loaded.table later grows lasts p.loaded.snapshots known.snapshots;
    rows = rows_then;
    frames = frames_then;
  }

  pub push_done : plain_loaded after.loaded ≡ plain_loaded p.loaded
  push_done = snapshots_stay 1 1 p.loaded.texts news p.loaded.table later grows lasts known.frames p.loaded.snapshots known.snapshots

  pub push_rows : rows_of after ≡ rows_of p ++ plain_text (frames_of p.loaded.texts p.frames.items) row ∷ []
  push_rows =
      let found : traceback_at later id ≡ p.frames.items = ap (λ (o : Option (List Frame)). unwrap_or o []) at in
      let frames = ap (frames_of news) found ∙ frames_stay 1 p.loaded.texts news grows p.frames.items among in
      ap (plain_rows news later) pushed ∙ map-append (plain_row news later) p.rows (new_row ∷ [])
      ∙ (λ i.
      rows_stay 1 1 p.loaded.texts news p.loaded.table later grows lasts known.frames p.rows known.rows i
      ++ record { key = key_is i; size = row.size; frames = frames i; total = row.total } ∷ [])
