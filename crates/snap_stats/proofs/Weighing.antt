-- What sums by tracebacks and by frames come to for each key, as the rows' occurrences do.
use Rattle.std.proofs.Common.{◌≡◌, ℕ, zero, suc, ◌+◌, ◌-◌, ◌*◌, Bool, true, false, cond, List, [], ◌∷◌, map, length, drop}
use Rattle.std.proofs.Common.{refl, sym, ap, ◌∙◌, arith}
use Rattle.std.specs.Ordering.{eq_by_cmp}
use Rattle.std.proofs.Math.Nat.{add-mul}
use Rattle.std.proofs.lemmas.List.{length-map}
use Rattle.extents.specs.Sums.{tally}
use Rattle.extents.proofs.CallerLemmas.{tally-append}
use Rattle.mem_base.specs.Name.{Name}
use Rattle.mem_base.specs.declared.reply.Frame.{Frame}
use Rattle.mem_base.specs.declared.trace.KeyKind.{KeyKind}
use Rattle.mem_base.specs.declared.trace.KeyKind.TheVariants.{Traceback}
use Rattle.frame_model.specs.Frames.{frame_of, frames_of}
use Rattle.frame_stack.specs.Tracebacks.{traceback_at}
use Rattle.frame_stack.specs.declared.tracebacks.TbId.{TbId}
use Rattle.snapshot_model.specs.Rules.{frames_seen}
use Rattle.snapshot_model.specs.Occurrences.{Key, Occurrence, file_key, line_key, keys_of, row_occurrences, occurrences}
use Rattle.snapshot_model.specs.Stats.{key_cmp, once_at, size_at}
use Rattle.trace_table.specs.Plain.{plain_row, plain_rows}
use Rattle.trace_table.specs.declared.snapshot.Row.{Row}
use Rattle.snap_stats.specs.declared.sums.Sum.{Sum}
use Rattle.snap_stats.specs.Sums.{frame_key, frame_parts, parts_at, parts_of, sizes, counts}
use Rattle.snap_stats.specs.Answers.{kind_of}

-- 1 where the keys are the same, else 0
abbrev pub same : Key → Key → ℕ
same k key = cond (eq_by_cmp key_cmp k key) 1 0

-- how often the key is among these
abbrev pub times : Key → List Key → ℕ
times k keys = tally (same k) keys

if_times : (b : Bool) (n : ℕ) → cond b n 0 ≡ cond b 1 0 * n
if_times true n = omega arith
if_times false n = omega arith

-- ---- one row

row_sizes : (k : Key) (size : ℕ) (keys : List Key)
    → tally (size_at k) (map (λ key. let o : Occurrence = record { key = key; size = size } in o) keys) ≡ times k keys * size
row_sizes k size [] = omega arith
row_sizes k size (key ∷ keys) =
    let rest = row_sizes k size keys in
    let this = if_times (eq_by_cmp key_cmp k key) size in
    omega (arith, rest, this, add-mul (same k key) (times k keys) size)

row_counts : (k : Key) (size : ℕ) (keys : List Key)
    → tally (once_at k) (map (λ key. let o : Occurrence = record { key = key; size = size } in o) keys) ≡ times k keys * 1
row_counts k size [] = omega arith
row_counts k size (key ∷ keys) =
    let rest = row_counts k size keys in
    omega (arith, rest, add-mul (same k key) (times k keys) 1)

module _ (texts : List Name) (table : List (List Frame)) where
  -- how often a traceback counts for the key
  abbrev pub weight_of : KeyKind → Bool → Key → TbId → ℕ
  weight_of kind cumulative k id = times k (keys_of kind cumulative (frames_of texts (traceback_at table id)))

  pub occur_sizes : (kind : KeyKind) (cumulative : Bool) (k : Key) (rows : List Row)
      → tally (size_at k) (occurrences kind cumulative (plain_rows texts table rows)) ≡ sizes (weight_of kind cumulative k) (parts_of rows)
  occur_sizes kind cumulative k [] = refl
  occur_sizes kind cumulative k (r ∷ rs) =
      let this = row_sizes k r.size (keys_of kind cumulative (frames_of texts (traceback_at table r.trace))) in
      let rest = occur_sizes kind cumulative k rs in
      tally-append (size_at k) (row_occurrences kind cumulative (plain_row texts table r)) (occurrences kind cumulative (plain_rows texts table rs))
      ∙ (λ i. this i + rest i)

  pub occur_counts : (kind : KeyKind) (cumulative : Bool) (k : Key) (rows : List Row)
      → tally (once_at k) (occurrences kind cumulative (plain_rows texts table rows)) ≡ counts (weight_of kind cumulative k) (parts_of rows)
  occur_counts kind cumulative k [] = refl
  occur_counts kind cumulative k (r ∷ rs) =
      let this = row_counts k r.size (keys_of kind cumulative (frames_of texts (traceback_at table r.trace))) in
      let rest = occur_counts kind cumulative k rs in
      tally-append (once_at k) (row_occurrences kind cumulative (plain_row texts table r)) (occurrences kind cumulative (plain_rows texts table rs))
      ∙ (λ i. this i + rest i)

  -- ---- whole tracebacks

  -- whether the frames are the key
  abbrev pub is_key : Key → List Frame → ℕ
  is_key k frames = same k (frames_of texts frames)

  pub wholes_weigh : (f : Sum → ℕ) (cumulative : Bool) (k : Key) (sums : List (TbId × Sum))
      → tally (λ s. is_key k (traceback_at table s.0) * f s.1) sums ≡ tally (λ s. weight_of Traceback cumulative k s.0 * f s.1) sums
  wholes_weigh f cumulative k [] = refl
  wholes_weigh f cumulative k (s ∷ sums) =
      let rest = wholes_weigh f cumulative k sums in
      let this : is_key k (traceback_at table s.0) ≡ is_key k (traceback_at table s.0) + 0 = omega arith in
      λ i. this i * f s.1 + rest i

  -- ---- frames

  drop_plain : (n : ℕ) (fs : List Frame) → frames_of texts (drop n fs) ≡ drop n (frames_of texts fs)
  drop_plain zero fs = refl
  drop_plain (suc n) [] = refl
  drop_plain (suc n) (f ∷ fs) = drop_plain n fs

  seen_plain : (cumulative : Bool) (fs : List Frame) → frames_of texts (frames_seen cumulative fs) ≡ frames_seen cumulative (frames_of texts fs)
  seen_plain true fs = refl
  seen_plain false fs =
      drop_plain (length fs - 1) fs
      ∙ ap (λ (n : ℕ). drop (n - 1) (frames_of texts fs)) (sym (length-map fs (frame_of texts)))

  -- the key of a frame
  abbrev pub key_of : Bool → Frame → Key
  key_of by_line f = frames_of texts (frame_key by_line f ∷ [])

  lines_plain : (fs : List Frame) → map line_key (frames_of texts fs) ≡ map (key_of true) fs
  lines_plain [] = refl
  lines_plain (f ∷ fs) = ap (λ (l : List Key). key_of true f ∷ l) (lines_plain fs)

  files_plain : (fs : List Frame) → map file_key (frames_of texts fs) ≡ map (key_of false) fs
  files_plain [] = refl
  files_plain (f ∷ fs) = ap (λ (l : List Key). key_of false f ∷ l) (files_plain fs)

  keys_plain : (by_line cumulative : Bool) (fs : List Frame)
      → keys_of (kind_of by_line) cumulative (frames_of texts fs) ≡ map (key_of by_line) (frames_seen cumulative fs)
  keys_plain true cumulative fs = ap (map line_key) (sym (seen_plain cumulative fs)) ∙ lines_plain (frames_seen cumulative fs)
  keys_plain false cumulative fs = ap (map file_key) (sym (seen_plain cumulative fs)) ∙ files_plain (frames_seen cumulative fs)

  one_weighs : (f : Sum → ℕ) (by_line : Bool) (k : Key) (s : Sum) (fs : List Frame)
      → tally (λ p. is_key k (p.0 ∷ []) * f p.1) (parts_at by_line s fs) ≡ times k (map (key_of by_line) fs) * f s
  one_weighs f by_line k s [] = omega arith
  one_weighs f by_line k s (x ∷ fs) =
      let rest = one_weighs f by_line k s fs in
      omega (arith, rest, add-mul (same k (key_of by_line x)) (times k (map (key_of by_line) fs)) (f s))

  pub frames_weigh : (f : Sum → ℕ) (by_line cumulative : Bool) (k : Key) (sums : List (TbId × Sum))
      → tally (λ p. is_key k (p.0 ∷ []) * f p.1) (frame_parts by_line cumulative table sums)
      ≡ tally (λ s. weight_of (kind_of by_line) cumulative k s.0 * f s.1) sums
  frames_weigh f by_line cumulative k [] = refl
  frames_weigh f by_line cumulative k (s ∷ sums) =
      let fs = traceback_at table s.0 in
      let rest = frames_weigh f by_line cumulative k sums in
      let keys : times k (map (key_of by_line) (frames_seen cumulative fs)) ≡ weight_of (kind_of by_line) cumulative k s.0
      = ap (times k) (sym (keys_plain by_line cumulative fs)) in
      let this = one_weighs f by_line k s.1 (frames_seen cumulative fs) ∙ ap (λ (n : ℕ). n * f s.1) keys in
      tally-append (λ p. is_key k (p.0 ∷ []) * f p.1) (parts_at by_line s.1 (frames_seen cumulative fs)) (frame_parts by_line cumulative table sums)
      ∙ (λ i. this i + rest i)
