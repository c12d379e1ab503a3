-- What two snapshots' tables of sums make: their changes, which have numbers and whose files have names.
use Rattle.std.proofs.Common.{◌≡◌, ◌*◌, ◌<◌, ◌^◌, Bool, List, [], ◌∷◌, map, length, Option, Some, None}
use Rattle.std.proofs.Common.{refl, sym, subst, inl, inr, arith}
use Rattle.std.specs.Prelude.{All, unwrap_or, filter, is_none}
use Rattle.std.specs.List.{IsDistinct as KeysDistinct}
use Rattle.std.specs.Map.{keys_of, lookup}
use Rattle.std.proofs.lemmas.List.Elements.{All-from_recursion}
use Rattle.extents.specs.Sums.{Has}
use Rattle.extents.proofs.CallerLemmas.{tally_has, has_either}
use Rattle.mem_base.specs.Name.{Name}
use Rattle.mem_base.specs.Texts.{IsDistinct as TextsDistinct}
use Rattle.mem_base.specs.declared.reply.Diff.{Diff}
use Rattle.mem_base.specs.declared.reply.Frame.{Frame}
use Rattle.mem_base.specs.declared.trace.KeyKind.{KeyKind}
use Rattle.mem_base.specs.declared.trace.KeyKind.TheVariants.{Traceback}
use Rattle.frame_stack.specs.Callers.{AreAmong}
use Rattle.frame_stack.specs.Tracebacks.{traceback_at, IsTable}
use Rattle.frame_stack.specs.declared.tracebacks.TbId.{TbId}
use Rattle.snapshot_model.specs.Compared.{plain_change}
use Rattle.snapshot_model.specs.Occurrences.{occurrences}
use Rattle.snapshot_model.proofs.CallerLemmas.{from_map}
use Rattle.trace_table.specs.Plain.{plain_rows, IsHeld}
use Rattle.trace_table.specs.declared.snapshot.Row.{Row}
use Rattle.snap_stats.specs.Answers.{kind_of}
use Rattle.snap_stats.specs.Pairs.{diff_by, gone, nothing, pair_at, pairs_of, sum_at, vanished, IsSmallPair}
use Rattle.snap_stats.specs.Sums.{counts, group_by, once, parts_of, same_frame, same_id, AddsUp, AreOfFrames, AreSound, IsSmall, IsSound}
use Rattle.snap_stats.specs.declared.pairs.Pair.{Pair}
use Rattle.snap_stats.specs.declared.sums.Sum.{Sum}
use Rattle.snap_stats.proofs.Adding.{counts_added}
use Rattle.snap_stats.proofs.Answering.{frames_mean, ids_mean, in_table, in_texts, is_known, parts_fit, rows_many, singles_come}
use Rattle.snap_stats.proofs.Answering.{singles_tell, wholes_come, wholes_tell}
use Rattle.snap_stats.proofs.Changing.{changes_are, filtered, found, AreChanges}
use Rattle.snap_stats.proofs.Firsts.{all_of, one_of}

-- ---- pairs

module _ {K : Type 0} (eq : K → K → Bool) (new old : List (K × Sum)) where
  -- what holds of each key of either holds of each pair
  each_pair : (Q : Pair K → Type 0) → ((s : K × Sum) → Has s new → Q (pair_at eq old s)) → ((s : K × Sum) → Has s old → Q (gone eq s))
      → (p : Pair K) → Has p (pairs_of eq new old) → Q p
  each_pair Q of_new of_old p h = elim (has_either p (map (pair_at eq old) new) (vanished eq new old) h) [
    | inl k ↦ let s = from_map (pair_at eq old) p new k in subst Q (sym s.2) (of_new s.0 s.1)
    | inr k ↦
        let here : K × Sum → Bool = λ (s : K × Sum). is_none (lookup (eq s.0) new) in
        let s = from_map (gone eq) p (filter here old) k in
        subst Q (sym s.2) (of_old s.0 (filtered here s.0 old s.1).0)
  ]

  small_sum : (sums : List (K × Sum)) → AreSound sums → counts once sums < 2 ^ 63 → (s : K × Sum) → Has s sums → IsSmall s.1
  small_sum sums sound few s h =
      let is = one_of (λ (x : K × Sum). IsSound x.1) sums s sound h in
      let le = tally_has (λ (x : K × Sum). once x.0 * x.1.count) s sums h in
      record { size = omega (arith, is.small, le, few); count = omega (arith, le, few) }

  nothing_small : IsSmall nothing
  nothing_small = record { size = omega arith; count = omega arith }

  small_at : AreSound old → counts once old < 2 ^ 63 → (k : K) → IsSmall (sum_at eq old k)
  small_at sound few k = by (lookup (eq k) old) refl
    where
      by : (o : Option Sum) → lookup (eq k) old ≡ o → IsSmall (unwrap_or o nothing)
      by None e = nothing_small
      by (Some v) e = let r = found (eq k) old v e in subst IsSmall r.3 (small_sum old sound few r.0 r.1)

  -- pairs of few sizes are small
  pairs_small : AreSound new → counts once new < 2 ^ 63 → AreSound old → counts once old < 2 ^ 63
      → All IsSmallPair (pairs_of eq new old)
  pairs_small sound few sound_old few_old =
      All-from_recursion IsSmallPair (pairs_of eq new old) (all_of IsSmallPair (pairs_of eq new old) (each_pair IsSmallPair
      (λ s h. record { new = small_sum new sound few s h; old = small_at sound_old few_old s.0 })
      (λ s h. record { new = nothing_small; old = small_sum old sound_old few_old s h })))

module _ (texts : List Name) (table : List (List Frame)) (td : TextsDistinct texts) (cumulative : Bool) (new_rows old_rows : List Row)
    (new_held : IsHeld texts table new_rows) (old_held : IsHeld texts table old_rows) where
  -- ---- single frames

  module _ (by_line : Bool) (new old : List (Frame × Sum)) (new_of : AreOfFrames by_line cumulative table new_rows new) (old_of : AreOfFrames by_line cumulative table old_rows old) where
    abbrev alone : Frame → List Frame
    alone f = f ∷ []

    frames_few : (rows : List Row) (sums : List (Frame × Sum)) → IsHeld texts table rows → AreOfFrames by_line cumulative table rows sums → counts once sums < 2 ^ 63
    frames_few rows sums held of =
        let fit = parts_fit by_line cumulative table rows of.tracebacks held.few held.traced held.short of.added in
        omega (arith, fit, counts_added same_frame _ sums of.spread)

    pub frames_small : All IsSmallPair (pairs_of same_frame new old)
    frames_small = pairs_small same_frame new old new_of.spread.sound (frames_few new_rows new new_held new_of) old_of.spread.sound (frames_few old_rows old old_held old_of)

    new_in : (s : Frame × Sum) → Has s new → s.0.file.0 < length texts
    new_in = in_texts texts table new_rows new_of.tracebacks td new_held new_of.added by_line cumulative new new_of.spread

    old_in : (s : Frame × Sum) → Has s old → s.0.file.0 < length texts
    old_in = in_texts texts table old_rows old_of.tracebacks td old_held old_of.added by_line cumulative old old_of.spread

    pub frames_known : (d : Diff) → Has d (map (diff_by alone) (pairs_of same_frame new old)) → AreAmong (length texts) d.key
    frames_known d h =
        let p = from_map (diff_by alone) d (pairs_of same_frame new old) h in
        subst (λ (x : Diff). AreAmong (length texts) x.key) (sym p.2)
        (each_pair same_frame new old (λ p. AreAmong (length texts) (alone p.key)) (λ s h. (new_in s h, tt)) (λ s h. (old_in s h, tt)) p.0 p.1)

    pub frames_change : KeysDistinct same_frame (keys_of new) → KeysDistinct same_frame (keys_of old) → (kind : KeyKind) (ds : List Diff)
        → kind_of by_line ≡ kind → ds ≡ map (diff_by alone) (pairs_of same_frame new old)
        → AreChanges (occurrences kind cumulative (plain_rows texts table new_rows)) (occurrences kind cumulative (plain_rows texts table old_rows)) (map (plain_change texts) ds)
    frames_change new_distinct old_distinct kind ds k e =
        let now = occurrences kind cumulative (plain_rows texts table new_rows) in
        let before = occurrences kind cumulative (plain_rows texts table old_rows) in
        subst (λ (x : List Diff). AreChanges now before (map (plain_change texts) x)) (sym e)
        (changes_are same_frame alone texts frames_mean now before new old
        (singles_come texts table new_rows new_of.tracebacks td new_held new_of.added by_line cumulative new new_of.spread new_distinct kind (map (group_by alone) new) k refl)
        (singles_come texts table old_rows old_of.tracebacks td old_held old_of.added by_line cumulative old old_of.spread old_distinct kind (map (group_by alone) old) k refl)
        (λ a b h g e. (singles_tell texts td a.0 b.0 (new_in a h) (old_in b g) e, singles_tell texts td b.0 a.0 (old_in b g) (new_in a h) (sym e))))

  -- ---- tracebacks

  module _ (new old : List (TbId × Sum)) (new_adds : AddsUp same_id (parts_of new_rows) new) (old_adds : AddsUp same_id (parts_of old_rows) old) where
    ids_few : (rows : List Row) (sums : List (TbId × Sum)) → IsHeld texts table rows → AddsUp same_id (parts_of rows) sums → counts once sums < 2 ^ 63
    ids_few rows sums held adds = omega (arith, counts_added same_id (parts_of rows) sums adds, rows_many rows, held.few)

    pub ids_small : All IsSmallPair (pairs_of same_id new old)
    ids_small = pairs_small same_id new old new_adds.sound (ids_few new_rows new new_held new_adds) old_adds.sound (ids_few old_rows old old_held old_adds)

    new_known : (s : TbId × Sum) → Has s new → s.0.0 < length table
    new_known = is_known texts table new_rows new td new_held new_adds

    old_known : (s : TbId × Sum) → Has s old → s.0.0 < length table
    old_known = is_known texts table old_rows old td old_held old_adds

    pair_known : (p : Pair TbId) → Has p (pairs_of same_id new old) → p.key.0 < length table
    pair_known = each_pair same_id new old (λ p. p.key.0 < length table) new_known old_known

    pub ids_known : All (λ (p : Pair TbId). p.key.0 < length table) (pairs_of same_id new old)
    ids_known = All-from_recursion (λ (p : Pair TbId). p.key.0 < length table) (pairs_of same_id new old) (all_of (λ (p : Pair TbId). p.key.0 < length table) (pairs_of same_id new old) pair_known)

    pub wholes_among : (d : Diff) → Has d (map (diff_by (traceback_at table)) (pairs_of same_id new old)) → AreAmong (length texts) d.key
    wholes_among d h =
        let p = from_map (diff_by (traceback_at table)) d (pairs_of same_id new old) h in
        subst (λ (x : Diff). AreAmong (length texts) x.key) (sym p.2)
        (in_table (AreAmong (length texts)) table p.0.key (pair_known p.0 p.1) new_held.among)

    pub wholes_change : IsTable table → KeysDistinct same_id (keys_of new) → KeysDistinct same_id (keys_of old) → (kind : KeyKind) (ds : List Diff)
        → kind ≡ Traceback → ds ≡ map (diff_by (traceback_at table)) (pairs_of same_id new old)
        → AreChanges (occurrences kind cumulative (plain_rows texts table new_rows)) (occurrences kind cumulative (plain_rows texts table old_rows)) (map (plain_change texts) ds)
    wholes_change is new_distinct old_distinct kind ds k e =
        let now = occurrences kind cumulative (plain_rows texts table new_rows) in
        let before = occurrences kind cumulative (plain_rows texts table old_rows) in
        subst (λ (x : List Diff). AreChanges now before (map (plain_change texts) x)) (sym e)
        (changes_are same_id (traceback_at table) texts ids_mean now before new old
        (wholes_come texts table new_rows new td new_held new_adds is new_distinct kind cumulative (map (group_by (traceback_at table)) new) k refl)
        (wholes_come texts table old_rows old td old_held old_adds is old_distinct kind cumulative (map (group_by (traceback_at table)) old) k refl)
        (λ a b h g e. (
          wholes_tell texts table td is new_held.among a.0 b.0 (new_known a h) (old_known b g) e,
          wholes_tell texts table td is new_held.among b.0 a.0 (old_known b g) (new_known a h) (sym e),
        )))
