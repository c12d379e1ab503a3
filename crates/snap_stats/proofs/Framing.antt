-- What rows and frames add, one after the other.
use Rattle.std.proofs.Common.{◌≡◌, ℕ, zero, suc, ◌+◌, ◌*◌, ◌<◌, ◌≤◌, Bool, List, [], ◌∷◌, ◌++◌, map, length}
use Rattle.std.proofs.Common.{slice_get, Option, Some, take, get_or, refl, sym, ap, subst, ◌∙◌, arith, add-one, append_assoc}
use Rattle.std.specs.List.{AllByRecursion}
use Rattle.std.specs.Prelude.{unwrap_or}
use Rattle.extents.proofs.CallerLemmas.{tally-append}
use Rattle.mem_base.specs.declared.reply.Frame.{Frame}
use Rattle.frame_stack.specs.Tracebacks.{traceback_at}
use Rattle.frame_stack.specs.declared.tracebacks.TbId.{TbId}
use Rattle.snapshot_model.specs.Rules.{frames_seen}
use Rattle.trace_table.specs.declared.snapshot.Row.{Row}
use Rattle.snap_stats.specs.declared.sums.Sum.{Sum}
use Rattle.snap_stats.specs.Sums.{counts, once, frame_parts, parts_at, parts_of, same_frame, AddsUp, AreSound}
use Rattle.snap_stats.proofs.Adding.{counts_added}

module _ {X Y : Type 0} (f : X → Y) where
  more_suc : (xs : List X) (i : ℕ) (d : X) → i < length xs → map f (take (suc i) xs) ≡ map f (take i xs) ++ f (get_or xs i d) ∷ []
  more_suc [] i d h = absurd (omega arith)
  more_suc (x ∷ xs) zero d h = refl
  more_suc (x ∷ xs) (suc i) d h = ap (λ (l : List Y). f x ∷ l) (more_suc xs i d (omega arith))

  -- one more element
  pub map_more : (xs : List X) (i : ℕ) (d : X) → i < length xs → map f (take (i + 1) xs) ≡ map f (take i xs) ++ f (get_or xs i d) ∷ []
  map_more xs i d h = rw add-one (more_suc xs i d h)

  pub map_whole : (xs : List X) (i : ℕ) → length xs ≤ i → map f (take i xs) ≡ map f xs
  map_whole [] zero h = refl
  map_whole [] (suc i) h = refl
  map_whole (x ∷ xs) zero h = absurd (omega arith)
  map_whole (x ∷ xs) (suc i) h = ap (λ (l : List Y). f x ∷ l) (map_whole xs i (omega arith))

-- each row counts once
pub counts_rows : (rows : List Row) (i : ℕ) → counts once (parts_of (take i rows)) ≤ length rows
counts_rows [] zero = omega arith
counts_rows [] (suc i) = omega arith
counts_rows (r ∷ rs) zero = omega arith
counts_rows (r ∷ rs) (suc i) = let e = counts_rows rs i in omega (arith, e)

-- the first frames count for no more than all
counts_suc : (by_line : Bool) (s : Sum) (frames : List Frame) (i : ℕ) → i < length frames
    → counts once (parts_at by_line s (take i frames)) + s.count ≤ counts once (parts_at by_line s frames)
counts_suc by_line s [] i h = absurd (omega arith)
counts_suc by_line s (f ∷ fs) zero h = omega arith
counts_suc by_line s (f ∷ fs) (suc i) h = let e = counts_suc by_line s fs i (omega arith) in omega (arith, e)

pub counts_fewer : (by_line : Bool) (s : Sum) (before : List (Frame × Sum)) (frames : List Frame) (i : ℕ) → i < length frames
    → counts once (before ++ parts_at by_line s (take i frames)) + s.count ≤ counts once (before ++ parts_at by_line s frames)
counts_fewer by_line s before frames i h =
    let f : Frame × Sum → ℕ = λ (p : Frame × Sum). once p.0 * p.1.count in
    let a = tally-append f before (parts_at by_line s (take i frames)) in
    let b = tally-append f before (parts_at by_line s frames) in
    omega (arith, a, b, counts_suc by_line s frames i h)

pub append_more : {K : Type 0} (before xs ys zs : List K) → zs ≡ xs ++ ys → (before ++ xs) ++ ys ≡ before ++ zs
append_more before xs ys zs e = append_assoc before xs ys ∙ ap (λ l. before ++ l) (sym e)

-- ---- tracebacks, one after the other

-- where these tracebacks are still to come
pub record IsOnTheWay (by_line cumulative : Bool) (table : List (List Frame)) (all rest : List (TbId × Sum)) (sums : List (Frame × Sum)) : Type 0 where
  pub done : List (Frame × Sum)
  pub adds : AddsUp same_frame done sums
  pub split : done ++ frame_parts by_line cumulative table rest ≡ frame_parts by_line cumulative table all
  pub sound : AreSound rest
  pub known : AllByRecursion (λ s. s.0.0 < length table) rest

module _ (by_line cumulative : Bool) (table : List (List Frame)) (all rest later : List (TbId × Sum)) (sums : List (Frame × Sum)) (id : TbId) (sum : Sum) (frames fs : List Frame)
    (way : IsOnTheWay by_line cumulative table all rest sums) (first : rest ≡ (id, sum) ∷ later)
    (at : slice_get table id.0 ≡ Some frames) (seen : fs ≡ frames_seen cumulative frames) where
  its_parts : parts_at by_line sum fs ≡ parts_at by_line sum (frames_seen cumulative (traceback_at table id))
  its_parts =
      let is : frames ≡ traceback_at table id = ap (λ (o : Option (List Frame)). unwrap_or o []) (sym at) in
      ap (parts_at by_line sum) (seen ∙ ap (frames_seen cumulative) is)

  parted : (way.done ++ parts_at by_line sum fs) ++ frame_parts by_line cumulative table later ≡ frame_parts by_line cumulative table all
  parted =
      append_assoc way.done (parts_at by_line sum fs) (frame_parts by_line cumulative table later)
      ∙ ap (λ l. way.done ++ (l ++ frame_parts by_line cumulative table later)) its_parts
      ∙ ap (λ l. way.done ++ frame_parts by_line cumulative table l) (sym first) ∙ way.split

  pub has_room : counts once (sums ++ parts_at by_line sum fs) ≤ counts once (frame_parts by_line cumulative table all)
  has_room =
      let f : Frame × Sum → ℕ = λ (p : Frame × Sum). once p.0 * p.1.count in
      let a = tally-append f sums (parts_at by_line sum fs) in
      let b = tally-append f way.done (parts_at by_line sum fs) in
      let c = tally-append f (way.done ++ parts_at by_line sum fs) (frame_parts by_line cumulative table later) in
      omega (arith, a, b, c, ap (counts once) parted, counts_added same_frame way.done sums way.adds)

  pub goes_on : (new : List (Frame × Sum)) → AddsUp same_frame (way.done ++ parts_at by_line sum fs) new → IsOnTheWay by_line cumulative table all later new
  goes_on new adds = record {
    done = way.done ++ parts_at by_line sum fs;
    adds = adds;
    split = parted;
    sound = (subst AreSound first way.sound).1;
    known = (subst (λ (l : List (TbId × Sum)). AllByRecursion (λ s. s.0.0 < length table) l) first way.known).1;
  }
