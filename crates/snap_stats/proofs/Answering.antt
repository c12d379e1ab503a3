-- The groups of a snapshot's rows come to its occurrences.
use Rattle.std.proofs.Common.{◌≡◌, ℕ, zero, suc, ◌+◌, ◌-◌, ◌*◌, ◌^◌, ◌<◌, ◌≤◌, Bool, true, false, cond, ltb, List, [], ◌∷◌, map, length, slice_get, get_or}
use Rattle.std.proofs.Common.{Some, drop, refl, sym, ap, subst, ◌∙◌, inl, inr, arith, true≢false}
use Rattle.std.specs.Prelude.{All, unwrap_or, ◌&&◌, ◌==◌}
use Rattle.std.specs.List.{AllByRecursion, IsDistinct as KeysDistinct}
use Rattle.std.specs.Ordering.{eq_by_cmp}
use Rattle.std.specs.Map.{keys_of}
use Rattle.std.proofs.lemmas.List.Elements.{All-head, All-tail}
use Rattle.std.proofs.lemmas.Option.{slice_get-get_or, unwrap_or-slice_get}
use Rattle.std.proofs.lemmas.Bool.Decides.{Decides-eqb}
use borrow.Author.Tests.{ltb-true, lt-ltb}
use Rattle.extents.specs.Sums.{tally, Has}
use Rattle.extents.proofs.CallerLemmas.{tally_has, tally_zero, tally-append, tally-map, has_either}
use Rattle.mem_base.specs.Name.{Name}
use Rattle.mem_base.specs.Texts.{text_at, IsDistinct as TextsDistinct}
use Rattle.mem_base.specs.declared.reply.Frame.{Frame}
use Rattle.mem_base.specs.declared.reply.Group.{Group}
use Rattle.mem_base.specs.declared.trace.KeyKind.{KeyKind}
use Rattle.mem_base.specs.declared.trace.KeyKind.TheVariants.{Traceback}
use Rattle.frame_model.specs.Frames.{PlainFrame, frame_of, frames_of}
use Rattle.frame_stack.specs.Callers.{AreAmong}
use Rattle.frame_stack.specs.Tracebacks.{traceback_at, IsTable}
use Rattle.frame_stack.specs.declared.tracebacks.TbId.{TbId}
use Rattle.snapshot_model.specs.Rules.{frames_seen}
use Rattle.snapshot_model.specs.Occurrences.{Key, Occurrence, occurrences}
use Rattle.snapshot_model.specs.Stats.{key_cmp, PlainGroup, plain_group, once_at, size_at}
use Rattle.snapshot_model.proofs.CallerLemmas.{from_map}
use Rattle.trace_table.specs.Plain.{plain_rows, AreTraced, IsHeld}
use Rattle.trace_table.specs.declared.snapshot.Row.{Row}
use Rattle.snap_stats.specs.declared.sums.Sum.{Sum}
use Rattle.snap_stats.specs.Answers.{kind_of}
use Rattle.snap_stats.specs.Sums.{frame_key, frame_parts, parts_at, parts_of, counts, once, group_by, same_frame, same_id, AddsUp, AreSound, Respects, IsSound}
use Rattle.snap_stats.proofs.Firsts.{all_of, one_of}
use Rattle.snap_stats.proofs.Totals.{AreSums, same_is}
use Rattle.snap_stats.proofs.Weighing.{same, weight_of, occur_sizes, occur_counts, wholes_weigh, frames_weigh}

-- ---- a key that has a sum was added

module _ {K : Type 0} (eq : K → K → Bool) (good : K → Bool) (respects : Respects eq (λ k. cond (good k) 0 1)) where
  pub only_good : (parts sums : List (K × Sum)) → AddsUp eq parts sums → ((p : K × Sum) → Has p parts → good p.0 ≡ true)
      → (s : K × Sum) → Has s sums → good s.0 ≡ true
  only_good parts sums adds all s h =
      let w : K → ℕ = λ k. cond (good k) 0 1 in
      let zero = tally_zero (λ p. w p.0 * p.1.count) parts (λ p g. ap (λ (b : Bool). cond b 0 1 * p.1.count) (all p g) ∙ (omega arith)) in
      let here = tally_has (λ p. w p.0 * p.1.count) s sums h in
      let sound = one_of (λ (x : K × Sum). IsSound x.1) sums s adds.sound h in
      by (good s.0) refl s.1.count sound.some (omega (arith, zero, here, adds.count w respects))
    where
      by : (b : Bool) → good s.0 ≡ b → (n : ℕ) → 1 ≤ n → cond b 0 1 * n ≤ 0 → good s.0 ≡ true
      by true e n some le = e
      by false e n some le = absurd (omega arith)

pub same_ids : (a b : TbId) → same_id a b ≡ true → a.0 ≡ b.0
same_ids a b e = (Decides-eqb a.0 b.0).0 e

both : (x y : Bool) → (x && y) ≡ true → (x ≡ true) × (y ≡ true)
both true true h = (h, h)
both true false h = absurd (true≢false (sym h))
both false y h = absurd (true≢false (sym h))

same_files : (a b : Frame) → same_frame a b ≡ true → a.file.0 ≡ b.file.0
same_files a b e = (Decides-eqb a.file.0 b.file.0).0 (both (a.file.0 == b.file.0) (a.line == b.line) e).0

pub frames_mean : (a b : Frame) → same_frame a b ≡ true → a ≡ b
frames_mean a b e =
    let parts = both (a.file.0 == b.file.0) (a.line == b.line) e in
    let file = (Decides-eqb a.file.0 b.file.0).0 parts.0 in
    let line = (Decides-eqb a.line b.line).0 parts.1 in
    λ i. record { file = record { 0 = file i }; line = line i }

pub ids_mean : (a b : TbId) → same_id a b ≡ true → a ≡ b
ids_mean a b e = let n = same_ids a b e in λ i. record { 0 = n i }

below : (n m : ℕ) → ltb n m ≡ true → n < m
below n m e = ltb-true n m e

-- ---- where rows are held

rows_good : (table : List (List Frame)) (rows : List Row) → AreTraced table rows → (p : TbId × Sum) → Has p (parts_of rows) → ltb p.0.0 (length table) ≡ true
rows_good table [] traced p h = absurd h
rows_good table (r ∷ rs) traced p (inl e) =
    let lt : r.trace.0 < length table = All-head (λ (x : Row). x.trace.0 < length table) r rs traced in
    subst (λ (x : TbId × Sum). ltb x.0.0 (length table) ≡ true) e (lt-ltb r.trace.0 (length table) lt)
rows_good table (r ∷ rs) traced p (inr h) = rows_good table rs (All-tail (λ (x : Row). x.trace.0 < length table) r rs traced) p h

-- each traceback with a sum has a number in the table
pub sums_known : (table : List (List Frame)) (rows : List Row) (sums : List (TbId × Sum)) → AreTraced table rows
    → AddsUp same_id (parts_of rows) sums → AllByRecursion (λ s. s.0.0 < length table) sums
sums_known table rows sums traced adds = all_of (λ (s : TbId × Sum). s.0.0 < length table) sums (λ s h.
    below s.0.0 (length table) (only_good same_id (λ id. ltb id.0 (length table))
    (λ a b e. ap (λ (n : ℕ). cond (ltb n (length table)) 0 1) (same_ids a b e)) (parts_of rows) sums adds (rows_good table rows traced) s h))

drop_short : {X : Type 0} (n : ℕ) (xs : List X) → length (drop n xs) ≤ length xs
drop_short zero xs = omega arith
drop_short (suc n) [] = omega arith
drop_short (suc n) (x ∷ xs) = let e = drop_short n xs in omega (arith, e)

seen_short : (cumulative : Bool) (fs : List Frame) → length (frames_seen cumulative fs) ≤ length fs
seen_short true fs = omega arith
seen_short false fs = drop_short (length fs - 1) fs

at_counts : (by_line : Bool) (s : Sum) (fs : List Frame) (n : ℕ) → length fs ≤ n → counts once (parts_at by_line s fs) ≤ n * s.count
at_counts by_line s [] n h = omega arith
at_counts by_line s (f ∷ fs) zero h = absurd (omega arith)
at_counts by_line s (f ∷ fs) (suc n) h = let e = at_counts by_line s fs n (omega arith) in omega (arith, e)

pub in_table : (P : List Frame → Type 0) (table : List (List Frame)) (id : TbId) → id.0 < length table → All P table → P (traceback_at table id)
in_table P table id lt all = subst P (sym (unwrap_or-slice_get table id.0 [])) (all id.0 [] lt)

parts_few : (by_line cumulative : Bool) (table : List (List Frame)) (sums : List (TbId × Sum))
    → All (λ frames. length frames ≤ 2 ^ 16) table → AllByRecursion (λ s. s.0.0 < length table) sums
    → counts once (frame_parts by_line cumulative table sums) ≤ 2 ^ 16 * counts once sums
parts_few by_line cumulative table [] short known = omega arith
parts_few by_line cumulative table (s ∷ sums) short known =
    let fs = traceback_at table s.0 in
    let rest = parts_few by_line cumulative table sums short known.1 in
    let few : length fs ≤ 2 ^ 16 = in_table (λ frames. length frames ≤ 2 ^ 16) table s.0 known.0 short in
    let this = at_counts by_line s.1 (frames_seen cumulative fs) (2 ^ 16) (omega (arith, few, seen_short cumulative fs)) in
    omega (arith, rest, this, tally-append (λ p. once p.0 * p.1.count) (parts_at by_line s.1 (frames_seen cumulative fs)) (frame_parts by_line cumulative table sums))

pub rows_many : (rows : List Row) → counts once (parts_of rows) ≡ length rows
rows_many [] = refl
rows_many (r ∷ rs) = let e = rows_many rs in omega (arith, e)

-- the sums of frames stay small
pub parts_fit : (by_line cumulative : Bool) (table : List (List Frame)) (rows : List Row) (sums : List (TbId × Sum))
    → length rows < 2 ^ 32 → AreTraced table rows → All (λ frames. length frames ≤ 2 ^ 16) table
    → AddsUp same_id (parts_of rows) sums → counts once (frame_parts by_line cumulative table sums) < 2 ^ 63
parts_fit by_line cumulative table rows sums few traced short adds =
    let many = parts_few by_line cumulative table sums short (sums_known table rows sums traced adds) in
    omega (arith, many, adds.count once (λ a b e. refl), rows_many rows, few)

-- ---- the files of frames

among_keys : (files : ℕ) (by_line : Bool) (s : Sum) (fs : List Frame) → AreAmong files fs → (p : Frame × Sum) → Has p (parts_at by_line s fs) → p.0.file.0 < files
among_keys files by_line s [] among p h = absurd h
among_keys files by_line s (f ∷ fs) among p (inl e) = subst (λ (x : Frame × Sum). x.0.file.0 < files) e (of by_line)
  where
    of : (b : Bool) → (frame_key b f).file.0 < files
    of true = among.0
    of false = among.0
among_keys files by_line s (f ∷ fs) among p (inr h) = among_keys files by_line s fs among.1 p h

drop_among : (files n : ℕ) (fs : List Frame) → AreAmong files fs → AreAmong files (drop n fs)
drop_among files zero fs among = among
drop_among files (suc n) [] among = tt
drop_among files (suc n) (f ∷ fs) among = drop_among files n fs among.1

seen_among : (files : ℕ) (cumulative : Bool) (fs : List Frame) → AreAmong files fs → AreAmong files (frames_seen cumulative fs)
seen_among files true fs among = among
seen_among files false fs among = drop_among files (length fs - 1) fs among

parts_among : (files : ℕ) (by_line cumulative : Bool) (table : List (List Frame)) (sums : List (TbId × Sum))
    → All (AreAmong files) table → AllByRecursion (λ s. s.0.0 < length table) sums
    → (p : Frame × Sum) → Has p (frame_parts by_line cumulative table sums) → p.0.file.0 < files
parts_among files by_line cumulative table [] among known p h = absurd h
parts_among files by_line cumulative table (s ∷ sums) among known p h =
    let fs = traceback_at table s.0 in
    let these = in_table (AreAmong files) table s.0 known.0 among in
    elim (has_either p (parts_at by_line s.1 (frames_seen cumulative fs)) (frame_parts by_line cumulative table sums) h) [
      | inl k ↦ among_keys files by_line s.1 (frames_seen cumulative fs) (seen_among files cumulative fs these) p k
      | inr k ↦ parts_among files by_line cumulative table sums among known.1 p k
    ]

frames_among : (files : ℕ) (parts sums : List (Frame × Sum)) → AddsUp same_frame parts sums → ((p : Frame × Sum) → Has p parts → p.0.file.0 < files)
    → (s : Frame × Sum) → Has s sums → s.0.file.0 < files
frames_among files parts sums adds all s h =
    below s.0.file.0 files (only_good same_frame (λ f. ltb f.file.0 files)
    (λ a b e. ap (λ (n : ℕ). cond (ltb n files) 0 1) (same_files a b e)) parts sums adds (λ p k. lt-ltb p.0.file.0 files (all p k)) s h)

-- ---- keys that differ have names that differ

there : {X : Type 0} (xs : List X) (t : ℕ) (d : X) → t < length xs → slice_get xs t ≡ Some (unwrap_or (slice_get xs t) d)
there xs t d h = slice_get-get_or xs t d h ∙ ap (λ (x : _). Some x) (sym (unwrap_or-slice_get xs t d))

one_frame : (texts : List Name) → TextsDistinct texts → (a b : Frame) → a.file.0 < length texts → b.file.0 < length texts → frame_of texts a ≡ frame_of texts b → a ≡ b
one_frame texts distinct a b p q e =
    let m = a.file.0 in
    let n = b.file.0 in
    let names : text_at texts a.file ≡ text_at texts b.file = ap (λ (f : PlainFrame). f.file) e in
    let lines : a.line ≡ b.line = ap (λ (f : PlainFrame). f.line) e in
    let numbers : m ≡ n = distinct m n (text_at texts a.file) (there texts m [] p) (there texts n [] q ∙ ap (λ (x : List ℕ). Some x) (sym names)) in
    λ i. record { file = record { 0 = numbers i }; line = lines i }

same_frames : (texts : List Name) → TextsDistinct texts → (ours theirs : List Frame) → AreAmong (length texts) ours → AreAmong (length texts) theirs → frames_of texts ours ≡ frames_of texts theirs → ours ≡ theirs
same_frames texts distinct [] [] p q e = refl
same_frames texts distinct [] (b ∷ theirs) p q e = absurd (omega (arith, ap length e))
same_frames texts distinct (a ∷ ours) [] p q e = absurd (omega (arith, ap length e))
same_frames texts distinct (a ∷ ours) (b ∷ theirs) p q e =
    let first : frame_of texts a ≡ frame_of texts b = ap (λ (k : Key). get_or k 0 (frame_of texts a)) e in
    let x : a ≡ b = one_frame texts distinct a b p.0 q.0 first in
    let y : ours ≡ theirs = same_frames texts distinct ours theirs p.1 q.1 (ap (drop 1) e) in
    λ i. x i ∷ y i

ids_tell : (a b : TbId) → a.0 ≡ b.0 → same_id a b ≡ true
ids_tell a b e = (Decides-eqb a.0 b.0).1 e

frames_tell : (a b : Frame) → a ≡ b → same_frame a b ≡ true
frames_tell a b e = λ i. (Decides-eqb a.file.0 b.file.0).1 (ap (λ (f : Frame). f.file.0) e) i && (Decides-eqb a.line b.line).1 (ap (λ (f : Frame). f.line) e) i

-- tracebacks of one name are one
pub wholes_tell : (texts : List Name) (table : List (List Frame)) → TextsDistinct texts → IsTable table → All (AreAmong (length texts)) table
    → (a b : TbId) → a.0 < length table → b.0 < length table
    → frames_of texts (traceback_at table a) ≡ frames_of texts (traceback_at table b) → same_id a b ≡ true
wholes_tell texts table td is among a b la lb e =
    let frames = same_frames texts td (traceback_at table a) (traceback_at table b) (in_table (AreAmong (length texts)) table a la among) (in_table (AreAmong (length texts)) table b lb among) e in
    ids_tell a b (is.distinct a.0 b.0 (traceback_at table a) (there table a.0 [] la) (there table b.0 [] lb ∙ ap (λ (x : List Frame). Some x) (sym frames)))

-- and so are frames
pub singles_tell : (texts : List Name) → TextsDistinct texts → (a b : Frame) → a.file.0 < length texts → b.file.0 < length texts
    → frames_of texts (a ∷ []) ≡ frames_of texts (b ∷ []) → same_frame a b ≡ true
singles_tell texts td a b la lb e =
    frames_tell a b (one_frame texts td a b la lb (ap (λ (k : Key). get_or k 0 (frame_of texts a)) e))

-- ---- no key has two groups

most_one : (k key : Key) → same k key ≤ 1
most_one k key = by (eq_by_cmp key_cmp k key)
  where
    by : (b : Bool) → cond b 1 0 ≤ 1
    by true = omega arith
    by false = omega arith

module _ {K : Type 0} (eq : K → K → Bool) (frames : K → List Frame) (texts : List Name) where
  abbrev pub key_at : K × Sum → Key
  key_at s = frames_of texts (frames s.0)

  abbrev pub Tells : List (K × Sum) → Type 0
  Tells sums = (a b : K × Sum) → Has a sums → Has b sums → key_at a ≡ key_at b → eq a.0 b.0 ≡ true

  others : (k : K) (sums : List (K × Sum)) (s : K × Sum) → AllByRecursion (λ y. eq k y ≡ false) (keys_of sums) → Has s sums → eq k s.0 ≡ false
  others k [] s all h = absurd h
  others k (x ∷ sums) s all (inl e) = subst (λ (y : K × Sum). eq k y.0 ≡ false) e all.0
  others k (x ∷ sums) s all (inr h) = others k sums s all.1 h

  one_each : (k : Key) (sums : List (K × Sum)) → KeysDistinct eq (keys_of sums) → Tells sums → tally (λ s. same k (key_at s)) sums ≤ 1
  unfolding KeysDistinct
  one_each k [] distinct tells = omega arith
  one_each k (s ∷ sums) distinct tells = by (same k (key_at s)) refl (one_each k sums distinct.1 (λ a b h g. tells a b (inr h) (inr g)))
    where
      none : 1 ≤ same k (key_at s) → (x : K × Sum) → Has x sums → same k (key_at x) ≡ 0
      none is x h = zero_or (same k (key_at x)) refl
        where
          zero_or : (n : ℕ) → same k (key_at x) ≡ n → same k (key_at x) ≡ 0
          zero_or zero e = e
          zero_or (suc n) e =
              let tied : key_at s ≡ key_at x = sym (same_is k (key_at s) is) ∙ same_is k (key_at x) (omega (arith, e)) in
              absurd (true≢false (sym (tells s x (inl refl) (inr h) tied) ∙ others s.0 sums x distinct.0 h))

      by : (n : ℕ) → same k (key_at s) ≡ n → tally (λ x. same k (key_at x)) sums ≤ 1 → same k (key_at s) + tally (λ x. same k (key_at x)) sums ≤ 1
      by zero e rest = omega (arith, e, rest)
      by (suc n) e rest =
          let no = tally_zero (λ x. same k (key_at x)) sums (none (omega (arith, e))) in
          omega (arith, no, most_one k (key_at s))

  abbrev pub groups_of : List (K × Sum) → List PlainGroup
  groups_of sums = map (plain_group texts) (map (group_by frames) sums)

  pub groups_are : (os : List Occurrence) (sums : List (K × Sum)) → AreSound sums → KeysDistinct eq (keys_of sums) → Tells sums
      → ((k : Key) → tally (λ s. same k (frames_of texts (frames s.0)) * s.1.size) sums ≡ tally (size_at k) os)
      → ((k : Key) → tally (λ s. same k (frames_of texts (frames s.0)) * s.1.count) sums ≡ tally (once_at k) os)
      → AreSums os (groups_of sums)
  groups_are os sums sound distinct tells size count = record {
    size = λ k. tally-map (λ p. same k p.key * p.size) (plain_group texts) (map (group_by frames) sums) ∙ tally-map (λ g. same k (frames_of texts g.key) * g.size) (group_by frames) sums ∙ size k;
    count = λ k. tally-map (λ p. same k p.key * p.count) (plain_group texts) (map (group_by frames) sums) ∙ tally-map (λ g. same k (frames_of texts g.key) * g.count) (group_by frames) sums ∙ count k;
    some = λ p h.
        let g = from_map (plain_group texts) p (map (group_by frames) sums) h in
        let s = from_map (group_by frames) g.0 sums g.1 in
        let is = one_of (λ (x : K × Sum). IsSound x.1) sums s.0 sound s.1 in
        let same_count : p.count ≡ s.0.1.count = ap (λ (x : PlainGroup). x.count) g.2 ∙ ap (λ (x : Group). x.count) s.2 in
        omega (arith, is.some, same_count);
    once = λ k.
        let e = tally-map (λ p. same k p.key) (plain_group texts) (map (group_by frames) sums) ∙ tally-map (λ g. same k (frames_of texts g.key)) (group_by frames) sums in
        omega (arith, e, one_each k sums distinct tells);
  }

-- ---- the answers

module _ (texts : List Name) (table : List (List Frame)) (rows : List Row) (sums : List (TbId × Sum)) (td : TextsDistinct texts) (held : IsHeld texts table rows) (adds : AddsUp same_id (parts_of rows) sums) where
  known : AllByRecursion (λ s. s.0.0 < length table) sums
  known = sums_known table rows sums held.traced adds

  pub is_known : (s : TbId × Sum) → Has s sums → s.0.0 < length table
  is_known s h = one_of (λ (x : TbId × Sum). x.0.0 < length table) sums s known h

  respects_all : (w : TbId → ℕ) → Respects same_id w
  respects_all w a b e = let n = same_ids a b e in λ i. w (record { 0 = n i })

  wholes_are : IsTable table → KeysDistinct same_id (keys_of sums) → (cumulative : Bool)
      → AreSums (occurrences Traceback cumulative (plain_rows texts table rows)) (groups_of same_id (traceback_at table) texts sums)
  wholes_are is distinct cumulative =
      groups_are same_id (traceback_at table) texts (occurrences Traceback cumulative (plain_rows texts table rows)) sums adds.sound distinct tells
      (λ k. wholes_weigh texts table (λ s. s.size) cumulative k sums ∙ adds.size (weight_of texts table Traceback cumulative k) (respects_all (weight_of texts table Traceback cumulative k)) ∙ sym (occur_sizes texts table Traceback cumulative k rows))
      (λ k. wholes_weigh texts table (λ s. s.count) cumulative k sums ∙ adds.count (weight_of texts table Traceback cumulative k) (respects_all (weight_of texts table Traceback cumulative k)) ∙ sym (occur_counts texts table Traceback cumulative k rows))
    where
      tells : (a b : TbId × Sum) → Has a sums → Has b sums → frames_of texts (traceback_at table a.0) ≡ frames_of texts (traceback_at table b.0) → same_id a.0 b.0 ≡ true
      tells a b h g e = wholes_tell texts table td is held.among a.0 b.0 (is_known a h) (is_known b g) e

  -- whatever the kind is called, and whatever list the groups are
  pub wholes_come : IsTable table → KeysDistinct same_id (keys_of sums) → (kind : KeyKind) (cumulative : Bool) (groups : List Group)
      → kind ≡ Traceback → groups ≡ map (group_by (traceback_at table)) sums
      → AreSums (occurrences kind cumulative (plain_rows texts table rows)) (map (plain_group texts) groups)
  wholes_come is distinct kind cumulative groups k e =
      subst (λ (x : KeyKind). AreSums (occurrences x cumulative (plain_rows texts table rows)) (map (plain_group texts) groups)) (sym k)
      (subst (λ (gs : List Group). AreSums (occurrences Traceback cumulative (plain_rows texts table rows)) (map (plain_group texts) gs)) (sym e) (wholes_are is distinct cumulative))

  pub wholes_known : (g : Group) → Has g (map (group_by (traceback_at table)) sums) → AreAmong (length texts) g.key
  wholes_known g h =
      let s = from_map (group_by (traceback_at table)) g sums h in
      let lt = one_of (λ (x : TbId × Sum). x.0.0 < length table) sums s.0 known s.1 in
      subst (λ (x : Group). AreAmong (length texts) x.key) (sym s.2) (in_table (AreAmong (length texts)) table s.0.0 lt held.among)

  module _ (by_line cumulative : Bool) (of_frames : List (Frame × Sum)) (adds_frames : AddsUp same_frame (frame_parts by_line cumulative table sums) of_frames) where
    pub in_texts : (s : Frame × Sum) → Has s of_frames → s.0.file.0 < length texts
    in_texts = frames_among (length texts) (frame_parts by_line cumulative table sums) of_frames adds_frames (parts_among (length texts) by_line cumulative table sums held.among known)

    singles_are : KeysDistinct same_frame (keys_of of_frames)
        → AreSums (occurrences (kind_of by_line) cumulative (plain_rows texts table rows)) (groups_of same_frame (λ f. f ∷ []) texts of_frames)
    singles_are distinct =
        groups_are same_frame (λ f. f ∷ []) texts (occurrences (kind_of by_line) cumulative (plain_rows texts table rows)) of_frames adds_frames.sound distinct tells
        (λ k. adds_frames.size (λ f. same k (frames_of texts (f ∷ []))) (respects_frames (λ f. same k (frames_of texts (f ∷ [])))) ∙ frames_weigh texts table (λ s. s.size) by_line cumulative k sums
        ∙ adds.size (weight_of texts table (kind_of by_line) cumulative k) (respects_all (weight_of texts table (kind_of by_line) cumulative k)) ∙ sym (occur_sizes texts table (kind_of by_line) cumulative k rows))
        (λ k. adds_frames.count (λ f. same k (frames_of texts (f ∷ []))) (respects_frames (λ f. same k (frames_of texts (f ∷ [])))) ∙ frames_weigh texts table (λ s. s.count) by_line cumulative k sums
        ∙ adds.count (weight_of texts table (kind_of by_line) cumulative k) (respects_all (weight_of texts table (kind_of by_line) cumulative k)) ∙ sym (occur_counts texts table (kind_of by_line) cumulative k rows))
      where
        respects_frames : (w : Frame → ℕ) → Respects same_frame w
        respects_frames w a b e = ap w (frames_mean a b e)

        tells : (a b : Frame × Sum) → Has a of_frames → Has b of_frames → frames_of texts (a.0 ∷ []) ≡ frames_of texts (b.0 ∷ []) → same_frame a.0 b.0 ≡ true
        tells a b h g e = singles_tell texts td a.0 b.0 (in_texts a h) (in_texts b g) e

    pub singles_come : KeysDistinct same_frame (keys_of of_frames) → (kind : KeyKind) (groups : List Group)
        → kind_of by_line ≡ kind → groups ≡ map (group_by (λ f. f ∷ [])) of_frames
        → AreSums (occurrences kind cumulative (plain_rows texts table rows)) (map (plain_group texts) groups)
    singles_come distinct kind groups k e =
        subst (λ (x : KeyKind). AreSums (occurrences x cumulative (plain_rows texts table rows)) (map (plain_group texts) groups)) k
        (subst (λ (gs : List Group). AreSums (occurrences (kind_of by_line) cumulative (plain_rows texts table rows)) (map (plain_group texts) gs)) (sym e) (singles_are distinct))

    pub singles_known : (g : Group) → Has g (map (group_by (λ f. f ∷ [])) of_frames) → AreAmong (length texts) g.key
    singles_known g h =
        let s = from_map (group_by (λ f. f ∷ [])) g of_frames h in
        subst (λ (x : Group). AreAmong (length texts) x.key) (sym s.2) (in_texts s.0 s.1, tt)
