-- What the calls leave at home and what they leave lent, for the crates above.
-- `with_run` is what `write_word`, `fill` and `mend` leave, `set` what `write_byte` leaves, `away` what `carve` leaves and `zeroed` what `new` leaves.
use Rattle.std.proofs.Common.{◌≡◌, ℕ, zero, suc, ◌+◌, ◌-◌, ◌^◌, ◌<◌, ◌≤◌, ◌⊎◌, inl, inr, List, ◌++◌, length, map, get_or, take, drop, set, replicate, refl, sym, subst, ap, ◌∙◌, arith}
use Rattle.std.specs.Prelude.{Option, Some, None}
use lib.ListN.{length-take, length-drop, length-replicate, length-set, get_or-replicate}
use lib.Seq.{get_or-drop, get_or-take, get_or-set_same, get_or-set_other, ext_get_or, take_at, drop_at, take-length}
use Rattle.std.specs.Int.{from_le_bytes, to_le_bytes, w64}
use Rattle.std.proofs.lemmas.Nat.{from_le_bytes-to_le_bytes_8}
use Rattle.std.proofs.lemmas.List.{length-map, get_or-append_right, get_or_append_left, get_or-map}
use Rattle.raw_region.specs.Cells.{at_home, IsHome, AtHome, AllHome, AreLent, away, bytes_of, with_run, word_at, zeroed}
use Rattle.raw_region.proofs.Runs.{map-replicate}
pub use Rattle.raw_region.proofs.Runs.{at_home-map, home_run, home_inside, home_within, length-bytes_of, length-with_run, length-away}

below_or_not : (a b : ℕ) → (a < b) ⊎ (b ≤ a)
below_or_not zero zero = inr (omega arith)
below_or_not zero (suc b) = inl (omega arith)
below_or_not (suc a) zero = inr (omega arith)
below_or_not (suc a) (suc b) = elim (below_or_not a b) [ inl p ↦ inl (omega arith) | inr p ↦ inr (omega arith) ]

-- ---- the cells after a run was written

module _ {X : Type 0} (cells : List (Option X)) (off n : ℕ) (run : List (Option X)) (inside : off + n ≤ length cells) (long : length run ≡ n) where
  front : length (take off cells) ≡ off
  front = omega (arith, length-take off cells)

  -- a cell of the run
  pub run_has : (k : ℕ) → off ≤ k → k < off + n → get_or (with_run cells off n run) k None ≡ get_or run (k - off) None
  run_has k low high = get_or-append_right (take off cells) (run ++ drop (off + n) cells) off k None front low ∙ get_or_append_left run (drop (off + n) cells) None (k - off) (omega arith)

  -- any other cell
  pub run_keeps : (k : ℕ) → (k < off) ⊎ (off + n ≤ k) → get_or (with_run cells off n run) k None ≡ get_or cells k None
  run_keeps k out = elim out [
    | inl below ↦ get_or_append_left (take off cells) (run ++ drop (off + n) cells) None k (omega (arith, front)) ∙ get_or-take off cells k None below
    | inr above ↦ let back : off + n + (k - off - n) ≡ k = omega arith in
        get_or-append_right (take off cells) (run ++ drop (off + n) cells) off k None front (omega arith)
        ∙ get_or-append_right run (drop (off + n) cells) n (k - off) None long (omega arith) ∙ get_or-drop (off + n) cells (k - off - n) None ∙ ap (λ j. get_or cells j None) back
  ]

-- ---- bytes and words

module _ (cells : List (Option ℕ)) (off n : ℕ) (inside : off + n ≤ length cells) where
  -- the bytes that were written
  pub bytes_written : (bytes : List ℕ) → length bytes ≡ n → bytes_of (with_run cells off n (map Some bytes)) off n ≡ bytes
  bytes_written bytes long =
      let rest = map Some bytes ++ drop (off + n) cells in
      let start : drop off (take off cells ++ rest) ≡ rest = drop_at (take off cells) rest off (omega (arith, length-take off cells)) in
      let run : take n rest ≡ map Some bytes = take_at (map Some bytes) (drop (off + n) cells) n (length-map bytes Some ∙ long) in
      ap (λ l. at_home (take n l)) start ∙ ap at_home run ∙ at_home-map bytes

  -- those that a fill writes
  pub bytes_filled : (b : ℕ) → bytes_of (with_run cells off n (replicate n (Some b))) off n ≡ replicate n b
  bytes_filled b = ap (λ run. bytes_of (with_run cells off n run) off n) (sym (map-replicate n b)) ∙ bytes_written (replicate n b) (length-replicate n b)

  -- the bytes beside a run are as before
  pub bytes_kept : (run : List (Option ℕ)) → length run ≡ n → (o k : ℕ) → o + k ≤ length cells → (o + k ≤ off) ⊎ (off + n ≤ o) → bytes_of (with_run cells off n run) o k ≡ bytes_of cells o k
  bytes_kept run long o k le out =
      let new = with_run cells off n run in let size = length-with_run cells off n inside run long in
      ap at_home (ext_get_or None (take k (drop o new)) (take k (drop o cells)) (omega (arith, size, length-take k (drop o new), length-drop o new, length-take k (drop o cells), length-drop o cells)) (λ i p.
      let lt : i < k = omega (arith, length-take k (drop o new)) in
      get_or-take k (drop o new) i None lt ∙ get_or-drop o new i None ∙ run_keeps cells off n run inside long (o + i) (elim out [ inl a ↦ inl (omega arith) | inr b ↦ inr (omega arith) ])
      ∙ sym (get_or-take k (drop o cells) i None lt ∙ get_or-drop o cells i None)))

  -- and so is a word
  pub word_kept : (run : List (Option ℕ)) → length run ≡ n → (o : ℕ) → o + 8 ≤ length cells → (o + 8 ≤ off) ⊎ (off + n ≤ o) → word_at (with_run cells off n run) o ≡ word_at cells o
  word_kept run long o le out = ap (from_le_bytes w64) (bytes_kept run long o 8 le out)

-- the word that was written
pub word_written : (cells : List (Option ℕ)) (off w : ℕ) → off + 8 ≤ length cells → w < 2 ^ 64 → word_at (with_run cells off 8 (map Some (to_le_bytes w64 w))) off ≡ w
word_written cells off w inside fits = ap (from_le_bytes w64) (bytes_written cells off 8 inside (to_le_bytes w64 w) refl) ∙ from_le_bytes-to_le_bytes_8 w fits

-- ---- a new region

pub zeroed_is : (n : ℕ) → zeroed n ≡ replicate n (Some 0)
unfolding zeroed
zeroed_is n = refl

pub length-zeroed : (n : ℕ) → length (zeroed n) ≡ n
length-zeroed n = ap length (zeroed_is n) ∙ length-replicate n (Some 0)

pub home_zeroed : (n off len : ℕ) → off + len ≤ n → AtHome (zeroed n) off len
home_zeroed n off len inside i lt = (0, ap (λ l. get_or l (off + i) None) (zeroed_is n) ∙ get_or-replicate n (off + i) (Some 0) None (omega arith))

-- ---- what is at home

-- a part of cells that are at home
pub home_part : (cells : List (Option ℕ)) (off len o n : ℕ) → AtHome cells off len → off ≤ o → o + n ≤ off + len → AtHome cells o n
home_part cells off len o n home le fits i lt = subst (λ k. IsHome cells k) (omega arith) (home (o - off + i) (omega arith))

-- where each cell is at home, all are
pub all_home : (cells : List (Option ℕ)) → AtHome cells 0 (length cells) → AllHome cells
all_home cells home = sym (take-length cells) ∙ home_run cells 0 (length cells) home ∙ ap (λ l. map Some (at_home l)) (take-length cells)

-- and where all are, each is
pub home_of_all : (cells : List (Option ℕ)) → AllHome cells → (off len : ℕ) → off + len ≤ length cells → AtHome cells off len
home_of_all cells all off len inside i lt =
    let bytes = at_home cells in let long = length-map bytes Some in
    (get_or bytes (off + i) 0, ap (λ l. get_or l (off + i) None) all ∙ get_or-map Some bytes (off + i) 0 None (omega (arith, ap length all)))

pub all_home-zeroed : (n : ℕ) → AllHome (zeroed n)
all_home-zeroed n = all_home (zeroed n) (home_zeroed n 0 (length (zeroed n)) (omega (arith, length-zeroed n)))

-- a byte that is written stays at home, and so does every other
pub home_set : (cells : List (Option ℕ)) (at b off len : ℕ) → AtHome cells off len → AtHome (set cells at (Some b)) off len
home_set cells at b off len home i lt =
    let h = home i lt in let within = home_within cells (off + i) h in elim (below_or_not at (off + i)) [
      | inl below ↦ (h.0, get_or-set_other cells at (off + i) (Some b) None (λ e. absurd (omega arith)) ∙ h.1)
      | inr above ↦ elim (below_or_not (off + i) at) [
        | inl other ↦ (h.0, get_or-set_other cells at (off + i) (Some b) None (λ e. absurd (omega arith)) ∙ h.1)
        | inr same ↦ let is : off + i ≡ at = omega arith in (b, ap (λ k. get_or (set cells at (Some b)) k None) is ∙ get_or-set_same cells at (Some b) None (subst (λ k. k < length cells) is within))
      ]
    ]

module _ (cells : List (Option ℕ)) (at n : ℕ) (inside : at + n ≤ length cells) where
  -- bytes that come to a run are at home there, and all that was at home beside it stays
  pub home_written : (bytes : List ℕ) → length bytes ≡ n → (off len : ℕ) → ((i : ℕ) → i < len → (off + i < at) ⊎ (at + n ≤ off + i) → IsHome cells (off + i)) → AtHome (with_run cells at n (map Some bytes)) off len
  home_written bytes long off len home i lt =
      let size : length (map Some bytes) ≡ n = length-map bytes Some ∙ long in
      elim (below_or_not (off + i) at) [
        | inl below ↦ let h = home i lt (inl below) in (h.0, run_keeps cells at n (map Some bytes) inside size (off + i) (inl below) ∙ h.1)
        | inr low ↦ elim (below_or_not (off + i) (at + n)) [
          | inl high ↦ (get_or bytes (off + i - at) 0, run_has cells at n (map Some bytes) inside size (off + i) low high ∙ get_or-map Some bytes (off + i - at) 0 None (omega arith))
          | inr above ↦ let h = home i lt (inr above) in (h.0, run_keeps cells at n (map Some bytes) inside size (off + i) (inr above) ∙ h.1)
        ]
      ]

  -- a fill does the same
  pub home_filled : (b off len : ℕ) → AtHome cells off len → AtHome (with_run cells at n (replicate n (Some b))) off len
  home_filled b off len home = subst (λ run. AtHome (with_run cells at n run) off len) (map-replicate n b) (home_written (replicate n b) (length-replicate n b) off len (λ i lt _. home i lt))

  abbrev none : Option ℕ
  none = None

  -- what is beside a run that was carved stays at home
  pub home_away : (off len : ℕ) → (off + len ≤ at) ⊎ (at + n ≤ off) → AtHome cells off len → AtHome (away cells at n) off len
  home_away off len out home i lt =
      let h = home i lt in
      (h.0, run_keeps cells at n (replicate n None) inside (length-replicate n none) (off + i) (elim out [ inl p ↦ inl (omega arith) | inr p ↦ inr (omega arith) ]) ∙ h.1)

  -- ---- what is lent

  -- a run that was carved is lent
  pub lent_away : AreLent (away cells at n) at n
  lent_away = record {
    inside = subst (λ k. at + n ≤ k) (sym (length-away cells at n inside)) inside;
    away = λ i lt. run_has cells at n (replicate n None) inside (length-replicate n none) (at + i) (omega arith) (omega arith) ∙ get_or-replicate n (at + i - at) none None (omega arith);
  }

  -- what is lent beside a run stays lent, whatever comes to the run
  pub lent_kept : (run : List (Option ℕ)) → length run ≡ n → (off len : ℕ) → (off + len ≤ at) ⊎ (at + n ≤ off) → AreLent cells off len → AreLent (with_run cells at n run) off len
  lent_kept run long off len out lent = record {
    inside = subst (λ k. off + len ≤ k) (sym (length-with_run cells at n inside run long)) lent.inside;
    away = λ i lt. run_keeps cells at n run inside long (off + i) (elim out [ inl p ↦ inl (omega arith) | inr p ↦ inr (omega arith) ]) ∙ lent.away i lt;
  }

-- a byte that is written leaves what is lent
pub lent_set : (cells : List (Option ℕ)) (at b off len : ℕ) → IsHome cells at → AreLent cells off len → AreLent (set cells at (Some b)) off len
lent_set cells at b off len home lent = record {
  inside = subst (λ k. off + len ≤ k) (sym (length-set cells at (Some b))) lent.inside;
  away = λ i lt. get_or-set_other cells at (off + i) (Some b) None (λ e. let h = sym home.1 ∙ ap (λ k. get_or cells k None) (omega arith) ∙ lent.away i lt in cc) ∙ lent.away i lt;
}
