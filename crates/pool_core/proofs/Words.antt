-- Cells after a word was written, and headers by their words.
use Rattle.std.proofs.Common.{◌≡◌, ◌≢◌, ℕ, zero, suc, ◌+◌, ◌-◌, ◌*◌, ◌^◌, ◌<◌, ◌≤◌, ◌⊎◌, inl, inr, List, [], ◌∷◌, map, length, get_or, set, take, drop, Option, Some, None, refl, sym, ap, subst, ◌∙◌, arith}
use Rattle.std.specs.Int.{from_le_bytes, to_le_bytes, w64}
use Rattle.std.proofs.lemmas.List.{length-map, length-take, length-drop, get_or-set_same, get_or-set_other}
use Rattle.std.proofs.lemmas.Bool.Decides.{eqb_tells, leb_tells}
use lib.Seq.{ext_get_or, get_or-take, get_or-drop}
use lib.ListN.{length-set}
use Rattle.raw_region.specs.Cells.{at_home, IsHome, AtHome, bytes_of, with_run, word_at}
use Rattle.raw_region.proofs.CallerLemmas.{run_has, run_keeps, word_written, word_kept, length-with_run}
use Rattle.layout_model.specs.Plain.{header_of}
use Rattle.pool_core.specs.Calls.{home, InRun, OnlyAt}

-- ---- which cells change

pub home_one : (o : Option ℕ) → home o ≡ 1 → (b : ℕ) × (o ≡ Some b)
home_one None e = absurd (omega arith)
home_one (Some b) e = (b, refl)

-- what was at home is at home
pub home_kept : {P : ℕ → Type 0} (old new : List (Option ℕ)) (off n : ℕ) → OnlyAt P old new → AtHome old off n → AtHome new off n
home_kept old new off n o all i lt = let h = all i lt in home_one (get_or new (off + i) None) (o.home (off + i) ∙ ap home h.1)

-- a change within a change
pub only_more : {P Q : ℕ → Type 0} (old new : List (Option ℕ)) → OnlyAt P old new → ((i : ℕ) → P i → Q i) → OnlyAt Q old new
only_more old new o within = record { length = o.length; home = o.home; kept = λ i out. o.kept i (λ p. out (within i p)) }

-- one change after another
pub only_then : {P : ℕ → Type 0} (old mid new : List (Option ℕ)) → OnlyAt P old mid → OnlyAt P mid new → OnlyAt P old new
only_then old mid new o p = record { length = p.length ∙ o.length; home = λ i. p.home i ∙ o.home i; kept = λ i out. p.kept i out ∙ o.kept i out }

pub only_none : {P : ℕ → Type 0} (cells : List (Option ℕ)) → OnlyAt P cells cells
only_none cells = record { length = refl; home = λ i. refl; kept = λ i out. refl }

out_of_run : (off n i : ℕ) → (InRun off n i → ⊥) → (i < off) ⊎ (off + n ≤ i)
out_of_run off n i out = elim (leb_tells off i) [
  | inl low ↦ elim (leb_tells (off + n) i) [ inl high ↦ inr high.1 | inr in_it ↦ absurd (out (low.1, omega arith)) ]
  | inr below ↦ inl (omega arith)
]

home_some : (bytes : List ℕ) (k : ℕ) → k < length bytes → home (get_or (map Some bytes) k None) ≡ 1
home_some [] k h = absurd (omega arith)
home_some (b ∷ bs) zero h = refl
home_some (b ∷ bs) (suc n) h = home_some bs n (omega arith)

module _ (cells : List (Option ℕ)) (off n : ℕ) (bytes : List ℕ) (long : length bytes ≡ n) (inside : off + n ≤ length cells) (was : AtHome cells off n) where
  size : length (map Some bytes) ≡ n
  size = length-map bytes Some ∙ long

  homes : (i : ℕ) → home (get_or (with_run cells off n (map Some bytes)) i None) ≡ home (get_or cells i None)
  homes i = elim (leb_tells off i) [
    | inl low ↦ elim (leb_tells (off + n) i) [
      | inl high ↦ ap home (run_keeps cells off n (map Some bytes) inside size i (inr high.1))
      | inr in_it ↦
          let j : ℕ = i - off in let back : off + j ≡ i = omega arith in
          let h : IsHome cells i = subst (λ k. IsHome cells k) back (was j (omega arith)) in
          ap home (run_has cells off n (map Some bytes) inside size i low.1 (omega arith)) ∙ (home_some bytes j (omega arith) ∙ sym (ap home h.1))
    ]
    | inr below ↦ ap home (run_keeps cells off n (map Some bytes) inside size i (inl (omega arith)))
  ]

  -- bytes that are written to cells at home
  pub only_written : OnlyAt (InRun off n) cells (with_run cells off n (map Some bytes))
  only_written = record {
    length = length-with_run cells off n inside (map Some bytes) size;
    home = homes;
    kept = λ i out. run_keeps cells off n (map Some bytes) inside size i (out_of_run off n i out);
  }

-- ---- words

-- bytes whose cells are as before
pub bytes_same : (old new : List (Option ℕ)) (off n : ℕ) → length new ≡ length old → off + n ≤ length old → ((i : ℕ) → i < n → get_or new (off + i) None ≡ get_or old (off + i) None) → bytes_of new off n ≡ bytes_of old off n
bytes_same old new off n long inside same =
    ap at_home (ext_get_or None (take n (drop off new)) (take n (drop off old)) (omega (arith, length-take n (drop off new), length-drop off new, length-take n (drop off old), length-drop off old)) (λ i p.
    let lt : i < n = omega (arith, length-take n (drop off new)) in
    get_or-take n (drop off new) i None lt ∙ get_or-drop off new i None ∙ same i lt ∙ sym (get_or-take n (drop off old) i None lt ∙ get_or-drop off old i None)))

pub word_same : (old new : List (Option ℕ)) (off : ℕ) → length new ≡ length old → off + 8 ≤ length old → ((i : ℕ) → i < 8 → get_or new (off + i) None ≡ get_or old (off + i) None) → word_at new off ≡ word_at old off
word_same old new off long inside same = ap (from_le_bytes w64) (bytes_same old new off 8 long inside same)

-- ---- headers

pub length-header_of : (cells : List (Option ℕ)) (at : ℕ) → length (header_of cells at) ≡ 6
unfolding header_of
length-header_of cells at = refl

pub header_word : (cells : List (Option ℕ)) (at k : ℕ) → k < 6 → get_or (header_of cells at) k 0 ≡ word_at cells (at + 8 * k)
unfolding header_of
header_word cells at zero lt = refl
header_word cells at (suc zero) lt = refl
header_word cells at (suc (suc zero)) lt = refl
header_word cells at (suc (suc (suc zero))) lt = refl
header_word cells at (suc (suc (suc (suc zero)))) lt = refl
header_word cells at (suc (suc (suc (suc (suc zero))))) lt = refl
header_word cells at (suc (suc (suc (suc (suc (suc k)))))) lt = absurd (omega arith)

-- a header whose cells are as before
pub header_same : (old new : List (Option ℕ)) (at : ℕ) → length new ≡ length old → at + 48 ≤ length old → ((i : ℕ) → i < 48 → get_or new (at + i) None ≡ get_or old (at + i) None) → header_of new at ≡ header_of old at
header_same old new at long inside same =
    ext_get_or 0 (header_of new at) (header_of old at) (length-header_of new at ∙ sym (length-header_of old at)) (λ k p.
    let lt : k < 6 = omega (arith, length-header_of new at) in
    header_word new at k lt
    ∙ (word_same old new (at + 8 * k) long (omega arith) (λ i l. let e : at + (8 * k + i) ≡ at + 8 * k + i = omega arith in subst (λ j. get_or new j None ≡ get_or old j None) e (same (8 * k + i) (omega arith)))
    ∙ sym (header_word old at k lt)))

-- a header of which one word was written
pub header_written : (cells : List (Option ℕ)) (at k w : ℕ) → at + 48 ≤ length cells → k < 6 → w < 2 ^ 64 → header_of (with_run cells (at + 8 * k) 8 (map Some (to_le_bytes w64 w))) at ≡ set (header_of cells at) k w
header_written cells at k w inside few fits =
    let new = with_run cells (at + 8 * k) 8 (map Some (to_le_bytes w64 w)) in
    let long = length-header_of cells at in
    ext_get_or 0 (header_of new at) (set (header_of cells at) k w) (length-header_of new at ∙ sym (length-set (header_of cells at) k w ∙ long)) (λ j p.
    let lt : j < 6 = omega (arith, length-header_of new at) in
    header_word new at j lt ∙ elim (eqb_tells j k) [
      | inl same ↦
          subst (λ i. word_at new (at + 8 * i) ≡ get_or (set (header_of cells at) k w) i 0) (sym same.1)
          (word_written cells (at + 8 * k) w (omega arith) fits ∙ sym (get_or-set_same (header_of cells at) k w 0 (omega arith)))
      | inr other ↦
          word_kept cells (at + 8 * k) 8 (omega arith) (map Some (to_le_bytes w64 w)) refl (at + 8 * j) (omega arith) (beside j k other.1)
          ∙ (sym (header_word cells at j lt) ∙ sym (get_or-set_other (header_of cells at) k j w 0 other.1))
    ]) where
      beside : (j k : ℕ) → j ≢ k → (at + 8 * j + 8 ≤ at + 8 * k) ⊎ (at + 8 * k + 8 ≤ at + 8 * j)
      beside j k other = elim (leb_tells j k) [ inl a ↦ inl (omega arith) | inr b ↦ inr (omega arith) ]
