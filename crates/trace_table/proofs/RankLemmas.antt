-- The order of texts by their bytes, and the places of their numbers in it.
use Rattle.std.proofs.Common.{◌≡◌, ◌≢◌, ℕ, ◌<◌, List, length, get_or, sym, ap, ◌∙◌, arith, eqb, inl, inr, false}
use Rattle.std.proofs.Common.{true≢false, Some, Option, []}
use Rattle.std.specs.Prelude.{All, slice_get, unwrap_or}
use Rattle.std.specs.declared.cmp.Ordering.TheVariants.{Less, Equal, Greater}
use Rattle.std.specs.Ordering.{nat_cmp, ordering_reverse}
use Rattle.std.specs.Cmp.{IsTotalOrder, nat_cmp_is}
use Rattle.std.specs.List.{AllPairs}
use Rattle.std.specs.List.Sorted.{IsPermutation, IsSorted}
use Rattle.std.proofs.lemmas.Bool.{cases_lt}
use Rattle.std.proofs.lemmas.Cmp.{nat_list_cmp_total, on_total, tied_itself}
use Rattle.std.proofs.lemmas.List.Sorted.{All-permutation, Contains-permutation, length_permutation}
use Rattle.std.proofs.lemmas.Map.Keys.{IsDistinct-IsPermutation, IsDistinct-from_apart, apart_from_distinct}
use Rattle.std.proofs.lemmas.Map.Lookups.{exact_bytes}
use Rattle.std.proofs.lemmas.Bool.Decides.{eqb_tells}
use Rattle.std.proofs.lemmas.List.{get_or_default}
use Rattle.std.proofs.lemmas.Option.{slice_get-get_or}
use Rattle.mem_base.specs.Name.{Name}
use Rattle.mem_base.specs.Texts.{IsDistinct, IsTable, text_at}
use Rattle.trace_table.specs.Ranks.{AreInOrder, ArePlaces, AreRanks, text_cmp}
use Rattle.trace_table.proofs.Sorting.{pairs_rise}

abbrev bytes_at : List Name → ℕ → Name
bytes_at texts n = text_at texts (record { 0 = n })

pub text_cmp_total : (texts : List Name) → IsTotalOrder (text_cmp texts)
text_cmp_total texts = on_total (bytes_at texts) nat_list_cmp_total

-- a text that has a number
pub stands_at : (texts : List Name) (n : ℕ) → n < length texts → slice_get texts n ≡ Some (bytes_at texts n)
stands_at texts n lt =
    let e = slice_get-get_or texts n [] lt in
    e ∙ ap (λ (o : Option Name). Some (unwrap_or o [])) (sym e)

-- texts that differ in their numbers differ in their bytes
pub texts_differ : (texts : List Name) → IsDistinct texts → (a b : ℕ) → a < length texts → b < length texts → a ≢ b
    → text_cmp texts a b ≢ Equal
texts_differ texts distinct a b p q ne tied =
    let same : bytes_at texts a ≡ bytes_at texts b = exact_bytes _ _ tied in
    ne (distinct a b (bytes_at texts b) (stands_at texts a p ∙ ap (λ (t : Name). Some t) same) (stands_at texts b q))

-- the numbers from 0 on
pub record AreFirst (n : ℕ) (numbers : List ℕ) : Type 0 where
  pub size : length numbers ≡ n
  pub each : (k d : ℕ) → k < n → get_or numbers k d ≡ k

pub different : (a b : ℕ) → a ≢ b → eqb a b ≡ false
different a b ne = elim (eqb_tells a b) [ inl w ↦ absurd (ne w.1) | inr w ↦ w.0 ]

pub unlike : (a b : ℕ) → eqb a b ≡ false → a ≢ b
unlike a b e same = elim (eqb_tells a b) [ inl w ↦ true≢false (sym w.0 ∙ e) | inr w ↦ w.1 same ]

flips : (a b : ℕ) → eqb a b ≡ eqb b a
flips a b = elim (eqb_tells a b) [
  | inl w ↦ ap (λ (n : ℕ). eqb a n) (sym w.1) ∙ ap (λ (n : ℕ). eqb n a) w.1
  | inr w ↦ w.0 ∙ sym (different b a (λ e. w.1 (sym e)))
]

-- the numbers of the texts, moved into order
pub sorted_numbers : (texts : List Name) (numbers order : List ℕ) → IsTable texts → AreFirst (length texts) numbers
    → IsPermutation numbers order → IsSorted (text_cmp texts) order → AreInOrder texts order
sorted_numbers texts numbers order table first perm sorted =
    let size : length order ≡ length texts = length_permutation numbers order perm ∙ first.size in
    let known : All (λ n. n < length texts) order
    = All-permutation (λ n. n < length texts) numbers order perm
    (λ k d lt. omega (arith, lt, first.size, first.each k d (omega (arith, lt, first.size)))) in
    let distinct = IsDistinct-IsPermutation eqb flips numbers order perm
    (IsDistinct-from_apart eqb numbers (λ i j d lt within. different _ _
    (λ e. omega (
      arith,
      lt,
      within,
      e,
      first.size,
      first.each i d (omega (arith, lt, within, first.size)),
      first.each j d (omega (arith, within, first.size)),
    )))) in
    let apart : AllPairs (λ a b. text_cmp texts a b ≢ Equal) order
    = λ i j d lt within. texts_differ texts table.distinct (get_or order i d) (get_or order j d)
    (known i d (omega (arith, lt, within))) (known j d within)
    (unlike _ _ (apart_from_distinct eqb order i j d distinct lt within)) in
    record {
      size = size;
      few = omega (arith, size, table.few);
      each = λ n lt. Contains-permutation numbers order n perm (n, omega (arith, lt, first.size), first.each n n lt);
      known = λ k d lt. omega (arith, known k d lt, size);
      rises = pairs_rise (text_cmp_total texts) order sorted apart;
    }

-- numbers in order differ
pub order_differs : (texts : List Name) (order : List ℕ) → AreInOrder texts order → AllPairs (λ m n. m ≢ n) order
order_differs texts order is i j d lt within same =
    let less = is.rises i j d lt within in
    let tied = tied_itself (text_cmp_total texts) (get_or order i d) in
    let e : Equal ≡ Less = sym tied ∙ ap (λ (n : ℕ). text_cmp texts (get_or order i d) n) same ∙ less in
    absurd (cc)

-- places compare as the texts do
places_compare : (texts : List Name) (order : List ℕ) → AreInOrder texts order → (i j : ℕ) → i < length order → j < length order
    → nat_cmp i j ≡ text_cmp texts (get_or order i 0) (get_or order j 0)
places_compare texts order is i j p q = elim (cases_lt i j) [
  | inl lt ↦ sym (nat_cmp_is i j Less lt) ∙ sym (is.rises i j 0 lt q)
  | inr le ↦ elim (cases_lt j i) [
    | inl lt ↦ sym (nat_cmp_is i j Greater lt)
        ∙ sym ((text_cmp_total texts).antisymm _ _ ∙ ap ordering_reverse (is.rises j i 0 lt p))
    | inr ge ↦
        let e : i ≡ j = omega (arith, le, ge) in
        sym (nat_cmp_is i j Equal e) ∙ sym (tied_itself (text_cmp_total texts) (get_or order i 0))
        ∙ ap (λ (k : ℕ). text_cmp texts (get_or order i 0) (get_or order k 0)) e
  ]
]

pub places_are_ranks : (texts : List Name) (order places : List ℕ) → AreInOrder texts order → ArePlaces order places
    → AreRanks texts places
places_are_ranks texts order places is at = record {
  size = at.size ∙ is.size;
  order = λ a b p q.
      let x = is.each a.0 p in
      let y = is.each b.0 q in
      let xs : get_or order x.0 0 ≡ a.0 = get_or_default order x.0 0 a.0 x.1 ∙ x.2 in
      let ys : get_or order y.0 0 ≡ b.0 = get_or_default order y.0 0 b.0 y.1 ∙ y.2 in
      let rx : get_or places a.0 0 ≡ x.0 = ap (λ (n : ℕ). get_or places n 0) (sym xs) ∙ at.each x.0 x.1 in
      let ry : get_or places b.0 0 ≡ y.0 = ap (λ (n : ℕ). get_or places n 0) (sym ys) ∙ at.each y.0 y.1 in
      let c : nat_cmp (get_or places a.0 0) (get_or places b.0 0) ≡ nat_cmp x.0 y.0 = λ i. nat_cmp (rx i) (ry i) in
      let t : text_cmp texts (get_or order x.0 0) (get_or order y.0 0) ≡ text_cmp texts a.0 b.0
      = λ i. text_cmp texts (xs i) (ys i) in
      c ∙ places_compare texts order is x.0 y.0 x.1 y.1 ∙ t;
}
