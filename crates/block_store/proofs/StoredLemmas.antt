-- The memory of the blocks in slots, as a block comes or goes.
use Rattle.std.proofs.Common.{◌≡◌, ℕ, zero, suc, ◌+◌, ◌<◌, ◌≤◌, Bool, cond, List, [], ◌∷◌, ◌++◌, length}
use Rattle.std.proofs.Common.{get_or, set, replicate, Option, Some, None, refl, sym, ap, subst, ◌∙◌, arith}
use Rattle.std.proofs.Common.{inl, inr, length-append, true≢false}
use Rattle.std.specs.Option.{option_map}
use Rattle.std.specs.Prelude.{◌%◌, ◌==◌, if◌then◌else◌, IsSome}
use Rattle.std.proofs.lemmas.Bool.Decides.{eqb_tells}
use Rattle.std.proofs.lemmas.List.{get_or-set_same, get_or-set_other, length-set, set-get_or}
use Rattle.std.specs.Int.{to_be_bytes, w64}
use Rattle.block_model.specs.Block.{image_of, size_of}
use Rattle.extents.specs.Extent.{Extent, AreApart, covers}
use Rattle.extents.specs.Sums.{tally, AllIn, Has, Inserted, Removed}
use Rattle.extents.proofs.CallerLemmas.{all_in_fewer, all_in_more, inserted_first, inserted_under, tally_has}
use Rattle.extents.proofs.CallerLemmas.{tally_inserted}
use Rattle.debug_guard.specs.Guard.{Guard, guard_extent}
use Rattle.block_store.specs.Slots.{IsStored, extents_of}

abbrev Slot : Type 0
Slot = Option Guard

abbrev at : List Slot → ℕ → Slot
at slots i = get_or slots i None

-- each block begins at a multiple of 16
abbrev AreAligned : List Slot → Type 0
AreAligned slots = (j : ℕ) (g : Guard) → at slots j ≡ Some g → g.place % 16 ≡ 0

-- they do so too once one slot is set
aligned_set : (slots : List Slot) (i : ℕ) (o : Slot) → i < length slots → ((g : Guard) → o ≡ Some g → g.place % 16 ≡ 0)
    → AreAligned slots → AreAligned (set slots i o)
aligned_set slots i o lt new old j g is = elim (eqb_tells j i) [
  | inl here ↦ new g (sym (get_or-set_same slots i o None lt) ∙ ap (at (set slots i o)) (sym here.1) ∙ is)
  | inr away ↦ old j g (sym (get_or-set_other slots i j o None away.1) ∙ is)
]

aligned_some : (g h : Guard) → g.place % 16 ≡ 0 → Some g ≡ Some h → h.place % 16 ≡ 0
aligned_some g h aligned same = let e : g ≡ h = cc in subst (λ (x : Guard). x.place % 16 ≡ 0) e aligned

-- a block comes into a free slot
more_extents : (slots : List Slot) (i : ℕ) (g : Guard) → i < length slots → at slots i ≡ None → Inserted (guard_extent g) (extents_of slots) (extents_of (set slots i (Some g)))
more_extents [] i g lt free = absurd (omega arith)
more_extents (None ∷ ss) zero g lt free = inserted_first (guard_extent g) (extents_of ss)
more_extents (Some x ∷ ss) zero g lt free = absurd cc
more_extents (None ∷ ss) (suc i) g lt free = more_extents ss i g (omega arith) free
more_extents (Some x ∷ ss) (suc i) g lt free = inserted_under (guard_extent x) (guard_extent g) (extents_of ss) (extents_of (set ss i (Some g))) (more_extents ss i g (omega arith) free)

-- a block goes
fewer_extents : (slots : List Slot) (i : ℕ) (g : Guard) → at slots i ≡ Some g → Removed (guard_extent g) (extents_of slots) (extents_of (set slots i None))
fewer_extents [] i g is = absurd cc
fewer_extents (None ∷ ss) zero g is = absurd cc
fewer_extents (Some x ∷ ss) zero g is =
    let e : x ≡ g = cc in
    subst (λ (y : Guard). Removed (guard_extent g) (guard_extent y ∷ extents_of ss) (extents_of ss)) (sym e) (inserted_first (guard_extent g) (extents_of ss))
fewer_extents (None ∷ ss) (suc i) g is = fewer_extents ss i g is
fewer_extents (Some x ∷ ss) (suc i) g is = inserted_under (guard_extent x) (guard_extent g) (extents_of (set ss i None)) (extents_of ss) (fewer_extents ss i g is)

-- a block changes where it lies
same_extents : (slots : List Slot) (i : ℕ) (g h : Guard) → at slots i ≡ Some g → guard_extent h ≡ guard_extent g → extents_of (set slots i (Some h)) ≡ extents_of slots
same_extents [] i g h is same = refl
same_extents (None ∷ ss) zero g h is same = absurd cc
same_extents (Some x ∷ ss) zero g h is same =
    let e : x ≡ g = cc in
    ap (λ (d : Extent). d ∷ extents_of ss) (same ∙ ap guard_extent (sym e))
same_extents (None ∷ ss) (suc i) g h is same = same_extents ss i g h is same
same_extents (Some x ∷ ss) (suc i) g h is same = ap (λ (l : List Extent). guard_extent x ∷ l) (same_extents ss i g h is same)

has_extent : (slots : List Slot) (i : ℕ) (g : Guard) → at slots i ≡ Some g → Has (guard_extent g) (extents_of slots)
has_extent [] i g is = absurd cc
has_extent (None ∷ ss) zero g is = absurd cc
has_extent (Some x ∷ ss) zero g is =
    let e : x ≡ g = cc in
    inl (ap guard_extent e)
has_extent (None ∷ ss) (suc i) g is = has_extent ss i g is
has_extent (Some x ∷ ss) (suc i) g is = inr (has_extent ss i g is)

-- an image is its size word and the body
pub length-image_of : (body : List ℕ) → length (image_of body) ≡ length body + 8
length-image_of body =
    let eight : length (to_be_bytes w64 (size_of body)) ≡ 8 = refl in
    omega (arith, length-append (to_be_bytes w64 (size_of body)) body, eight)

pub some_bytes : (g : Guard) → 1 ≤ (guard_extent g).len
some_bytes g = omega (arith, length-append (image_of g.body) g.rest, length-image_of g.body)

-- ---- blocks in just these regions

-- the block of a slot lies in one of the extents
pub stored_has : (slots : List Slot) (loans : List Extent) (i : ℕ) (g : Guard) → IsStored slots loans → at slots i ≡ Some g → Has (guard_extent g) loans
stored_has slots loans i g stored is = stored.lent (guard_extent g) (has_extent slots i g is)

pub stored_more : (slots : List Slot) (loans more : List Extent) (i : ℕ) (g : Guard) → IsStored slots loans → i < length slots → at slots i ≡ None
    → Inserted (guard_extent g) loans more → AreApart more → g.place % 16 ≡ 0 → IsStored (set slots i (Some g)) more
stored_more slots loans more i g stored lt free added apart aligned =
    let e = guard_extent g in
    let mine = more_extents slots i g lt free in
    record {
      lent = all_in_more e (extents_of slots) (extents_of (set slots i (Some g))) loans more mine added stored.lent;
      all = λ f. omega (arith, tally_inserted f e (extents_of slots) (extents_of (set slots i (Some g))) mine, tally_inserted f e loans more added, stored.all f);
      apart = apart;
      aligned = aligned_set slots i (Some g) lt (λ h. aligned_some g h aligned) stored.aligned;
    }

pub stored_fewer : (slots : List Slot) (loans fewer : List Extent) (i : ℕ) (g : Guard) → IsStored slots loans → i < length slots → at slots i ≡ Some g
    → Removed (guard_extent g) loans fewer → AreApart fewer → IsStored (set slots i None) fewer
stored_fewer slots loans fewer i g stored lt is gone apart =
    let e = guard_extent g in
    let mine = fewer_extents slots i g is in
    let own : AreApart (extents_of slots) = λ x. omega (arith, stored.all (covers x), stored.apart x) in
    record {
      lent = all_in_fewer e (extents_of slots) (extents_of (set slots i None)) loans fewer (some_bytes g) own mine gone stored.lent;
      all = λ f. omega (arith, tally_inserted f e (extents_of (set slots i None)) (extents_of slots) mine, tally_inserted f e fewer loans gone, stored.all f);
      apart = apart;
      aligned = aligned_set slots i None lt (λ h none. absurd cc) stored.aligned;
    }

-- a block h comes, and then the block g of a slot goes: h takes its slot
pub stored_moved : (slots : List Slot) (loans between now : List Extent) (i : ℕ) (g h : Guard) → IsStored slots loans → i < length slots → at slots i ≡ Some g
    → Inserted (guard_extent h) loans between → AreApart between → Removed (guard_extent g) between now → AreApart now → h.place % 16 ≡ 0 → IsStored (set (set slots i None) i (Some h)) now
stored_moved slots loans between now i g h stored lt is added middle gone apart aligned =
    let e = guard_extent h in
    let d = guard_extent g in
    let rest = set slots i None in
    let long : i < length rest = omega (arith, lt, length-set slots i no_slot) in
    let free = get_or-set_same slots i None None lt in
    let less = fewer_extents slots i g is in
    let more = more_extents rest i h long free in
    let both : AllIn (e ∷ extents_of slots) between = all_in_more e (extents_of slots) (e ∷ extents_of slots) loans between (inserted_first e (extents_of slots)) added stored.lent in
    let own : AreApart (e ∷ extents_of slots) = λ x. omega (arith, tally_inserted (covers x) e loans between added, stored.all (covers x), middle x) in
    let left : AllIn (e ∷ extents_of rest) now =
    all_in_fewer d (e ∷ extents_of slots) (e ∷ extents_of rest) between now (some_bytes g) own (inserted_under e d (extents_of rest) (extents_of slots) less) gone both in
    record {
      lent = λ x has. left x (all_in_more e (extents_of rest) (extents_of (set rest i (Some h))) (extents_of rest) (e ∷ extents_of rest) more (inserted_first e (extents_of rest)) (λ y there. there) x has);
      all = λ f. omega (
        arith,
        tally_inserted f e (extents_of rest) (extents_of (set rest i (Some h))) more,
        tally_inserted f d (extents_of rest) (extents_of slots) less,
        tally_inserted f e loans between added,
        tally_inserted f d now between gone,
        stored.all f,
      );
      apart = apart;
      aligned =
          aligned_set rest i (Some h) long (λ k. aligned_some h k aligned)
          (aligned_set slots i no_slot lt (λ k none. absurd cc) stored.aligned);
    }
  where
    no_slot : Slot
    no_slot = None

pub stored_same : (slots : List Slot) (loans : List Extent) (i : ℕ) (g h : Guard) → IsStored slots loans → i < length slots → at slots i ≡ Some g → guard_extent h ≡ guard_extent g → IsStored (set slots i (Some h)) loans
stored_same slots loans i g h stored lt is same =
    let kept : extents_of (set slots i (Some h)) ≡ extents_of slots = same_extents slots i g h is same in
    record {
      lent = subst (λ (l : List Extent). AllIn l loans) (sym kept) stored.lent;
      all = λ f. ap (tally f) kept ∙ stored.all f;
      apart = stored.apart;
      aligned =
          aligned_set slots i (Some h) lt
          (λ k. aligned_some h k (ap (λ (d : Extent). d.place % 16) same ∙ stored.aligned i g is)) stored.aligned;
    }

-- a slot keeps where its block lies, whether it has one or not
pub stored_kept : (slots : List Slot) (loans : List Extent) (i : ℕ) (o : Slot) → IsStored slots loans → i < length slots → option_map guard_extent o ≡ option_map guard_extent (at slots i) → IsStored (set slots i o) loans
stored_kept slots loans i o stored lt same = by o (at slots i) refl same
  where
    by : (o p : Slot) → at slots i ≡ p → option_map guard_extent o ≡ option_map guard_extent p → IsStored (set slots i o) loans
    by None None is same = subst (λ (l : List Slot). IsStored l loans) (sym (ap (set slots i) (sym is) ∙ set-get_or slots i None)) stored
    by None (Some g) is same = absurd cc
    by (Some h) None is same = absurd cc
    by (Some h) (Some g) is same =
        let e : guard_extent h ≡ guard_extent g = cc in
        stored_same slots loans i g h stored lt is e

-- no block at any number
pub stored_none : (slots : List Slot) → ((i : ℕ) → at slots i ≡ None) → IsStored slots []
stored_none slots none =
    let empty : extents_of slots ≡ [] = no_extents slots none in
    record {
      lent = λ x has. subst (Has x) empty has;
      all = λ f. ap (tally f) empty;
      apart = λ x. omega arith;
      aligned = λ i g is. absurd (differ g (sym (none i) ∙ is));
    }
  where
    differ : (g : Guard) → None ≡ Some g → ⊥
    differ g h = absurd cc

    no_extents : (slots : List Slot) → ((i : ℕ) → at slots i ≡ None) → extents_of slots ≡ []
    no_extents [] none = refl
    no_extents (None ∷ ss) none = no_extents ss (λ i. none (suc i))
    no_extents (Some g ∷ ss) none = absurd (differ g (sym (none 0)))

-- no slot, no region
pub stored_end : (loans : List Extent) → IsStored [] loans → loans ≡ []
stored_end [] stored = refl
stored_end (e ∷ es) stored = absurd (omega (arith, stored.all (λ _. 1)))

-- ---- the last slot goes

last_extents : (slots : List Slot) (g : Guard) → Removed (guard_extent g) (extents_of (slots ++ Some g ∷ [])) (extents_of slots)
last_extents [] g = inserted_first (guard_extent g) []
last_extents (None ∷ ss) g = last_extents ss g
last_extents (Some x ∷ ss) g = inserted_under (guard_extent x) (guard_extent g) (extents_of ss) (extents_of (ss ++ Some g ∷ [])) (last_extents ss g)

last_none : (slots : List Slot) → extents_of (slots ++ None ∷ []) ≡ extents_of slots
last_none [] = refl
last_none (None ∷ ss) = last_none ss
last_none (Some x ∷ ss) = ap (λ (l : List Extent). guard_extent x ∷ l) (last_none ss)

pub at_front : (slots : List Slot) (last : Slot) (i : ℕ) (g : Guard) → at slots i ≡ Some g → at (slots ++ last ∷ []) i ≡ Some g
at_front [] last i g is = absurd cc
at_front (s ∷ ss) last zero g is = is
at_front (s ∷ ss) last (suc i) g is = at_front ss last i g is

pub at_last : (slots : List Slot) (last : Slot) → at (slots ++ last ∷ []) (length slots) ≡ last
at_last [] last = refl
at_last (s ∷ ss) last = at_last ss last

pub last_has : (slots : List Slot) (g : Guard) (loans : List Extent) → IsStored (slots ++ Some g ∷ []) loans → Has (guard_extent g) loans
last_has slots g loans stored = stored_has (slots ++ Some g ∷ []) loans (length slots) g stored (at_last slots (Some g))

pub stored_pop_some : (slots : List Slot) (g : Guard) (loans fewer : List Extent) → IsStored (slots ++ Some g ∷ []) loans → Removed (guard_extent g) loans fewer → AreApart fewer → IsStored slots fewer
stored_pop_some slots g loans fewer stored gone apart =
    let e = guard_extent g in
    let all = extents_of (slots ++ Some g ∷ []) in
    let mine = last_extents slots g in
    let own : AreApart all = λ x. omega (arith, stored.all (covers x), stored.apart x) in
    record {
      lent = all_in_fewer e all (extents_of slots) loans fewer (some_bytes g) own mine gone stored.lent;
      all = λ f. omega (arith, tally_inserted f e (extents_of slots) all mine, tally_inserted f e fewer loans gone, stored.all f);
      apart = apart;
      aligned = λ i h is. stored.aligned i h (at_front slots (Some g) i h is);
    }

pub stored_pop_none : (slots : List Slot) (loans : List Extent) → IsStored (slots ++ None ∷ []) loans → IsStored slots loans
stored_pop_none slots loans stored =
    let same : extents_of (slots ++ None ∷ []) ≡ extents_of slots = last_none slots in
    record {
      lent = subst (λ (l : List Extent). AllIn l loans) same stored.lent;
      all = λ f. sym (ap (tally f) same) ∙ stored.all f;
      apart = stored.apart;
      aligned = λ i h is. stored.aligned i h (at_front slots None i h is);
    }

-- one more slot, without a block
pub stored_push_none : (slots : List Slot) (loans : List Extent) → IsStored slots loans → IsStored (slots ++ None ∷ []) loans
stored_push_none slots loans stored =
    let same : extents_of (slots ++ None ∷ []) ≡ extents_of slots = last_none slots in
    record {
      lent = subst (λ (l : List Extent). AllIn l loans) (sym same) stored.lent;
      all = λ f. ap (tally f) same ∙ stored.all f;
      apart = stored.apart;
      aligned = λ i h is. stored.aligned i h (at_no_last slots i h is);
    }
  where
    at_no_last : (slots : List Slot) (i : ℕ) (h : Guard) → at (slots ++ None ∷ []) i ≡ Some h → at slots i ≡ Some h
    at_no_last [] zero h is = absurd cc
    at_no_last [] (suc i) h is = absurd cc
    at_no_last (s ∷ ss) zero h is = is
    at_no_last (s ∷ ss) (suc i) h is = at_no_last ss i h is

-- no block at any number
pub none_in : (n i : ℕ) → at (replicate n None) i ≡ None
none_in zero i = refl
none_in (suc n) zero = refl
none_in (suc n) (suc i) = none_in n i

-- once no slot is left, no extent is
pub last_left : (slots : List Slot) (o : Option Slot) (loans : List Extent) → (0 < length slots → IsSome o) → o ≡ None → IsStored slots loans → loans ≡ []
last_left [] o loans some none stored = stored_end loans stored
last_left (s ∷ ss) o loans some none stored =
    let is : IsSome {T = Slot} None = subst IsSome none (some (omega arith)) in
    absurd (true≢false (sym is))

-- ---- each block has bytes

-- 1 for an extent without bytes
abbrev is_empty : Extent → ℕ
is_empty e = if e.len == 0 then 1 else 0

full : (e : Extent) → 1 ≤ e.len → is_empty e ≡ 0
full e some = elim (eqb_tells e.len 0) [
  | inl none ↦ absurd (omega (arith, none.1, some))
  | inr other ↦ ap (λ (b : Bool). cond b 1 0) other.0
]

not_empty : (e : Extent) → is_empty e ≡ 0 → 1 ≤ e.len
not_empty e is = elim (eqb_tells e.len 0) [
  | inl none ↦ absurd (omega (arith, is, ap (λ (b : Bool). cond {A = ℕ} b 1 0) none.0))
  | inr other ↦ by e.len other.1
]
  where
    by : (n : ℕ) → (n ≡ 0 → ⊥) → 1 ≤ n
    by zero other = absurd (other refl)
    by (suc n) other = omega arith

none_empty : (slots : List Slot) → tally is_empty (extents_of slots) ≡ 0
none_empty [] = refl
none_empty (None ∷ ss) = none_empty ss
none_empty (Some g ∷ ss) = omega (arith, full (guard_extent g) (some_bytes g), none_empty ss)

pub stored_long : (slots : List Slot) (loans : List Extent) (e : Extent) → IsStored slots loans → Has e loans → 1 ≤ e.len
stored_long slots loans e stored has = not_empty e (omega (arith, tally_has is_empty e loans has, stored.all is_empty, none_empty slots))
