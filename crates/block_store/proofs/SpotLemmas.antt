-- The spots of blocks in slots.
use Rattle.std.proofs.Common.{◌≡◌, ℕ, zero, suc, ◌+◌, ◌<◌, ◌≤◌, Bool, true, false, cond, List, [], ◌∷◌, ◌++◌}
use Rattle.std.proofs.Common.{length, get_or, take, Option, Some, None, refl, sym, ap, subst, ◌∙◌, arith, inl}
use Rattle.std.proofs.Common.{inr, ◌⊎◌, length-append}
use Rattle.py_heap.specs.Heap.{regions_of}
use Rattle.std.specs.Prelude.{◌==◌, is_some}
use Rattle.std.proofs.lemmas.Bool.Decides.{eqb_tells}
use Rattle.std.proofs.lemmas.List.{length-take-le}
use Rattle.std.proofs.Math.Seq.{take-append_seam, take-suc}
use Rattle.block_model.specs.Block.{image_of}
use Rattle.domain_api.specs.Held.{DomainsView}
use Rattle.event_model.specs.Blocks.{Block}
use Rattle.extents.specs.Extent.{covers}
use Rattle.extents.specs.Sums.{tally, Has}
use Rattle.debug_guard.specs.Guard.{Guard, guard_extent, piece_of}
use Rattle.extents.proofs.CallerLemmas.{has_left, has_right}
use Rattle.block_store.specs.Homes.{Places}
use Rattle.block_store.specs.Slots.{IsStore, block_in, block_of, blocks_of, extents_of, pieces_of, piece_in}
use Rattle.block_store.specs.Spots.{names, has_address, living, spots_from, spot_at, AreSpots, GoUpFrom}
use Rattle.block_store.specs.Spots.{IsSpot, LiesInOne}
use Rattle.block_store.specs.Store.{view_of}
use Rattle.block_store.specs.declared.spot.Spot.{Spot}
use Rattle.block_store.proofs.StoredLemmas.{length-image_of}
use Rattle.block_store.proofs.LoanLemmas.{slot_loan}
use Rattle.block_store.proofs.TurnLemmas.{at_is}

-- one more slot
spots_push : (k : ℕ) (slots : List (Option Guard)) (slot : Option Guard) → spots_from k (slots ++ slot ∷ []) ≡ spots_from k slots ++ spots_from (k + length slots) (slot ∷ [])
spots_push k [] slot =
    let none : k ≡ k + 0 = omega arith in
    ap (λ (n : ℕ). spots_from n (slot ∷ [])) none
spots_push k (None ∷ ss) slot =
    let moved : (k + 1) + length ss ≡ k + suc (length ss) = omega arith in
    spots_push (k + 1) ss slot ∙ ap (λ (n : ℕ). spots_from (k + 1) ss ++ spots_from n (slot ∷ [])) moved
spots_push k (Some g ∷ ss) slot =
    let moved : (k + 1) + length ss ≡ k + suc (length ss) = omega arith in
    ap (λ (l : List Spot). spot_at k g ∷ l) (spots_push (k + 1) ss slot ∙ ap (λ (n : ℕ). spots_from (k + 1) ss ++ spots_from n (slot ∷ [])) moved)

pub spots_take : (slots : List (Option Guard)) (at : ℕ) (slot : Option Guard) → at < length slots → slot ≡ get_or slots at slot
    → spots_from 0 (take at slots) ++ spots_from at (slot ∷ []) ≡ spots_from 0 (take (at + 1) slots)
spots_take slots at slot lt is =
    let short : 0 + length (take at slots) ≡ at = omega (arith, length-take-le at slots (omega (arith, lt))) in
    let next : at + 1 ≡ suc at = omega arith in
    let more : take (at + 1) slots ≡ take at slots ++ slot ∷ [] = ap (λ (n : ℕ). take n slots) next ∙ take-suc slots at slot lt ∙ ap (λ (s : Option Guard). take at slots ++ s ∷ []) (sym is) in
    ap (λ (n : ℕ). spots_from 0 (take at slots) ++ spots_from n (slot ∷ [])) (sym short)
    ∙ sym (spots_push 0 (take at slots) slot)
    ∙ ap (spots_from 0) (sym more)

-- a spot is that of a slot
record IsOf (k : ℕ) (slots : List (Option Guard)) (spot : Spot) : Type 0 where
  pub at : ℕ
  pub block : Guard
  pub is : get_or slots at None ≡ Some block
  pub inside : at < length slots
  pub spot_is : spot ≡ spot_at (k + at) block

is_of : (k : ℕ) (slots : List (Option Guard)) (spot : Spot) → Has spot (spots_from k slots) → IsOf k slots spot
is_of k [] spot has = absurd has
is_of k (None ∷ ss) spot has =
    let rest = is_of (k + 1) ss spot has in
    let moved : (k + 1) + rest.at ≡ k + suc rest.at = omega arith in
    record { at = suc rest.at; block = rest.block; is = rest.is; inside = omega (arith, rest.inside); spot_is = rest.spot_is ∙ ap (λ (n : ℕ). spot_at n rest.block) moved }
is_of k (Some g ∷ ss) spot has = elim has [
  | inl here ↦
      let none : k ≡ k + 0 = omega arith in
      record { at = zero; block = g; is = refl; inside = omega arith; spot_is = sym here ∙ ap (λ (n : ℕ). spot_at n g) none }
  | inr later ↦
      let rest = is_of (k + 1) ss spot later in
      let moved : (k + 1) + rest.at ≡ k + suc rest.at = omega arith in
      record { at = suc rest.at; block = rest.block; is = rest.is; inside = omega (arith, rest.inside); spot_is = rest.spot_is ∙ ap (λ (n : ℕ). spot_at n rest.block) moved }
]

-- ---- one spot for each block

abbrev held_at : List (Option Guard) → ℕ → ℕ
held_at slots i = cond (is_some (get_or slots i None)) 1 0

-- the number is k, or another
abbrev Tells : ℕ → ℕ → Type 0
Tells k i = ((k == i) ≡ true × k ≡ i) ⊎ ((k == i) ≡ false × (k ≡ i → ⊥))

other_name : (k i : ℕ) → (k ≡ i → ⊥) → Tells k i → ◌≡◌ {A = ℕ} (cond (k == i) 1 0) 0
other_name k i away (inl same) = absurd (away same.1)
other_name k i away (inr other) = ap (λ (b : Bool). cond b 1 0) other.0

same_name : (k i : ℕ) → k ≡ i → Tells k i → ◌≡◌ {A = ℕ} (cond (k == i) 1 0) 1
same_name k i here (inl same) = ap (λ (b : Bool). cond b 1 0) same.0
same_name k i here (inr other) = absurd (other.1 here)

names_low : (k i : ℕ) (slots : List (Option Guard)) → i < k → tally (names i) (spots_from k slots) ≡ 0
names_low k i [] low = refl
names_low k i (None ∷ ss) low = names_low (k + 1) i ss (omega (arith, low))
names_low k i (Some g ∷ ss) low = omega (arith, other_name k i (λ h. omega (arith, low, h)) (eqb_tells k i), names_low (k + 1) i ss (omega (arith, low)))

names_one : (k i : ℕ) (slots : List (Option Guard)) → tally (names (k + i)) (spots_from k slots) ≡ held_at slots i
names_one k i [] = refl
names_one k zero (None ∷ ss) = names_low (k + 1) (k + 0) ss (omega arith)
names_one k (suc i) (None ∷ ss) =
    let moved : k + suc i ≡ (k + 1) + i = omega arith in
    ap (λ (n : ℕ). tally (names n) (spots_from (k + 1) ss)) moved ∙ names_one (k + 1) i ss
names_one k zero (Some g ∷ ss) = omega (arith, same_name k (k + 0) (omega arith) (eqb_tells k (k + 0)), names_low (k + 1) (k + 0) ss (omega arith))
names_one k (suc i) (Some g ∷ ss) =
    let moved : k + suc i ≡ (k + 1) + i = omega arith in
    let rest : tally (names (k + suc i)) (spots_from (k + 1) ss) ≡ held_at ss i = ap (λ (n : ℕ). tally (names n) (spots_from (k + 1) ss)) moved ∙ names_one (k + 1) i ss in
    omega (arith, other_name k (k + suc i) (λ h. omega (arith, h)) (eqb_tells k (k + suc i)), rest)

-- ---- spots do not meet

addresses : (x k : ℕ) (slots : List (Option Guard)) → tally (has_address x) (spots_from k slots) ≡ tally (covers x) (extents_of slots)
addresses x k [] = refl
addresses x k (None ∷ ss) = addresses x (k + 1) ss
addresses x k (Some g ∷ ss) = ap (λ (n : ℕ). covers x (guard_extent g) + n) (addresses x (k + 1) ss)

-- ---- the order of spots

go_up_sooner : (j k : ℕ) (spots : List Spot) → j ≤ k → GoUpFrom k spots → GoUpFrom j spots
go_up_sooner j k [] le up = tt
go_up_sooner j k (spot ∷ spots) le up = (omega (arith, le, up.0), up.1)

spots_go_up : (k : ℕ) (slots : List (Option Guard)) → GoUpFrom k (spots_from k slots)
spots_go_up k [] = tt
spots_go_up k (None ∷ ss) = go_up_sooner k (k + 1) (spots_from (k + 1) ss) (omega arith) (spots_go_up (k + 1) ss)
spots_go_up k (Some g ∷ ss) = (omega arith, spots_go_up (k + 1) ss)

-- ---- a spot's block

pub blocks_length : (places : Places) (slots : List (Option Guard)) → length (blocks_of places slots) ≡ length slots
blocks_length places [] = refl
blocks_length places (s ∷ ss) = ap suc (blocks_length places ss)

piece_at : (slots : List (Option Guard)) (i : ℕ) (g : Guard) → get_or slots i None ≡ Some g → get_or (pieces_of slots) i None ≡ Some (piece_of g)
piece_at [] i g is = absurd cc
piece_at (s ∷ ss) zero g is = ap piece_in is
piece_at (s ∷ ss) (suc i) g is = piece_at ss i g is

image_there : (g : Guard) → take (length g.body + 8) (piece_of g).bytes ≡ image_of g.body
image_there g = ap (λ (n : ℕ). take n (image_of g.body ++ g.rest)) (sym (length-image_of g.body)) ∙ take-append_seam (image_of g.body) g.rest

-- a block lies in one of the regions that are held
lies : (slots : List (Option Guard)) (d : DomainsView) (i : ℕ) (g : Guard) → IsStore slots d → get_or slots i None ≡ Some g → LiesInOne (guard_extent g) ((regions_of d.heap) ++ d.raws)
lies slots d i g store is = elim (slot_loan slots d i g store is) [
  | inl pooled ↦
      let w = store.sound.heap_is.within (guard_extent g) pooled in
      record { region = w.0; is = has_left w.0 (regions_of d.heap) d.raws w.1.0; maker = w.1.1; inside = (w.1.2, w.1.3) }
  | inr raw ↦ record { region = guard_extent g; is = has_right (guard_extent g) (regions_of d.heap) d.raws raw; maker = refl; inside = (omega arith, omega arith) }
]

module _ (slots : List (Option Guard)) (d : DomainsView) (store : IsStore slots d) where
  spot_is_right : (i : ℕ) (g : Guard) → i < length slots → get_or slots i None ≡ Some g → IsSpot (living (view_of slots d)) (spot_at i g)
  spot_is_right i g lt is = record {
    known = omega (arith, lt, blocks_length d.heap.places slots);
    piece = piece_of g;
    memory = piece_at slots i g is;
    place = refl;
    len = refl;
    aligned = store.stored.aligned i g is;
    held = lies slots d i g store is;
    block = block_of d.heap.places g;
    live = at_is slots d i ∙ ap (block_in d.heap.places) is;
    room = omega (arith, length-append (image_of g.body) g.rest, length-image_of g.body);
    image = image_there g;
  }

  live_same : (o : Option Guard) → is_some (block_in d.heap.places o) ≡ is_some o
  live_same None = refl
  live_same (Some g) = refl

  pub spots_are : (spots : List Spot) → spots ≡ spots_from 0 slots → AreSpots (living (view_of slots d)) spots
  spots_are spots are = record {
    each = λ spot has.
        let of = is_of 0 slots spot (subst (Has spot) are has) in
        let same : spot ≡ spot_at of.at of.block = of.spot_is ∙ ap (λ (n : ℕ). spot_at n of.block) (omega arith) in
        subst (IsSpot (living (view_of slots d))) (sym same) (spot_is_right of.at of.block of.inside of.is);
    one = λ name lt.
        let i = name.0 in
        let same : i ≡ 0 + i = omega arith in
        ap (tally (names i)) are ∙ ap (λ (n : ℕ). tally (names n) (spots_from 0 slots)) same ∙ names_one 0 i slots
        ∙ ap (λ (b : Bool). cond b 1 0) (sym (live_same (get_or slots i None)))
        ∙ ap (λ (o : Option Block). cond (is_some o) 1 0) (sym (at_is slots d i));
    apart = λ x. omega (arith, ap (tally (has_address x)) are, addresses x 0 slots, store.stored.all (covers x), store.stored.apart x);
    ordered = subst (GoUpFrom 0) (sym are) (spots_go_up 0 slots);
  }
