-- The slots of the arenas, and what is out of them.
use Rattle.std.proofs.Common.{◌≡◌, ℕ, zero, suc, ◌+◌, ◌-◌, ◌*◌, ◌<◌, ◌≤◌, inl, inr, List, [], ◌∷◌, ◌++◌, length, get_or, set, refl, sym, ap, subst, ◌∙◌, arith, Option, Some, None, length-set}
use Rattle.std.specs.Prelude.{IsSome}
use Rattle.raw_region.specs.declared.maker.Maker.{Maker}
use Rattle.raw_region.specs.Region.{RegionView}
use Rattle.extents.specs.Extent.{Extent, covers, begins, region_extent}
use Rattle.extents.specs.Sums.{tally, Has, Inserted, Removed}
use Rattle.extents.proofs.CallerLemmas.{inserted_first, inserted_under, length_inserted, covers_in, covers_out, covered, begins_tells}
use Rattle.sources.specs.Source.{Granted, IsArena}
use Rattle.sources.specs.Memory.{arena_window, slot_place, IsLeastFreeSlot}
use Rattle.sources.specs.Kept.{slots_out, first_slot, taken, AreSlots, IsSlotPlace, TakesSlot}

-- the extent of the arena in slot i, where the first slot begins at b
abbrev pub in_slot : ℕ → ℕ → Maker → Extent
in_slot b i maker = record { place = b + i * 0x100000; len = 0x100000; maker = maker }

-- ---- which addresses are out

below_first : (x b : ℕ) (ss : List (Option Maker)) → x < b → (tally (covers x) (slots_out b ss) ≡ 0) × (tally (begins x) (slots_out b ss) ≡ 0)
below_first x b [] lt = (refl, refl)
below_first x b (None ∷ ss) lt = below_first x (b + 0x100000) ss (omega arith)
below_first x b (Some m ∷ ss) lt =
    let more = below_first x (b + 0x100000) ss (omega arith) in let e : Extent = record { place = b; len = 0x100000; maker = m } in
    let none = covers_out x e (inl lt) in
    (omega arith, elim (begins_tells x e) [ inl q ↦ absurd (omega arith) | inr q ↦ omega arith ])

-- an address of slot i is out where the slot is taken
pub slot_covers : (x b i : ℕ) (ss : List (Option Maker)) → b + i * 0x100000 ≤ x → x < b + i * 0x100000 + 0x100000 → tally (covers x) (slots_out b ss) ≡ taken (get_or ss i None)
slot_covers x b i [] low high = refl
slot_covers x b zero (None ∷ ss) low high = (below_first x (b + 0x100000) ss (omega arith)).0
slot_covers x b zero (Some m ∷ ss) low high =
    let none = below_first x (b + 0x100000) ss (omega arith) in let one = covers_in x (record { place = b; len = 0x100000; maker = m }) (omega arith) (omega arith) in omega arith
slot_covers x b (suc n) (None ∷ ss) low high = slot_covers x (b + 0x100000) n ss (omega arith) (omega arith)
slot_covers x b (suc n) (Some m ∷ ss) low high =
    let more = slot_covers x (b + 0x100000) n ss (omega arith) (omega arith) in let none = covers_out x (record { place = b; len = 0x100000; maker = m }) (inr (omega arith)) in omega arith

-- a region begins where slot i does, where the slot is taken
pub slot_begins : (x b i : ℕ) (ss : List (Option Maker)) → x ≡ b + i * 0x100000 → tally (begins x) (slots_out b ss) ≡ taken (get_or ss i None)
slot_begins x b i [] is = refl
slot_begins x b zero (None ∷ ss) is = (below_first x (b + 0x100000) ss (omega arith)).1
slot_begins x b zero (Some m ∷ ss) is =
    let none = below_first x (b + 0x100000) ss (omega arith) in
    elim (begins_tells x (record { place = b; len = 0x100000; maker = m })) [ inl q ↦ omega arith | inr q ↦ absurd (q.1 (omega arith)) ]
slot_begins x b (suc n) (None ∷ ss) is = slot_begins x (b + 0x100000) n ss (omega arith)
slot_begins x b (suc n) (Some m ∷ ss) is =
    let more = slot_begins x (b + 0x100000) n ss (omega arith) in
    elim (begins_tells x (record { place = b; len = 0x100000; maker = m })) [ inl q ↦ absurd (omega arith) | inr q ↦ omega arith ]

-- ---- slots that are taken and given back

moved : (b n : ℕ) (m : Maker) → in_slot (b + 0x100000) n m ≡ in_slot b (suc n) m
moved b n m = let e : b + 0x100000 + n * 0x100000 ≡ b + suc n * 0x100000 = omega arith in λ i. record { place = e i; len = 0x100000; maker = m }

at_first : (b : ℕ) (m : Maker) → (record { place = b; len = 0x100000; maker = m }) ≡ in_slot b 0 m
at_first b m = let e : b ≡ b + 0 * 0x100000 = omega arith in λ i. record { place = e i; len = 0x100000; maker = m }

pub slot_taken : (b i : ℕ) (m : Maker) (ss : List (Option Maker)) → i < length ss → get_or ss i None ≡ None → Inserted (in_slot b i m) (slots_out b ss) (slots_out b (set ss i (Some m)))
slot_taken b i m [] inside free = absurd (omega arith)
slot_taken b zero m (None ∷ ss) inside free =
    subst (λ e. Inserted e (slots_out (b + 0x100000) ss) (slots_out b (Some m ∷ ss))) (at_first b m) (inserted_first (record { place = b; len = 0x100000; maker = m }) (slots_out (b + 0x100000) ss))
slot_taken b zero m (Some k ∷ ss) inside free = cc
slot_taken b (suc n) m (None ∷ ss) inside free =
    subst (λ e. Inserted e (slots_out (b + 0x100000) ss) (slots_out (b + 0x100000) (set ss n (Some m)))) (moved b n m) (slot_taken (b + 0x100000) n m ss (omega arith) free)
slot_taken b (suc n) m (Some k ∷ ss) inside free =
    inserted_under (record { place = b; len = 0x100000; maker = k }) (in_slot b (suc n) m) (slots_out (b + 0x100000) ss) (slots_out (b + 0x100000) (set ss n (Some m)))
    (subst (λ e. Inserted e (slots_out (b + 0x100000) ss) (slots_out (b + 0x100000) (set ss n (Some m)))) (moved b n m) (slot_taken (b + 0x100000) n m ss (omega arith) free))

pub slot_given : (b i : ℕ) (m : Maker) (ss : List (Option Maker)) → get_or ss i None ≡ Some m → Removed (in_slot b i m) (slots_out b ss) (slots_out b (set ss i None))
slot_given b i m [] was = cc
slot_given b zero m (None ∷ ss) was = cc
slot_given b zero m (Some k ∷ ss) was =
    let same : k ≡ m = cc in
    subst (λ j. Inserted (in_slot b 0 m) (slots_out (b + 0x100000) ss) (slots_out b (Some j ∷ ss))) (sym same)
    (subst (λ e. Inserted e (slots_out (b + 0x100000) ss) (slots_out b (Some m ∷ ss))) (at_first b m) (inserted_first (record { place = b; len = 0x100000; maker = m }) (slots_out (b + 0x100000) ss)))
slot_given b (suc n) m (None ∷ ss) was =
    subst (λ e. Inserted e (slots_out (b + 0x100000) (set ss n None)) (slots_out (b + 0x100000) ss)) (moved b n m) (slot_given (b + 0x100000) n m ss was)
slot_given b (suc n) m (Some k ∷ ss) was =
    inserted_under (record { place = b; len = 0x100000; maker = k }) (in_slot b (suc n) m) (slots_out (b + 0x100000) (set ss n None)) (slots_out (b + 0x100000) ss)
    (subst (λ e. Inserted e (slots_out (b + 0x100000) (set ss n None)) (slots_out (b + 0x100000) ss)) (moved b n m) (slot_given (b + 0x100000) n m ss was))

-- the slot of a region that is out
pub record Slot (b : ℕ) (ss : List (Option Maker)) (e : Extent) : Type 0 where
  pub slot : ℕ
  pub inside : slot < length ss
  pub is : get_or ss slot None ≡ Some e.maker
  pub place : e.place ≡ b + slot * 0x100000
  pub long : e.len ≡ 0x100000

pub slot_of : (b : ℕ) (ss : List (Option Maker)) (e : Extent) → Has e (slots_out b ss) → Slot b ss e
slot_of b [] e has = absurd has
slot_of b (None ∷ ss) e has =
    let s = slot_of (b + 0x100000) ss e has in record { slot = suc s.slot; inside = omega (arith, s.inside); is = s.is; place = omega (arith, s.place); long = s.long }
slot_of b (Some m ∷ ss) e (inl same) =
    let place : b ≡ e.place = ap (λ x. x.place) same in
    record { slot = 0; inside = omega arith; is = ap (λ x. Some x.maker) same; place = omega arith; long = sym (ap (λ x. x.len) same) }
slot_of b (Some m ∷ ss) e (inr has) =
    let s = slot_of (b + 0x100000) ss e has in record { slot = suc s.slot; inside = omega (arith, s.inside); is = s.is; place = omega (arith, s.place); long = s.long }

-- ---- how many are out

-- where the slots begin does not matter
pub length_anywhere : (b c : ℕ) (ss : List (Option Maker)) → length (slots_out b ss) ≡ length (slots_out c ss)
length_anywhere b c [] = refl
length_anywhere b c (None ∷ ss) = length_anywhere (b + 0x100000) (c + 0x100000) ss
length_anywhere b c (Some m ∷ ss) = let e = length_anywhere (b + 0x100000) (c + 0x100000) ss in omega arith

-- where fewer are out than there are slots, one of them is free
pub some_free : (b : ℕ) (ss : List (Option Maker)) → length (slots_out b ss) < length ss → (i : ℕ) × ((i < length ss) × (taken (get_or ss i None) ≡ 0))
some_free b [] few = absurd (omega arith)
some_free b (None ∷ ss) few = (0, (omega arith, refl))
some_free b (Some m ∷ ss) few = let r = some_free (b + 0x100000) ss (omega arith) in let lt = r.1.0 in (suc r.0, (omega arith, r.1.1))

-- where none is out, none of them is taken
pub none_taken : (b : ℕ) (ss : List (Option Maker)) → slots_out b ss ≡ [] → (j : ℕ) → taken (get_or ss j None) ≡ 0
none_taken b [] none j = refl
none_taken b (None ∷ ss) none zero = refl
none_taken b (None ∷ ss) none (suc j) = none_taken (b + 0x100000) ss none j
none_taken b (Some m ∷ ss) none j = absurd (cc)

-- one more free slot
pub free_more : (b : ℕ) (ss : List (Option Maker)) → slots_out b (ss ++ None ∷ []) ≡ slots_out b ss
free_more b [] = refl
free_more b (None ∷ ss) = free_more (b + 0x100000) ss
free_more b (Some m ∷ ss) = ap (λ l. record { place = b; len = 0x100000; maker = m } ∷ l) (free_more (b + 0x100000) ss)

-- where none is out of the slots, none is, wherever they begin
pub none_anywhere : (b c : ℕ) (ss : List (Option Maker)) → length (slots_out b ss) ≡ 0 → slots_out c ss ≡ []
none_anywhere b c [] none = refl
none_anywhere b c (None ∷ ss) none = none_anywhere (b + 0x100000) (c + 0x100000) ss none
none_anywhere b c (Some m ∷ ss) none = absurd (omega arith)

taken_some : (o : Option Maker) → IsSome o → taken o ≡ 1
taken_some None some = cc
taken_some (Some m) some = refl

-- ---- a region that is granted, and one that comes back

module _ (skew held max : ℕ) (ss : List (Option Maker)) (kept : AreSlots ss skew held max) where
  abbrev out : List (Option Maker) → List Extent
  out slots = slots_out (first_slot skew) slots

  module _ (region : RegionView) (new : List (Option Maker)) (t : TakesSlot skew region ss new) where
    base_is : region.base ≡ first_slot skew + t.slot * 0x100000
    base_is = omega (arith, t.made.base)

    extent_is : in_slot (first_slot skew) t.slot region.maker ≡ region_extent region
    extent_is = let p = sym base_is in let l = sym t.made.len in λ i. record { place = p i; len = l i; maker = region.maker }

    pub added : Inserted (region_extent region) (out ss) (out new)
    added =
        subst (λ e. Inserted e (out ss) (out new)) extent_is
        (subst (λ l. Inserted (in_slot (first_slot skew) t.slot region.maker) (out ss) (out l)) (sym t.is) (slot_taken (first_slot skew) t.slot region.maker ss (omega (arith, kept.all, t.inside)) t.free))

    pub granted : Granted region arena_window (out ss) (out new)
    granted = record {
      home = t.made.home;
      inside = (omega (arith, base_is), omega (arith, base_is, t.made.len, t.inside, t.shift));
      apart = λ x c.
          let within = covered x (region_extent region) c in
          slot_covers x (first_slot skew) t.slot ss (omega (arith, base_is, within.0)) (omega (arith, base_is, t.made.len, within.1)) ∙ ap taken t.free;
      added = added;
    }

    pub arena : IsArena region
    arena = record { len = t.made.len; aligned = omega (arith, base_is); somewhere = omega (arith, base_is) }

    pub least : IsLeastFreeSlot skew (out ss) region.base
    least = record {
      slot = t.slot;
      is = t.made.base;
      free = slot_begins region.base (first_slot skew) t.slot ss base_is ∙ ap taken t.free;
      below = λ j lt. slot_begins (slot_place skew j) (first_slot skew) j ss (omega arith) ∙ taken_some (get_or ss j None) (t.below j lt);
    }

    pub slots_more : AreSlots new skew (held + 1) max
    slots_more = record {
      all = ap length t.is ∙ length-set ss t.slot (Some region.maker) ∙ kept.all;
      count = omega (arith, kept.count, length_inserted (region_extent region) (out ss) (out new) added);
      most = kept.most;
    }

  module _ (e : Extent) (has : Has e (out ss)) where
    -- where it begins
    pub place_of_slot : IsSlotPlace skew e.place
    place_of_slot = let s = slot_of (first_slot skew) ss e has in record { slot = s.slot; inside = omega (arith, s.inside, kept.all); is = omega (arith, s.place) }

    module _ (i : ℕ) (is : slot_place skew i ≡ e.place) where
      slot_is : i ≡ (slot_of (first_slot skew) ss e has).slot
      slot_is = let s = slot_of (first_slot skew) ss e has in omega (arith, s.place)

      pub given : Removed e (out ss) (out (set ss i None))
      given =
          let s = slot_of (first_slot skew) ss e has in
          let same : in_slot (first_slot skew) s.slot e.maker ≡ e = let p = sym s.place in let l = sym s.long in λ k. record { place = p k; len = l k; maker = e.maker } in
          subst (λ x. Inserted x (out (set ss i None)) (out ss)) same
          (subst (λ j. Inserted (in_slot (first_slot skew) s.slot e.maker) (out (set ss j None)) (out ss)) (sym slot_is) (slot_given (first_slot skew) s.slot e.maker ss s.is))

      pub slots_fewer : (1 ≤ held) × AreSlots (set ss i None) skew (held - 1) max
      slots_fewer =
          let less = length_inserted e (out (set ss i None)) (out ss) given in
          (omega (arith, kept.count), record { all = length-set ss i None ∙ kept.all; count = omega (arith, kept.count); most = kept.most })
