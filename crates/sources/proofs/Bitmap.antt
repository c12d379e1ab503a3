-- The bits that tell which slots are taken.
use Rattle.std.proofs.Common.{◌≡◌, ◌≢◌, ℕ, ◌<◌, inl, inr, List, [], length, get_or, set, Option, Some, None, refl, sym, ap, subst, ◌∙◌, arith}
use Rattle.std.proofs.lemmas.Bool.Decides.{eqb_tells}
use Rattle.std.proofs.lemmas.List.{get_or-set_same, get_or-set_other}
use Rattle.std.specs.Prelude.{IsSome}
use Rattle.raw_region.specs.declared.maker.Maker.{Maker}
use Rattle.sources.specs.Bits.{bit_in, HasClear}
use Rattle.sources.specs.Kept.{slots_out, taken, AreTold}
use Rattle.sources.proofs.Slots.{none_taken, some_free}

-- a slot by what is told of it
free_slot : (o : Option Maker) → taken o ≡ 0 → o ≡ None
free_slot None is = refl
free_slot (Some m) is = absurd (omega arith)

taken_slot : (o : Option Maker) → taken o ≡ 1 → IsSome o
taken_slot None is = absurd (omega arith)
taken_slot (Some m) is = refl

-- at first none is taken
pub new_told : (slots : List (Option Maker)) (words : List ℕ) → slots_out 0 slots ≡ [] → length words ≡ 16 → ((j : ℕ) → bit_in words j ≡ 0) → AreTold slots words
new_told slots words none long clear = record { all = long; bits = λ j lt. clear j ∙ sym (none_taken 0 slots none j) }

module _ (slots : List (Option Maker)) (words : List ℕ) (all : length slots ≡ 1024) (told : AreTold slots words) where
  -- where there is room, one of the bits is 0
  pub has_clear : length (slots_out 0 slots) < 1024 → HasClear words
  has_clear room =
      let f = some_free 0 slots (omega arith) in let lt = f.1.0 in let long = told.all in
      record { k = f.0; inside = omega arith; clear = told.bits f.0 (omega arith) ∙ f.1.1 }

  -- one slot and its bit change
  pub still_told : (k : ℕ) (o : Option Maker) (new : List ℕ) → k < 1024 → bit_in new k ≡ taken o → ((j : ℕ) → j ≢ k → bit_in new j ≡ bit_in words j) → length new ≡ length words → AreTold (set slots k o) new
  still_told k o new inside mine others long = record {
    all = long ∙ told.all;
    bits = λ j lt. elim (eqb_tells j k) [
      | inl w ↦ subst (λ i. bit_in new i ≡ taken (get_or (set slots k o) i None)) (sym w.1) (mine ∙ ap taken (sym (get_or-set_same slots k o None (omega arith))))
      | inr w ↦ others j w.1 ∙ (told.bits j lt ∙ ap taken (sym (get_or-set_other slots k j o None w.1)))
    ];
  }

  -- a bit of 0 tells of a free slot, and one of 1 of a slot that is taken
  pub is_free : (k : ℕ) → k < 1024 → bit_in words k ≡ 0 → get_or slots k None ≡ None
  is_free k inside bit = free_slot (get_or slots k None) (sym (told.bits k inside) ∙ bit)

  pub is_taken : (k : ℕ) → k < 1024 → bit_in words k ≡ 1 → IsSome (get_or slots k None)
  is_taken k inside bit = taken_slot (get_or slots k None) (sym (told.bits k inside) ∙ bit)
