-- The blocks of both heaps, as one comes or goes.
use Rattle.std.proofs.Common.{◌≡◌, ℕ, ◌<◌, ◌≤◌, List, [], ◌∷◌, ◌++◌, length, get_or, set, replicate, Option}
use Rattle.std.proofs.Common.{Some, None, refl, sym, ap, subst, ◌∙◌, inl, inr}
use Rattle.std.specs.Prelude.{IfSome, IfNone}
use Rattle.std.specs.Option.{option_map}
use Rattle.std.proofs.lemmas.Bool.Decides.{eqb_tells}
use Rattle.std.proofs.lemmas.List.{get_or-set_same, get_or-set_other, map-set}
use Rattle.mem_base.specs.declared.trace.Letter.{Letter}
use Rattle.extents.specs.Extent.{Extent}
use Rattle.extents.specs.Sums.{Has, Inserted, Removed}
use Rattle.extents.proofs.CallerLemmas.{has_either, has_left, has_right, inserted_left, inserted_right}
use Rattle.debug_guard.specs.Guard.{Guard, guard_extent}
use Rattle.py_heap.specs.Heap.{HeapView, empty_heap}
use Rattle.layout_model.specs.Sizes.{class_of, need}
use Rattle.domain_api.specs.Domains.{IsGivenUp, IsLent}
use Rattle.domain_api.specs.Held.{AreHeld, AreSound, DomainsView, IsLoan}
use Rattle.domain_api.specs.declared.answers.Asked.{Asked}
use Rattle.event_model.specs.Blocks.{Block}
use Rattle.block_store.specs.Homes.{Places, home_at}
use Rattle.block_store.specs.Slots.{IsStore, IsStored, block_in, blocks_of, loans_of}
use Rattle.block_store.proofs.HomeLemmas.{SameHomes, blocks_same, home_of_raw, home_where_placed}
use Rattle.block_store.proofs.HomeLemmas.{home_where_freed, loans_apart}
use Rattle.block_store.proofs.StoredLemmas.{stored_has, stored_long, stored_more, stored_fewer, stored_kept}
use Rattle.block_store.proofs.StoredLemmas.{stored_none, stored_pop_none, stored_pop_some, last_has, none_in}
use Rattle.block_store.proofs.Types.{Arenas, Raws, Slots}

-- the blocks of the slots are just those of both heaps
pub store_is : (slots : Slots) (d : DomainsView) (arenas : Arenas) (raws : Raws) → IsStored slots (loans_of d) → AreSound d.heap d.raws → AreHeld d arenas raws → IsStore slots d
store_is slots d arenas raws stored sound held = record {
  stored = stored;
  sound = sound;
  raw_homes = λ e has. home_of_raw d arenas raws e sound.heap_is held has (stored_long slots (loans_of d) e stored (has_right e d.heap.loans d.raws has));
}

-- the block of a slot is one of the two heaps'
pub slot_loan : (slots : Slots) (d : DomainsView) (i : ℕ) (g : Guard) → IsStore slots d → get_or slots i None ≡ Some g → IsLoan (guard_extent g) d
slot_loan slots d i g store is = has_either (guard_extent g) d.heap.loans d.raws (stored_has slots (loans_of d) i g store.stored is)

-- ---- a block comes

-- what was lent, among the blocks of both heaps
pub lent_is : (v : Letter) (n fill : ℕ) (g : Guard) (asked : Asked) (old new : DomainsView) → IsLent v n fill g asked old new → Inserted (guard_extent g) (loans_of old) (loans_of new)
lent_is v n fill g asked old new lent = elim lent.lies [
  | inl small ↦
      let more : Inserted (guard_extent g) old.heap.loans new.heap.loans = subst (λ (e : Extent). Inserted e old.heap.loans new.heap.loans) small.there small.serves.got.1.lent in
      subst (λ (l : List Extent). Inserted (guard_extent g) (loans_of old) (new.heap.loans ++ l)) (sym small.raws) (inserted_left (guard_extent g) old.heap.loans new.heap.loans old.raws more)
  | inr large ↦
      subst (λ (h : HeapView). Inserted (guard_extent g) (loans_of old) (h.loans ++ new.raws)) (sym large.heap) (inserted_right (guard_extent g) old.raws new.raws old.heap.loans large.lent)
]

module _ (old new : DomainsView) (arenas : Arenas) (raws : Raws) (sound : AreSound new.heap new.raws) (held : AreHeld new arenas raws) where
  -- a raw region that stays keeps its home
  raw_stays : (slots : Slots) (e : Extent) → IsStore slots old → Has e old.raws → new.raws ≡ old.raws → home_at new.heap.places e.place ≡ home_at old.heap.places e.place
  raw_stays slots e store has same =
      let long : 1 ≤ e.len = stored_long slots (loans_of old) e store.stored (has_right e old.heap.loans old.raws has) in
      home_of_raw new arenas raws e sound.heap_is held (subst (Has e) (sym same) has) long ∙ sym (store.raw_homes e has)

  -- no other block's home changes where one comes
  pub lent_homes : (slots : Slots) (v : Letter) (n fill : ℕ) (g : Guard) (asked : Asked) → IsStore slots old → IsLent v n fill g asked old new → SameHomes slots old.heap.places new.heap.places
  lent_homes slots v n fill g asked store lent i h is = elim lent.lies [
    | inl small ↦
        elim (slot_loan slots old i h store is) [
          | inl pooled ↦
              home_where_placed (class_of (need n)) asked.arena small.piece old.heap new.heap (guard_extent h) store.sound.heap_is sound.heap_is small.serves.got.1 pooled
              (stored_long slots (loans_of old) (guard_extent h) store.stored (stored_has slots (loans_of old) i h store.stored is))
          | inr raw ↦ raw_stays slots (guard_extent h) store raw small.raws
        ]
    | inr large ↦ ap (λ (x : HeapView). home_at x.places h.place) large.heap
  ]

  pub lent_store : (slots : Slots) (i : ℕ) (v : Letter) (n fill : ℕ) (g : Guard) (asked : Asked) → IsStore slots old → i < length slots → get_or slots i None ≡ None → IsLent v n fill g asked old new → IsStore (set slots i (Some g)) new
  lent_store slots i v n fill g asked store lt free lent =
      store_is (set slots i (Some g)) new arenas raws
      (stored_more slots (loans_of old) (loans_of new) i g store.stored lt free (lent_is v n fill g asked old new lent) (loans_apart new arenas raws sound held) lent.aligned)
      sound held

  -- ---- a block goes

  pub gone_is : (g : Guard) → IsGivenUp g old new → Removed (guard_extent g) (loans_of old) (loans_of new)
  gone_is g gone = elim gone [
    | inl small ↦
        let less : Removed (guard_extent g) old.heap.loans new.heap.loans = subst (λ (e : Extent). Removed e old.heap.loans new.heap.loans) small.there small.freed.back in
        subst (λ (l : List Extent). Removed (guard_extent g) (loans_of old) (new.heap.loans ++ l)) (sym small.raws) (inserted_left (guard_extent g) new.heap.loans old.heap.loans old.raws less)
    | inr large ↦
        subst (λ (h : HeapView). Removed (guard_extent g) (loans_of old) (h.loans ++ new.raws)) (sym large.heap) (inserted_right (guard_extent g) new.raws old.raws old.heap.loans large.back)
  ]

  -- what is left in slots, where a block went
  abbrev Left : Slots → Slots → Type 0
  Left slots rest = (i : ℕ) (g : Guard) → get_or rest i None ≡ Some g → get_or slots i None ≡ Some g

  pub gone_homes : (slots rest : Slots) (g : Guard) → IsStore slots old → IsStored rest (loans_of new) → Left slots rest → IsGivenUp g old new → SameHomes rest old.heap.places new.heap.places
  gone_homes slots rest g store stored left gone i h is = elim gone [
    | inl small ↦
        elim (has_either (guard_extent h) new.heap.loans new.raws (stored_has rest (loans_of new) i h stored is)) [
          | inl pooled ↦
              home_where_freed small.piece old.heap new.heap (guard_extent h) store.sound.heap_is sound.heap_is small.freed pooled
              (stored_long rest (loans_of new) (guard_extent h) stored (has_left (guard_extent h) new.heap.loans new.raws pooled))
          | inr raw ↦ raw_stays slots (guard_extent h) store (subst (Has (guard_extent h)) small.raws raw) small.raws
        ]
    | inr large ↦ ap (λ (x : HeapView). home_at x.places h.place) large.heap
  ]

  pub gone_stored : (slots : Slots) (i : ℕ) (g : Guard) → IsStore slots old → i < length slots → get_or slots i None ≡ Some g → IsGivenUp g old new → IsStored (set slots i None) (loans_of new)
  gone_stored slots i g store lt is gone = stored_fewer slots (loans_of old) (loans_of new) i g store.stored lt is (gone_is g gone) (loans_apart new arenas raws sound held)

  pub gone_store : (slots : Slots) (i : ℕ) (g : Guard) → IsStore slots old → i < length slots → get_or slots i None ≡ Some g → IsGivenUp g old new → IsStore (set slots i None) new
  gone_store slots i g store lt is gone = store_is (set slots i None) new arenas raws (gone_stored slots i g store lt is gone) sound held

  -- ---- the last slot goes

  pub dropped : (slots : Slots) (last : Option Guard) → IsStore (slots ++ last ∷ []) old → IfSome last (λ g. IsGivenUp g old new) → IfNone last (new ≡ old) → IsStore slots new
  dropped slots None store gone same = subst (IsStore slots) (sym same) (record { stored = stored_pop_none slots (loans_of old) store.stored; sound = store.sound; raw_homes = store.raw_homes })
  dropped slots (Some g) store gone same =
      store_is slots new arenas raws (stored_pop_some slots g (loans_of old) (loans_of new) store.stored (gone_is g gone) (loans_apart new arenas raws sound held)) sound held

-- the block of the last slot is one of the two heaps'
pub last_loan : (slots : Slots) (last : Option Guard) (d : DomainsView) → IsStore (slots ++ last ∷ []) d → IfSome last (λ g. IsLoan (guard_extent g) d)
last_loan slots None d store = tt
last_loan slots (Some g) d store = has_either (guard_extent g) d.heap.loans d.raws (last_has slots g (loans_of d) store.stored)

-- what stays in a slot that is emptied is in the slots before
pub left_others : (slots : Slots) (i : ℕ) → i < length slots → (j : ℕ) (g : Guard) → get_or (set slots i None) j None ≡ Some g → get_or slots j None ≡ Some g
left_others slots i lt j g is = elim (eqb_tells j i) [
  | inl here ↦
      let none : None ≡ Some g = sym (get_or-set_same slots i None None lt) ∙ ap (λ (k : ℕ). get_or (set slots i None) k None) (sym here.1) ∙ is in
      absurd cc
  | inr away ↦ sym (get_or-set_other slots i j None None away.1) ∙ is
]

-- ---- the blocks of slots

pub put_blocks : (slots : Slots) (i : ℕ) (o : Option Guard) (old new : Places) → SameHomes slots old new → blocks_of new (set slots i o) ≡ set (blocks_of old slots) i (block_in new o)
put_blocks slots i o old new same = map-set (block_in new) slots i o ∙ ap (λ (l : List (Option Block)). set l i (block_in new o)) (blocks_same slots old new same)

pub drop_blocks : (slots : Slots) (i : ℕ) (old new : Places) → SameHomes (set slots i None) old new → blocks_of new (set slots i None) ≡ set (blocks_of old slots) i None
drop_blocks slots i old new same = blocks_same (set slots i None) old new same ∙ map-set (block_in old) slots i None

-- ---- a block that stays where it is

pub kept_store : (slots : Slots) (d : DomainsView) (i : ℕ) (o : Option Guard) → IsStore slots d → i < length slots → option_map guard_extent o ≡ option_map guard_extent (get_or slots i None) → IsStore (set slots i o) d
kept_store slots d i o store lt same = record { stored = stored_kept slots (loans_of d) i o store.stored lt same; sound = store.sound; raw_homes = store.raw_homes }

-- a store at the start
pub opening_store : (count : ℕ) (slots : Slots) (d : DomainsView) → slots ≡ replicate count None → d ≡ record { heap = empty_heap; raws = [] } → AreSound d.heap d.raws → IsStore slots d
opening_store count slots d empty none sound =
    subst (λ (x : DomainsView). AreSound x.heap x.raws → IsStore slots x) (sym none)
    (λ s. subst (λ (l : Slots). IsStore l (record { heap = empty_heap; raws = [] })) (sym empty)
    (record { stored = stored_none (replicate count None) (none_in count); sound = s; raw_homes = λ e has. absurd has }))
    sound

-- no blocks at all
pub none_left : (d : DomainsView) → loans_of d ≡ [] → (d.heap.loans ≡ []) × (d.raws ≡ [])
none_left d none = by d.heap.loans d.raws none
  where
    by : (xs ys : List Extent) → xs ++ ys ≡ [] → (xs ≡ []) × (ys ≡ [])
    by [] ys e = (refl, e)
    by (x ∷ xs) ys e = absurd cc
