use Rattle.std.proofs.Common.{sym, subst, ap, ◌∙◌, set, None}
use Rattle.extents.specs.Extent.{region_extent}
use Rattle.extents.specs.Sums.{Has, Inserted}
use Rattle.sources.specs.Kept.{IsSlotPlace, first_slot, slots_out}
use Rattle.sources.proofs.Bitmap.{still_told}
use Rattle.sources.proofs.Slots.{place_of_slot, given, slots_fewer}
use Rattle.sources.proofs.arenas.MemArenasArenaSource.give.Goals as goal

pub slot_at-slot-requires : goal.slot_at-slot-requires
slot_at-slot-requires c =
    let s = c.self.inside in let e = region_extent c.args.region in
    let has = subst (Has e) (sym (ap (λ v. v.out) c.self.view_is)) c.requires.0 in
    subst (λ p. IsSlotPlace s.skew p) (sym c.base.ensures) (place_of_slot s.skew s.held s.max s.slots.items c.self.invariant.0 e has)

pub invariant_of-self : goal.invariant_of-self
invariant_of-self c =
    let s = c.self.inside in let e = region_extent c.args.region in
    let has = subst (Has e) (sym (ap (λ v. v.out) c.self.view_is)) c.requires.0 in
    let bit = c.clear_bit.ensures in (
      (slots_fewer s.skew s.held s.max s.slots.items c.self.invariant.0 e has c.slot_at-slot.result (c.slot_at-slot.ensures.place ∙ c.base.ensures)).1,
      still_told s.slots.items s.taken.items c.self.invariant.0.all c.self.invariant.1 c.slot_at-slot.result None c.clear_bit.new.words.items c.slot_at-slot.ensures.inside bit.clear bit.others bit.length,
    )

pub returns-clause-back : goal.returns-clause-back
returns-clause-back c =
    let s = c.self.inside in let e = region_extent c.args.region in
    let out = ap (λ v. v.out) c.self.view_is in
    let has = subst (Has e) (sym out) c.requires.0 in
    subst (λ o. Inserted e (slots_out (first_slot s.skew) (set s.slots.items c.slot_at-slot.result None)) o) out
    (given s.skew s.held s.max s.slots.items c.self.invariant.0 e has c.slot_at-slot.result (c.slot_at-slot.ensures.place ∙ c.base.ensures))
