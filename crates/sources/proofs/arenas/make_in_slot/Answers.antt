use Rattle.std.proofs.Common.{rules, ◌≡◌, ℕ, ◌<◌, List, length, sym, ap, subst, ◌∙◌, arith}
use Rattle.sources.specs.Bits.{bit_in, HasClear}
use Rattle.sources.proofs.Bitmap.{has_clear, is_free, is_taken}
use Rattle.sources.proofs.arenas.make_in_slot.Goals as goal

pub first_clear-slot-requires-clause-some : goal.first_clear-slot-requires-clause-some
first_clear-slot-requires-clause-some c = subst HasClear (sym c.as_slice.ensures.value) (has_clear c.args.slots.now.items c.args.taken.now.items c.requires.all c.requires.told c.requires.room)

pub returns-clause-taken : goal.returns-clause-taken
returns-clause-taken c =
    let words : c.as_slice.result.now ≡ c.args.taken.now.items = c.as_slice.ensures.value in
    let found = c.first_clear-slot.ensures in let long = c.requires.told.all in let same = ap (λ (l : List ℕ). length l) words in
    let inside : c.first_clear-slot.result < 1024 = let lt = found.clear.0 in omega arith in
    record {
      slot = c.first_clear-slot.result;
      inside = inside;
      shift = c.place_of-place.ensures.shift;
      made = search rules;
      free = is_free c.args.slots.now.items c.args.taken.now.items c.requires.all c.requires.told c.first_clear-slot.result inside (ap (λ l. bit_in l c.first_clear-slot.result) (sym words) ∙ found.clear.1);
      below = λ j lt. is_taken c.args.slots.now.items c.args.taken.now.items c.requires.all c.requires.told j (omega arith) (ap (λ l. bit_in l j) (sym words) ∙ found.below j lt);
      is = search rules;
    }
