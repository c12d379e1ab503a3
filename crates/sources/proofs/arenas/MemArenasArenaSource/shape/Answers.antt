use Rattle.std.proofs.Common.{◌≡◌, length, sym, ap, ◌∙◌, arith}
use Rattle.sources.specs.Kept.{first_slot, slots_out}
use Rattle.sources.proofs.Slots.{length_anywhere, none_anywhere}
use Rattle.sources.proofs.arenas.MemArenasArenaSource.shape.Goals as goal

pub invariant_of-self : goal.invariant_of-self
invariant_of-self c =
    let s = c.self.inside in (
      record {
        all = c.self.invariant.0.all;
        count = c.self.invariant.0.count ∙ length_anywhere (first_slot s.skew) (first_slot c.args.skew) s.slots.items;
        most = c.requires;
      },
      c.self.invariant.1,
    )

pub returns-then-self-eq0-clause-same : goal.returns-then-self-eq0-clause-same
returns-then-self-eq0-clause-same c =
    let s = c.self.inside in
    let empty : length (slots_out (first_slot s.skew) s.slots.items) ≡ 0 = omega (arith, c.self.invariant.0.count) in (
      ap (λ v. v.requests) c.self.view_is,
      none_anywhere (first_slot s.skew) (first_slot c.args.skew) s.slots.items empty
          ∙ sym (none_anywhere (first_slot s.skew) (first_slot s.skew) s.slots.items empty) ∙ ap (λ v. v.out) c.self.view_is,
    )
