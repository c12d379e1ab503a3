use Rattle.std.proofs.Common.{◌≡◌, sym, subst}
use Rattle.extents.specs.Extent.{begins, region_extent}
use Rattle.extents.specs.Sums.{tally, Inserted}
use Rattle.sources.specs.Kept.{held_out}
use Rattle.sources.specs.declared.raw.Held.{Held}
use Rattle.sources.proofs.Rows.{extent_at, row_inserted}
use Rattle.sources.proofs.raw.keep.Goals as goal

pub returns-in-Ok-clause-kept : goal.returns-in-Ok-clause-kept
returns-in-Ok-clause-kept c =
    let es = c.args.out.now.entries in
    let held : Held = record { len = c.len.result; maker = c.maker.result } in
    let is : extent_at (c.base.result, held) ≡ region_extent c.args.region = λ i. record { place = c.base.ensures i; len = c.len.ensures.len i; maker = c.maker.ensures i } in
    let free = subst (λ k. tally (begins k) (held_out es) ≡ 0) (sym c.base.ensures) c.requires.free in
    subst (λ x. Inserted x (held_out es) (held_out c.insert.new.self.entries)) is
    (subst (λ l. Inserted (extent_at (c.base.result, held)) (held_out es) (held_out l)) (sym c.in-Ok.ensures.entries) (row_inserted es c.base.result held free))
