use Rattle.std.proofs.Common.{◌-◌, sym, subst, ap, ◌∙◌, arith}
use Rattle.std.specs.Ordering.{nat_cmp}
use Rattle.std.specs.BTreeMap.{is_at}
use Rattle.std.specs.Map.{remove_entry}
use Rattle.extents.specs.Extent.{piece_extent, region_extent}
use Rattle.extents.specs.Sums.{Removed}
use Rattle.extents.proofs.CallerLemmas.{same_extent}
use Rattle.raw_heap.specs.Kept.{AreKept, blocks}
use Rattle.raw_heap.proofs.Blocks.{entry, not_none, region_of, may_mend, mends_whole, kept_fewer}
use Rattle.raw_heap.proofs.heap.take_back.Goals as goal

pub unreachable-requires : goal.unreachable-requires
unreachable-requires c = not_none c.args.regions.now.entries c.requires.kept c.args.piece c.requires.loan c.place.result c.remove.result c.place.ensures c.remove.ensures.value c.in_default.is

pub mend-requires : goal.mend-requires
mend-requires c =
    let es = c.args.regions.now.entries in let p = c.args.piece in let region = c.in-Some.region in
    may_mend es c.requires.kept p c.requires.loan region (region_of es c.requires.kept p c.requires.loan c.place.result c.remove.result c.place.ensures c.remove.ensures.value region c.in-Some.is)

pub returns-clause-region : goal.returns-clause-region
returns-clause-region c =
    let es = c.args.regions.now.entries in let p = c.args.piece in let region = c.in-Some.region in
    let r = region_of es c.requires.kept p c.requires.loan c.place.result c.remove.result c.place.ensures c.remove.ensures.value region c.in-Some.is in
    let m = mends_whole p region.cells c.mend.new.self.cells (p.place - region.base) (omega (arith, r.base)) r.len c.mend.ensures.cells in
    same_extent (region_extent c.mend.new.self) (piece_extent p) (c.mend.ensures.same.0 ∙ r.base) m.1 (c.mend.ensures.same.1 ∙ sym r.maker)

pub returns-clause-whole : goal.returns-clause-whole
returns-clause-whole c =
    let es = c.args.regions.now.entries in let p = c.args.piece in let region = c.in-Some.region in
    let r = region_of es c.requires.kept p c.requires.loan c.place.result c.remove.result c.place.ensures c.remove.ensures.value region c.in-Some.is in
    (mends_whole p region.cells c.mend.new.self.cells (p.place - region.base) (omega (arith, r.base)) r.len c.mend.ensures.cells).0

pub returns-clause-back : goal.returns-clause-back
returns-clause-back c =
    let es = c.args.regions.now.entries in
    subst (λ l. Removed (piece_extent c.args.piece) (blocks es) (blocks l)) (sym (c.remove.ensures.entries ∙ ap (λ k. remove_entry (is_at (nat_cmp k)) es) c.place.ensures))
    (entry es c.requires.kept c.args.piece c.requires.loan).removed

pub returns-clause-kept : goal.returns-clause-kept
returns-clause-kept c =
    let es = c.args.regions.now.entries in
    subst AreKept (sym (c.remove.ensures.entries ∙ ap (λ k. remove_entry (is_at (nat_cmp k)) es) c.place.ensures)) (kept_fewer es c.requires.kept c.args.piece c.requires.loan)
