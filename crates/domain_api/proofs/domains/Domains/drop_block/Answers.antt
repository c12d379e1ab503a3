use Rattle.std.proofs.Common.{◌≡◌, ◌∙◌, ℕ, ap, arith, inl, inr, refl, sym, subst}
use Rattle.py_heap.specs.Heap.{HeapView, regions_of}
use Rattle.extents.specs.Extent.{Extent, covers, piece_extent}
use Rattle.extents.specs.Sums.{tally, Has, Removed}
use Rattle.sources.specs.Source.{ArenaShape, SourceView}
use Rattle.debug_guard.specs.Guard.{guard_extent}
use Rattle.domain_api.specs.Domains.{IsGivenUp}
use Rattle.domain_api.specs.Held.{AreHeld, AreTraded, DomainsView, IsLoan}
use Rattle.domain_api.proofs.DomainLemmas.{is_raw_block, is_small_block, not_none, own_held, raw_held, raw_traded, regions_left, small_held, small_traded, within_fewer}
use Rattle.domain_api.proofs.domains.Domains.drop_block.Goals as goal

pub give-requires-clause-loan : goal.give-requires-clause-loan
give-requires-clause-loan g c there =
    let arenas = g.A.ArenaSource.seen c.args.arenas.now in
    let raws = g.R.RawSource.seen c.args.raws.now in
    let d : DomainsView = record { heap = c.self.inside.heap; raws = c.self.inside.raw } in
    let e = guard_extent c.args.g in
    let held = own_held c.self.inside.heap c.self.inside.raw c.args.self.now c.self.view_is arenas raws c.requires.held in
    let loan = subst (λ (d : DomainsView). IsLoan e d) (sym c.self.view_is) c.requires.loan in
    let same : c.kill-piece.result.place ≡ e.place = ap (λ (x : Extent). x.place) c.kill-piece.ensures.extent in
    subst (λ (x : Extent). Has x d.heap.loans) (sym c.kill-piece.ensures.extent)
    (is_small_block d arenas raws e held loan (omega (arith, c.size-size.ensures.room)) (subst (λ (p : ℕ). tally (covers p) (regions_of d.heap) ≡ 1) same there))

pub give-requires-clause-held : goal.give-requires-clause-held
give-requires-clause-held g c =
    let arenas = g.A.ArenaSource.seen c.args.arenas.now in
    let raws = g.R.RawSource.seen c.args.raws.now in
    (own_held c.self.inside.heap c.self.inside.raw c.args.self.now c.self.view_is arenas raws c.requires.held).arenas_out

pub free-requires-clause-loan : goal.free-requires-clause-loan
free-requires-clause-loan g c =
    let d : DomainsView = record { heap = c.self.inside.heap; raws = c.self.inside.raw } in
    let e = guard_extent c.args.g in
    let loan = subst (λ (d : DomainsView). IsLoan e d) (sym c.self.view_is) c.requires.loan in
    let same : c.kill-piece.result.place ≡ e.place = ap (λ (x : Extent). x.place) c.kill-piece.ensures.extent in
    subst (λ (x : Extent). Has x d.raws) (sym (ap piece_extent c.in-Some.ensures.other.0 ∙ c.kill-piece.ensures.extent))
    (is_raw_block d e c.self.invariant loan (omega (arith, c.size-size.ensures.room))
    (λ there. not_none _ _ c.in-Some.is (c.give.ensures.own.1 (subst (λ (p : ℕ). tally (covers p) (regions_of d.heap) ≡ 1) (sym same) there))))

pub free-requires-clause-held : goal.free-requires-clause-held
free-requires-clause-held g c =
    let arenas = g.A.ArenaSource.seen c.args.arenas.now in
    let raws = g.R.RawSource.seen c.args.raws.now in
    (own_held c.self.inside.heap c.self.inside.raw c.args.self.now c.self.view_is arenas raws c.requires.held).raws_out

pub returns-in-None-clause-traded : goal.returns-in-None-clause-traded
returns-in-None-clause-traded g c =
    small_traded c.self.inside.heap c.self.inside.raw c.args.self.now c.self.view_is _ _ c.requires.held c.give.new.self _ c.give.ensures.traded

pub returns-in-None-clause-held : goal.returns-in-None-clause-held
returns-in-None-clause-held g c =
    let arenas = g.A.ArenaSource.seen c.args.arenas.now in let h = c.self.inside.heap in let rs = c.self.inside.raw in
    let held = own_held h rs c.args.self.now c.self.view_is arenas (g.R.RawSource.seen c.args.raws.now) c.requires.held in
    small_held h rs c.args.self.now c.self.view_is arenas _ c.requires.held c.give.new.self _ c.give.ensures.traded
    (regions_left c.in-None.ensures.freed.begins h c.give.new.self arenas.window c.in-None.ensures.freed.regions held.arenas_in)

pub returns-in-Some-clause-traded : goal.returns-in-Some-clause-traded
returns-in-Some-clause-traded g c =
    let h = c.self.inside.heap in let rs = c.self.inside.raw in
    let arenas = g.A.ArenaSource.seen c.args.arenas.now in let raws = g.R.RawSource.seen c.args.raws.now in
    let traded = raw_traded h rs c.args.self.now c.self.view_is arenas raws c.requires.held c.free.new.self _ c.free.ensures.traded in
    subst (λ (now : HeapView). AreTraded c.args.self.now (record { heap = now; raws = c.free.new.self }) arenas (g.A.ArenaSource.seen c.give.new.arenas) raws (g.R.RawSource.seen c.free.new.raws)) (sym c.in-Some.ensures.other.1)
    (subst (λ (seen : SourceView ArenaShape). AreTraded c.args.self.now (record { heap = h; raws = c.free.new.self }) arenas seen raws (g.R.RawSource.seen c.free.new.raws)) (sym c.in-Some.ensures.other.2) traded)

pub returns-in-Some-clause-held : goal.returns-in-Some-clause-held
returns-in-Some-clause-held g c =
    let arenas = g.A.ArenaSource.seen c.args.arenas.now in
    let raws = g.R.RawSource.seen c.args.raws.now in let h = c.self.inside.heap in let rs = c.self.inside.raw in
    let held = own_held h rs c.args.self.now c.self.view_is arenas raws c.requires.held in
    let now_held = raw_held h rs c.args.self.now c.self.view_is arenas raws c.requires.held c.free.new.self _ c.free.ensures.traded
    (within_fewer _ rs c.free.new.self raws.window held.raws_in c.free.ensures.back) in
    subst (λ (now : HeapView). AreHeld (record { heap = now; raws = c.free.new.self }) (g.A.ArenaSource.seen c.give.new.arenas) (g.R.RawSource.seen c.free.new.raws)) (sym c.in-Some.ensures.other.1)
    (subst (λ (seen : SourceView ArenaShape). AreHeld (record { heap = h; raws = c.free.new.self }) seen (g.R.RawSource.seen c.free.new.raws)) (sym c.in-Some.ensures.other.2) now_held)

pub returns-in-None-clause-back : goal.returns-in-None-clause-back
returns-in-None-clause-back g c =
    let now : DomainsView = record { heap = c.give.new.self; raws = c.self.inside.raw } in
    subst (λ (d : DomainsView). IsGivenUp c.args.g d now) c.self.view_is
    (inl (record { piece = c.kill-piece.result; there = c.kill-piece.ensures.extent; dead = c.kill-piece.ensures.dead; freed = c.in-None.ensures.freed; raws = refl }))

pub returns-in-Some-clause-back : goal.returns-in-Some-clause-back
returns-in-Some-clause-back g c =
    let now : DomainsView = record { heap = c.give.new.self; raws = c.free.new.self } in
    let same = ap piece_extent c.in-Some.ensures.other.0 ∙ c.kill-piece.ensures.extent in
    subst (λ (d : DomainsView). IsGivenUp c.args.g d now) c.self.view_is
    (inr (record { heap = c.in-Some.ensures.other.1; back = subst (λ (e : Extent). Removed e c.self.inside.raw c.free.new.self) same c.free.ensures.back }))
