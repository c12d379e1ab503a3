use Rattle.std.proofs.Common.{sym, subst}
use Rattle.py_heap.specs.Heap.{HeapView, regions_of}
use Rattle.domain_api.specs.Held.{AllWithin}
use Rattle.domain_api.proofs.DomainLemmas.{heap_had_none, own_held, raw_had_none, regions_within, small_held, small_traded}
use Rattle.domain_api.proofs.domains.Domains.take_pooled.Goals as goal

pub alloc-requires-clause-held : goal.alloc-requires-clause-held
alloc-requires-clause-held g c = (own_held c.self.inside.heap c.self.inside.raw c.args.self.now c.self.view_is _ _ c.requires.held).arenas_out

pub returns-in_err-piece-clause-once : goal.returns-in_err-piece-clause-once
returns-in_err-piece-clause-once g c =
    let raws = g.R.RawSource.seen c.args.raws.now in
    heap_had_none (g.A.ArenaSource.seen c.args.arenas.now) (g.A.ArenaSource.seen c.alloc.new.arenas) raws _ c.in_err-piece.ensures.once

pub returns-in-None-clause-once : goal.returns-in-None-clause-once
returns-in-None-clause-once g c =
    let got = c.in_ok-piece.ensures in let raw = c.take_raw.ensures in
    raw_had_none (g.A.ArenaSource.seen c.args.arenas.now) (g.A.ArenaSource.seen c.take_raw.new.arenas) (g.R.RawSource.seen c.args.raws.now) c.in_ok-piece.field-0.grant (g.A.ArenaSource.seen c.alloc.new.arenas)
    (g.R.RawSource.seen c.take_raw.new.raws) c.take_raw.result got.answered got.plan raw.arenas raw.unrefused raw.once

pub returns-in_err-piece-clause-traded : goal.returns-in_err-piece-clause-traded
returns-in_err-piece-clause-traded g c =
    small_traded c.self.inside.heap c.self.inside.raw c.args.self.now c.self.view_is _ _ c.requires.held c.alloc.new.self _ c.in_err-piece.ensures.traded

pub returns-in_err-piece-clause-held : goal.returns-in_err-piece-clause-held
returns-in_err-piece-clause-held g c =
    let arenas = g.A.ArenaSource.seen c.args.arenas.now in let h = c.self.inside.heap in let rs = c.self.inside.raw in
    let held = own_held h rs c.args.self.now c.self.view_is arenas (g.R.RawSource.seen c.args.raws.now) c.requires.held in
    small_held h rs c.args.self.now c.self.view_is arenas _ c.requires.held c.alloc.new.self _ c.in_err-piece.ensures.traded
    (subst (λ (h : HeapView). AllWithin (regions_of h) arenas.window) (sym c.in_err-piece.ensures.failed) held.arenas_in)

pub take_raw-requires-clause-held : goal.take_raw-requires-clause-held
take_raw-requires-clause-held g c =
    let arenas = g.A.ArenaSource.seen c.args.arenas.now in let h = c.self.inside.heap in let rs = c.self.inside.raw in
    let held = own_held h rs c.args.self.now c.self.view_is arenas (g.R.RawSource.seen c.args.raws.now) c.requires.held in
    small_held h rs c.args.self.now c.self.view_is arenas _ c.requires.held c.alloc.new.self _ c.in_ok-piece.ensures.traded
    (regions_within c.in_ok-piece.field-0.grant arenas (regions_of h) (regions_of c.alloc.new.self) c.in_ok-piece.ensures.regions held.arenas_in)

pub returns-in-Some-clause-traded : goal.returns-in-Some-clause-traded
returns-in-Some-clause-traded g c =
    small_traded c.self.inside.heap c.self.inside.raw c.args.self.now c.self.view_is _ _ c.requires.held c.alloc.new.self _ c.in_ok-piece.ensures.traded

pub returns-in-Some-clause-held : goal.returns-in-Some-clause-held
returns-in-Some-clause-held g c =
    let arenas = g.A.ArenaSource.seen c.args.arenas.now in let h = c.self.inside.heap in let rs = c.self.inside.raw in
    let held = own_held h rs c.args.self.now c.self.view_is arenas (g.R.RawSource.seen c.args.raws.now) c.requires.held in
    small_held h rs c.args.self.now c.self.view_is arenas _ c.requires.held c.alloc.new.self _ c.in_ok-piece.ensures.traded
    (regions_within c.in_ok-piece.field-0.grant arenas (regions_of h) (regions_of c.alloc.new.self) c.in_ok-piece.ensures.regions held.arenas_in)
