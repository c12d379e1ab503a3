use Rattle.std.proofs.Common.{◌+◌, List, sym, subst}
use Rattle.extents.specs.Extent.{Extent}
use Rattle.domain_api.specs.Held.{AllWithin}
use Rattle.domain_api.proofs.DomainLemmas.{got_within, own_held, raw_held}
use Rattle.domain_api.proofs.domains.Domains.take_raw.Goals as goal

pub alloc-requires-clause-held : goal.alloc-requires-clause-held
alloc-requires-clause-held g c = (own_held c.self.inside.heap c.self.inside.raw c.args.self.now c.self.view_is _ _ c.requires.held).raws_out

pub returns-in_err-piece-clause-held : goal.returns-in_err-piece-clause-held
returns-in_err-piece-clause-held g c =
    let rs = c.self.inside.raw in let old = g.R.RawSource.seen c.args.raws.now in
    let held = own_held c.self.inside.heap rs c.args.self.now c.self.view_is (g.A.ArenaSource.seen c.args.arenas.now) old c.requires.held in
    raw_held c.self.inside.heap rs c.args.self.now c.self.view_is _ old c.requires.held c.alloc.new.self _ c.in_err-piece.ensures.traded
    (subst (λ (l : List Extent). AllWithin l old.window) (sym c.in_err-piece.ensures.failed) held.raws_in)

pub returns-clause-held : goal.returns-clause-held
returns-clause-held g c =
    let rs = c.self.inside.raw in let old = g.R.RawSource.seen c.args.raws.now in
    let held = own_held c.self.inside.heap rs c.args.self.now c.self.view_is (g.A.ArenaSource.seen c.args.arenas.now) old c.requires.held in
    raw_held c.self.inside.heap rs c.args.self.now c.self.view_is _ old c.requires.held c.alloc.new.self _ c.in_ok-piece.ensures.traded
    (got_within (c.args.wanted.n + 24) c.in_ok-piece.field-0.piece rs c.alloc.new.self old c.in_ok-piece.ensures.got held.raws_in)
