use Rattle.std.proofs.Common.{◌≡◌, ◌≤◌, ◌+◌, ◌∙◌, ap, inl, inr, refl, arith}
use Rattle.std.proofs.lemmas.Result.{on_err_weaker}
use Rattle.raw_region.specs.Region.{PieceView}
use Rattle.debug_guard.specs.Guard.{guard_extent}
use Rattle.domain_api.proofs.DomainLemmas.{fits_not_there, fits_there, lies_in_pool, lies_in_raw}
use Rattle.domain_api.proofs.domains.Domains.change.Goals as goal

pub move_to-requires-clause-must : goal.move_to-requires-clause-must
move_to-requires-clause-must g c =
    let some : 1 ≤ (guard_extent c.args.old).len = omega (arith, c.size-size.ensures.room) in
    let same : c.place.result ≡ c.args.old.place = c.place.ensures ∙ ap (λ (p : PieceView). p.place) c.piece.ensures.piece in
    inr (lies_in_raw c.self.inside.heap c.self.inside.raw c.args.self.now c.self.view_is c.args.old c.requires.loan some c.place.result same c.owns.result c.owns.ensures c.self.invariant c.if-not-owns.true, refl)

pub returns-then-not-owns-clause-must : goal.returns-then-not-owns-clause-must
returns-then-not-owns-clause-must g c =
    let some : 1 ≤ (guard_extent c.args.old).len = omega (arith, c.size-size.ensures.room) in
    let same : c.place.result ≡ c.args.old.place = c.place.ensures ∙ ap (λ (p : PieceView). p.place) c.piece.ensures.piece in
    let raw = lies_in_raw c.self.inside.heap c.self.inside.raw c.args.self.now c.self.view_is c.args.old c.requires.loan some c.place.result same c.owns.result c.owns.ensures c.self.invariant c.if-not-owns.true in
    on_err_weaker c.move_to.result (λ _. (_, inr (raw, refl))) c.move_to.ensures.failed

pub returns-then-fits_in_place-clause-changed : goal.returns-then-fits_in_place-clause-changed
returns-then-fits_in_place-clause-changed g c =
    let some : 1 ≤ (guard_extent c.args.old).len = omega (arith, c.size-size.ensures.room) in
    let same : c.place.result ≡ c.args.old.place = c.place.ensures ∙ ap (λ (p : PieceView). p.place) c.piece.ensures.piece in
    let arenas = g.A.ArenaSource.seen c.args.arenas.now in let raws = g.R.RawSource.seen c.args.raws.now in
    let pooled = lies_in_pool c.self.inside.heap c.self.inside.raw c.args.self.now c.self.view_is c.args.old c.requires.loan some c.place.result same c.owns.result c.owns.ensures arenas raws c.requires.held c.if-not-owns.false in
    let fits = fits_there c.args.old c.piece-2.result.now (c.args.n + 24) c.fits_in_place.result c.piece-2.ensures.piece c.fits_in_place.ensures.length c.if-fits_in_place.true in
    let done = c.resize.ensures in
    inl (record { pooled = pooled; fits = fits }, record { body = done.body; same = done.same; rest = done.rest; extent = done.extent }, (refl, refl))

pub move_to-requires-2-clause-must : goal.move_to-requires-2-clause-must
move_to-requires-2-clause-must g c =
    let some : 1 ≤ (guard_extent c.args.old).len = omega (arith, c.size-size.ensures.room) in
    let same : c.place.result ≡ c.args.old.place = c.place.ensures ∙ ap (λ (p : PieceView). p.place) c.piece.ensures.piece in
    let arenas = g.A.ArenaSource.seen c.args.arenas.now in let raws = g.R.RawSource.seen c.args.raws.now in
    let pooled = lies_in_pool c.self.inside.heap c.self.inside.raw c.args.self.now c.self.view_is c.args.old c.requires.loan some c.place.result same c.owns.result c.owns.ensures arenas raws c.requires.held c.if-not-owns.false in
    let moves = fits_not_there c.args.old c.piece-2.result.now (c.args.n + 24) c.fits_in_place.result c.piece-2.ensures.piece c.fits_in_place.ensures.length c.if-fits_in_place.false in
    inl (pooled, moves, c.uses_pools-pooled.ensures c.args.n)

pub returns-clause-must : goal.returns-clause-must
returns-clause-must g c =
    let some : 1 ≤ (guard_extent c.args.old).len = omega (arith, c.size-size.ensures.room) in
    let same : c.place.result ≡ c.args.old.place = c.place.ensures ∙ ap (λ (p : PieceView). p.place) c.piece.ensures.piece in
    let arenas = g.A.ArenaSource.seen c.args.arenas.now in let raws = g.R.RawSource.seen c.args.raws.now in
    let pooled = lies_in_pool c.self.inside.heap c.self.inside.raw c.args.self.now c.self.view_is c.args.old c.requires.loan some c.place.result same c.owns.result c.owns.ensures arenas raws c.requires.held c.if-not-owns.false in
    let moves = fits_not_there c.args.old c.piece-2.result.now (c.args.n + 24) c.fits_in_place.result c.piece-2.ensures.piece c.fits_in_place.ensures.length c.if-fits_in_place.false in
    on_err_weaker c.move_to-2.result (λ _. (_, inl (pooled, moves, c.uses_pools-pooled.ensures c.args.n))) c.move_to-2.ensures.failed
