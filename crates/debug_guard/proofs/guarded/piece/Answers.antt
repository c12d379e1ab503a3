use Rattle.std.proofs.Common.{sym, ap, ◌∙◌}
use Rattle.debug_guard.specs.Guard.{piece_of}
use Rattle.debug_guard.proofs.GuardLemmas.{piece_of-guard_at}
use Rattle.debug_guard.proofs.guarded.piece.Goals as goal

pub returns-clause-piece : goal.returns-clause-piece
returns-clause-piece c =
    let p = c.g.inside in
    sym (piece_of-guard_at p.piece p.size c.g.invariant.room c.g.invariant.word) ∙ ap piece_of c.g.view_is
