use Rattle.name_match.proofs.PieceLemmas.{read_less, read_next}
use Rattle.name_match.proofs.pattern.Pattern.read.Goals as goal

pub loop-rest-smaller : goal.loop-rest-smaller
loop-rest-smaller c =
    read_less c.in_ok-piece.piece c.loop-rest.rest.now c.in_ok-piece.behind.now c.in-len1-up.len_at_least
    c.in_ok-piece.ensures

pub loop-rest-preserved : goal.loop-rest-preserved
loop-rest-preserved c =
    read_next c.loop-rest.pieces.items c.push.new.self.items c.in_ok-piece.piece c.loop-rest.rest.now
    c.in_ok-piece.behind.now _
    c.in_ok-push.ensures.items c.in-len1-up.len_at_least c.in_ok-piece.ensures c.loop-rest.invariant
