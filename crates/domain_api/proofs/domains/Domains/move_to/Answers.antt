use Rattle.std.proofs.Common.{inr, subst}
use Rattle.debug_guard.specs.Guard.{fill_of, guard_extent}
use Rattle.domain_api.specs.Domains.{IsTakenBy, request_of}
use Rattle.domain_api.specs.declared.answers.Got.{Got}
use Rattle.domain_api.proofs.DomainLemmas.{loan_stays, moves_so}
use Rattle.domain_api.proofs.domains.Domains.move_to.Goals as goal

pub replace-block-requires-clause-loan : goal.replace-block-requires-clause-loan
replace-block-requires-clause-loan g c =
    let w = c.args.wanted in let old = c.args.self.now in let between = c.take.new.self in
    let taken = subst (λ (got : Got). IsTakenBy (request_of w.pooled w.n) w.letter w.n (fill_of w.zero) old between got c.in-Ok.field-0.asked) c.in-Block.is c.in-Ok.ensures.taken in
    loan_stays w.letter w.n (fill_of w.zero) c.in-Block.block c.in-Ok.field-0.asked old between (guard_extent c.args.old) taken.1 c.requires.loan

pub returns-in-Block-clause-changed : goal.returns-in-Block-clause-changed
returns-in-Block-clause-changed g c =
    let w = c.args.wanted in let old = c.args.self.now in let between = c.take.new.self in
    let taken = subst (λ (got : Got). IsTakenBy (request_of w.pooled w.n) w.letter w.n (fill_of w.zero) old between got c.in-Ok.field-0.asked) c.in-Block.is c.in-Ok.ensures.taken in
    let done = c.replace-block.ensures in
    inr (moves_so (request_of w.pooled w.n) w.letter w.n w.zero c.args.old c.in-Block.block c.replace-block.result c.in-Ok.field-0.asked old between c.replace-block.new.self
    c.requires.new c.requires.must taken done.long done.carried done.back c.take.ensures.sound (g.A.ArenaSource.seen c.take.new.arenas) (g.R.RawSource.seen c.take.new.raws) c.take.ensures.held)
