use Rattle.std.proofs.Common.{true, ap, subst}
use Rattle.block_model.specs.Block.{new_byte}
use Rattle.domain_api.specs.Held.{DomainsView}
use Rattle.domain_api.specs.Domains.{IsMade}
use Rattle.domain_api.specs.declared.answers.Got.{Got}
use Rattle.domain_api.proofs.DomainLemmas.{all_given_up, lent_is_loan}
use Rattle.domain_api.proofs.tests.one_block.Goals as goal

pub give_up-requires-clause-loan : goal.give_up-requires-clause-loan
give_up-requires-clause-loan g c =
    let old = c.in_ok-domains.domains in
    let new = c.malloc.new.self in
    let asked = c.in-Ok.made.asked in
    let made = subst (λ (got : Got). IsMade c.args.letter c.args.n new_byte true old new got asked) c.in-Block.is c.in-Ok.ensures.made in
    lent_is_loan c.args.letter c.args.n new_byte c.in-Block.block asked old new made.1.1

pub give_up-requires-clause-one : goal.give_up-requires-clause-one
give_up-requires-clause-one g c = λ last gone.
    let old = c.in_ok-domains.domains in
    let new = c.malloc.new.self in
    let asked = c.in-Ok.made.asked in
    let made = subst (λ (got : Got). IsMade c.args.letter c.args.n new_byte true old new got asked) c.in-Block.is c.in-Ok.ensures.made in
    let none = c.in_ok-domains.ensures.empty in
    all_given_up c.args.letter c.args.n new_byte c.in-Block.block asked old new last made.1.1 gone
    (ap (λ (d : DomainsView). d.heap.loans) none) (ap (λ (d : DomainsView). d.raws) none)
