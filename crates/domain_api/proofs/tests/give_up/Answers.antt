use Rattle.domain_api.proofs.tests.give_up.Goals as goal

pub end-requires-clause-none : goal.end-requires-clause-none
end-requires-clause-none g c = c.requires.one c.drop_block.new.self c.drop_block.ensures.back
