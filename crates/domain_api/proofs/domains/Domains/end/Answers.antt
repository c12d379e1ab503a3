use Rattle.domain_api.proofs.DomainLemmas.{own_held}
use Rattle.domain_api.proofs.domains.Domains.end.Goals as goal

pub end-requires-clause-held : goal.end-requires-clause-held
end-requires-clause-held g c = (own_held c.self.inside.heap c.self.inside.raw c.args.self c.self.view_is _ _ c.requires.held).arenas_out
