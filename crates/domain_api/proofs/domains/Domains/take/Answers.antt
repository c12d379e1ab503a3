use Rattle.std.proofs.Common.{refl}
use Rattle.mem_base.specs.declared.history.Grant.TheVariants as grant
use Rattle.domain_api.proofs.DomainLemmas.{answered_nothing, raw_had_none}
use Rattle.domain_api.proofs.domains.Domains.take.Goals as goal

pub returns-else-wanted-clause-once : goal.returns-else-wanted-clause-once
returns-else-wanted-clause-once g c =
    let arenas = g.A.ArenaSource.seen c.args.arenas.now in let raw = c.take_raw.ensures in
    raw_had_none arenas (g.A.ArenaSource.seen c.take_raw.new.arenas) (g.R.RawSource.seen c.args.raws.now) grant.NotAsked arenas (g.R.RawSource.seen c.take_raw.new.raws) c.take_raw.result
    (answered_nothing arenas) refl raw.arenas raw.unrefused raw.once
