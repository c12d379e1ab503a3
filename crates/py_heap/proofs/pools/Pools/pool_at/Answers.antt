use Rattle.std.proofs.Common.{refl, sym, ap, subst, ◌∙◌}
use Rattle.layout_model.specs.Geometry.{Site, slot_at}
use Rattle.raw_region.specs.Region.{RegionView}
use Rattle.py_heap.specs.Frees.{IsInPool}
use Rattle.py_heap.proofs.Ground.{found_id, in_pool, marked_site, not_owned, owned}
use Rattle.py_heap.proofs.pools.Pools.pool_at.Goals as goal

pub region-requires : goal.region-requires
region-requires c =
    let m : Site = record { arena = c.in-Some.arena; base = c.in-Some.ensures.base } in
    let site = marked_site c.args.self.now.set c.args.self.now.marks c.requires.marked c.args.place m c.in-Some.ensures.there in record { a = site.a; at = site.at }

pub pool_number-requires : goal.pool_number-requires
pool_number-requires c =
    let p = c.args.self.now in let e = c.in-Some.ensures in let m : Site = record { arena = c.in-Some.arena; base = e.base } in
    let there = c.requires.pool (owned p.set p.marks c.requires.marked c.args.place m e.there e.has) in
    let site = marked_site p.set p.marks c.requires.marked c.args.place m e.there in
    let base = c.base.ensures ∙ ap (λ (r : RegionView). r.base) (c.region.ensures site.a site.at) ∙ sym site.base in
    subst (λ b. IsInPool b c.args.place) (sym base) (in_pool p.set p.marks c.requires.marked c.args.place there m e.there e.has)

pub returns-in-Some-clause-own : goal.returns-in-Some-clause-own
returns-in-Some-clause-own c =
    let p = c.args.self.now in let e = c.in-Some.ensures in let m : Site = record { arena = c.in-Some.arena; base = e.base } in
    (λ _. owned p.set p.marks c.requires.marked c.args.place m e.there e.has, λ _. refl)

pub returns-in-Some-clause-pool : goal.returns-in-Some-clause-pool
returns-in-Some-clause-pool c =
    let p = c.args.self.now in let e = c.in-Some.ensures in let m : Site = record { arena = c.in-Some.arena; base = e.base } in
    let there = c.requires.pool (owned p.set p.marks c.requires.marked c.args.place m e.there e.has) in
    let site = marked_site p.set p.marks c.requires.marked c.args.place m e.there in
    let base = c.base.ensures ∙ ap (λ (r : RegionView). r.base) (c.region.ensures site.a site.at) ∙ sym site.base in
    found_id p.set p.marks c.requires.marked c.args.place there m e.there e.has (record { arena = c.in-Some.arena; pool = c.pool_number.result }) refl (c.pool_number.ensures ∙ ap (λ b. slot_at b c.args.place) base)

pub returns-in-None-clause-own : goal.returns-in-None-clause-own
returns-in-None-clause-own c =
    let p = c.args.self.now in (λ wrong. absurd (let w = wrong in cc), λ one. absurd (not_owned p.set p.marks c.requires.marked c.args.place c.in-None.ensures one))
