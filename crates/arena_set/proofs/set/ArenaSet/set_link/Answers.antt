use Rattle.std.proofs.Common.{length, ◌≡◌, ◌-◌, get_or, Some, None, sym, ap, subst, ◌∙◌, length-set, arith}
use Rattle.layout_model.specs.Pool.{PoolView}
use Rattle.arena_set.specs.Started.{Started}
use Rattle.arena_set.specs.Link.{with_link}
use Rattle.arena_set.specs.Arena.{ArenaView}
use Rattle.arena_set.specs.Kept.{PlacedSet, view_of, spare_of}
use Rattle.arena_set.specs.Set.{SetView, dry_of, loans_of, regions_of, pools_of}
use Rattle.arena_set.specs.Calls.{IsAt, Links}
use Rattle.arena_set.proofs.Acts.{link_line, link_pool}
use Rattle.arena_set.proofs.Flats.{inside, read}
use Rattle.arena_set.proofs.Sets.{loans_same, still_ranked}
use Rattle.arena_set.proofs.Changes.{Keeps, with_arena, number_is, change_keeps, change_links, links}
use Rattle.arena_set.proofs.Views.{seen_is_set}
use Rattle.arena_set.proofs.set.ArenaSet.set_link.Goals as goal

module _ (c : goal.After-self-1) where
  abbrev before : PlacedSet
  before = record { usable = c.self.inside.usable.nodes; arenas = c.self.inside.arenas.items; spare = spare_of c.self.inside.spare }

  same : c.in-Some.arena ≡ c.requires.a
  same = read before.arenas (c.args.pool.arena - 1) c.index_mut.result.now c.requires.a c.in-Some.arena (subst (λ v. IsAt v c.args.pool.arena c.requires.a) (sym c.self.view_is) c.requires.started.at).there c.index_mut.ensures.value c.in-Some.is

  at : IsAt (view_of before) c.args.pool.arena c.in-Some.arena
  at =
      let was : IsAt (view_of before) c.args.pool.arena c.requires.a = subst (λ v. IsAt v c.args.pool.arena c.requires.a) (sym c.self.view_is) c.requires.started.at in
      record { some = was.some; there = was.there ∙ ap Some (sym same) }

  there : get_or c.in-Some.arena.pools c.args.pool.pool None ≡ Some c.requires.s
  there = subst (λ (x : ArenaView). get_or x.pools c.args.pool.pool None ≡ Some c.requires.s) (sym same) c.requires.started.there

  abbrev linked : Started
  linked = with_link c.args.link c.requires.s c.args.place

  kept : Keeps before (with_arena before (c.args.pool.arena - 1) c.set_link.new.self)
  kept = change_keeps before c.args.pool c.in-Some.arena c.set_link.new.self linked c.self.invariant.set at c.set_link.ensures.arena (c.set_link.ensures.after c.requires.s there) (inside c.in-Some.arena.pools c.args.pool.pool c.requires.s there) (let n = c.self.invariant.set.named (c.args.pool.arena - 1) c.in-Some.arena at.there c.args.pool.pool c.requires.s there in let h = at.some in let p = ap (λ (x : PoolView). x.arena) (link_pool c.args.link c.requires.s c.args.place) in omega arith)

pub invariant_of-self : goal.invariant_of-self
invariant_of-self c =
    let i = c.self.invariant in let long = length-set c.self.inside.arenas.items (c.args.pool.arena - 1) (Some c.set_link.new.self) in
    record { set = (kept c).set; few = omega (arith, i.few); table = omega (arith, i.table); room = omega (arith, i.room); ranked = still_ranked c.self.inside.arenas.items c.self.inside.usable.ranks c.self.inside.usable.nodes (c.args.pool.arena - 1) c.in-Some.arena c.set_link.new.self (at c).there (ap length (c.set_link.ensures.after c.requires.s (there c)).free) i.ranked }

pub returns-clause-regions : goal.returns-clause-regions
returns-clause-regions c = (kept c).regions ∙ ap (λ (v : SetView). regions_of v.arenas) c.self.view_is

pub returns-clause-loans : goal.returns-clause-loans
returns-clause-loans c =
    loans_same (before c).arenas (c.args.pool.arena - 1) c.args.pool.arena c.in-Some.arena c.set_link.new.self (number_is (before c) c.args.pool.arena c.in-Some.arena (at c)) (at c).there c.set_link.ensures.loans ∙ ap (λ (v : SetView). loans_of v.arenas) c.self.view_is

pub returns-clause-same : goal.returns-clause-same
returns-clause-same c = ((kept c).same.0 ∙ ap (λ (v : SetView). v.usable) c.self.view_is, (kept c).same.1 ∙ ap dry_of c.self.view_is)

pub returns-clause-set : goal.returns-clause-set
returns-clause-set c = seen_is_set _ ((kept c).set)

pub returns-clause-pools : goal.returns-clause-pools
returns-clause-pools c =
    change_links (before c) c.args.pool c.in-Some.arena c.set_link.new.self (linked c) c.self.invariant.set (at c) c.set_link.ensures.arena (c.set_link.ensures.after c.requires.s (there c)) c.requires.s (there c) (link_line c.args.link c.args.pool.arena c.in-Some.arena.region.base c.args.pool.pool c.requires.s c.args.place) ∙ ap (λ (v : SetView). pools_of v.arenas) c.self.view_is

pub returns-clause-links : goal.returns-clause-links
returns-clause-links c a s is =
    let was : IsAt (view_of (before c)) c.args.pool.arena a = subst (λ v. IsAt v c.args.pool.arena a) (sym c.self.view_is) is.at in
    let one : c.in-Some.arena ≡ a = read (before c).arenas (c.args.pool.arena - 1) c.index_mut.result.now a c.in-Some.arena was.there c.index_mut.ensures.value c.in-Some.is in
    let here : get_or c.in-Some.arena.pools c.args.pool.pool None ≡ Some s = subst (λ (x : ArenaView). get_or x.pools c.args.pool.pool None ≡ Some s) (sym one) is.there in
    subst (λ v. Links v (view_of (with_arena (before c) (c.args.pool.arena - 1) c.set_link.new.self)) c.args.pool (with_link c.args.link s c.args.place)) c.self.view_is
    (links (before c) c.args.pool c.in-Some.arena c.set_link.new.self (with_link c.args.link s c.args.place) c.self.invariant.set (at c) c.set_link.ensures.arena (c.set_link.ensures.after s here) s here c.set_link.ensures.only)
