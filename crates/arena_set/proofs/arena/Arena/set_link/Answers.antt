use Rattle.std.proofs.Common.{IsSome, Some, None, get_or, sym, subst, ap, ◌∙◌, ◌≡◌, arith}
use Rattle.layout_model.specs.Geometry.{pool_offset}
use Rattle.arena_set.specs.Started.{Started, plain_of}
use Rattle.arena_set.specs.Link.{with_link}
use Rattle.arena_set.specs.FreeChain.{free_list}
use Rattle.arena_set.specs.Arena.{ArenaView, IsArena, OnlyHeader, PoolChange, arena_loans, arena_view}
use Rattle.arena_set.specs.Kept.{IsKept}
use Rattle.arena_set.proofs.Acts.{link_does, link_inside, some_there, stands_at}
use Rattle.arena_set.proofs.Keeping.{still_kept, told_same}
use Rattle.arena_set.proofs.Lending.{started_taken}
use Rattle.arena_set.proofs.arena.Arena.set_link.Goals as goal

pub write_link-requires : goal.write_link-requires
write_link-requires c =
    let s = some_there _ (subst (λ (v : ArenaView). IsSome (get_or v.pools c.args.pool None)) (sym c.self.view_is) c.requires) in
    record { p = plain_of s.0; stands = stands_at c.self.inside.region (free_list c.self.inside.region c.self.inside.first c.self.inside.free c.self.inside.used) c.self.inside.numbers.items c.args.pool c.self.invariant.arena c.offset_of-at.result (c.offset_of-at.ensures ∙ ap (λ b. pool_offset b c.args.pool) c.base.ensures) s.0 s.1 }

module _ (c : goal.After-write_link) where
  abbrev before : ArenaView
  before = arena_view c.self.inside.region (free_list c.self.inside.region c.self.inside.first c.self.inside.free c.self.inside.used) c.self.inside.numbers.items

  abbrev mid : ArenaView
  mid = arena_view c.write_link.new.region (free_list c.self.inside.region c.self.inside.first c.self.inside.free c.self.inside.used) c.self.inside.numbers.items

  abbrev after : ArenaView
  after = arena_view c.write_link.new.region (free_list c.write_link.new.region c.self.inside.first c.self.inside.free c.self.inside.used) c.self.inside.numbers.items

  did : (s : Started) → get_or (before).pools c.args.pool None ≡ Some s → IsArena mid × (PoolChange before mid c.args.pool (with_link c.args.link s c.args.place) × (arena_loans mid ≡ arena_loans before))
  did s there =
      link_does c.self.inside.region (free_list c.self.inside.region c.self.inside.first c.self.inside.free c.self.inside.used) c.self.inside.numbers.items c.args.pool c.self.invariant.arena c.offset_of-at.result (c.offset_of-at.ensures ∙ ap (λ b. pool_offset b c.args.pool) c.base.ensures) c.args.link s there c.args.place c.write_link.new.region c.write_link.ensures.same.0 c.write_link.ensures.same.1 c.write_link.ensures.only
      (c.write_link.ensures.stands (plain_of s) (stands_at c.self.inside.region (free_list c.self.inside.region c.self.inside.first c.self.inside.free c.self.inside.used) c.self.inside.numbers.items c.args.pool c.self.invariant.arena c.offset_of-at.result (c.offset_of-at.ensures ∙ ap (λ b. pool_offset b c.args.pool) c.base.ensures) s there))

  some : (s : Started) × (get_or (before).pools c.args.pool None ≡ Some s)
  some = some_there _ (subst (λ (v : ArenaView). IsSome (get_or v.pools c.args.pool None)) (sym c.self.view_is) c.requires)

  same : (s : Started) → get_or (before).pools c.args.pool None ≡ Some s → mid ≡ after
  same s there =
      told_same c.self.inside.region c.write_link.new.region c.self.inside.first c.self.inside.free c.self.inside.used c.self.inside.numbers.items c.self.inside.numbers.items c.args.pool (with_link c.args.link s c.args.place) c.self.invariant
      (did s there).0 (did s there).1.0 (started_taken before c.args.pool s c.self.invariant.arena there)

  kept : IsKept c.write_link.new.region c.self.inside.first c.self.inside.free c.self.inside.used c.self.inside.numbers.items
  kept =
      let s = (some).0 in let there = (some).1 in
      still_kept c.self.inside.region c.write_link.new.region c.self.inside.first c.self.inside.free c.self.inside.used c.self.inside.numbers.items c.self.inside.numbers.items c.args.pool (with_link c.args.link s c.args.place) c.self.invariant
      (did s there).0 (did s there).1.0 (started_taken before c.args.pool s c.self.invariant.arena there)

pub invariant_of-self : goal.invariant_of-self
invariant_of-self c = kept c

pub returns-clause-arena : goal.returns-clause-arena
returns-clause-arena c = (kept c).arena

pub returns-clause-loans : goal.returns-clause-loans
returns-clause-loans c = ap arena_loans (sym (same c (some c).0 (some c).1)) ∙ ((did c (some c).0 (some c).1).1.1 ∙ ap arena_loans c.self.view_is)

pub returns-clause-after : goal.returns-clause-after
returns-clause-after c s there =
    let was = subst (λ (v : ArenaView). get_or v.pools c.args.pool None ≡ Some s) (sym c.self.view_is) there in
    subst (λ v. PoolChange v (after c) c.args.pool (with_link c.args.link s c.args.place)) c.self.view_is (subst (λ x. PoolChange (before c) x c.args.pool (with_link c.args.link s c.args.place)) (same c s was) (did c s was).1.0)

pub returns-clause-only : goal.returns-clause-only
returns-clause-only c =
    let at : c.offset_of-at.result ≡ pool_offset c.self.inside.region.base c.args.pool = c.offset_of-at.ensures ∙ ap (λ b. pool_offset b c.args.pool) c.base.ensures in
    let only : OnlyHeader (before c) (after c) c.args.pool = λ i out. c.write_link.ensures.only.kept i (λ r. out (let r0 = r.0 in let r1 = r.1 in let word = link_inside c.args.link in (omega arith, omega arith))) in
    subst (λ v. OnlyHeader v (after c) c.args.pool) c.self.view_is only
