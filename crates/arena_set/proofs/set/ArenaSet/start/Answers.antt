use Rattle.std.proofs.Common.{◌≡◌, ◌-◌, ◌<◌, get_or, Some, None, refl, sym, ap, subst, ◌∙◌, length, length-set, arith}
use Rattle.layout_model.specs.Plain.{new_plain}
use Rattle.arena_set.specs.Started.{Started, started_of}
use Rattle.arena_set.specs.Arena.{ArenaView}
use Rattle.arena_set.specs.Kept.{PlacedSet, view_of, spare_of}
use Rattle.arena_set.specs.Set.{SetView, dry_of, loans_of, regions_of}
use Rattle.arena_set.specs.Calls.{IsAt, Starts}
use Rattle.arena_set.proofs.Flats.{read}
use Rattle.arena_set.proofs.Sets.{loans_same, still_ranked}
use Rattle.arena_set.proofs.Changes.{Keeps, with_arena, number_is, change_keeps, change_starts}
use Rattle.arena_set.proofs.Views.{seen_is_set}
use Rattle.arena_set.proofs.set.ArenaSet.start.Goals as goal

module _ (c : goal.After-self-1) where
  abbrev before : PlacedSet
  before = record { usable = c.self.inside.usable.nodes; arenas = c.self.inside.arenas.items; spare = spare_of c.self.inside.spare }

  same : c.in-Some.arena ≡ c.requires.can.a
  same = read before.arenas (c.args.pool.arena - 1) c.index_mut.result.now c.requires.can.a c.in-Some.arena (subst (λ v. IsAt v c.args.pool.arena c.requires.can.a) (sym c.self.view_is) c.requires.can.pool.at).there c.index_mut.ensures.value c.in-Some.is

  at : IsAt (view_of before) c.args.pool.arena c.in-Some.arena
  at =
      let was : IsAt (view_of before) c.args.pool.arena c.requires.can.a = subst (λ v. IsAt v c.args.pool.arena c.requires.can.a) (sym c.self.view_is) c.requires.can.pool.at in
      record { some = was.some; there = was.there ∙ ap Some (sym same) }

  abbrev begun : Started
  begun = started_of c.args.number (new_plain c.args.pool.arena c.args.class)

  lt : c.args.pool.pool < length c.in-Some.arena.pools
  lt = subst (λ (x : ArenaView). c.args.pool.pool < length x.pools) (sym same) c.requires.can.pool.inside

  fresh : get_or c.in-Some.arena.pools c.args.pool.pool None ≡ None
  fresh = subst (λ (x : ArenaView). get_or x.pools c.args.pool.pool None ≡ None) (sym same) c.requires.can.fresh

  kept : Keeps before (with_arena before (c.args.pool.arena - 1) c.start.new.self)
  kept = change_keeps before c.args.pool c.in-Some.arena c.start.new.self begun c.self.invariant.set at c.start.ensures.arena c.start.ensures.after lt refl

pub invariant_of-self : goal.invariant_of-self
invariant_of-self c =
    let i = c.self.invariant in let long = length-set c.self.inside.arenas.items (c.args.pool.arena - 1) (Some c.start.new.self) in
    record { set = (kept c).set; few = omega (arith, i.few); table = omega (arith, i.table); room = omega (arith, i.room); ranked = still_ranked c.self.inside.arenas.items c.self.inside.usable.ranks c.self.inside.usable.nodes (c.args.pool.arena - 1) c.in-Some.arena c.start.new.self (at c).there (ap length c.start.ensures.after.free) i.ranked }

pub returns-clause-regions : goal.returns-clause-regions
returns-clause-regions c = (kept c).regions ∙ ap (λ (v : SetView). regions_of v.arenas) c.self.view_is

pub returns-clause-loans : goal.returns-clause-loans
returns-clause-loans c =
    loans_same (before c).arenas (c.args.pool.arena - 1) c.args.pool.arena c.in-Some.arena c.start.new.self (number_is (before c) c.args.pool.arena c.in-Some.arena (at c)) (at c).there c.start.ensures.loans ∙ ap (λ (v : SetView). loans_of v.arenas) c.self.view_is

pub returns-clause-same : goal.returns-clause-same
returns-clause-same c = ((kept c).same.0 ∙ ap (λ (v : SetView). v.usable) c.self.view_is, (kept c).same.1 ∙ ap dry_of c.self.view_is)

pub returns-clause-set : goal.returns-clause-set
returns-clause-set c = seen_is_set _ ((kept c).set)

pub returns-clause-starts : goal.returns-clause-starts
returns-clause-starts c =
    subst (λ v. Starts v (view_of (with_arena (before c) (c.args.pool.arena - 1) c.start.new.self)) c.args.pool (begun c)) c.self.view_is
    (change_starts (before c) c.args.pool c.in-Some.arena c.start.new.self (begun c) c.self.invariant.set (at c) c.start.ensures.arena c.start.ensures.after (lt c) (fresh c))
