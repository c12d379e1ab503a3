use Rattle.std.proofs.Common.{◌≡◌, ◌++◌, ◌∷◌, [], ◌∙◌, ap, sym, arith, None}
use Rattle.indexmap.specs.IndexMap.{get}
use Rattle.indexmap.proofs.CallerLemmas.{insert_entry-new}
use Rattle.snap_stats.proofs.Adding.{found, adds_there, adds_new}
use Rattle.snap_stats.proofs.sums.add.Goals as goal

pub overflow_add-sum : goal.overflow_add-sum
overflow_add-sum g c =
    let v = c.in-Some.sum.now in
    let f = found (g.K.PartialEq.eq c.args.key) c.args.sums.now.entries v c.requires.sound (sym c.in-Some.ensures.value) in
    omega (arith, f.0.small, f.1, c.requires.room, c.requires.more.small)

pub overflow_add-sum-in-Some : goal.overflow_add-sum-in-Some
overflow_add-sum-in-Some g c =
    let v = c.in-Some.sum.now in
    let f = found (g.K.PartialEq.eq c.args.key) c.args.sums.now.entries v c.requires.sound (sym c.in-Some.ensures.value) in
    omega (arith, f.1, c.requires.room)

pub returns-in-Some : goal.returns-in-Some
returns-in-Some g c = λ before adds.
    let v = c.in-Some.sum.now in
    adds_there g.K.PartialEq.eq before c.args.sums.now.entries c.args.key c.args.more c.requires.more adds (g.K.PartialEq.eq c.args.key) v _ (λ k t. t) (sym c.in-Some.ensures.value) (c.get_mut.follows.holds _).0

pub returns-in_ok-insert-in-None : goal.returns-in_ok-insert-in-None
returns-in_ok-insert-in-None g c = λ before adds.
    let eq = g.K.PartialEq.eq in
    let key = c.args.key in
    let kept : c.get_mut.follows.lender-at-none ≡ c.args.sums.now = c.get_mut.follows.holds-at-none in
    let none : get eq c.get_mut.follows.lender-at-none key ≡ None = ap (λ m. get eq m key) kept ∙ sym c.in-None.ensures.value in
    let last = insert_entry-new eq c.get_mut.follows.lender-at-none key c.args.more none in
    adds_new eq before c.args.sums.now.entries key c.args.more c.requires.more adds _ (c.in_ok-insert-in-None.ensures.entries ∙ last ∙ ap (λ m. m.entries ++ (key, c.args.more) ∷ []) kept)
