use Rattle.std.proofs.Common.{◌≡◌, ◌+◌, ◌-◌, refl, subst, ap, ◌∙◌, arith, get_or, set}
use Rattle.raw_region.proofs.CallerLemmas.{home_part}
use Rattle.raw_region.specs.Cells.{AtHome}
use Rattle.layout_model.specs.Pool.{size_of}
use Rattle.layout_model.specs.Plain.{header_of, PlainView}
use Rattle.pool_core.specs.Calls.{InRun, OnlyAt}
use Rattle.pool_core.proofs.Plains.{plain_once}
use Rattle.pool_core.proofs.Moves.{tests_alike}
use Rattle.pool_core.proofs.Words.{only_then}
use Rattle.pool_core.proofs.Stands.{block_low, give_done, give_only, give_stands, live_some, small_size, word_tells}
use Rattle.pool_core.proofs.bytes.give.Goals as goal

pub link-requires-clause-block : goal.link-requires-clause-block
link-requires-clause-block c = let z = small_size c.requires.p.pool.class c.requires.stands.pool.class in home_part c.args.r.now.cells _ _ _ 8 c.requires.home (omega arith) (omega arith)

pub link-requires-clause-behind : goal.link-requires-clause-behind
link-requires-clause-behind c = block_low c.args.r.now.cells c.args.r.now.cells c.args.r.now.cells c.args.at c.args.off 0 0 c.requires.p c.requires.stands c.requires.used c.requires.home

module _ (c : goal.After-set_word-2) where
  after : OnlyAt (InRun c.args.at 48) c.link.new.r.cells c.set_word-2.new.r.cells
  after = only_then _ _ _ c.set_word.ensures.within c.set_word-2.ensures.within

  live_was : (c.word-live.result - 1) + 1 ≡ get_or (header_of c.args.r.now.cells c.args.at) 0 0
  live_was =
      let some = live_some c.requires.p.pool c.args.off c.requires.used in
      let is = word_tells c.args.r.now.cells c.args.at c.requires.p c.requires.stands 0 c.word-live.result c.word-live.ensures in
      let same : (c.word-live.result - 1) + 1 ≡ c.word-live.result = omega arith in same ∙ c.word-live.ensures

pub returns-clause-given : goal.returns-clause-given
returns-clause-given c p s used =
    let old = c.args.r.now.cells in let mid = c.link.new.r.cells in let new = c.set_word-2.new.r.cells in
    let was : AtHome old (c.args.at + c.args.off) (size_of p.pool) = subst (λ (q : PlainView). AtHome old (c.args.at + c.args.off) (size_of q.pool)) (plain_once old c.args.at c.requires.p p c.requires.stands s) c.requires.home in
    give_done old mid new c.args.at c.args.off (c.word-live.result - 1) c.word-head.result p s used was c.is_full-was_full.result _
    (give_stands old mid new c.args.at c.args.off (c.word-live.result - 1) c.word-head.result p s used was c.link.ensures.only (after c) c.word-head.ensures c.link.ensures.word (live_was c)
    (c.set_word-2.ensures.header ∙ ap (λ h. set h 0 (c.word-live.result - 1)) (c.set_word.ensures.header ∙ ap (λ h. set h 1 c.args.off) c.link.ensures.header)))
    (live_was c) (c.is_full-was_full.ensures p s) (tests_alike _ _ _ _ refl refl)

pub returns-clause-only : goal.returns-clause-only
returns-clause-only c = give_only c.args.r.now.cells c.link.new.r.cells c.set_word-2.new.r.cells c.args.at c.args.off 0 0 c.requires.p c.requires.stands c.requires.used c.requires.home c.link.ensures.only (after c)
