use Rattle.std.proofs.Common.{◌*◌, ◌+◌, refl, sym, ◌∙◌, ap, subst, arith}
use Rattle.std.specs.Int.{to_le_bytes, w64}
use Rattle.raw_region.proofs.CallerLemmas.{home_part, home_inside}
use Rattle.layout_model.specs.Plain.{header_of}
use Rattle.pool_core.specs.Calls.{InRun, OnlyAt}
use Rattle.pool_core.proofs.Words.{header_written, home_kept, only_more, only_written}
use Rattle.pool_core.proofs.header.set_word.Goals as goal

pub write_word-requires : goal.write_word-requires
write_word-requires c = let few = c.requires.one in home_part c.args.r.now.cells c.args.at 48 _ 8 c.requires.home (omega arith) (omega arith)

pub returns-clause-header : goal.returns-clause-header
returns-clause-header c =
    ap (λ cells. header_of cells c.args.at) c.write_word.ensures.cells
    ∙ header_written c.args.r.now.cells c.args.at c.args.k c.args.w (home_inside c.args.r.now.cells c.args.at 48 c.requires.home (omega arith)) c.requires.one (omega (arith, c.ranges.w))

module _ (c : goal.After-write_word) where
  only : OnlyAt (InRun (c.args.at + 8 * c.args.k) 8) c.args.r.now.cells c.write_word.new.self.cells
  only =
      let few = c.requires.one in let all = home_inside c.args.r.now.cells c.args.at 48 c.requires.home (omega arith) in
      subst (OnlyAt (InRun (c.args.at + 8 * c.args.k) 8) c.args.r.now.cells) (sym c.write_word.ensures.cells)
      (only_written c.args.r.now.cells (c.args.at + 8 * c.args.k) 8 (to_le_bytes w64 c.args.w) refl (omega arith) (home_part c.args.r.now.cells c.args.at 48 _ 8 c.requires.home (omega arith) (omega arith)))

pub returns-clause-only : goal.returns-clause-only
returns-clause-only c = only c

pub returns-clause-within : goal.returns-clause-within
returns-clause-within c = let few = c.requires.one in only_more _ _ (only c) (λ i r. let low = r.0 in let high = r.1 in (omega arith, omega arith))

pub returns-clause-home : goal.returns-clause-home
returns-clause-home c = home_kept _ _ c.args.at 48 (only c) c.requires.home
