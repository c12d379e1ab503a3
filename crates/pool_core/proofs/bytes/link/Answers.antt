use Rattle.std.proofs.Common.{◌≤◌, ◌+◌, length, refl, sym, ap, subst, ◌∙◌, arith}
use Rattle.std.specs.Int.{to_le_bytes, w64}
use Rattle.raw_region.specs.Cells.{word_at}
use Rattle.raw_region.proofs.CallerLemmas.{home_inside, word_written}
use Rattle.pool_core.specs.Calls.{InRun, OnlyAt}
use Rattle.pool_core.proofs.Words.{header_same, home_kept, only_written}
use Rattle.pool_core.proofs.bytes.link.Goals as goal

module _ (c : goal.After-write_word) where
  within : c.args.at + c.args.off + 8 ≤ length c.args.r.now.cells
  within = home_inside c.args.r.now.cells (c.args.at + c.args.off) 8 c.requires.block (omega arith)

  only : OnlyAt (InRun (c.args.at + c.args.off) 8) c.args.r.now.cells c.write_word.new.self.cells
  only = subst (OnlyAt (InRun (c.args.at + c.args.off) 8) c.args.r.now.cells) (sym c.write_word.ensures.cells) (only_written c.args.r.now.cells (c.args.at + c.args.off) 8 (to_le_bytes w64 c.args.next) refl within c.requires.block)

pub returns-clause-only : goal.returns-clause-only
returns-clause-only c = only c

pub returns-clause-home : goal.returns-clause-home
returns-clause-home c = home_kept _ _ c.args.at 48 (only c) c.requires.home

pub returns-clause-header : goal.returns-clause-header
returns-clause-header c =
    let o = only c in let behind = c.requires.behind in
    header_same c.args.r.now.cells c.write_word.new.self.cells c.args.at o.length (home_inside c.args.r.now.cells c.args.at 48 c.requires.home (omega arith)) (λ i lt. o.kept (c.args.at + i) (λ r. absurd (let low = r.0 in omega arith)))

pub returns-clause-word : goal.returns-clause-word
returns-clause-word c = ap (λ cells. word_at cells (c.args.at + c.args.off)) c.write_word.ensures.cells ∙ word_written c.args.r.now.cells (c.args.at + c.args.off) c.args.next (within c) (omega (arith, c.ranges.next))
