use Rattle.std.proofs.Common.{◌++◌, length, map, replicate, Some, None, sym, subst, ◌∙◌, ap, refl, arith}
use Rattle.raw_region.specs.Cells.{AtHome, at_home}
use Rattle.raw_region.proofs.Runs.{only_is, at_home-only, length-bytes_of, home_inside}
use Rattle.raw_region.proofs.region.Region.carve.Goals as goal

pub invariant_of-result : goal.invariant_of-result
invariant_of-result c =
    let cells = c.self.inside.cells.cells in let off = c.args.off in let len = c.args.len in
    let home : AtHome cells off len = subst (λ l. AtHome l off len) (sym (ap (λ v. v.cells) c.self.view_is)) c.requires.1 in
    let bytes = ap at_home c.cut-cells.ensures.cut.1 ∙ at_home-only cells off len home in let inside = home_inside cells off len home c.requires.0 in record {
      start = c.self.invariant.start ∙ sym c.cut-cells.ensures.cut.0;
      cells = c.cut-cells.ensures.cut.1 ∙ only_is cells off len home ∙ ap (λ l. replicate off None ++ map Some l) (sym bytes);
      length = ap length bytes ∙ length-bytes_of cells off len home c.requires.0;
      some = c.requires.0;
      addresses = omega (arith, c.self.invariant.length, c.self.invariant.addresses);
    }

pub returns-clause-piece : goal.returns-clause-piece
returns-clause-piece c =
    let cells = c.self.inside.cells.cells in let off = c.args.off in let len = c.args.len in
    let home : AtHome cells off len = subst (λ l. AtHome l off len) (sym (ap (λ v. v.cells) c.self.view_is)) c.requires.1 in
    let bytes = ap at_home c.cut-cells.ensures.cut.1 ∙ at_home-only cells off len home in
    rw (← c.self.view_is) (refl, refl, bytes, ap length bytes ∙ length-bytes_of cells off len home c.requires.0)
