use Rattle.std.proofs.Common.{◌+◌, set, get_or, replicate, Some, None, ◌∙◌, ap, arith}
use Rattle.std.proofs.lemmas.List.{length-replicate, replicate_more}
use Rattle.raw_region.specs.Cells.{with_run}
use Rattle.raw_region.proofs.Runs.{home_within, run_ahead, run_more}
use Rattle.raw_region.proofs.region.Region.fill.Goals as goal

pub write_byte-requires : goal.write_byte-requires
write_byte-requires c =
    let i = c.loop-i.i in let off = c.args.off in let cells = c.args.self.now.cells in let byte = Some c.args.b in let h = c.requires i (omega arith) in
    (h.0, ap (λ l. get_or l (off + i) None) c.loop-i.invariant.written ∙ run_ahead cells off i (replicate i byte) (length-replicate i byte) (home_within cells (off + i) h) ∙ h.1)

pub loop-i-preserved : goal.loop-i-preserved
loop-i-preserved c =
    let i = c.loop-i.i in let off = c.args.off in let cells = c.args.self.now.cells in let byte = Some c.args.b in let h = c.requires i (omega arith) in
    let so_far = c.loop-i.invariant in let wrote = c.write_byte.ensures in record {
      inside = so_far.inside;
      written = wrote.cells ∙ ap (λ l. set l (off + i) byte) so_far.written ∙ run_more cells off i (replicate i byte) (length-replicate i byte) (home_within cells (off + i) h) byte
          ∙ ap (with_run cells off (i + 1)) (replicate_more i byte);
      same = (wrote.same.0 ∙ so_far.same.0, wrote.same.1 ∙ so_far.same.1);
    }
