use Rattle.std.proofs.Common.{◌≡◌, ◌+◌, length, set, get_or, take, map, Some, None, sym, ◌∙◌, ap, arith}
use Rattle.std.proofs.lemmas.List.{length-map, length-take, map_more}
use Rattle.raw_region.specs.Cells.{with_run}
use Rattle.raw_region.proofs.Runs.{home_within, run_ahead, run_more}
use Rattle.raw_region.proofs.region.Region.write_word.Goals as goal

pub write_byte-requires : goal.write_byte-requires
write_byte-requires c =
    let i = c.loop-i.i in let off = c.args.off in let cells = c.args.self.now.cells in let bytes = c.to_le_bytes-bytes.result in let so_far = c.loop-i.invariant in let h = c.requires i (omega arith) in
    let long : length (map Some (take i bytes)) ≡ i = omega (arith, length-map (take i bytes) Some, length-take i bytes, ap length so_far.word) in
    (h.0, ap (λ l. get_or l (off + i) None) so_far.written ∙ run_ahead cells off i (map Some (take i bytes)) long (home_within cells (off + i) h) ∙ h.1)

pub loop-i-preserved : goal.loop-i-preserved
loop-i-preserved c =
    let i = c.loop-i.i in let off = c.args.off in let cells = c.args.self.now.cells in let bytes = c.to_le_bytes-bytes.result in let so_far = c.loop-i.invariant in let h = c.requires i (omega arith) in
    let wrote = c.write_byte.ensures in let byte = Some (get_or bytes i 0) in
    let long : length (map Some (take i bytes)) ≡ i = omega (arith, length-map (take i bytes) Some, length-take i bytes, ap length so_far.word) in record {
      inside = so_far.inside;
      word = so_far.word;
      written = wrote.cells ∙ ap (λ l. set l (off + i) byte) so_far.written ∙ run_more cells off i (map Some (take i bytes)) long (home_within cells (off + i) h) byte
          ∙ ap (with_run cells off (i + 1)) (sym (map_more Some bytes i 0 (omega (arith, ap length so_far.word))));
      same = (wrote.same.0 ∙ so_far.same.0, wrote.same.1 ∙ so_far.same.1);
    }
