use Rattle.std.proofs.Common.{◌≡◌, ◌++◌, [], ◌∷◌, sym, ◌∙◌, ap, arith}
use Rattle.std.proofs.lemmas.List.{length-set, take_more_set, take_all}
use Rattle.std.specs.Int.{from_le_bytes, w64}
use Rattle.raw_region.specs.Cells.{bytes_of}
use Rattle.raw_region.proofs.Runs.{bytes_of_more}
use Rattle.raw_region.proofs.region.Region.read_word.Goals as goal

pub loop-i-preserved : goal.loop-i-preserved
loop-i-preserved c =
    let so_far = c.loop-i.invariant in let i = c.loop-i.i in let b = c.read_byte.result in record {
      inside = so_far.inside;
      eight = length-set c.loop-i.bytes i b ∙ so_far.eight;
      read = take_more_set c.loop-i.bytes i b (omega (arith, so_far.eight)) ∙ ap (λ l. l ++ b ∷ []) so_far.read ∙ sym (bytes_of_more c.args.self.now.cells c.args.off i b c.read_byte.ensures.byte);
    }

pub returns : goal.returns
returns c =
    let so_far = c.loop-i.invariant in let i = c.loop-i.i in let ends : i ≡ 8 = omega arith in
    let is : c.loop-i.bytes ≡ bytes_of c.args.self.now.cells c.args.off 8 = sym (take_all i c.loop-i.bytes (omega (arith, so_far.eight))) ∙ so_far.read ∙ ap (bytes_of c.args.self.now.cells c.args.off) ends in
    c.from_le_bytes.ensures ∙ ap (from_le_bytes w64) is
