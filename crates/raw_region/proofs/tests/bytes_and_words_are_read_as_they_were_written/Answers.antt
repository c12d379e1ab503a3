use Rattle.std.proofs.Common.{◌+◌, get_or, map, replicate, set, Some, None, refl, sym, subst, ◌∙◌, ap, arith}
use Rattle.std.specs.Int.{to_le_bytes, w64}
use Rattle.raw_region.specs.Cells.{AtHome, with_run}
use Rattle.raw_region.proofs.Rules.{home_zeroed, zeroed_is, home_written}
use Rattle.raw_region.proofs.tests.bytes_and_words_are_read_as_they_were_written.Goals as goal

pub read_byte-low-requires : goal.read_byte-low-requires
read_byte-low-requires g c = (8, ap (λ l. get_or l 8 None) (c.write_word.ensures.cells ∙ ap (λ l. with_run l 8 8 (map Some (to_le_bytes w64 72623859790382856))) (c.in_ok-region.ensures.1 ∙ zeroed_is 64)))

pub read_word-word-requires : goal.read_word-word-requires
read_word-word-requires g c =
    subst (λ l. AtHome l 8 8) (sym (c.write_word.ensures.cells ∙ ap (λ l. with_run l 8 8 (map Some (to_le_bytes w64 72623859790382856))) (c.in_ok-region.ensures.1 ∙ zeroed_is 64)))
    (home_written (replicate 64 (Some 0)) 8 8 (omega arith) (to_le_bytes w64 72623859790382856) refl 8 8 (λ i lt _. let h = home_zeroed 64 8 8 (omega arith) i lt in (h.0, ap (λ l. get_or l (8 + i) None) (sym (zeroed_is 64)) ∙ h.1)))

pub read_byte-filled-requires : goal.read_byte-filled-requires
read_byte-filled-requires g c = (9, ap (λ l. get_or l 19 None) (c.fill.ensures.cells ∙ ap (λ l. with_run l 16 4 (replicate 4 (Some 9))) (c.write_word.ensures.cells ∙ ap (λ l. with_run l 8 8 (map Some (to_le_bytes w64 72623859790382856))) (c.in_ok-region.ensures.1 ∙ zeroed_is 64))))

pub read_byte-written-requires : goal.read_byte-written-requires
read_byte-written-requires g c = (7, ap (λ l. get_or l 19 None) (c.write_byte.ensures.cells ∙ ap (λ l. set l 19 (Some 7)) (c.fill.ensures.cells ∙ ap (λ l. with_run l 16 4 (replicate 4 (Some 9))) (c.write_word.ensures.cells ∙ ap (λ l. with_run l 8 8 (map Some (to_le_bytes w64 72623859790382856))) (c.in_ok-region.ensures.1 ∙ zeroed_is 64)))))
