use Rattle.std.proofs.Common.{map, Some, refl}
use Rattle.std.specs.Int.{to_le_bytes, w64}
use Rattle.raw_region.proofs.Rules.{word_written, word_kept}
use Rattle.raw_region.proofs.laws.word_after_a_write.Goals as goal

pub returns-clause-written : goal.returns-clause-written
returns-clause-written c = λ cells off w inside fits. word_written cells off w inside fits

pub returns-clause-kept : goal.returns-clause-kept
returns-clause-kept c = λ cells off w inside o within out. word_kept cells off 8 inside (map Some (to_le_bytes w64 w)) refl o within out
