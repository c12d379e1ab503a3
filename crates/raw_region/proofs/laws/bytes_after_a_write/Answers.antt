use Rattle.std.proofs.Common.{length, refl}
use Rattle.raw_region.proofs.Rules.{bytes_written, bytes_kept}
use Rattle.raw_region.proofs.laws.bytes_after_a_write.Goals as goal

pub returns-clause-written : goal.returns-clause-written
returns-clause-written c = λ cells off bytes inside. bytes_written cells off (length bytes) inside bytes refl

pub returns-clause-kept : goal.returns-clause-kept
returns-clause-kept c = λ cells off run inside o k within out. bytes_kept cells off (length run) inside run refl o k within out
