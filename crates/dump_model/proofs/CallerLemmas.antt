-- What proofs of other crates may cite: lines that are read one after the other, what a line that is read says and
-- which conditions hold of it, what an operand that is read is, and that snapshots are read from their texts and
-- from nothing else.
pub use Rattle.dump_model.proofs.OperandLaws.{number_takes, number_again, ranged_takes, ranged_again}
pub use Rattle.dump_model.proofs.OperandLaws.{frame_takes, frame_again, row_takes, row_again, row_words, IsTold}
pub use Rattle.dump_model.proofs.OrderLaws.{rises_push, above_all, after_front}
pub use Rattle.dump_model.proofs.LineSteps.{with_line, with_rest}
pub use Rattle.dump_model.proofs.LineLaws.{Reads, line_takes, line_again, IsPlace, line_grows}
pub use Rattle.dump_model.proofs.DumpLaws.{dumps_take, dumps_read, read_back, dump_again, dump_once}
