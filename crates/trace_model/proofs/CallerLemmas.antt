-- What proofs of other crates may cite: lines that are read one after the other, what one more operation adds, and
-- what a table of texts that grows leaves as it was, and which texts one more line adds to it.
pub use Rattle.trace_model.proofs.ActionLaws.{actions_stay, known_stays, ops_stay, text_stays}
pub use Rattle.trace_model.proofs.LineSteps.{first_part, with_header, with_line}
pub use Rattle.trace_model.proofs.OperandLaws.{both, test_fails, test_holds, ok_is}
pub use Rattle.trace_model.proofs.OperandLaws.{are_digits, own, number_takes, number_again, ranged_takes, ranged_again}
pub use Rattle.trace_model.proofs.SnapshotLaws.{snapshots_of_new, snapshots_with}
pub use Rattle.trace_model.proofs.TableLaws.{table_with_track, table_with_action}
pub use Rattle.trace_model.proofs.TraceLaws.{trace_takes, trace_again, read_back}
pub use Rattle.trace_model.proofs.TrackLaws.{all_push, suc_not_zero, count_of_new, reports_of_new}
pub use Rattle.trace_model.proofs.TrackLaws.{action_count-with, report_count-with, open_with, open_with_last}
pub use Rattle.trace_model.proofs.WordLaws.{is_word, name_word, file_word, number_word, words_again, words_plain}
pub use Rattle.trace_model.proofs.WordLaws.{all_append, cut_first, not_sep}
