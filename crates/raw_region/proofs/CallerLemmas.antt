-- What proofs of other crates may cite: what cells hold, and which are at home or lent, after a write, a carve and a mend.
pub use Rattle.raw_region.proofs.Rules.{run_has, run_keeps, bytes_written, bytes_filled, bytes_kept, word_kept, word_written, zeroed_is, length-zeroed, home_zeroed, home_part, all_home, home_of_all, all_home-zeroed, home_set, home_written, home_filled, home_away, lent_away, lent_kept, lent_set, at_home-map, home_run, home_inside, home_within, length-bytes_of, length-with_run, length-away}
