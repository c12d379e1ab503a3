-- What proofs of other crates may cite: orders, lists that are determined by their members, and what statistics,
-- comparisons and snapshots have.
pub use Rattle.snapshot_model.proofs.Order.{group_cmp_total, key_cmp_total, change_cmp_total, not_both, falls_same}
pub use Rattle.snapshot_model.proofs.Order.{one_list, one_comparison, first_groups, front_of, same_key, same_to_itself}
pub use Rattle.snapshot_model.proofs.Order.{then_both}
pub use Rattle.snapshot_model.proofs.Rising.{AreApart, apart_map, from_map, rising_has, has_rising, rising_length}
pub use Rattle.snapshot_model.proofs.Rising.{rising_rises, falling_falls, falls_back, falls_of_rises}
pub use Rattle.snapshot_model.proofs.Groups.{stats_theirs, changes_theirs, keys_apart, keys_has, keys_occur}
pub use Rattle.snapshot_model.proofs.Snapping.{trace_cmp_total, row_cmp_total, same_trace_key, has_trace, trace_of_has}
pub use Rattle.snapshot_model.proofs.Snapping.{snapshot_rises, snapshot_has, snapshot_from, snapshot_one}
pub use Rattle.snapshot_model.proofs.Keeping.{keeps_snapshot}
