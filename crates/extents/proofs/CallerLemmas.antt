-- What proofs of other crates may cite: sums over lists, what lies apart, and trees of addresses.
pub use Rattle.extents.proofs.Lists.{inserted_first, length_inserted, inserted_right, has_new, tally_has, tally_inserted, inserted-map, has_right, tally-map, tally-set, tally_zero, has_at, has-map, tally-append, all_in_more, inserted_last, has_either, removed_at, tally_replaced, removed_has, has_left, tally_length, inserted_left, has_kept, has_other, balanced_more, balanced_fewer, balanced_then, inserted_under, tally_at, tally_le, has_more}
pub use Rattle.extents.proofs.Addresses.{apart_more, apart_fewer, meets_fewer, meets_part, all_in_fewer, covers_tells, same_extent, covers_in, covers_out, meets_other, covered, begins_tells, covers_most, lies_spans, spans_tells, begins_once, meets_begins}
pub use Rattle.extents.proofs.Trees.{cmp_tells, tree_inserted, tree_found, Found, tree_none, inserted_entry, removed_entry}
