use Rattle.std.proofs.Common.{List, rules, subst}
use Rattle.std.specs.Ordering.{is_lt}
use Rattle.std.specs.List.Sorted.{IsPermutation}
use Rattle.std.proofs.lemmas.Fn.{always_returns_same}
use Rattle.std.proofs.lemmas.List.Sorted.{ranks_by}
use Rattle.trace_table.specs.declared.snapshot.Row.{Row}
use Rattle.trace_table.proofs.RowLemmas.{row_rank, rows_total}
use Rattle.trace_table.proofs.snapshot.rows_in_order.Goals as goal

pub returns : goal.returns
returns c =
    let ranks = c.args.ranks.now in
    let rows = c.sort_unstable_by.new.self.items in
    record {
      once = c.len-count.ensures.unique;
      same = subst (λ (xs : List Row). IsPermutation xs rows) c.in_ok-rows.ensures c.sort_unstable_by.ensures.permutation;
      sorted = c.sort_unstable_by.ensures.sorted (λ a b. is_lt (row_rank ranks a b)) (ranks_by (rows_total ranks) (λ a. a))
          (always_returns_same _ _ _ (λ a r f k. search rules));
    }
