use Rattle.std.proofs.Common.{◌≡◌, ◌<◌, ◌≤◌, ◌∙◌, Bool, List, get_or, length, map, filter, ap, sym, subst, arith}
use Rattle.std.specs.Prelude.{All}
use Rattle.std.proofs.lemmas.List.Elements.{All-filter, All-from_recursion, filter_agree}
use Rattle.std.proofs.lemmas.List.Sums.{length-filter, count_by-le-length}
use Rattle.trace_table.specs.declared.snapshot.Row.{Row}
use Rattle.trace_table.specs.Plain.{plain_row, plain_rows, plain_snapshot, AreTraced, IsHeld}
use Rattle.snapshot_model.specs.Snapshots.{PlainRow}
use Rattle.snapshot_model.specs.Rules.{kept_by, stays}
use Rattle.snap_filter.specs.declared.rules.HeldRule.{HeldRule}
use Rattle.snap_filter.specs.Held.{held_rule, HasTrace}
use Rattle.snap_filter.specs.Held.{stays as stays_held}
use Rattle.snap_filter.proofs.Filtering.{filter_map_same, same_stays, traces_known}
use Rattle.snap_filter.proofs.keeping.keep.Goals as goal

pub rows_that_stay-requires : goal.rows_that_stay-requires
rows_that_stay-requires c =
    let texts = c.args.texts.now in
    let table = c.args.table.now in
    let rules = c.args.rules.now in
    let rows = c.args.s.now.rows in
    let held : c.deref_mut.result.now ≡ map (held_rule texts table) rules = c.deref_mut.ensures.value ∙ c.in_ok-held.ensures in
    let all : All (λ row. All (HasTrace row) (map (held_rule texts table) rules)) rows
    = λ k d lt. All-from_recursion (HasTrace (get_or rows k d)) (map (held_rule texts table) rules) (traces_known texts table rules (get_or rows k d) (c.requires.traced k d lt)) in
    subst (λ (rs : List Row). All (λ row. All (HasTrace row) c.deref_mut.result.now) rs) (sym c.as_slice.ensures)
    (subst (λ (hs : List HeldRule). All (λ row. All (HasTrace row) hs) rows) (sym held) all)

pub returns : goal.returns
returns c =
    let texts = c.args.texts.now in
    let table = c.args.table.now in
    let rules = c.args.rules.now in
    let rows = c.args.s.now.rows in
    let test : Row → Bool = λ row. stays rules (plain_row texts table row) in
    let held : c.deref_mut.result.now ≡ map (held_rule texts table) rules = c.deref_mut.ensures.value ∙ c.in_ok-held.ensures in
    let are : c.from_vec.result ≡ filter test rows
    = c.from_vec.ensures ∙ c.in_ok-rows.ensures ∙ (λ i. filter (stays_held (held i)) (c.as_slice.ensures i))
    ∙ filter_agree (stays_held (map (held_rule texts table) rules)) test (same_stays texts table rules) rows in
    let plain = ap (plain_rows texts table) are ∙ filter_map_same (plain_row texts table) (stays rules) rows in
    let short : length (filter test rows) ≤ length rows = omega (arith, length-filter test rows, count_by-le-length test rows) in
    record {
      kept = λ i. record { limit = c.args.s.now.limit; rows = plain i };
      rows = are;
      held = subst (λ (rs : List Row). IsHeld texts table rs) (sym are) (record {
        few = omega (arith, c.requires.few, short);
        traced = All-filter test (λ row. row.trace.0 < length table) rows c.requires.traced;
        among = c.requires.among;
        short = c.requires.short;
      });
    }
