use Rattle.std.proofs.Common.{ℕ, List, ◌++◌, ap, ◌∙◌}
use Rattle.std.specs.List.{flat_map}
use Rattle.trace_model.specs.Spelling.{with_end}
use Rattle.trace_table.specs.Plain.{plain_rows, plain_snapshot}
use Rattle.trace_table.specs.declared.snapshot.Row.{Row}
use Rattle.dump_model.specs.Spelling.{header, row_line}
use Rattle.snap_file.proofs.Joins.{dump_pieces}
use Rattle.snap_file.proofs.dumping.dump.Goals as goal

pub returns : goal.returns
returns c =
    let texts = c.args.texts.now in
    let table = c.args.table.now in
    let first = c.in_ok-extend_from_slice.ensures.items ∙ ap (λ (l : List ℕ). l ++ with_end header) c.new-text.ensures.items in
    let rows =
    c.in_ok-push_rows.ensures
    ∙ ap (λ (rs : List Row). c.push_limit.new.text.items ++ flat_map (λ row. with_end (row_line row)) (plain_rows texts table rs))
    c.as_slice.ensures
    in
    rw c.from_vec.ensures (dump_pieces (plain_snapshot texts table c.args.s.now) _ _ _ _ first c.in_ok-push_limit.ensures rows
    c.in_ok-extend_from_slice-2.ensures.items)
