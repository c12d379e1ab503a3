use Rattle.std.proofs.Common.{◌≡◌, ◌++◌, take}
use Rattle.std.specs.List.{flat_map}
use Rattle.trace_model.specs.Spelling.{with_end}
use Rattle.trace_table.specs.Plain.{plain_rows}
use Rattle.dump_model.specs.Spelling.{row_line}
use Rattle.snap_file.proofs.dumping.push_rows.Given as goal

-- the lines so far
abbrev pub invariant-loop-row : goal.invariant-loop-row
invariant-loop-row l =
    l.text.items
    ≡ l.fn.text.items ++ flat_map (λ row. with_end (row_line row)) (plain_rows l.texts l.table (take l.row-index l.rows))
