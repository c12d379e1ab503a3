use Rattle.std.proofs.Common.{◌-◌, List, length, slice_get, sym, ap, ◌∙◌}
use Rattle.trace_table.specs.declared.snapshot.Row.{Row}
use Rattle.snap_file.specs.Plain.{plain_key}
use Rattle.snap_file.proofs.PushSteps.{after_last}
use Rattle.snap_file.proofs.progress.Progress.is_after.Goals as goal

pub returns-in-Some : goal.returns-in-Some
returns-in-Some c =
    let l = c.args.self.now.loaded in
    let rows = c.args.self.now.rows in
    c.is_before.ensures
    ∙ sym (after_last l.texts l.table (plain_key c.args.key) rows c.in-Some.row.now
    (ap (λ (rs : List Row). slice_get rs (length rs - 1)) (sym c.as_slice.ensures) ∙ sym c.in-Some.ensures.value))
