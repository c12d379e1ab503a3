use Rattle.std.proofs.Common.{◌≡◌, ◌++◌, ◌∷◌, [], ◌∙◌, List, sym, subst, take, get_or, arith}
use Rattle.frame_stack.specs.declared.tracebacks.TbId.{TbId}
use Rattle.trace_table.specs.declared.snapshot.Row.{Row}
use Rattle.trace_table.specs.declared.key.TraceKey.TheVariants as keys
use Rattle.snap_stats.specs.declared.sums.Sum.{Sum}
use Rattle.snap_stats.specs.Sums.{part_of, parts_of, same_id, AddsUp}
use Rattle.snap_stats.proofs.Adding.{counts_added}
use Rattle.snap_stats.proofs.Framing.{counts_rows, map_more}
use Rattle.snap_stats.proofs.sums.sums_by_traceback.Goals as goal

abbrev no_row : Row
no_row = record { key = keys.Block (record { 0 = 0 }); size = 0; trace = record { 0 = 0 }; total = 0 }

pub add-requires-clause-room : goal.add-requires-clause-room
add-requires-clause-room c =
    let parts = parts_of (take c.loop-row.row-index c.args.rows.now) in
    omega (arith, counts_added same_id parts c.loop-row.sums.entries c.loop-row.invariant, counts_rows c.args.rows.now c.loop-row.row-index, c.requires)

pub loop-row-preserved : goal.loop-row-preserved
loop-row-preserved c =
    let i = c.loop-row.row-index in
    let rows = c.args.rows.now in
    let r : Row = get_or rows i no_row in
    let before = parts_of (take i rows) in
    let more = map_more part_of rows i no_row c.loop-row-test.true in
    let part : TbId → Sum → List (TbId × Sum) = λ id s. before ++ (id, s) ∷ [] in
    let same : part r.trace (record { size = c.from.result; count = 1 }) ≡ part r.trace (record { size = r.size; count = 1 })
    = λ j. part r.trace (record { size = c.from.ensures j; count = 1 }) in
    subst (λ ps. AddsUp same_id ps c.add.new.sums.entries) (same ∙ sym more) (c.in_ok-add.ensures before c.loop-row.invariant)
