use Rattle.std.proofs.Common.{arith}
use Rattle.snap_stats.proofs.Answering.{parts_fit, sums_known}
use Rattle.snap_stats.proofs.sums.sums_by_frame.Goals as goal

pub spread-requires-clause-known : goal.spread-requires-clause-known
spread-requires-clause-known c =
    sums_known c.args.table.now c.args.rows.now c.in_ok-sums.sums.entries c.requires.traced c.in_ok-sums.ensures

pub spread-requires-clause-room : goal.spread-requires-clause-room
spread-requires-clause-room c =
    let fit = parts_fit c.args.by_line c.args.cumulative c.args.table.now c.args.rows.now c.in_ok-sums.sums.entries
    c.requires.few c.requires.traced c.requires.short c.in_ok-sums.ensures in
    omega (arith, fit)
