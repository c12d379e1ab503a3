use Rattle.std.proofs.Common.{map}
use Rattle.std.proofs.lemmas.Result.{err_from_is_err_and}
use Rattle.trace_reader.proofs.ActionSteps.{added, refused, still_known, some_begun}
use Rattle.trace_reader.proofs.Growth.{still_among}
use Rattle.trace_reader.proofs.progress.Progress.action.Goals as goal

pub add_op-requires-clause-among : goal.add_op-requires-clause-among
add_op-requires-clause-among c =
    let p = c.args.self.now in
    let grows = c.in_ok-op.ensures.grows in
    still_among p.trace.texts c.read_op.new.texts p.counts.snapshots grows c.requires.known.snapshots

pub returns-clause-known : goal.returns-clause-known
returns-clause-known c =
    let p = c.args.self.now in
    let read = c.in_ok-op.ensures in
    let some = some_begun p c.args.keyword c.requires.placed in
    still_known p c.read_op.new.texts c.in_ok-op.op c.requires.known read.grows some c.push_op.new.tracks
    c.in_ok-push_op.ensures c.add_op.new.self c.in_ok-add_op.ensures.counts read.known read.table
    c.in_ok-add_op.ensures.room

pub returns-clause-read : goal.returns-clause-read
returns-clause-read c =
    let p = c.args.self.now in
    let read = c.in_ok-op.ensures in
    let some = some_begun p c.args.keyword c.requires.placed in
    added p c.read_op.new.texts c.in_ok-op.op c.requires.known read.grows some c.push_op.new.tracks
    c.in_ok-push_op.ensures c.add_op.new.self c.in_ok-add_op.ensures.counts c.args.keyword
    (map (λ w. w.now) c.args.words.now) read.op c.in_ok-add_op.ensures.room

pub returns-in_err-add_op-clause-read : goal.returns-in_err-add_op-clause-read
returns-in_err-add_op-clause-read c =
    let p = c.args.self.now in
    let read = c.in_ok-op.ensures in
    let some = some_begun p c.args.keyword c.requires.placed in
    let words = map (λ w. w.now) c.args.words.now in
    let passed_on = c.from_residual-in_err-add_op in
    let e = err_from_is_err_and passed_on.result passed_on.ensures.1 in
    rw e.1 (rw e.2 (refused p c.read_op.new.texts c.in_ok-op.op c.requires.known read.grows some c.args.keyword
    words _ read.op c.in_err-add_op.ensures.room))
