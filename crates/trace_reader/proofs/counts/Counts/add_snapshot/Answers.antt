use Rattle.std.proofs.Common.{length}
use Rattle.trace_reader.proofs.counts.Counts.add_snapshot.Goals as goal

pub add_name-requires-clause-is_known : goal.add_name-requires-clause-is_known
add_name-requires-clause-is_known c = c.in-Some.ensures.known (length c.args.texts.now) c.requires.is_known
