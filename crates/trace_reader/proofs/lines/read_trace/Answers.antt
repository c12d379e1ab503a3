use Rattle.trace_reader.proofs.Found.{is_found, is_read}
use Rattle.trace_reader.proofs.lines.read_trace.Goals as goal

pub returns-clause-found : goal.returns-clause-found
returns-clause-found c = is_found c.args.bytes.now c.read.result c.read.ensures.read

pub returns-clause-only : goal.returns-clause-only
returns-clause-only c = is_read c.args.bytes.now c.read.result c.read.ensures.read
