use Rattle.std.proofs.Common.{length}
use Rattle.report_text.proofs.events.name_of_block.Goals as goal

pub get-requires : goal.get-requires
get-requires c = c.in-Some.ensures.known (length c.args.texts.now) c.requires
