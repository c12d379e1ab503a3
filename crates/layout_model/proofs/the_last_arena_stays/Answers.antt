use Rattle.layout_model.proofs.Examples.{the_last_arena_stays}
use Rattle.layout_model.proofs.the_last_arena_stays.Goals as goal

pub returns : goal.returns
returns c = the_last_arena_stays
