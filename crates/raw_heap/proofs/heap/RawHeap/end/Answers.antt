use Rattle.std.proofs.Common.{◌∙◌}
use Rattle.raw_heap.proofs.Blocks.{no_blocks}
use Rattle.raw_heap.proofs.heap.RawHeap.end.Goals as goal

pub destroy_empty-requires : goal.destroy_empty-requires
destroy_empty-requires c = no_blocks c.self.inside.regions.entries (c.self.view_is ∙ c.requires)
