-- The heap's shape: what its layout shows, and how many blocks lie in pools and in raw regions.
use Rattle.mem_base.specs.declared.reply.View.{View}
use Rattle.layout_model.specs.Layout.{Layout}
use Rattle.layout_model.specs.View.{shape_of}
use Rattle.event_model.specs.Blocks.{Blocks, pool_count, raw_count}

abbrev pub heap_view : Blocks → Layout → View
heap_view blocks l = shape_of (pool_count blocks) (raw_count blocks) l
