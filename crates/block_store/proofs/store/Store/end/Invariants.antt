use Rattle.domain_api.specs.Held.{AreAskedNothing, AreHeld}
use Rattle.py_heap.specs.Heap.{regions_of}
use Rattle.sources.specs.Holder.{Traded}
use Rattle.block_store.specs.Slots.{IsStore}
use Rattle.block_store.proofs.store.Store.end.Given as goal

-- the slots that are left have just the blocks that are left
abbrev pub invariant-loop-slot : goal.invariant-loop-slot
invariant-loop-slot g l = record {
  stored : IsStore l.slots.items l.domains;
  held : AreHeld l.domains (g.A.ArenaSource.seen l.arenas) (g.R.RawSource.seen l.raws);
  nothing : AreAskedNothing (g.A.ArenaSource.seen l.fn.arenas) (g.A.ArenaSource.seen l.arenas) (g.R.RawSource.seen l.fn.raws) (g.R.RawSource.seen l.raws);
  arenas : Traded l.fn.self.arenas (regions_of l.domains.heap) (g.A.ArenaSource.seen l.fn.arenas) (g.A.ArenaSource.seen l.arenas);
  regions : Traded l.fn.self.raws l.domains.raws (g.R.RawSource.seen l.fn.raws) (g.R.RawSource.seen l.raws);
}

abbrev pub decreases-loop-slot : goal.decreases-loop-slot
decreases-loop-slot g l = goal.left-loop-slot g l
