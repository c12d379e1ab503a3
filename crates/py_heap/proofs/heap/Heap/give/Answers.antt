use Rattle.std.proofs.Common.{refl, sym, ap, subst, ◌∙◌}
use Rattle.extents.specs.Sums.{AllIn}
use Rattle.extents.specs.Extent.{region_extent}
use Rattle.extents.proofs.CallerLemmas.{has_new}
use Rattle.sources.specs.Holder.{Traded}
use Rattle.arena_set.specs.Set.{regions_of as regions_in}
use Rattle.layout_model.specs.Unplace.{unplace}
use Rattle.py_heap.specs.Heap.{HeapView, IsHeap, regions_of}
use Rattle.py_heap.specs.State.{state_of}
use Rattle.py_heap.proofs.Growth.{Stays, unplace_stays}
use Rattle.py_heap.proofs.Promises.{is_heap, went_back, none_went}
use Rattle.py_heap.proofs.heap.Heap.give.Goals as goal
use Rattle.py_heap.proofs.heap.Heap.give.Goals.{in-Some-free, in_default}

pub give-requires : goal.give-requires
give-requires g c =
    let less = c.in-Some-free.ensures.back.regions in let old = state_of c.self.inside.pools in let new = state_of c.free.new.self in
    let out = (g.A.ArenaSource.seen c.args.arenas.now).out in let e = region_extent c.in-Some-free.region in
    (subst (λ h. AllIn (regions_of h) out) (sym c.self.view_is) c.requires.held e (has_new e (regions_in new.set.arenas) (regions_in old.set.arenas) less.0), less.1)

pub returns-clause-traded : goal.returns-clause-traded
returns-clause-traded g c =
    let old = state_of c.self.inside.pools in let new = state_of c.free.new.self in let before = g.A.ArenaSource.seen c.args.arenas.now in
    let held = subst (λ h. AllIn (regions_of h) before.out) (sym c.self.view_is) c.requires.held in
    subst (λ h. Traded (regions_of h) (regions_in new.set.arenas) before (g.A.ArenaSource.seen c.match-free.arenas)) c.self.view_is (elim c.match-free.branch [
      | in-Some-free w ↦
          let after = g.A.ArenaSource.seen w.give.new.self in
          subst (λ a. Traded (regions_in old.set.arenas) (regions_in new.set.arenas) before (g.A.ArenaSource.seen a)) (sym w.arenas-is)
          (went_back old new c.self.invariant before after held w.give.ensures.window w.give.ensures.shape w.in-Some-free.region w.in-Some-free.ensures.back.regions w.give.ensures.back)
      | in_default w ↦
          subst (λ a. Traded (regions_in old.set.arenas) (regions_in new.set.arenas) before (g.A.ArenaSource.seen a)) (sym w.arenas-is)
          (none_went old new c.self.invariant before before held refl refl w.in_default.ensures.back.regions refl)
    ])

pub returns-clause-heap : goal.returns-clause-heap
returns-clause-heap g c = is_heap (state_of c.free.new.self) c.free.ensures.kept

pub returns-clause-stays : goal.returns-clause-stays
returns-clause-stays g c =
    let old = state_of c.self.inside.pools in let new = state_of c.free.new.self in let freed = c.free.ensures.back.freed in
    let layout = freed.layout ∙ ap (λ (h : HeapView). unplace h.layout freed.pool) c.self.view_is in
    subst (Stays c.args.self.now.layout) (sym layout) (unplace_stays c.args.self.now.layout freed.pool)

pub returns-in-None-clause-heap : goal.returns-in-None-clause-heap
returns-in-None-clause-heap g c = subst IsHeap c.self.view_is (is_heap (state_of c.self.inside.pools) c.self.invariant)
