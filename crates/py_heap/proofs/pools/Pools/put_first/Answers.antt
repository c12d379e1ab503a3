use Rattle.std.proofs.Common.{IfSome, refl, ap, subst, set}
use Rattle.arena_set.specs.Calls.{HasStarted}
use Rattle.py_heap.specs.declared.classes.ClassPools.{ClassPools}
use Rattle.py_heap.proofs.Relinking.{some_started}
use Rattle.py_heap.proofs.Lists.{first_started, put_head, puts_first}
use Rattle.py_heap.proofs.pools.Pools.put_first.Goals as goal

pub place_or_0-next-requires : goal.place_or_0-next-requires
place_or_0-next-requires c =
    let q = c.requires in let p = c.args.self.now in let head = put_head p c.args.class q.class q.marked q.linked c.args.pool q.pool c.index.result.now c.index.ensures in
    subst (λ o. IfSome o (HasStarted p.set)) (ap (λ (h : ClassPools). h.first) head) (first_started p c.args.class q.class q.marked q.linked c.args.pool q.pool)

pub set_prev-requires-clause-pool : goal.set_prev-requires-clause-pool
set_prev-requires-clause-pool c =
    let q = c.requires in let p = c.args.self.now in let head = put_head p c.args.class q.class q.marked q.linked c.args.pool q.pool c.index.result.now c.index.ensures in
    some_started p.set c.set_next.new.set c.index.result.now.first c.set_next.ensures.only (subst (λ o. IfSome o (HasStarted p.set)) (ap (λ (h : ClassPools). h.first) head) (first_started p c.args.class q.class q.marked q.linked c.args.pool q.pool))

pub returns : goal.returns
returns c =
    let q = c.requires in let p = c.args.self.now in let a = c.set_next.ensures in let b = c.set_prev.ensures in
    puts_first p c.args.class q.class q.marked q.linked c.args.pool q.pool c.index.result.now c.index.ensures c.place_or_0-next.result c.place-place.result c.place_or_0-next.ensures c.place-place.ensures
    c.set_next.new.set c.set_prev.new.set a.only b.only a.next b.next a.prev b.prev _ (set p.classes.items c.args.class c.more.new.self) refl c.index_mut.result.now c.index_mut.ensures.value (ap (set p.classes.items c.args.class) c.more.ensures) refl refl
