use Rattle.std.proofs.Common.{refl, ap, set}
use Rattle.py_heap.proofs.Relinking.{some_started, still_started}
use Rattle.py_heap.proofs.Lists.{leads_started, next_link, next_read, prev_link, prev_read, unlink_started, unlinks}
use Rattle.py_heap.proofs.pools.Pools.unlink.Goals as goal

pub next-next-requires : goal.next-next-requires
next-next-requires c = let q = c.requires in unlink_started c.args.self.now c.args.class q.class q.marked q.linked c.args.pool q.listed

pub prev-prev-requires : goal.prev-prev-requires
prev-prev-requires c = let q = c.requires in unlink_started c.args.self.now c.args.class q.class q.marked q.linked c.args.pool q.listed

pub follow-after-requires-clause-link : goal.follow-after-requires-clause-link
follow-after-requires-clause-link c =
    let q = c.requires in let p = c.args.self.now in let h = unlink_started p c.args.class q.class q.marked q.linked c.args.pool q.listed in
    next_link p c.args.class q.class q.marked q.linked c.args.pool q.listed c.next-next.result (next_read p.set c.args.pool c.next-next.result h (c.next-next.ensures h.a h.s h.started))

pub follow-before-requires-clause-link : goal.follow-before-requires-clause-link
follow-before-requires-clause-link c =
    let q = c.requires in let p = c.args.self.now in let h = unlink_started p c.args.class q.class q.marked q.linked c.args.pool q.listed in
    prev_link p c.args.class q.class q.marked q.linked c.args.pool q.listed c.prev-prev.result (prev_read p.set c.args.pool c.prev-prev.result h (c.prev-prev.ensures h.a h.s h.started))

pub set_prev-requires-clause-pool : goal.set_prev-requires-clause-pool
set_prev-requires-clause-pool c = let p = c.args.self.now in some_started p.set c.set_next.new.set c.follow-after.result c.set_next.ensures.only (leads_started p.set c.next-next.result c.follow-after.result c.follow-after.ensures)

pub set_next-requires-2-clause-pool : goal.set_next-requires-2-clause-pool
set_next-requires-2-clause-pool c =
    let q = c.requires in let p = c.args.self.now in let h = unlink_started p c.args.class q.class q.marked q.linked c.args.pool q.listed in
    still_started c.set_next.new.set c.set_prev.new.set c.args.pool c.set_prev.ensures.only (still_started p.set c.set_next.new.set c.args.pool c.set_next.ensures.only h)

pub set_prev-requires-2-clause-pool : goal.set_prev-requires-2-clause-pool
set_prev-requires-2-clause-pool c =
    let q = c.requires in let p = c.args.self.now in let h = unlink_started p c.args.class q.class q.marked q.linked c.args.pool q.listed in
    still_started c.set_prev.new.set c.set_next-2.new.set c.args.pool c.set_next-2.ensures.only (still_started c.set_next.new.set c.set_prev.new.set c.args.pool c.set_prev.ensures.only (still_started p.set c.set_next.new.set c.args.pool c.set_next.ensures.only h))

pub returns : goal.returns
returns c =
    let q = c.requires in let p = c.args.self.now in let h = unlink_started p c.args.class q.class q.marked q.linked c.args.pool q.listed in
    let a = c.set_next.ensures in let b = c.set_prev.ensures in let d = c.set_next-2.ensures in let e = c.set_prev-2.ensures in
    unlinks p c.args.class q.class q.marked q.linked c.args.pool q.listed c.follow-after.result c.follow-before.result c.next-next.result c.prev-prev.result
    (next_read p.set c.args.pool c.next-next.result h (c.next-next.ensures h.a h.s h.started)) (prev_read p.set c.args.pool c.prev-prev.result h (c.prev-prev.ensures h.a h.s h.started)) c.follow-after.ensures c.follow-before.ensures
    c.set_next.new.set c.set_prev.new.set c.set_next-2.new.set c.set_prev-2.new.set a.only b.only d.only e.only a.next b.next d.next e.next a.prev b.prev d.prev e.prev
    _ (set p.classes.items c.args.class c.fewer.new.self) refl c.index_mut.result.now (ap (set p.classes.items c.args.class) c.fewer.ensures) c.index_mut.ensures.value refl refl
