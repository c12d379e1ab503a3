use Rattle.std.proofs.Common.{◌≡◌, IfSome, sym, ap, subst}
use Rattle.arena_set.specs.Started.{Started}
use Rattle.arena_set.specs.Calls.{HasStarted, Links}
use Rattle.py_heap.specs.Links.{next_of, prev_of}
use Rattle.py_heap.specs.Relinks.{NextWritten}
use Rattle.py_heap.proofs.Arenas.{started_once}
use Rattle.py_heap.proofs.Relinking.{only_links, word_kept, word_written}
use Rattle.py_heap.proofs.classes.set_next.Goals as goal

module _ (c : goal.After-set_next) where
  there : HasStarted c.args.set.now c.in-Some.pool
  there = subst (λ o. IfSome o (HasStarted c.args.set.now)) c.in-Some.is c.requires.pool

  abbrev now : Started
  now = record (there).s { next = c.args.place }

  links : Links c.args.set.now c.set_next.new.self c.in-Some.pool now
  links = c.set_next.ensures.links (there).a (there).s (there).started

  same : (there).s ≡ (links).s
  same = (started_once c.args.set.now c.in-Some.pool (there).a (links).a (there).s (links).s (there).started (links).started).1

  class : (there).s.pool.class ≡ (links).s.pool.class
  class = ap (λ (z : Started). z.pool.class) same

pub returns-in-Some-clause-only : goal.returns-in-Some-clause-only
returns-in-Some-clause-only c =
    let e = c.set_next.ensures in only_links c.args.set.now c.set_next.new.self c.in-Some.pool (now c) (links c) (class c) e.set e.same e.pools e.loans e.regions

pub returns-in-Some-clause-next : goal.returns-in-Some-clause-next
returns-in-Some-clause-next c = subst (λ o. NextWritten o c.args.place c.args.set.now c.set_next.new.self) (sym c.in-Some.is) (word_written c.args.set.now c.set_next.new.self c.in-Some.pool (now c) (links c) (class c) next_of)

pub returns-in-Some-clause-prev : goal.returns-in-Some-clause-prev
returns-in-Some-clause-prev c = word_kept c.args.set.now c.set_next.new.self c.in-Some.pool (now c) (links c) (class c) prev_of (ap (λ (z : Started). z.prev) (same c))
