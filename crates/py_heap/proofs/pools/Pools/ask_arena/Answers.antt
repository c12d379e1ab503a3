use Rattle.std.proofs.Common.{◌+◌, Some, Err, sym, ap, subst, ◌∙◌, refl, arith}
use Rattle.raw_region.specs.Cells.{AllHome}
use Rattle.extents.specs.Sums.{Has, Inserted, Removed}
use Rattle.extents.specs.Extent.{region_extent}
use Rattle.extents.proofs.CallerLemmas.{meets_part, has_new}
use Rattle.raw_region.specs.Region.{RegionView}
use Rattle.sources.specs.Source.{refusals}
use Rattle.arena_set.specs.Set.{regions_of}
use Rattle.py_heap.specs.Kept.{heap_of}
use Rattle.py_heap.specs.State.{state_of}
use Rattle.py_heap.proofs.Growing.{granted_serves}
use Rattle.py_heap.proofs.Asking.{served_granted, served_refused, refused_serves, failed_asked, failed_back}
use Rattle.py_heap.proofs.pools.Pools.ask_arena.Goals as goal

pub add_arena-requires-clause-come : goal.add_arena-requires-clause-come
add_arena-requires-clause-come g c = record {
  none = c.requires.dry;
  arena = c.in-Ok.ensures.arena;
  home = c.in-Ok.ensures.granted.home;
  apart = meets_part (region_extent c.in-Ok.region) (regions_of c.args.self.now.set.arenas) (g.A.ArenaSource.seen c.args.arenas.now).out c.requires.held c.in-Ok.ensures.granted.apart;
  few = c.requires.few;
}

pub returns-in-Some-clause-served : goal.returns-in-Some-clause-served
returns-in-Some-clause-served g c =
    let s = state_of c.args.self.now in let q = c.requires in let a = c.add_arena in let ok = c.in-Ok-add_arena in let l = c.lend_new in let p = c.in-Some in let e = c.in-Ok.ensures in let r = region_extent c.in-Ok.region in
    let added = ok.ensures.added in
    let serves = granted_serves s (state_of a.new.self) (state_of l.new.self) c.args.class ok.total c.in-Ok.region p.piece q.class q.kept q.none q.dry added.1 added.0 p.ensures.serves.1 in
    served_granted (heap_of s) (heap_of (state_of l.new.self)) (g.A.ArenaSource.seen c.args.arenas.now) (g.A.ArenaSource.seen c.ask.new.self) q.held e.asked e.plan e.window e.shape c.args.class ok.total (Some p.piece) r serves (e.arena.len, added.1, e.granted.inside, e.granted.apart) e.refused (λ planned. let wrong = e.planned planned in cc)
    (subst (λ rs. Inserted r (regions_of c.args.self.now.set.arenas) rs) (sym p.ensures.serves.2) added.0.regions) e.granted.added

-- there was no memory for the map, and the region goes back
pub give-requires : goal.give-requires
give-requires g c =
    let before = g.A.ArenaSource.seen c.args.arenas.now in let mid = g.A.ArenaSource.seen c.ask.new.self in
    let e = c.in-Ok.ensures in let same = c.in-Err.ensures.left.0 in (
      subst (λ (r : RegionView). Has (region_extent r) mid.out) (sym same) (has_new (region_extent c.in-Ok.region) before.out mid.out e.granted.added),
      subst (λ (r : RegionView). AllHome r.cells) (sym same) e.granted.home,
    )

pub returns-in-Err-clause-failed : goal.returns-in-Err-clause-failed
returns-in-Err-clause-failed g c =
    let before = g.A.ArenaSource.seen c.args.arenas.now in let mid = g.A.ArenaSource.seen c.ask.new.self in let after = g.A.ArenaSource.seen c.give.new.self in
    let s = state_of c.args.self.now in let q = c.requires in let e = c.in-Ok.ensures in let b = c.give.ensures in let left = c.in-Err.ensures.left in
    let back = subst (λ (r : RegionView). Removed (region_extent r) mid.out after.out) left.0 b.back in
    let long = e.arena.len in
    failed_back (heap_of s) (heap_of (state_of c.add_arena.new.self)) before after q.held (b.asked ∙ e.asked) (b.plan ∙ e.plan) (b.window ∙ e.window) (b.shape ∙ e.shape) (region_extent c.in-Ok.region) mid.out (ap heap_of left.1)
    (b.refused ∙ e.refused) (λ planned. let wrong = e.planned planned in cc) (omega arith) e.granted.apart e.granted.added back

pub returns-in-Err-Refused-clause-served : goal.returns-in-Err-Refused-clause-served
returns-in-Err-Refused-clause-served g c =
    let s = state_of c.args.self.now in let q = c.requires in let e = c.in-Err-Refused.ensures in
    served_refused (heap_of s) (heap_of s) (g.A.ArenaSource.seen c.args.arenas.now) (g.A.ArenaSource.seen c.ask.new.self) q.held e.asked e.plan e.window e.shape c.args.class
    (refused_serves s c.args.class q.kept q.class q.none q.dry) refl (e.refused ∙ ap (λ f. (g.A.ArenaSource.seen c.args.arenas.now).refused + refusals {T = RegionView} (Err f)) c.in-Err-Refused.field-0-is) e.none

pub returns-in-Err-OutOfMemory-clause-failed : goal.returns-in-Err-OutOfMemory-clause-failed
returns-in-Err-OutOfMemory-clause-failed g c =
    let s = state_of c.args.self.now in let q = c.requires in let e = c.in-Err-OutOfMemory.ensures in
    failed_asked (heap_of s) (heap_of s) (g.A.ArenaSource.seen c.args.arenas.now) (g.A.ArenaSource.seen c.ask.new.self) q.held e.asked e.plan e.window e.shape refl (e.refused ∙ ap (λ f. (g.A.ArenaSource.seen c.args.arenas.now).refused + refusals {T = RegionView} (Err f)) c.in-Err-OutOfMemory.field-0-is) (λ planned. let wrong = e.planned planned in let is = c.in-Err-OutOfMemory.field-0-is in cc) e.none
