use Rattle.std.proofs.Common.{◌≤◌, refl, sym, subst, ap, ◌∙◌, arith}
use Rattle.extents.specs.Extent.{region_extent}
use Rattle.extents.specs.Sums.{AllIn, Has, Inserted, Removed}
use Rattle.extents.proofs.CallerLemmas.{has_kept, has_new, meets_part}
use Rattle.sources.specs.Holder.{AskedUnrefused, Traded}
use Rattle.sources.proofs.CallerLemmas.{traded_nothing, traded_got, traded_back}
use Rattle.raw_heap.specs.Kept.{blocks}
use Rattle.raw_heap.proofs.heap.RawHeap.alloc.Goals as goal
use Rattle.raw_heap.proofs.heap.RawHeap.alloc.Goals.{in-Ok-lend, in-Err}

pub lend-requires-clause-apart : goal.lend-requires-clause-apart
lend-requires-clause-apart g c =
    let out = (g.R.RawSource.seen c.args.raws.now).out in
    meets_part (region_extent c.in-Ok.region) (blocks c.self.inside.regions.entries) out (subst (λ h. AllIn h out) (sym c.self.view_is) c.requires.held) c.in-Ok.ensures.granted.apart

pub give-requires : goal.give-requires
give-requires g c =
    let out = (g.R.RawSource.seen c.ask.new.self).out in
    (subst (λ e. Has e out) (sym c.in-Err.ensures.same) (has_new (region_extent c.in-Ok.region) _ out c.in-Ok.ensures.granted.added), c.in-Err.ensures.whole)

pub returns-after-lend-clause-stay : goal.returns-after-lend-clause-stay
returns-after-lend-clause-stay g c =
    let new_held = blocks c.lend.new.regions.entries in
    elim c.match-lend.branch [
      | in-Ok-lend w ↦ λ d here. has_kept (region_extent c.in-Ok.region) d (blocks c.self.inside.regions.entries) new_held w.in-Ok-lend.ensures.added (subst (Has d) (sym c.self.view_is) here)
      | in-Err w ↦ λ d here. subst (Has d) (sym (ap blocks w.in-Err.ensures.left ∙ c.self.view_is)) here
    ]

pub returns-after-lend-clause-traded : goal.returns-after-lend-clause-traded
returns-after-lend-clause-traded g c =
    let old = g.R.RawSource.seen c.args.raws.now in let mid = g.R.RawSource.seen c.ask.new.self in
    let held = c.args.self.now in let new_held = blocks c.lend.new.regions.entries in
    let e = region_extent c.in-Ok.region in let granted = c.in-Ok.ensures.granted in
    let some : 1 ≤ e.len = omega (arith, c.in-Ok.ensures.raw.len, c.max.ensures) in
    elim c.match-lend.branch [
      | in-Ok-lend w ↦
          let added = subst (λ h. Inserted e h new_held) c.self.view_is w.in-Ok-lend.ensures.added in
          subst (λ r. Traded held new_held old (g.R.RawSource.seen r)) (sym w.raws-is)
          (traded_got held new_held old mid c.requires.held c.in-Ok.ensures.window c.in-Ok.ensures.shape e added granted.added)
      | in-Err w ↦
          let new = g.R.RawSource.seen w.give.new.self in
          let back = subst (λ d. Removed d mid.out new.out) w.in-Err.ensures.same w.give.ensures.back in
          let same = ap blocks w.in-Err.ensures.left ∙ c.self.view_is in
          subst (λ r. Traded held new_held old (g.R.RawSource.seen r)) (sym w.raws-is)
          (traded_back held new_held old new c.requires.held (w.give.ensures.window ∙ c.in-Ok.ensures.window) (w.give.ensures.shape ∙ c.in-Ok.ensures.shape) e mid.out some granted.apart granted.added back same)
    ]

pub returns-in-Err-Refused-clause-traded : goal.returns-in-Err-Refused-clause-traded
returns-in-Err-Refused-clause-traded g c =
    let asked = c.in-Err-Refused.ensures in
    traded_nothing c.args.self.now c.args.self.now (g.R.RawSource.seen c.args.raws.now) (g.R.RawSource.seen c.ask.new.self) c.requires.held asked.window asked.shape refl asked.none

pub returns-in-Err-OutOfMemory-clause-traded : goal.returns-in-Err-OutOfMemory-clause-traded
returns-in-Err-OutOfMemory-clause-traded g c =
    let asked = c.in-Err-OutOfMemory.ensures in
    traded_nothing c.args.self.now c.args.self.now (g.R.RawSource.seen c.args.raws.now) (g.R.RawSource.seen c.ask.new.self) c.requires.held asked.window asked.shape refl asked.none

pub returns-after-lend-clause-unrefused : goal.returns-after-lend-clause-unrefused
returns-after-lend-clause-unrefused g c =
    let old = g.R.RawSource.seen c.args.raws.now in let mid = g.R.RawSource.seen c.ask.new.self in let e = c.in-Ok.ensures in
    elim c.match-lend.branch [
      | in-Ok-lend w ↦ rw w.result-is tt
      | in-Err w ↦ rw w.result-is (
          subst (λ r. AskedUnrefused old (g.R.RawSource.seen r)) (sym w.raws-is)
          (record { asks = 1; few = omega arith; answered = record { asked = w.give.ensures.asked ∙ e.asked; refused = w.give.ensures.refused ∙ e.refused; heeded = λ one planned. let wrong = e.planned planned in cc }; plan = w.give.ensures.plan ∙ e.plan })
          )
    ]
