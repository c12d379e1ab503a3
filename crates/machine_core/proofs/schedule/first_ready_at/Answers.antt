use Rattle.std.proofs.Common.{◌≡◌, ◌∙◌, ℕ, false, List, length, slice_index_or, sym, ap, subst, arith, inl, inr}
use Rattle.std.proofs.lemmas.Bool.{cases_lt}
use Rattle.machine_core.specs.Ready.{is_ready_now}
use Rattle.machine_core.proofs.UnfinishedLemmas.{first_found, none_found}
use Rattle.machine_core.proofs.schedule.first_ready_at.Goals as goal

pub returns-then-is_ready_at-clause-first : goal.returns-then-is_ready_at-clause-first
returns-then-is_ready_at-clause-first c =
    first_found c.args.trace.now c.args.owner c.args.progress.now c.requires c.loop-i.i _
    (omega (arith, c.loop-i-test.true, ap length c.as_slice-unfinished.ensures.value))
    (ap (λ (l : List ℕ). slice_index_or l c.loop-i.i 0) c.as_slice-unfinished.ensures.value) c.loop-i.invariant
    (ap (λ (d : List ℕ). is_ready_now c.args.trace.now c.args.owner d
    (slice_index_or c.as_slice-unfinished.result.now c.loop-i.i 0)) (sym c.as_slice-done.ensures.value)
    ∙ sym c.is_ready_at.ensures ∙ c.if-is_ready_at.true)

pub loop-i-preserved : goal.loop-i-preserved
loop-i-preserved c = λ k lt. elim (cases_lt k c.loop-i.i) [
  | inl less ↦ c.loop-i.invariant k less
  | inr le ↦
      let last : k ≡ c.loop-i.i = omega (arith, lt, le) in
      subst (λ (j : ℕ). is_ready_now c.args.trace.now c.args.owner c.args.progress.now.done.items
      (slice_index_or c.args.progress.now.unfinished.items j 0) ≡ false) (sym last)
      (ap (λ (d : List ℕ). is_ready_now c.args.trace.now c.args.owner d
      (slice_index_or c.args.progress.now.unfinished.items c.loop-i.i 0)) (sym c.as_slice-done.ensures.value)
      ∙ ap (λ (l : List ℕ). is_ready_now c.args.trace.now c.args.owner c.as_slice-done.result.now
      (slice_index_or l c.loop-i.i 0)) (sym c.as_slice-unfinished.ensures.value)
      ∙ sym c.is_ready_at.ensures ∙ c.if-is_ready_at.false)
]

pub returns-clause-none : goal.returns-clause-none
returns-clause-none c =
    none_found c.args.trace.now c.args.owner c.args.progress.now c.requires
    (λ k lt. c.loop-i.invariant k (omega (arith, lt, c.loop-i-test.false, ap length c.as_slice-unfinished.ensures.value)))
