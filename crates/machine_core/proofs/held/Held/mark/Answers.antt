use Rattle.std.proofs.Common.{◌≡◌, ◌∙◌, refl, subst, None, Option}
use Rattle.std.specs.Prelude.{IfNone, IfSome}
use Rattle.trace_table.specs.declared.key.TraceOf.{TraceOf as Stored}
use Rattle.machine_core.specs.Prepared.{IsTraceBy}
use Rattle.machine_core.proofs.TracingLemmas.{mark_acts, mark_idle}
use Rattle.machine_core.proofs.held.Held.mark.Goals as goal

pub returns-in-Ok-clause-acts : goal.returns-in-Ok-clause-acts
returns-in-Ok-clause-acts c =
    let mid = c.trace_by.new.self in
    mark_acts c.args.t c.args.self.now mid (record mid { tracing = c.mark.new.self }) c.args.domain c.args.number
    c.trace_by.ensures.as_it_was c.args.size c.in-Some.of
    (subst (λ (o : Option Stored). IfSome o (IsTraceBy mid c.args.t c.args.size)) c.in-Some.is
    c.in_ok-of.ensures.trace) refl c.in-Ok.ensures.changes

pub returns-in_default-clause-acts : goal.returns-in_default-clause-acts
returns-in_default-clause-acts c =
    let old = c.args.self.now in
    let mid = c.trace_by.new.self in
    mark_idle c.args.t old mid mid c.args.domain c.args.number c.trace_by.ensures.as_it_was c.args.size
    (c.trace_by.ensures.as_it_was.tracing.limit
    ∙ subst (λ (o : Option Stored). IfNone o (old.tracing.limit ≡ None)) c.in_default.is c.in_ok-of.ensures.none) refl
