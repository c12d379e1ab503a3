use Rattle.std.proofs.Common.{◌≡◌, ◌<◌, ◌^◌, ◌∙◌, ap, arith, length, subst, sym, List}
use Rattle.trace_table.specs.Rows.{AreAllRows}
use Rattle.trace_table.specs.Traces.{Traces}
use Rattle.trace_table.specs.Tracing.{TracingView}
use Rattle.trace_table.specs.declared.snapshot.Row.{Row}
use Rattle.trace_table.proofs.RowLemmas.{is_taken}
use Rattle.trace_table.proofs.tracing.Tracing.snapshot.Goals as goal

pub returns-in-Ok-clause-taken : goal.returns-in-Ok-clause-taken
returns-in-Ok-clause-taken c = λ texts distinct are.
    let ranks = c.args.ranks.now in
    let t : TracingView = c.args.self.now in
    let rows : List Row = c.from_vec.result in
    let traces : c.self.inside.traces.entries ≡ t.traces = ap (λ (m : TracingView). m.traces) c.self.view_is in
    let here : AreAllRows ranks c.self.inside.traces.entries rows
    = subst (λ (rs : List Row). AreAllRows ranks c.self.inside.traces.entries rs) (sym c.from_vec.ensures) c.in-Ok.ensures in
    let all : AreAllRows ranks t.traces rows = subst (λ (ts : Traces). AreAllRows ranks ts rows) traces here in
    let few : length t.traces < 2 ^ 32 = omega (arith, c.self.invariant.few, ap length traces) in
    is_taken texts ranks t (record { limit = c.in-Some.limit; rows = rows }) distinct are all c.requires
    (sym (ap (λ (m : TracingView). m.limit) c.self.view_is) ∙ c.in-Some.is) few
