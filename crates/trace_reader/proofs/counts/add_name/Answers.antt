use Rattle.std.proofs.Common.{◌==◌, List, sym, ap, ◌∙◌}
use Rattle.std.specs.List.{list_any}
use Rattle.std.proofs.lemmas.Result.{on_ok_weaker}
use Rattle.mem_base.specs.declared.texts.TextId.{TextId}
use Rattle.trace_reader.proofs.SnapshotSteps.{grows, stays}
use Rattle.trace_reader.proofs.counts.add_name.Goals as goal

pub returns-then-contains-clause-names : goal.returns-then-contains-clause-names
returns-then-contains-clause-names c =
    let name = c.args.name in
    let found =
    ap (λ (ids : List TextId). list_any (λ other. other.0 == name.0) ids) (sym c.as_slice.ensures)
    ∙ sym c.contains.ensures.value ∙ c.if-contains.true
    in
    stays c.args.texts.now c.len-count.ensures.table.distinct name c.requires.is_known c.args.names.now
    c.requires.among found

pub returns-clause-names : goal.returns-clause-names
returns-clause-names c =
    let name = c.args.name in
    let absent =
    ap (λ (ids : List TextId). list_any (λ other. other.0 == name.0) ids) (sym c.as_slice.ensures)
    ∙ sym c.contains.ensures.value ∙ c.if-contains.false
    in
    on_ok_weaker c.push.result
    (grows c.args.texts.now c.len-count.ensures.table.distinct name c.requires.is_known c.args.names.now
    c.push.new.self c.requires.among absent) c.push.ensures.ok
