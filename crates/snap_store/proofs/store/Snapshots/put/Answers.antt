use Rattle.std.proofs.Common.{◌≡◌, ◌∙◌, List, [], ◌∷◌, ◌++◌, get_or, set, sym, ap}
use Rattle.snap_store.specs.declared.store.Named.{Named}
use Rattle.snap_store.proofs.Places.{push_keeps, set_keeps}
use Rattle.snap_store.proofs.store.Snapshots.put.Goals as goal

pub returns-in-Some-clause-keeps : goal.returns-in-Some-clause-keeps
returns-in-Some-clause-keeps c =
    let n = c.index_mut.result.now in
    let all = c.args.self.now in
    let at = c.in-Some.at in
    let its : n ≡ get_or all at n =
    c.index_mut.ensures.value ∙ ap (λ (l : List Named). get_or l at n) c.self.view_is in
    set_keeps c.args.name c.args.s n all _ at (sym c.in-Some.ensures)
    (λ i. set (c.self.view_is i) at (record (its i) { snapshot = c.args.s }))

pub returns-in_ok-push-in-None-clause-keeps : goal.returns-in_ok-push-in-None-clause-keeps
returns-in_ok-push-in-None-clause-keeps c =
    push_keeps c.args.name c.args.s c.args.self.now c.push.new.self.items (sym c.in-None.ensures)
    (c.in_ok-push-in-None.ensures.items
    ∙ ap (λ (l : List Named). l ++ (record { name = c.args.name; snapshot = c.args.s }) ∷ []) c.self.view_is)
