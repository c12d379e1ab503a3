use Rattle.std.proofs.Common.{◌≡◌, ◌∙◌, List, Some, get_or, sym, ap}
use Rattle.snap_store.specs.declared.store.Named.{Named}
use Rattle.snap_store.proofs.Places.{none_there, there}
use Rattle.snap_store.proofs.store.Snapshots.get.Goals as goal

pub returns-in-Some : goal.returns-in-Some
returns-in-Some c =
    let n = c.index.result.now in
    let its : n ≡ get_or c.args.self.now c.in-Some.at n =
    c.index.ensures ∙ ap (λ (l : List Named). get_or l c.in-Some.at n) c.self.view_is in
    ap (λ (m : Named). Some m.snapshot) its ∙ sym (there c.args.name n c.args.self.now c.in-Some.at (sym c.in-Some.ensures))

pub returns-in-None : goal.returns-in-None
returns-in-None c = sym (none_there c.args.name c.args.self.now (sym c.in-None.ensures))
