use Rattle.std.proofs.Common.{◌<◌, ◌^◌, ◌-◌, ◌∙◌, ap, length, List, Some, sym, subst}
use Rattle.mem_base.specs.declared.reply.Frame.{Frame}
use Rattle.frame_stack.specs.Tracebacks.{tracebacks_of, IsInterned}
use Rattle.frame_stack.proofs.TableLemmas.{interned, interned_table, key_eq, key_tells, stored}
use Rattle.frame_stack.proofs.tracebacks.Tracebacks.intern.Goals as goal

pub invariant_of-self-2 : goal.invariant_of-self-2
invariant_of-self-2 c =
    let old = c.self.inside.table.keys in let new = c.insert_full.new.self.keys in
    interned_table c.in_ok-owned.owned.items (tracebacks_of old) (tracebacks_of new) (subst (λ (l : List (List Frame)). length l < 2 ^ 32 - 1) (sym c.self.view_is) c.requires)
    c.self.invariant (interned key_eq key_tells c.in_ok-owned.owned old new c.in_ok-at.ensures.keys)

pub returns-clause-number : goal.returns-clause-number
returns-clause-number c =
    let there = c.in_ok-at.ensures.stored in
    stored key_eq key_tells c.in_ok-owned.owned there.0 c.insert_full.new.self.keys c.in_ok-at.at there.1 there.2 ∙ ap Some c.in_ok-owned.ensures.ok

pub returns-clause-table : goal.returns-clause-table
returns-clause-table c =
    let old = c.self.inside.table.keys in let new = c.insert_full.new.self.keys in let owned = c.in_ok-owned.owned in
    subst (λ (t : List Frame). IsInterned t c.args.self.now (tracebacks_of new)) c.in_ok-owned.ensures.ok
    (subst (λ (l : List (List Frame)). IsInterned owned.items l (tracebacks_of new)) c.self.view_is (interned key_eq key_tells owned old new c.in_ok-at.ensures.keys))
