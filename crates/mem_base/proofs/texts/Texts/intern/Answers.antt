use Rattle.std.proofs.Common.{ℕ, ◌<◌, ◌^◌, ◌-◌, List, length, sym, ap, subst, ◌∙◌}
use Rattle.mem_base.specs.Texts.{texts_of, with_text, IsTable}
use Rattle.mem_base.proofs.TextLemmas.{interned, interned_table, stored_at}
use Rattle.mem_base.proofs.texts.Texts.intern.Goals as goal

pub invariant_of-self-2 : goal.invariant_of-self-2
invariant_of-self-2 c =
    subst IsTable (sym (interned c.args.text.now c.self.inside.texts.keys c.insert_full.new.self.keys c.in_ok-owned.owned
    c.in_ok-owned.ensures c.in_ok-at.ensures.keys))
    (interned_table (texts_of c.self.inside.texts.keys) c.args.text.now (subst (λ (ts : List (List ℕ)). length ts < 2 ^ 32 - 1) (sym c.self.view_is) c.requires) c.self.invariant)

pub returns-clause-table : goal.returns-clause-table
returns-clause-table c =
    interned c.args.text.now c.self.inside.texts.keys c.insert_full.new.self.keys c.in_ok-owned.owned
    c.in_ok-owned.ensures c.in_ok-at.ensures.keys
    ∙ ap (λ (ts : List (List ℕ)). with_text ts c.args.text.now) c.self.view_is

pub returns-clause-number : goal.returns-clause-number
returns-clause-number c =
    let s = c.in_ok-at.ensures.stored in
    stored_at c.args.text.now c.insert_full.new.self.keys c.in_ok-owned.owned s.0 c.in_ok-at.at c.in_ok-owned.ensures s.1 s.2
