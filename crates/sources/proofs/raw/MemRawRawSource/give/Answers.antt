use Rattle.std.proofs.Common.{◌-◌, ◌≤◌, sym, subst, ap, ◌∙◌}
use Rattle.std.specs.Ordering.{nat_cmp}
use Rattle.std.specs.BTreeMap.{is_at}
use Rattle.std.specs.Map.{remove_entry}
use Rattle.extents.specs.Extent.{region_extent}
use Rattle.extents.specs.Sums.{Has, Inserted}
use Rattle.sources.specs.Kept.{held_out, IsRow}
use Rattle.sources.proofs.Rows.{given_back}
use Rattle.sources.proofs.raw.MemRawRawSource.give.Goals as goal

pub overflow_sub-self : goal.overflow_sub-self
overflow_sub-self c =
    let s = c.self.inside in let x = region_extent c.args.region in
    let has = subst (λ out. Has x out) (sym (ap (λ v. v.out) c.self.view_is)) c.requires.0 in
    subst (λ n. n ≤ s.bytes) (sym c.len.ensures.len) (given_back s.out.entries s.bytes s.max_bytes s.next x c.self.invariant has).1

pub invariant_of-self : goal.invariant_of-self
invariant_of-self c =
    let s = c.self.inside in let x = region_extent c.args.region in
    let has = subst (λ out. Has x out) (sym (ap (λ v. v.out) c.self.view_is)) c.requires.0 in
    let left = c.remove.ensures.entries ∙ ap (λ k. remove_entry (is_at (nat_cmp k)) s.out.entries) c.base.ensures in
    subst (λ n. IsRow (held_out c.remove.new.self.entries) (s.bytes - n) s.max_bytes s.next) (sym c.len.ensures.len)
    (subst (λ l. IsRow (held_out l) (s.bytes - x.len) s.max_bytes s.next) (sym left) (given_back s.out.entries s.bytes s.max_bytes s.next x c.self.invariant has).2)

pub returns-clause-back : goal.returns-clause-back
returns-clause-back c =
    let s = c.self.inside in let x = region_extent c.args.region in
    let out = ap (λ v. v.out) c.self.view_is in
    let has = subst (λ o. Has x o) (sym out) c.requires.0 in
    let left = c.remove.ensures.entries ∙ ap (λ k. remove_entry (is_at (nat_cmp k)) s.out.entries) c.base.ensures in
    subst (λ o. Inserted x (held_out c.remove.new.self.entries) o) out
    (subst (λ l. Inserted x (held_out l) (held_out s.out.entries)) (sym left) (given_back s.out.entries s.bytes s.max_bytes s.next x c.self.invariant has).0)
