use Rattle.std.proofs.Common.{◌+◌, ◌≤◌, ◌<◌, sym, subst, arith, ◌⊎◌, inl, inr}
use Rattle.std.specs.Prelude.{IsTrue}
use Rattle.extents.specs.Extent.{region_extent}
use Rattle.sources.specs.Memory.{RawView, RawRefuses, aligned_up, is_listed}
use Rattle.sources.specs.Kept.{held_out, IsRow}
use Rattle.sources.proofs.Plans.{had_room, not_refused}
use Rattle.sources.proofs.Rows.{row_more}
use Rattle.sources.proofs.raw.MemRawRawSource.ask.Goals as goal

pub invariant_of-self-in-Ok : goal.invariant_of-self-in-Ok
invariant_of-self-in-Ok c =
    let s = c.self.inside in let n = c.args.len in
    let fits : (s.bytes + n ≤ s.max_bytes) × (s.next + n ≤ 0xa00000000000) =
    had_room _ c.has_room-room.result c.refuses_next.result _ _ c.if-refuses_next.false c.refuses_next.ensures.refused c.has_room-room.ensures in
    let new = c.in-Ok.ensures.new in let e = region_extent c.in-Ok.region in
    let new_out = held_out c.make_kept.new.out.entries in
    let row : IsRow new_out (s.bytes + e.len) s.max_bytes (aligned_up (s.next + e.len)) =
    row_more (held_out s.out.entries) s.bytes s.max_bytes s.next c.self.invariant e new_out new.base
    (subst (λ k. 1 ≤ k) (sym new.len) c.requires.some) (subst (λ k. s.bytes + k ≤ s.max_bytes) (sym new.len) fits.0) (subst (λ k. s.next + k ≤ 0xa00000000000) (sym new.len) fits.1) c.in-Ok.ensures.kept in
    subst (λ next. IsRow new_out (s.bytes + n) s.max_bytes next) (sym c.align_up-self-inside.ensures)
    (subst (λ k. IsRow new_out (s.bytes + k) s.max_bytes (aligned_up (s.next + k))) new.len row)

pub returns-in-Ok-clause-exactly : goal.returns-in-Ok-clause-exactly
returns-in-Ok-clause-exactly c =
    let s = c.self.inside in let n = c.args.len in
    let v : RawView = record { requests = s.requests; max_bytes = s.max_bytes; next = s.next; out = held_out s.out.entries } in
    let never : (s.bytes + n ≤ s.max_bytes) × (s.next + n ≤ 0xa00000000000) → (s.max_bytes < s.bytes + n) ⊎ (0xa00000000000 < s.next + n) → ⊥ =
    λ fits past. elim past [ inl a ↦ absurd (omega arith) | inr b ↦ absurd (omega arith) ] in
    let told = not_refused _ c.has_room-room.result c.refuses_next.result _ _ never c.if-refuses_next.false c.refuses_next.ensures.refused c.has_room-room.ensures in
    let none : RawRefuses v n → ⊥ =
    subst (λ k. IsTrue (is_listed s.requests.plan (s.requests.asked + 1)) ⊎ (s.max_bytes < k + n) ⊎ (0xa00000000000 < s.next + n) → ⊥) c.self.invariant.sum told in
    let none_now : RawRefuses c.args.self.now n → ⊥ = subst (λ w. RawRefuses w n → ⊥) c.self.view_is none in
    (λ e. cc, λ why. absurd (none_now why))
