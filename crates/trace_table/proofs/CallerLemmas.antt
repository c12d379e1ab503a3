-- What proofs of other crates may cite: two keys are the same where they are equal.
use Rattle.std.proofs.Common.{◌≡◌, ℕ, Bool, true, false, sym, ap, true≢false}
use Rattle.std.specs.Bool.{Decides}
use Rattle.std.specs.Prelude.{◌&&◌, ◌==◌}
use Rattle.std.proofs.lemmas.Bool.Decides.{Decides-eqb}
use Rattle.trace_table.specs.declared.key.TraceKey.{TraceKey}
use Rattle.trace_table.specs.declared.key.TraceKey.TheVariants as keys
use Rattle.trace_table.specs.Traces.{same_key}

abbrev is_block : TraceKey → Bool
is_block (keys.Block name) = true
is_block (keys.Number domain number) = false

abbrev first_in : TraceKey → ℕ
first_in (keys.Block name) = name.0
first_in (keys.Number domain number) = domain

abbrev number_in : TraceKey → ℕ
number_in (keys.Block name) = 0
number_in (keys.Number domain number) = number

both : (x y : Bool) → (x && y) ≡ true → (x ≡ true) × (y ≡ true)
both true true h = (h, h)
both true false h = absurd (true≢false (sym h))
both false y h = absurd (true≢false (sym h))

pub keys_tell : (a b : TraceKey) → Decides (same_key a b) (a ≡ b)
keys_tell (keys.Block a) (keys.Block b) = (
  λ same. let number = (Decides-eqb a.0 b.0).0 same in λ i. keys.Block (record { 0 = number i }),
  λ e. (Decides-eqb a.0 b.0).1 (ap first_in e),
)
keys_tell (keys.Block a) (keys.Number e n) = (
  λ same. absurd (true≢false (sym same)),
  λ same. absurd (true≢false (ap is_block same)),
)
keys_tell (keys.Number d m) (keys.Block b) = (
  λ same. absurd (true≢false (sym same)),
  λ same. absurd (true≢false (sym (ap is_block same))),
)
keys_tell (keys.Number d m) (keys.Number e n) = (
  λ same.
      let parts = both (d == e) (m == n) same in
      let domain = (Decides-eqb d e).0 parts.0 in
      let number = (Decides-eqb m n).0 parts.1 in
      λ i. keys.Number (domain i) (number i),
  λ same i. (Decides-eqb d e).1 (ap first_in same) i && (Decides-eqb m n).1 (ap number_in same) i,
)
