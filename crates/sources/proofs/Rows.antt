-- The raw regions that are out, after one has come or gone.
use Rattle.std.proofs.Common.{◌≡◌, ℕ, ◌+◌, ◌-◌, ◌≤◌, inl, inr, List, refl, arith}
use Rattle.std.specs.Ordering.{nat_cmp}
use Rattle.std.specs.BTreeMap.{insert_entry, is_at}
use Rattle.std.specs.Map.{remove_entry}
use Rattle.extents.specs.Extent.{Extent, covers, begins, MeetsNone}
use Rattle.extents.specs.Sums.{tally, Has, Inserted, Removed}
use Rattle.extents.proofs.CallerLemmas.{tally_inserted, covers_out, covered, begins_tells, tree_inserted, tree_found}
use Rattle.sources.specs.Memory.{aligned_up}
use Rattle.sources.specs.Kept.{held_out, IsRow}
use Rattle.sources.specs.declared.raw.Held.{Held}

abbrev pub extent_at : ℕ × Held → Extent
extent_at e = record { place = e.0; len = e.1.len; maker = e.1.maker }

-- a place at which no region begins is a new one of the tree
pub row_inserted : (es : List (ℕ × Held)) (k : ℕ) (h : Held) → tally (begins k) (held_out es) ≡ 0 → Inserted (extent_at (k, h)) (held_out es) (held_out (insert_entry nat_cmp es k h))
row_inserted = tree_inserted extent_at (λ e. refl)

-- what begins at the place of a region that is out is that region
pub row_removed : (es : List (ℕ × Held)) (x : Extent) → Has x (held_out es) → tally (begins x.place) (held_out es) ≤ 1 → Removed x (held_out es) (held_out (remove_entry (is_at (nat_cmp x.place)) es))
row_removed es x has once = (tree_found extent_at (λ e. refl) es x x.place refl has once).removed

module _ (out : List Extent) (bytes max next : ℕ) (row : IsRow out bytes max next) where
  -- nothing begins at the next place
  pub next_free : tally (begins next) out ≡ 0
  next_free = let none = row.below next (omega arith) in omega arith

  -- a region there meets none
  pub next_meets : (e : Extent) → e.place ≡ next → MeetsNone e out
  next_meets e is x c = let inside = covered x e c in let none = row.below x (omega arith) in omega arith

  -- and makes the row longer
  pub row_more : (e : Extent) (new : List Extent) → e.place ≡ next → 1 ≤ e.len → bytes + e.len ≤ max → next + e.len ≤ 0xa00000000000 → Inserted e out new → IsRow new (bytes + e.len) max (aligned_up (next + e.len))
  row_more e new is some room inside i =
      let past : next + e.len ≤ aligned_up (next + e.len) = omega arith in
      record {
        below = λ x le.
            let c = tally_inserted (covers x) e out new i in let b = tally_inserted (begins x) e out new i in
            let none = row.below x (omega arith) in let zero = covers_out x e (inr (omega arith)) in
            elim (begins_tells x e) [ inl q ↦ absurd (omega arith) | inr q ↦ omega arith ];
        once = λ x.
            let b = tally_inserted (begins x) e out new i in
            elim (begins_tells x e) [ inl q ↦ let none = row.below x (omega arith) in omega arith | inr q ↦ let old = row.once x in omega arith ];
        sum = omega (arith, row.sum, tally_inserted (λ y. y.len) e out new i);
        most = room;
        low = omega (arith, row.low);
        high = omega (arith, row.high, row.aligned);
        aligned = omega arith;
      }

  -- a region that goes makes the row shorter
  pub row_fewer : (e : Extent) (new : List Extent) → Removed e out new → (e.len ≤ bytes) × IsRow new (bytes - e.len) max next
  row_fewer e new i =
      let all = tally_inserted (λ y. y.len) e new out i in let sum = row.sum in (
        omega arith,
        record {
          below = λ x le. let c = tally_inserted (covers x) e new out i in let b = tally_inserted (begins x) e new out i in let none = row.below x le in omega arith;
          once = λ x. let b = tally_inserted (begins x) e new out i in let old = row.once x in omega arith;
          sum = omega arith;
          most = omega (arith, row.most);
          low = row.low;
          high = row.high;
          aligned = row.aligned;
        },
      )

-- what a region that comes back leaves
pub given_back : (es : List (ℕ × Held)) (bytes max next : ℕ) (x : Extent) → IsRow (held_out es) bytes max next → Has x (held_out es) →
    Removed x (held_out es) (held_out (remove_entry (is_at (nat_cmp x.place)) es)) × (x.len ≤ bytes) × IsRow (held_out (remove_entry (is_at (nat_cmp x.place)) es)) (bytes - x.len) max next
given_back es bytes max next x row has =
    let left = held_out (remove_entry (is_at (nat_cmp x.place)) es) in
    let i = row_removed es x has (row.once x.place) in
    let r = row_fewer (held_out es) bytes max next row x left i in (i, r.0, r.1)
