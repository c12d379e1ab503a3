-- Changes compared number by number.
use Rattle.std.proofs.Common.{◌≡◌, ℕ, true, false, List, not, refl, sym, ap, ◌∙◌, arith, true≢false}
use Rattle.std.specs.Prelude.{ℤ, pos, negsuc, ◌-ℤ◌, ◌==◌}
use Rattle.std.specs.Int.{abs_diff}
use Rattle.std.proofs.lemmas.Int.{ints}
use Rattle.std.specs.declared.cmp.Ordering.{Ordering}
use Rattle.std.specs.declared.cmp.Ordering.TheVariants.{Less, Equal, Greater}
use Rattle.std.specs.Ordering.{nat_cmp, ordering_index, ordering_then}
use Rattle.mem_base.specs.Name.{Name}
use Rattle.frame_model.specs.Frames.{frames_of}
use Rattle.snapshot_model.specs.Compared.{change_cmp, magnitude, plain_change}
use Rattle.snapshot_model.specs.Stats.{key_cmp}
use Rattle.snap_stats.specs.Pairs.{whole_change}
use Rattle.snap_stats.specs.declared.changed.Changed.{Changed}

magnitude_is : (a b : ℕ) → abs_diff a b ≡ magnitude (pos a -ℤ pos b)
magnitude_is a b = by (pos a -ℤ pos b) refl
  where
    by : (z : ℤ) → pos a -ℤ pos b ≡ z → abs_diff a b ≡ magnitude z
    by (pos n) e = omega (arith, ints, e)
    by (negsuc n) e = omega (arith, ints, e)

then_assoc : (a b c : Ordering) → ordering_then (ordering_then a b) c ≡ ordering_then a (ordering_then b c)
then_assoc Less b c = refl
then_assoc Equal b c = refl
then_assoc Greater b c = refl

-- an order that tells them is the order
pub tells_first : (n k : Ordering) → not (ordering_index n == 1) ≡ true → ordering_then n k ≡ n
tells_first Less k h = refl
tells_first Equal k h = absurd (true≢false (sym h))
tells_first Greater k h = refl

-- else the next one is
pub tells_next : (n k : Ordering) → not (ordering_index n == 1) ≡ false → ordering_then n k ≡ k
tells_next Less k h = absurd (true≢false h)
tells_next Equal k h = refl
tells_next Greater k h = absurd (true≢false h)

-- what each number says, one after the other
pub record AreNumbers (a b : Changed) (n : Ordering) : Type 0 where
  pub size_diffs : Ordering
  pub sizes : Ordering
  pub count_diffs : Ordering
  pub counts : Ordering
  pub size_diffs_are : size_diffs ≡ nat_cmp (abs_diff a.new.size a.old.size) (abs_diff b.new.size b.old.size)
  pub sizes_are : sizes ≡ nat_cmp a.new.size b.new.size
  pub count_diffs_are : count_diffs ≡ nat_cmp (abs_diff a.new.count a.old.count) (abs_diff b.new.count b.old.count)
  pub counts_are : counts ≡ nat_cmp a.new.count b.new.count
  pub all : n ≡ ordering_then (ordering_then (ordering_then size_diffs sizes) count_diffs) counts

pub by_numbers : (texts : List Name) (a b : Changed) (n : Ordering) → AreNumbers a b n
    → ordering_then n (key_cmp (frames_of texts a.key.now) (frames_of texts b.key.now))
    ≡ change_cmp (plain_change texts (whole_change a)) (plain_change texts (whole_change b))
by_numbers texts a b n are =
    let keys = key_cmp (frames_of texts a.key.now) (frames_of texts b.key.now) in
    let s = are.sizes in
    let d = are.count_diffs in
    let c = are.counts in
    ap (λ (o : Ordering). ordering_then o keys) are.all
    ∙ then_assoc (ordering_then (ordering_then are.size_diffs s) d) c keys
    ∙ then_assoc (ordering_then are.size_diffs s) d (ordering_then c keys)
    ∙ then_assoc are.size_diffs s (ordering_then d (ordering_then c keys))
    ∙ (λ i. ordering_then (are.size_diffs_are i) (ordering_then (are.sizes_are i)
    (ordering_then (are.count_diffs_are i) (ordering_then (are.counts_are i) keys))))
    ∙ (λ i. ordering_then (nat_cmp (magnitude_is a.new.size a.old.size i) (magnitude_is b.new.size b.old.size i))
    (ordering_then (nat_cmp a.new.size b.new.size)
    (ordering_then (nat_cmp (magnitude_is a.new.count a.old.count i) (magnitude_is b.new.count b.old.count i))
    (ordering_then (nat_cmp a.new.count b.new.count) keys))))
