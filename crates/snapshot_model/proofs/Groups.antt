-- The keys that occur, each once, and the groups and changes that they have.
use Rattle.std.proofs.Common.{◌≡◌, ◌+◌, ◌≤◌, Bool, true, false, cond, List, [], ◌∷◌, ◌++◌, map, refl, sym, ap, ◌∙◌}
use Rattle.std.proofs.Common.{subst, inl, inr, arith, true≢false}
use Rattle.std.specs.declared.cmp.Ordering.{Ordering}
use Rattle.std.specs.declared.cmp.Ordering.TheVariants.{Less, Equal, Greater}
use Rattle.std.specs.Ordering.{is_eq, nat_cmp, ordering_then, ordering_reverse, eq_by_cmp}
use Rattle.std.specs.Prelude.{◌||◌}
use Rattle.std.specs.List.{list_any}
use Rattle.extents.specs.Sums.{tally, Has}
use Rattle.extents.proofs.CallerLemmas.{has-map, tally-append}
use Rattle.snapshot_model.specs.Order.{Falls}
use Rattle.snapshot_model.specs.Occurrences.{Key, Occurrence}
use Rattle.snapshot_model.specs.Stats.{PlainGroup, IsGroupOf, IsStats, key_cmp, group_cmp, once_at, keys_in, group_at}
use Rattle.snapshot_model.specs.Stats.{stats_of}
use Rattle.snapshot_model.specs.Compared.{Change, IsChangeOf, IsCompared, magnitude, change_cmp, change_at, changes_of}
use Rattle.snapshot_model.proofs.Rising.{AreApart, apart_map, from_map, rising_has, has_rising, falling_falls}
use Rattle.snapshot_model.proofs.Order.{key_cmp_total, group_cmp_total, change_cmp_total, same_key, same_to_itself, then_both}

-- ---- keys

none_any :
    (k y : Key) (ys : List Key) → list_any (eq_by_cmp key_cmp k) ys ≡ false → Has y ys → key_cmp k y ≡ Equal → ⊥
none_any k y [] none h tied = h
none_any k y (x ∷ xs) none h tied = by (key_cmp k x) refl none h (none_any k y xs)
  where
    by : (v : Ordering) → key_cmp k x ≡ v → (is_eq v || list_any (eq_by_cmp key_cmp k) xs) ≡ false → Has y (x ∷ xs)
        → (list_any (eq_by_cmp key_cmp k) xs ≡ false → Has y xs → key_cmp k y ≡ Equal → ⊥) → ⊥
    by Less e none (inl d) later = let no : Less ≡ Equal = sym e ∙ ap (key_cmp k) d ∙ tied in absurd (cc)
    by Less e none (inr h) later = later none h tied
    by Equal e none h later = true≢false none
    by Greater e none (inl d) later = let no : Greater ≡ Equal = sym e ∙ ap (key_cmp k) d ∙ tied in absurd (cc)
    by Greater e none (inr h) later = later none h tied

some_any : (k : Key) (ys : List Key) → list_any (eq_by_cmp key_cmp k) ys ≡ true → Has k ys
some_any k [] some = absurd (true≢false (sym some))
some_any k (x ∷ xs) some = by (key_cmp k x) refl some (some_any k xs)
  where
    by : (v : Ordering) → key_cmp k x ≡ v → (is_eq v || list_any (eq_by_cmp key_cmp k) xs) ≡ true
        → (list_any (eq_by_cmp key_cmp k) xs ≡ true → Has k xs) → Has k (x ∷ xs)
    by Less e some later = inr (later some)
    by Equal e some later = inl (sym (same_key k x e))
    by Greater e some later = inr (later some)

pub keys_apart : (os : List Occurrence) → AreApart key_cmp (keys_in os)
keys_apart [] = tt
keys_apart (o ∷ os) = by (list_any (eq_by_cmp key_cmp o.key) (keys_in os)) refl (keys_apart os)
  where
    by : (b : Bool) → list_any (eq_by_cmp key_cmp o.key) (keys_in os) ≡ b → AreApart key_cmp (keys_in os)
        → AreApart key_cmp (cond b (keys_in os) (o.key ∷ keys_in os))
    by true is rest = rest
    by false is rest = ((λ y h. none_any o.key y (keys_in os) is h), rest)

-- the first one's key is among them
first_in : (o : Occurrence) (os : List Occurrence) → Has o.key (keys_in (o ∷ os))
first_in o os = by (list_any (eq_by_cmp key_cmp o.key) (keys_in os)) refl
  where
    by : (b : Bool) → list_any (eq_by_cmp key_cmp o.key) (keys_in os) ≡ b
        → Has o.key (cond b (keys_in os) (o.key ∷ keys_in os))
    by true is = some_any o.key (keys_in os) is
    by false is = inl refl

later_in : (k : Key) (o : Occurrence) (os : List Occurrence) → Has k (keys_in os) → Has k (keys_in (o ∷ os))
later_in k o os h = by (list_any (eq_by_cmp key_cmp o.key) (keys_in os))
  where
    by : (b : Bool) → Has k (cond b (keys_in os) (o.key ∷ keys_in os))
    by true = h
    by false = inr h

pub keys_has : (k : Key) (os : List Occurrence) → 1 ≤ tally (once_at k) os → Has k (keys_in os)
keys_has k [] occurs = absurd (omega arith)
keys_has k (o ∷ os) occurs = by (key_cmp k o.key) refl (keys_has k os) occurs
  where
    by : (v : Ordering) → key_cmp k o.key ≡ v → (1 ≤ tally (once_at k) os → Has k (keys_in os))
        → 1 ≤ cond (is_eq v) 1 0 + tally (once_at k) os → Has k (keys_in (o ∷ os))
    by Less e later occurs = later_in k o os (later (omega arith))
    by Equal e later occurs = subst (λ (x : Key). Has x (keys_in (o ∷ os))) (sym (same_key k o.key e)) (first_in o os)
    by Greater e later occurs = later_in k o os (later (omega arith))

once_itself : (k : Key) (o : Occurrence) → o.key ≡ k → once_at k o ≡ 1
once_itself k o e = ap (λ (v : Ordering). cond (is_eq v) 1 0) (ap (key_cmp k) e ∙ same_to_itself k)

pub keys_occur : (k : Key) (os : List Occurrence) → Has k (keys_in os) → 1 ≤ tally (once_at k) os
keys_occur k [] h = absurd h
keys_occur k (o ∷ os) h = by (list_any (eq_by_cmp key_cmp o.key) (keys_in os)) (keys_occur k os) h
  where
    by : (b : Bool) → (Has k (keys_in os) → 1 ≤ tally (once_at k) os) → Has k (cond b (keys_in os) (o.key ∷ keys_in os))
        → 1 ≤ tally (once_at k) (o ∷ os)
    by true later h = let e = later h in omega arith
    by false later (inl e) = let one = once_itself k o e in omega arith
    by false later (inr h) = let e = later h in omega arith

-- keys tie the other way round too
tied_back : (a b : Key) → key_cmp b a ≡ Equal → key_cmp a b ≡ Equal
tied_back a b e = key_cmp_total.antisymm a b ∙ ap ordering_reverse e

-- ---- groups

groups_tie : (os : List Occurrence) (a b : Key) → group_cmp (group_at os b) (group_at os a) ≡ Equal → key_cmp a b ≡ Equal
groups_tie os a b e =
    let x = group_at os b in
    let y = group_at os a in
    let sizes = then_both (nat_cmp x.size y.size) (ordering_then (nat_cmp x.count y.count) (key_cmp b a)) e in
    tied_back a b (then_both (nat_cmp x.count y.count) (key_cmp b a) sizes.1).1

group_is : (os : List Occurrence) (k : Key) → Has k (keys_in os) → IsGroupOf os (group_at os k)
group_is os k h = record { occurs = keys_occur k os h; count = refl; size = refl }

pub stats_theirs : (os : List Occurrence) → IsStats os (stats_of os)
stats_theirs os = record { falls = falls; each = each; all = all }
  where
    falls : Falls group_cmp (stats_of os)
    falls = falling_falls group_cmp_total (map (group_at os) (keys_in os))
        (apart_map key_cmp (λ a b. group_cmp b a) (group_at os) (groups_tie os) (keys_in os) (keys_apart os))

    each : (g : PlainGroup) → Has g (stats_of os) → IsGroupOf os g
    each g h =
        let r = from_map (group_at os) g (keys_in os) (has_rising (λ a b. group_cmp b a) g (map (group_at os) (keys_in os)) h) in
        subst (IsGroupOf os) (sym r.2) (group_is os r.0 r.1)

    all : (g : PlainGroup) → IsGroupOf os g → Has g (stats_of os)
    all g is =
        let key : Has g.key (keys_in os) = keys_has g.key os (omega (arith, is.occurs, is.count)) in
        let its : group_at os g.key ≡ g = λ i. record { key = g.key; size = sym is.size i; count = sym is.count i } in
        let here = has-map (group_at os) g.key (keys_in os) key in
        let there = rising_has (λ a b. group_cmp b a) (group_at os g.key) (map (group_at os) (keys_in os)) here in
        subst (λ (x : PlainGroup). Has x (stats_of os)) its there

-- ---- changes

changes_tie :
    (new old : List Occurrence) (a b : Key) → change_cmp (change_at new old b) (change_at new old a) ≡ Equal
    → key_cmp a b ≡ Equal
changes_tie new old a b e =
    let x = change_at new old b in
    let y = change_at new old a in
    let keys = key_cmp b a in
    let counts = ordering_then (nat_cmp x.count y.count) keys in
    let diffs = ordering_then (nat_cmp (magnitude x.count_diff) (magnitude y.count_diff)) counts in
    let sizes = ordering_then (nat_cmp x.size y.size) diffs in
    let one = (then_both (nat_cmp (magnitude x.size_diff) (magnitude y.size_diff)) sizes e).1 in
    let two = (then_both (nat_cmp x.size y.size) diffs one).1 in
    let three = (then_both (nat_cmp (magnitude x.count_diff) (magnitude y.count_diff)) counts two).1 in
    tied_back a b (then_both (nat_cmp x.count y.count) keys three).1

change_is : (new old : List Occurrence) (k : Key) → Has k (keys_in (new ++ old)) → IsChangeOf new old (change_at new old k)
change_is new old k h = record {
  occurs = omega (arith, keys_occur k (new ++ old) h, tally-append (once_at k) new old);
  size = refl;
  size_diff = refl;
  count = refl;
  count_diff = refl;
}

pub changes_theirs : (new old : List Occurrence) → IsCompared new old (changes_of new old)
changes_theirs new old = record { falls = falls; each = each; all = all }
  where
    falls : Falls change_cmp (changes_of new old)
    falls = falling_falls change_cmp_total (map (change_at new old) (keys_in (new ++ old)))
        (apart_map key_cmp (λ a b. change_cmp b a) (change_at new old) (changes_tie new old) (keys_in (new ++ old))
        (keys_apart (new ++ old)))

    each : (c : Change) → Has c (changes_of new old) → IsChangeOf new old c
    each c h =
        let keys = keys_in (new ++ old) in
        let r = from_map (change_at new old) c keys (has_rising (λ a b. change_cmp b a) c (map (change_at new old) keys) h) in
        subst (IsChangeOf new old) (sym r.2) (change_is new old r.0 r.1)

    all : (c : Change) → IsChangeOf new old c → Has c (changes_of new old)
    all c is =
        let keys = keys_in (new ++ old) in
        let key : Has c.key keys = keys_has c.key (new ++ old) (omega (arith, is.occurs, tally-append (once_at c.key) new old)) in
        let its : change_at new old c.key ≡ c = λ i. record {
          key = c.key;
          size = sym is.size i;
          size_diff = sym is.size_diff i;
          count = sym is.count i;
          count_diff = sym is.count_diff i;
        } in
        let here = has-map (change_at new old) c.key keys key in
        let there = rising_has (λ a b. change_cmp b a) (change_at new old c.key) (map (change_at new old) keys) here in
        subst (λ (x : Change). Has x (changes_of new old)) its there
