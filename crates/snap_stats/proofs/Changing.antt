-- The changes of the keys of two tables of sums are those between two lists of occurrences.
use Rattle.std.proofs.Common.{min, ◌≡◌, ℕ, zero, suc, ◌+◌, ◌≤◌, Bool, true, false, List, [], ◌∷◌, map, take, length, cond}
use Rattle.std.proofs.Common.{Option, Some, None, refl, sym, ap, subst, ◌∙◌, inl, inr, arith, true≢false}
use Rattle.std.specs.Prelude.{pos, ◌-ℤ◌, unwrap_or, is_none, filter}
use Rattle.std.specs.Map.{lookup}
use Rattle.std.specs.declared.cmp.Ordering.TheVariants.{Equal}
use Rattle.std.specs.Ordering.{nat_cmp, ordering_then}
use Rattle.std.proofs.lemmas.List.{length-map}
use Rattle.extents.specs.Sums.{tally, Has}
use Rattle.extents.proofs.CallerLemmas.{tally_zero, tally-append, tally-map, has-map, has_either, has_left, has_right}
use Rattle.mem_base.specs.Name.{Name}
use Rattle.mem_base.specs.declared.reply.Diff.{Diff}
use Rattle.mem_base.specs.declared.reply.Frame.{Frame}
use Rattle.frame_model.specs.Frames.{frames_of}
use Rattle.snapshot_model.specs.Compared.{Change, IsChangeOf, change_cmp, changes_of, magnitude, plain_change}
use Rattle.snapshot_model.specs.Occurrences.{Key, Occurrence}
use Rattle.snapshot_model.specs.Stats.{key_cmp, once_at, size_at, plain_group, IsGroupOf}
use Rattle.snapshot_model.proofs.CallerLemmas.{change_cmp_total, changes_theirs, from_map, same_key, then_both}
use Rattle.snap_stats.specs.Groups.{IsFrontOf}
use Rattle.snap_stats.specs.Pairs.{diff_by, gone, pair_at, pairs_of, sum_at, vanished, nothing}
use Rattle.snap_stats.specs.Sums.{group_by}
use Rattle.snap_stats.specs.declared.pairs.Pair.{Pair}
use Rattle.snap_stats.specs.declared.sums.Sum.{Sum}
use Rattle.snap_stats.proofs.Answering.{key_at, groups_of}
use Rattle.snap_stats.proofs.Firsts.{list_long, front_first}
use Rattle.snap_stats.proofs.Totals.{AreSums, adds_some, each_is, same_is}
use Rattle.snap_stats.proofs.Weighing.{same}

-- these are the changes, and no two of them have one key
pub record AreChanges (new old : List Occurrence) (cs : List Change) : Type 0 where
  pub each : (c : Change) → Has c cs → IsChangeOf new old c
  pub all : (c : Change) → IsChangeOf new old c → Has c cs
  pub once : (k : Key) → tally (λ c. same k c.key) cs ≤ 1

-- ---- a key's change

same_change : (new old : List Occurrence) (c d : Change) → IsChangeOf new old c → IsChangeOf new old d → c.key ≡ d.key → c ≡ d
same_change new old c d is its k =
    let sizes : c.size ≡ d.size = is.size ∙ ap (λ (x : Key). tally (size_at x) new) k ∙ sym its.size in
    let size_diffs : c.size_diff ≡ d.size_diff = is.size_diff ∙ ap (λ (x : Key). pos (tally (size_at x) new) -ℤ pos (tally (size_at x) old)) k ∙ sym its.size_diff in
    let counts : c.count ≡ d.count = is.count ∙ ap (λ (x : Key). tally (once_at x) new) k ∙ sym its.count in
    let count_diffs : c.count_diff ≡ d.count_diff = is.count_diff ∙ ap (λ (x : Key). pos (tally (once_at x) new) -ℤ pos (tally (once_at x) old)) k ∙ sym its.count_diff in
    λ i. record { key = k i; size = sizes i; size_diff = size_diffs i; count = counts i; count_diff = count_diffs i }

key_tied : (a b : Change) → change_cmp a b ≡ Equal → a.key ≡ b.key
key_tied a b e =
    let keys = key_cmp a.key b.key in
    let counts = ordering_then (nat_cmp a.count b.count) keys in
    let diffs = ordering_then (nat_cmp (magnitude a.count_diff) (magnitude b.count_diff)) counts in
    let sizes = ordering_then (nat_cmp a.size b.size) diffs in
    let one = (then_both (nat_cmp (magnitude a.size_diff) (magnitude b.size_diff)) sizes e).1 in
    let two = (then_both (nat_cmp a.size b.size) diffs one).1 in
    let three = (then_both (nat_cmp (magnitude a.count_diff) (magnitude b.count_diff)) counts two).1 in
    same_key a.key b.key (then_both (nat_cmp a.count b.count) keys three).1

-- ---- look-ups

module _ {K : Type 0} where
  pub found : (test : K → Bool) (es : List (K × Sum)) (v : Sum) → lookup test es ≡ Some v → (e : K × Sum) × Has e es × (test e.0 ≡ true) × (e.1 ≡ v)
  found test [] v is = absurd cc
  found test (e ∷ es) v is = by (test e.0) refl (found test es v) is
    where
      by : (b : Bool) → test e.0 ≡ b → (lookup test es ≡ Some v → (x : K × Sum) × Has x es × (test x.0 ≡ true) × (x.1 ≡ v))
          → cond b (Some e.1) (lookup test es) ≡ Some v → (x : K × Sum) × Has x (e ∷ es) × (test x.0 ≡ true) × (x.1 ≡ v)
      by true t later is = (e, inl refl, t, ap (λ (o : Option Sum). unwrap_or o v) is)
      by false t later is = let r = later is in (r.0, inr r.1, r.2, r.3)

  missed : (test : K → Bool) (es : List (K × Sum)) (e : K × Sum) → lookup test es ≡ None → Has e es → test e.0 ≡ true → ⊥
  missed test [] e is h t = h
  missed test (x ∷ es) e is h t = by (test x.0) refl (missed test es e) is h
    where
      by : (b : Bool) → test x.0 ≡ b → (lookup test es ≡ None → Has e es → test e.0 ≡ true → ⊥)
          → cond b (Some x.1) (lookup test es) ≡ None → Has e (x ∷ es) → ⊥
      by true u later is h = let no : Some x.1 ≡ None = is in absurd cc
      by false u later is (inl d) = true≢false (sym (ap (λ (y : K × Sum). test y.0) d ∙ t) ∙ u)
      by false u later is (inr k) = later is k t

module _ {X : Type 0} (p : X → Bool) where
  pub filtered : (x : X) (xs : List X) → Has x (filter p xs) → Has x xs × (p x ≡ true)
  filtered x [] h = absurd h
  filtered x (y ∷ xs) h = by (p y) refl (filtered x xs) h
    where
      by : (b : Bool) → p y ≡ b → (Has x (filter p xs) → Has x xs × (p x ≡ true)) → Has x (cond b (y ∷ filter p xs) (filter p xs)) → Has x (y ∷ xs) × (p x ≡ true)
      by true t later (inl e) = (inl e, sym (ap p e) ∙ t)
      by true t later (inr k) = let r = later k in (inr r.0, r.1)
      by false t later k = let r = later k in (inr r.0, r.1)

  filter_has : (x : X) (xs : List X) → Has x xs → p x ≡ true → Has x (filter p xs)
  filter_has x [] h t = absurd h
  filter_has x (y ∷ xs) h t = by (p y) refl (filter_has x xs) h
    where
      by : (b : Bool) → p y ≡ b → (Has x xs → p x ≡ true → Has x (filter p xs)) → Has x (y ∷ xs) → Has x (cond b (y ∷ filter p xs) (filter p xs))
      by true u later (inl e) = inl e
      by true u later (inr k) = inr (later k t)
      by false u later (inl e) = absurd (true≢false (sym t ∙ (sym (ap p e) ∙ u)))
      by false u later (inr k) = later k t

  tally_filter : (f : X → ℕ) (xs : List X) → tally f (filter p xs) ≤ tally f xs
  tally_filter f [] = omega arith
  tally_filter f (x ∷ xs) = by (p x) (tally_filter f xs)
    where
      by : (b : Bool) → tally f (filter p xs) ≤ tally f xs → tally f (cond b (x ∷ filter p xs) (filter p xs)) ≤ f x + tally f xs
      by true le = omega (arith, le)
      by false le = omega (arith, le)

none_of : (o : Option Sum) → is_none o ≡ true → o ≡ None
none_of None is = refl
none_of (Some v) is = absurd (true≢false (sym is))

some_weighs : {X : Type 0} (f : X → ℕ) (xs : List X) → 1 ≤ tally f xs → (x : X) × Has x xs × (1 ≤ f x)
some_weighs f [] h = absurd (omega arith)
some_weighs f (x ∷ xs) h = by (f x) refl (some_weighs f xs) h
  where
    by : (n : ℕ) → f x ≡ n → (1 ≤ tally f xs → (y : _) × Has y xs × (1 ≤ f y)) → 1 ≤ n + tally f xs → (y : _) × Has y (x ∷ xs) × (1 ≤ f y)
    by zero e later h = let r = later (omega (arith, h)) in (r.0, inr r.1, r.2)
    by (suc n) e later h = (x, inl refl, omega (arith, e))

zero_unless : (n : ℕ) → (1 ≤ n → ⊥) → n ≡ 0
zero_unless zero never = refl
zero_unless (suc n) never = absurd (never (omega arith))

-- ---- one table

module _ {K : Type 0} (eq : K → K → Bool) (frames : K → List Frame) (texts : List Name) where
  abbrev key_of : K → Key
  key_of k = frames_of texts (frames k)

  -- the plain change of a pair
  abbrev pub change_by : Pair K → Change
  change_by p = plain_change texts (diff_by frames p)

  -- the sum of what occurs of the key, as the table has it
  pub record IsSumOf (os : List Occurrence) (k : Key) (s : Sum) : Type 0 where
    pub size : s.size ≡ tally (size_at k) os
    pub count : s.count ≡ tally (once_at k) os

  module _ (os : List Occurrence) (sums : List (K × Sum)) (are : AreSums os (groups_of eq frames texts sums)) where
    there : (s : K × Sum) → Has s sums → IsGroupOf os (plain_group texts (group_by frames s))
    there s h =
        each_is os (groups_of eq frames texts sums) are (plain_group texts (group_by frames s))
        (has-map (plain_group texts) (group_by frames s) (map (group_by frames) sums) (has-map (group_by frames) s sums h))

    there_is : (s : K × Sum) → Has s sums → IsSumOf os (key_of s.0) s.1
    there_is s h = let is = there s h in record { size = is.size; count = is.count }

    -- a key to which something is added is in the table
    its : (k : Key) → 1 ≤ tally (once_at k) os → (s : K × Sum) × Has s sums × (k ≡ key_of s.0)
    its k h =
        let p = adds_some k (λ p. p.count) (groups_of eq frames texts sums) (omega (arith, h, are.count k)) in
        let g = from_map (plain_group texts) p.0 (map (group_by frames) sums) p.1 in
        let s = from_map (group_by frames) g.0 sums g.1 in
        let key : p.0.key ≡ key_of s.0.0 = ap (λ (x : _). x.key) g.2 ∙ ap (λ (x : _). frames_of texts x.key) s.2 in
        (s.0, s.1, p.2 ∙ key)

    its_size : (k : Key) → 1 ≤ tally (size_at k) os → (s : K × Sum) × Has s sums × (k ≡ key_of s.0)
    its_size k h =
        let p = adds_some k (λ p. p.size) (groups_of eq frames texts sums) (omega (arith, h, are.size k)) in
        let g = from_map (plain_group texts) p.0 (map (group_by frames) sums) p.1 in
        let s = from_map (group_by frames) g.0 sums g.1 in
        let key : p.0.key ≡ key_of s.0.0 = ap (λ (x : _). x.key) g.2 ∙ ap (λ (x : _). frames_of texts x.key) s.2 in
        (s.0, s.1, p.2 ∙ key)

    -- a key that is in no entry has the sum of no sizes
    none_is : (k : Key) → ((s : K × Sum) → Has s sums → k ≡ key_of s.0 → ⊥) → IsSumOf os k nothing
    none_is k never = record {
      size = sym (zero_unless (tally (size_at k) os) (λ h. let s = its_size k h in never s.0 s.1 s.2));
      count = sym (zero_unless (tally (once_at k) os) (λ h. let s = its k h in never s.0 s.1 s.2));
    }

    once_in : (k : Key) → tally (λ s. same k (key_of s.0)) sums ≤ 1
    once_in k =
        let e = tally-map (λ p. same k p.key) (plain_group texts) (map (group_by frames) sums) ∙ tally-map (λ g. same k (frames_of texts g.key)) (group_by frames) sums in
        omega (arith, e, are.once k)

-- ---- two tables

module _ {K : Type 0} (eq : K → K → Bool) (frames : K → List Frame) (texts : List Name) (means : (a b : K) → eq a b ≡ true → a ≡ b)
    (NEW OLD : List Occurrence) (new old : List (K × Sum))
    (are_new : AreSums NEW (groups_of eq frames texts new)) (are_old : AreSums OLD (groups_of eq frames texts old))
    (tells : (a b : K × Sum) → Has a new → Has b old → key_at eq frames texts a ≡ key_at eq frames texts b → (eq a.0 b.0 ≡ true) × (eq b.0 a.0 ≡ true)) where
  abbrev key : K → Key
  key = key_of eq frames texts

  abbrev to_change : Pair K → Change
  to_change = change_by eq frames texts

  abbrev is_gone : K × Sum → Bool
  is_gone s = is_none (lookup (eq s.0) new)

  -- the sum that a new key had
  had : (s : K × Sum) → Has s new → IsSumOf eq frames texts OLD (key s.0) (sum_at eq old s.0)
  had s h = by (lookup (eq s.0) old) refl
    where
      by : (o : Option Sum) → lookup (eq s.0) old ≡ o → IsSumOf eq frames texts OLD (key s.0) (unwrap_or o nothing)
      by None e = none_is eq frames texts OLD old are_old (key s.0) (λ b g k. missed (eq s.0) old b e g (tells s b h g k).0)
      by (Some v) e =
          let r = found (eq s.0) old v e in
          let its = there_is eq frames texts OLD old are_old r.0 r.1 in
          subst (λ (x : Sum). IsSumOf eq frames texts OLD (key s.0) x) r.3
          (subst (λ (k : K). IsSumOf eq frames texts OLD (key k) r.0.1) (sym (means s.0 r.0.0 r.2)) its)

  -- a key that has vanished has no new sum
  has_not : (s : K × Sum) → Has s old → is_gone s ≡ true → IsSumOf eq frames texts NEW (key s.0) nothing
  has_not s h is = none_is eq frames texts NEW new are_new (key s.0) (λ a g k. missed (eq s.0) new a (none_of (lookup (eq s.0) new) is) g (tells a s g h (sym k)).1)

  change_of : (k : Key) (n o : Sum) → IsSumOf eq frames texts NEW k n → IsSumOf eq frames texts OLD k o → 1 ≤ n.count + o.count
      → IsChangeOf NEW OLD (record { key = k; size = n.size; size_diff = pos n.size -ℤ pos o.size; count = n.count; count_diff = pos n.count -ℤ pos o.count })
  change_of k n o now then some = record {
    occurs = omega (arith, now.count, then.count, some);
    size = now.size;
    size_diff = λ i. pos (now.size i) -ℤ pos (then.size i);
    count = now.count;
    count_diff = λ i. pos (now.count i) -ℤ pos (then.count i);
  }

  from_new : (s : K × Sum) → Has s new → IsChangeOf NEW OLD (to_change (pair_at eq old s))
  from_new s h =
      change_of (key s.0) s.1 (sum_at eq old s.0) (there_is eq frames texts NEW new are_new s h) (had s h)
      (omega (arith, (there eq frames texts NEW new are_new s h).occurs))

  from_old : (s : K × Sum) → Has s old → is_gone s ≡ true → IsChangeOf NEW OLD (to_change (gone eq s))
  from_old s h is =
      change_of (key s.0) nothing s.1 (has_not s h is) (there_is eq frames texts OLD old are_old s h)
      (omega (arith, (there eq frames texts OLD old are_old s h).occurs))

  each_pair : (p : Pair K) → Has p (pairs_of eq new old) → IsChangeOf NEW OLD (to_change p)
  each_pair p h = elim (has_either p (map (pair_at eq old) new) (vanished eq new old) h) [
    | inl k ↦
        let s = from_map (pair_at eq old) p new k in
        subst (λ (x : Pair K). IsChangeOf NEW OLD (to_change x)) (sym s.2) (from_new s.0 s.1)
    | inr k ↦
        let s = from_map (gone eq) p (filter is_gone old) k in
        let r = filtered is_gone s.0 old s.1 in
        subst (λ (x : Pair K). IsChangeOf NEW OLD (to_change x)) (sym s.2) (from_old s.0 r.0 r.1)
  ]

  new_pair : (s : K × Sum) → Has s new → Has (pair_at eq old s) (pairs_of eq new old)
  new_pair s h = has_left (pair_at eq old s) (map (pair_at eq old) new) (vanished eq new old) (has-map (pair_at eq old) s new h)

  -- each key that occurs has a pair
  has_pair : (k : Key) → 1 ≤ tally (once_at k) NEW + tally (once_at k) OLD → (p : Pair K) × Has p (pairs_of eq new old) × (k ≡ key p.key)
  has_pair k some = by (tally (once_at k) NEW) refl
    where
      by_old : (s : K × Sum) → Has s old → k ≡ key s.0 → (o : Option Sum) → lookup (eq s.0) new ≡ o
          → (p : Pair K) × Has p (pairs_of eq new old) × (k ≡ key p.key)
      by_old s h e None is = (
        gone eq s,
        has_right (gone eq s) (map (pair_at eq old) new) (vanished eq new old)
            (has-map (gone eq) s (filter is_gone old) (filter_has is_gone s old h (ap (λ (o : Option Sum). is_none o) is))),
        e,
      )
      by_old s h e (Some v) is =
          let r = found (eq s.0) new v is in
          (pair_at eq old r.0, new_pair r.0 r.1, e ∙ ap key (means s.0 r.0.0 r.2))

      by : (n : ℕ) → tally (once_at k) NEW ≡ n → (p : Pair K) × Has p (pairs_of eq new old) × (k ≡ key p.key)
      by zero e =
          let s = its eq frames texts OLD old are_old k (omega (arith, e, some)) in
          by_old s.0 s.1 s.2 (lookup (eq s.0.0) new) refl
      by (suc n) e =
          let s = its eq frames texts NEW new are_new k (omega (arith, e)) in
          (pair_at eq old s.0, new_pair s.0 s.1, s.2)

  abbrev changes : List Change
  changes = map (plain_change texts) (map (diff_by frames) (pairs_of eq new old))

  to_pair : (c : Change) → Has c changes → (p : Pair K) × Has p (pairs_of eq new old) × (c ≡ to_change p)
  to_pair c h =
      let d = from_map (plain_change texts) c (map (diff_by frames) (pairs_of eq new old)) h in
      let p = from_map (diff_by frames) d.0 (pairs_of eq new old) d.1 in
      (p.0, p.1, d.2 ∙ ap (plain_change texts) p.2)

  all_there : (c : Change) → IsChangeOf NEW OLD c → Has c changes
  all_there c is =
      let p = has_pair c.key is.occurs in
      let one : to_change p.0 ≡ c = same_change NEW OLD (to_change p.0) c (each_pair p.0 p.1) is (sym p.2) in
      subst (λ (x : Change). Has x changes) one
      (has-map (plain_change texts) (diff_by frames p.0) (map (diff_by frames) (pairs_of eq new old))
      (has-map (diff_by frames) p.0 (pairs_of eq new old) p.1))

  -- where a new key has that name, no old one that has vanished does
  no_other : (k : Key) → 1 ≤ tally (λ s. same k (key s.0)) new → tally (λ s. same k (key s.0)) (filter is_gone old) ≡ 0
  no_other k some = tally_zero (λ s. same k (key s.0)) (filter is_gone old) (λ b h.
      let a = some_weighs (λ s. same k (key s.0)) new some in
      let r = filtered is_gone b old h in
      zero_unless (same k (key b.0)) (λ le.
      let e : key a.0.0 ≡ key b.0 = sym (same_is k (key a.0.0) a.2) ∙ same_is k (key b.0) le in
      missed (eq b.0) new a.0 (none_of (lookup (eq b.0) new) r.1) a.1 (tells a.0 b a.1 r.0 e).1))

  once_each : (k : Key) → tally (λ c. same k c.key) changes ≤ 1
  once_each k =
      let w : Pair K → ℕ = λ (p : Pair K). same k (key p.key) in
      let all = tally-map (λ c. same k c.key) (plain_change texts) (map (diff_by frames) (pairs_of eq new old))
      ∙ tally-map (λ d. same k (frames_of texts d.key)) (diff_by frames) (pairs_of eq new old)
      ∙ tally-append w (map (pair_at eq old) new) (vanished eq new old) in
      let first = tally-map w (pair_at eq old) new in
      let last = tally-map w (gone eq) (filter is_gone old) in
      let fewer = tally_filter is_gone (λ s. same k (key s.0)) old in
      by (tally (λ s. same k (key s.0)) new) refl (omega (arith, all, first, last)) (omega (arith, fewer, once_in eq frames texts OLD old are_old k))
    where
      by : (n : ℕ) → tally (λ s. same k (key s.0)) new ≡ n
          → tally (λ c. same k c.key) changes ≡ tally (λ s. same k (key s.0)) new + tally (λ s. same k (key s.0)) (filter is_gone old)
          → tally (λ s. same k (key s.0)) (filter is_gone old) ≤ 1 → tally (λ c. same k c.key) changes ≤ 1
      by zero e all le = omega (arith, e, all, le)
      by (suc n) e all le = omega (arith, all, no_other k (omega (arith, e)), once_in eq frames texts NEW new are_new k)

  pub changes_are : AreChanges NEW OLD changes
  changes_are = record {
    each = λ c h. let p = to_pair c h in subst (IsChangeOf NEW OLD) (sym p.2) (each_pair p.0 p.1);
    all = all_there;
    once = once_each;
  }

-- ---- in order

module _ (NEW OLD : List Occurrence) (plain : Diff → Change) (ds : List Diff) (are : AreChanges NEW OLD (map plain ds)) where
  to : (c : Change) → Has c (map plain ds) → Has c (changes_of NEW OLD)
  to c h = (changes_theirs NEW OLD).all c (are.each c h)

  from : (c : Change) → Has c (changes_of NEW OLD) → Has c (map plain ds)
  from c h = are.all c ((changes_theirs NEW OLD).each c h)

  -- there are as many as keys
  pub changes_long : length (changes_of NEW OLD) ≡ length ds
  changes_long =
      list_long change_cmp_total (λ c. c.key) key_tied (changes_of NEW OLD) (map plain ds) (changes_theirs NEW OLD).falls are.once to from
      ∙ length-map ds plain

  -- a front of them is the first of the comparison
  pub changes_first : (front : List Diff) → IsFrontOf change_cmp plain ds front → (most : ℕ) → length front ≡ min most (length ds)
      → map plain front ≡ take most (changes_of NEW OLD)
  changes_first front is most long =
      front_first change_cmp_total (λ c. c.key) key_tied plain (changes_of NEW OLD) ds front (changes_theirs NEW OLD).falls are.once to from is most long
