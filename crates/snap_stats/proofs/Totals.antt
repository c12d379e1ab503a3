-- Groups whose sums come to those of the occurrences are their statistics, once they are in order.
use Rattle.std.proofs.Common.{min, ◌≡◌, ℕ, ◌+◌, ◌*◌, ◌≤◌, Bool, true, false, cond, List, [], ◌∷◌, map, take, length}
use Rattle.std.proofs.Common.{refl, sym, ap, subst, ◌∙◌, inl, inr, arith}
use Rattle.std.specs.declared.cmp.Ordering.{Ordering}
use Rattle.std.specs.declared.cmp.Ordering.TheVariants.{Less, Equal, Greater}
use Rattle.std.specs.Ordering.{is_eq, nat_cmp, ordering_then, eq_by_cmp}
use Rattle.std.proofs.lemmas.List.{length-map}
use Rattle.extents.specs.Sums.{tally, Has}
use Rattle.extents.proofs.CallerLemmas.{tally_has}
use Rattle.mem_base.specs.declared.reply.Group.{Group}
use Rattle.snapshot_model.specs.Occurrences.{Key, Occurrence}
use Rattle.snapshot_model.specs.Stats.{PlainGroup, key_cmp, group_cmp, once_at, size_at, stats_of, IsGroupOf}
use Rattle.snapshot_model.proofs.CallerLemmas.{group_cmp_total, same_key, then_both, stats_theirs}
use Rattle.snap_stats.specs.Groups.{IsFrontOf}
use Rattle.snap_stats.proofs.Firsts.{same_one, list_long, front_first}
use Rattle.snap_stats.proofs.Weighing.{same}

-- no key has two groups, each has a count, and the groups come to the occurrences' sums at each key
pub record AreSums (os : List Occurrence) (ps : List PlainGroup) : Type 0 where
  pub size : (k : Key) → tally (λ p. same k p.key * p.size) ps ≡ tally (size_at k) os
  pub count : (k : Key) → tally (λ p. same k p.key * p.count) ps ≡ tally (once_at k) os
  pub some : (p : PlainGroup) → Has p ps → 1 ≤ p.count
  pub once : (k : Key) → tally (λ p. same k p.key) ps ≤ 1

pub same_is : (k key : Key) → 1 ≤ same k key → k ≡ key
same_is k key h = by (key_cmp k key) refl h
  where
    by : (o : Ordering) → key_cmp k key ≡ o → 1 ≤ cond (is_eq o) 1 0 → k ≡ key
    by Less e h = absurd (omega arith)
    by Equal e h = same_key k key e
    by Greater e h = absurd (omega arith)

abbrev bit : Bool → ℕ
bit b = cond b 1 0

zero_times : (b : Bool) (n : ℕ) → bit b ≡ 0 → bit b * n ≡ 0
zero_times true n e = absurd (omega arith)
zero_times false n e = omega arith

-- where no group has the key, none adds to it
none_adds : (k : Key) (f : PlainGroup → ℕ) (ps : List PlainGroup) → tally (λ p. same k p.key) ps ≡ 0 → tally (λ p. same k p.key * f p) ps ≡ 0
none_adds k f [] e = refl
none_adds k f (p ∷ ps) e =
    let rest = none_adds k f ps (omega arith) in
    omega (arith, rest, zero_times (eq_by_cmp key_cmp k p.key) (f p) (omega arith))

-- where one group has the key, only it adds to it
one_adds : (f : PlainGroup → ℕ) (p : PlainGroup) (ps : List PlainGroup) → Has p ps → tally (λ q. same p.key q.key) ps ≤ 1 → tally (λ q. same p.key q.key * f q) ps ≡ f p
one_adds f p [] h le = absurd h
one_adds f p (q ∷ ps) (inl e) le =
    let is : same p.key q.key ≡ 1 = ap (λ (x : PlainGroup). same p.key x.key) e ∙ same_one p.key in
    let this : same p.key q.key * f q ≡ 1 * f p = λ i. is i * f (e i) in
    let rest = none_adds p.key f ps (omega (arith, is, le)) in
    omega (arith, this, rest)
one_adds f p (q ∷ ps) (inr h) le =
    let there = tally_has (λ x. same p.key x.key) p ps h in
    let this = zero_times (eq_by_cmp key_cmp p.key q.key) (f q) (omega (arith, there, same_one p.key, le)) in
    let rest = one_adds f p ps h (omega (arith, le)) in
    omega (arith, this, rest)

-- a key to which something is added has a group
pub adds_some : (k : Key) (f : PlainGroup → ℕ) (ps : List PlainGroup) → 1 ≤ tally (λ p. same k p.key * f p) ps → (p : PlainGroup) × Has p ps × (k ≡ p.key)
adds_some k f [] h = absurd (omega arith)
adds_some k f (p ∷ ps) h = by (adds_some k f ps) (key_cmp k p.key) refl h
  where
    by : (1 ≤ tally (λ q. same k q.key * f q) ps → (q : PlainGroup) × Has q ps × (k ≡ q.key)) → (o : Ordering) → key_cmp k p.key ≡ o
        → 1 ≤ cond (is_eq o) 1 0 * f p + tally (λ q. same k q.key * f q) ps → (q : PlainGroup) × Has q (p ∷ ps) × (k ≡ q.key)
    by later Less e h = let r = later (omega arith) in (r.0, inr r.1, r.2)
    by later Equal e h = (p, inl refl, same_key k p.key e)
    by later Greater e h = let r = later (omega arith) in (r.0, inr r.1, r.2)

module _ (os : List Occurrence) (ps : List PlainGroup) (are : AreSums os ps) where
  pub each_is : (p : PlainGroup) → Has p ps → IsGroupOf os p
  each_is p h = record {
    occurs = are.some p h;
    count = sym (one_adds (λ q. q.count) p ps h (are.once p.key)) ∙ are.count p.key;
    size = sym (one_adds (λ q. q.size) p ps h (are.once p.key)) ∙ are.size p.key;
  }

  pub all_are : (l : PlainGroup) → IsGroupOf os l → Has l ps
  all_are l is =
      let r = adds_some l.key (λ p. p.count) ps (omega (arith, is.occurs, is.count, are.count l.key)) in
      let p = each_is r.0 r.1 in
      let k : r.0.key ≡ l.key = sym r.2 in
      let s : r.0.size ≡ l.size = p.size ∙ ap (λ (key : Key). tally (size_at key) os) k ∙ sym is.size in
      let c : r.0.count ≡ l.count = p.count ∙ ap (λ (key : Key). tally (once_at key) os) k ∙ sym is.count in
      let e : r.0 ≡ l = λ i. record { key = k i; size = s i; count = c i } in
      subst (λ (z : PlainGroup). Has z ps) e r.1

key_tied : (a b : PlainGroup) → group_cmp a b ≡ Equal → a.key ≡ b.key
key_tied a b e =
    let first = then_both (nat_cmp a.size b.size) (ordering_then (nat_cmp a.count b.count) (key_cmp a.key b.key)) e in
    same_key a.key b.key (then_both (nat_cmp a.count b.count) (key_cmp a.key b.key) first.1).1

-- ---- the statistics

module _ (os : List Occurrence) (plain : Group → PlainGroup) (groups : List Group) (are : AreSums os (map plain groups)) where
  to : (p : PlainGroup) → Has p (map plain groups) → Has p (stats_of os)
  to p h = (stats_theirs os).all p (each_is os (map plain groups) are p h)

  from : (p : PlainGroup) → Has p (stats_of os) → Has p (map plain groups)
  from p h = all_are os (map plain groups) are p ((stats_theirs os).each p h)

  -- there are as many groups as statistics
  pub groups_long : length (stats_of os) ≡ length groups
  groups_long =
      list_long group_cmp_total (λ g. g.key) key_tied (stats_of os) (map plain groups) (stats_theirs os).falls are.once to from
      ∙ length-map groups plain

  -- a front of the groups is the first of the statistics
  pub groups_first : (front : List Group) → IsFrontOf group_cmp plain groups front → (most : ℕ) → length front ≡ min most (length groups)
      → map plain front ≡ take most (stats_of os)
  groups_first front is most long =
      front_first group_cmp_total (λ g. g.key) key_tied plain (stats_of os) groups front (stats_theirs os).falls are.once to from is most long
