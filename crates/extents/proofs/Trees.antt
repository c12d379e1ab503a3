-- Extents that a tree keeps by their places.
use Rattle.std.proofs.Common.{◌≡◌, ℕ, ◌+◌, ◌<◌, ◌≤◌, ◌⊎◌, inl, inr, cond, List, [], ◌∷◌, map, refl, sym, ap, subst, ◌∙◌, arith, Bool, true, false, Some, None}
use Rattle.std.proofs.lemmas.Bool.Decides.{leb_tells, eqb_tells, nat_tests}
use Rattle.std.specs.Ordering.{nat_cmp, match_ordering, is_eq}
use Rattle.std.specs.declared.cmp.Ordering.TheVariants.{Less, Equal, Greater}
use Rattle.std.specs.BTreeMap.{insert_entry, is_at}
use Rattle.std.specs.Map.{lookup, remove_entry}
use Rattle.extents.specs.Extent.{Extent, begins}
use Rattle.extents.specs.Sums.{tally, Has, Inserted, Removed}
use Rattle.extents.proofs.Lists.{inserted_first, inserted_under, tally_has}
use Rattle.extents.proofs.Addresses.{begins_tells, begins_here}

-- what a comparison of two numbers answers, and what that says of them
pub cmp_tells : (a b : ℕ) → ((nat_cmp a b ≡ Less) × (a < b)) ⊎ ((nat_cmp a b ≡ Equal) × (a ≡ b)) ⊎ ((nat_cmp a b ≡ Greater) × (b < a))
cmp_tells a b = elim (leb_tells (a + 1) b) [
  | inl p ↦ inl (grind (arith, nat_tests), omega arith)
  | inr p ↦ elim (eqb_tells a b) [ inl q ↦ inr (inl (grind (arith, nat_tests), q.1)) | inr q ↦ inr (inr (grind (arith, nat_tests), omega arith)) ]
]

-- ---- the entries after a change

-- nothing but the new entry comes
pub inserted_entry : {V : Type 0} (es : List (ℕ × V)) (k : ℕ) (v : V) (d : ℕ × V) → Has d (insert_entry nat_cmp es k v) → (d ≡ (k, v)) ⊎ Has d es
inserted_entry [] k v d = λ has. elim has [ inl same ↦ inl (sym same) | inr none ↦ absurd none ]
inserted_entry (e ∷ es) k v d = elim (cmp_tells k e.0) as (λ _. Has d (match_ordering (nat_cmp k e.0) ((k, v) ∷ e ∷ es) ((e.0, v) ∷ es) (e ∷ insert_entry nat_cmp es k v)) → (d ≡ (k, v)) ⊎ (e ≡ d) ⊎ Has d es) [
  | inl less ↦ rw less.0 (λ has. elim has [ inl same ↦ inl (sym same) | inr old ↦ inr old ])
  | inr p ↦ elim p [
    | inl at ↦ rw at.0 (λ has. elim has [ inl same ↦ inl (sym same ∙ (λ i. (sym at.1 i, v))) | inr old ↦ inr (inr old) ])
    | inr more ↦ rw more.0 (λ has. elim has [ inl same ↦ inr (inl same) | inr old ↦ elim (inserted_entry es k v d old) [ inl new ↦ inl new | inr there ↦ inr (inr there) ] ])
  ]
]

-- nothing comes where one goes
pub removed_entry : {V : Type 0} (test : ℕ → Bool) (es : List (ℕ × V)) (d : ℕ × V) → Has d (remove_entry test es) → Has d es
removed_entry test [] d has = has
removed_entry test (e ∷ es) d has = elim (test e.0) as (λ b. Has d (cond b es (e ∷ remove_entry test es)) → (e ≡ d) ⊎ Has d es) [
  | true ↦ λ old. inr old
  | false ↦ λ old. elim old [ inl same ↦ inl same | inr there ↦ inr (removed_entry test es d there) ]
] has

-- ---- the extents, whose places are the keys

module _ {V : Type 0} (extent_at : ℕ × V → Extent) (keyed : (e : ℕ × V) → (extent_at e).place ≡ e.0) where
  abbrev kept : List (ℕ × V) → List Extent
  kept es = map extent_at es

  -- where none begins at the key, the tree has no such key
  pub tree_none : (es : List (ℕ × V)) (k : ℕ) → tally (begins k) (kept es) ≡ 0 → lookup (is_at (nat_cmp k)) es ≡ None
  tree_none [] k none = refl
  tree_none (e ∷ es) k none = elim (cmp_tells k e.0) as (λ _. cond (is_eq (nat_cmp k e.0)) (Some e.1) (lookup (is_at (nat_cmp k)) es) ≡ None) [
    | inl less ↦ rw less.0 (tree_none es k (omega arith))
    | inr p ↦ elim p [
      | inl same ↦ let at = keyed e in absurd (elim (begins_tells k (extent_at e)) [ inl q ↦ omega arith | inr q ↦ q.1 (omega arith) ])
      | inr more ↦ rw more.0 (tree_none es k (omega arith))
    ]
  ]

  -- and takes an extent there as a new one
  pub tree_inserted : (es : List (ℕ × V)) (k : ℕ) (v : V) → tally (begins k) (kept es) ≡ 0 → Inserted (extent_at (k, v)) (kept es) (kept (insert_entry nat_cmp es k v))
  tree_inserted [] k v none = inserted_first (extent_at (k, v)) []
  tree_inserted (e ∷ es) k v none = elim (cmp_tells k e.0) as (λ _. Inserted (extent_at (k, v)) (kept (e ∷ es)) (kept (match_ordering (nat_cmp k e.0) ((k, v) ∷ e ∷ es) ((e.0, v) ∷ es) (e ∷ insert_entry nat_cmp es k v)))) [
    | inl less ↦ rw less.0 (inserted_first (extent_at (k, v)) (kept (e ∷ es)))
    | inr p ↦ elim p [
      | inl same ↦ let at = keyed e in absurd (elim (begins_tells k (extent_at e)) [ inl q ↦ omega arith | inr q ↦ q.1 (omega arith) ])
      | inr more ↦ rw more.0 (inserted_under (extent_at e) (extent_at (k, v)) (kept es) (kept (insert_entry nat_cmp es k v)) (tree_inserted es k v (omega arith)))
    ]
  ]

  -- an extent of the tree, as its key finds it
  pub record Found (x : Extent) (k : ℕ) (es : List (ℕ × V)) : Type 0 where
    pub value : V
    pub is : extent_at (k, value) ≡ x
    pub here : Has (k, value) es
    pub found : lookup (is_at (nat_cmp k)) es ≡ Some value
    pub removed : Removed x (kept es) (kept (remove_entry (is_at (nat_cmp k)) es))

  -- what alone begins at its place is found by it
  pub tree_found : (es : List (ℕ × V)) (x : Extent) (k : ℕ) → x.place ≡ k → Has x (kept es) → tally (begins k) (kept es) ≤ 1 → Found x k es
  tree_found [] x k at has once = absurd has
  tree_found (e ∷ es) x k at (inl same) once =
      let key : e.0 ≡ k = sym (keyed e) ∙ ap (λ y. y.place) same ∙ at in
      let pair : e ≡ (k, e.1) = λ i. (key i, e.1) in
      let equal : nat_cmp k e.0 ≡ Equal = elim (cmp_tells k e.0) [ inl less ↦ absurd (omega arith) | inr p ↦ elim p [ inl is ↦ is.0 | inr more ↦ absurd (omega arith) ] ] in
      record {
        value = e.1;
        is = ap extent_at (sym pair) ∙ same;
        here = inl pair;
        found = rw equal refl;
        removed = rw equal (subst (λ y. Inserted y (kept es) (extent_at e ∷ kept es)) same (inserted_first (extent_at e) (kept es)));
      }
  tree_found (e ∷ es) x k at (inr has) once =
      let f = tree_found es x k at has (omega arith) in
      let other : is_eq (nat_cmp k e.0) ≡ false = elim (cmp_tells k e.0) [
        | inl less ↦ ap is_eq less.0
        | inr p ↦ elim p [
          | inl is ↦
              let one = subst (λ y. begins y x ≡ 1) at (begins_here x) in let le = tally_has (begins k) x (kept es) has in let key = keyed e in
              absurd (elim (begins_tells k (extent_at e)) [ inl q ↦ omega arith | inr q ↦ q.1 (omega arith) ])
          | inr more ↦ ap is_eq more.0
        ]
      ] in
      record {
        value = f.value;
        is = f.is;
        here = inr f.here;
        found = rw other f.found;
        removed = rw other (inserted_under (extent_at e) x (kept (remove_entry (is_at (nat_cmp k)) es)) (kept es) f.removed);
      }
