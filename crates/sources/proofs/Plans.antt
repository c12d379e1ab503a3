-- The numbers of requests to refuse, as a tree keeps them.
use Rattle.std.proofs.Common.{◌≡◌, ℕ, ◌⊎◌, inl, inr, Bool, true, false, not, ◌||◌, ◌==◌, List, [], ◌∷◌, refl, sym, ap, subst, ◌∙◌}
use Rattle.std.specs.Prelude.{IsTrue, MatchBool}
use Rattle.std.specs.Ordering.{nat_cmp, match_ordering}
use Rattle.std.specs.BTreeSet.{insert_key}
use Rattle.extents.proofs.CallerLemmas.{cmp_tells}
use Rattle.sources.specs.Memory.{is_listed}

or_twice : (a b : Bool) → (a || b) ≡ (a || (a || b))
or_twice true b = refl
or_twice false b = refl

or_swaps : (a b c : Bool) → (a || (b || c)) ≡ (b || (a || c))
or_swaps true true c = refl
or_swaps true false c = refl
or_swaps false b c = refl

pub listed_more : (keys : List ℕ) (n k : ℕ) → is_listed (insert_key nat_cmp keys n) k ≡ ((n == k) || is_listed keys k)
listed_more [] n k = refl
listed_more (x ∷ keys) n k = elim (cmp_tells n x) as (λ _. is_listed (match_ordering (nat_cmp n x) (n ∷ x ∷ keys) (x ∷ keys) (x ∷ insert_key nat_cmp keys n)) k ≡ ((n == k) || ((x == k) || is_listed keys k))) [
  | inl less ↦ rw less.0 refl
  | inr p ↦ elim p [
    | inl same ↦ rw same.0 (subst (λ y. ((x == k) || is_listed keys k) ≡ ((y == k) || ((x == k) || is_listed keys k))) (sym same.1) (or_twice (x == k) (is_listed keys k)))
    | inr more ↦ rw more.0 (ap (λ b. (x == k) || b) (listed_more keys n k) ∙ or_swaps (x == k) (n == k) (is_listed keys k))
  ]
]

-- ---- what is refused

-- a request that was not refused had room
pub had_room : (listed room result : Bool) (P Q : Type 0) → result ≡ false → result ≡ (listed || not room) → MatchBool room P Q → P
had_room listed true result P Q kept is fits = fits
had_room true false result P Q kept is fits = cc
had_room false false result P Q kept is fits = cc

-- and neither was it listed, nor was there no room
pub not_refused : (listed room result : Bool) (P Q : Type 0) → (P → Q → ⊥) → result ≡ false → result ≡ (listed || not room) → MatchBool room P Q → IsTrue listed ⊎ Q → ⊥
not_refused listed room result P Q never kept is fits (inr past) = never (had_room listed room result P Q kept is fits) past
not_refused true room result P Q never kept is fits (inl told) = cc
not_refused false room result P Q never kept is fits (inl told) = cc
