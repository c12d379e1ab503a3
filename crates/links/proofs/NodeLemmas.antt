-- Lists of nodes, and where a node stands in one.
use Rattle.std.proofs.Common.{◌≡◌, ◌≢◌, ℕ, zero, suc, ◌+◌, ◌<◌, ◌≤◌, inl, inr, List, [], ◌∷◌, ◌++◌, length, get_or, Option, Some, None, Contains, refl, ap, arith}
use Rattle.std.proofs.lemmas.Bool.Decides.{eqb_tells}
use Rattle.links.specs.Nodes.{times, first_or, last_or, first_of, last_of}

pub times-append : (k : ℕ) (xs ys : List ℕ) → times k (xs ++ ys) ≡ times k xs + times k ys
times-append k [] ys = omega arith
times-append k (x ∷ xs) ys = let i = times-append k xs ys in omega arith

pub times-here : (x : ℕ) (xs : List ℕ) → times x (x ∷ xs) ≡ 1 + times x xs
times-here x xs = elim (eqb_tells x x) [ inl w ↦ rw w.0 refl | inr w ↦ absurd (w.1 refl) ]

pub differs : (k x : ℕ) (xs : List ℕ) → times k (x ∷ xs) ≡ 0 → x ≢ k
differs k x xs h = λ e. elim (eqb_tells x k) [ inl w ↦ let h2 = rw w.0 at h in absurd (omega arith) | inr w ↦ w.1 e ]

pub first_or-append : (xs ys : List ℕ) (q : Option ℕ) → first_or (xs ++ ys) q ≡ first_or xs (first_or ys q)
first_or-append [] ys q = refl
first_or-append (x ∷ xs) ys q = refl

-- a node of a list, with the nodes before and behind it
pub record Split (xs : List ℕ) (x : ℕ) : Type 0 where
  pub before : List ℕ
  pub after : List ℕ
  pub all : xs ≡ before ++ x ∷ after

split_at : (xs : List ℕ) (k x : ℕ) → k < length xs → get_or xs k x ≡ x → Split xs x
split_at [] k x h e = absurd (omega arith)
split_at (y ∷ ys) zero x h e = record { before = []; after = ys; all = ap (λ z. z ∷ ys) e }
split_at (y ∷ ys) (suc k) x h e = let s = split_at ys k x (omega arith) e in record { before = y ∷ s.before; after = s.after; all = ap (λ zs. y ∷ zs) s.all }

pub split : (xs : List ℕ) (x : ℕ) → Contains xs x → Split xs x
split xs x c = split_at xs c.0 x c.1 c.2

pub times-split : (xs : List ℕ) (x : ℕ) → Split xs x → 1 ≤ times x xs
times-split xs x s = rw s.all (let a = times-append x s.before (x ∷ s.after) in let b = times-here x s.after in omega arith)

-- a node that is not in a list
pub times-out : (xs : List ℕ) (x : ℕ) → (Contains xs x → ⊥) → times x xs ≡ 0
times-out [] x out = refl
times-out (y ∷ ys) x out = elim (eqb_tells y x) [
  | inl w ↦ absurd (out (0, omega arith, w.1))
  | inr w ↦ rw w.0 (let i = times-out ys x (λ c. out (suc c.0, omega (arith, c.1), c.2)) in omega arith)
]

-- the last node is another one
pub last_or-differs : (x : ℕ) (p : Option ℕ) (ys : List ℕ) → p ≢ Some x → times x ys ≡ 0 → last_or ys p ≢ Some x
last_or-differs x p [] d h = d
last_or-differs x p (y ∷ ys) d h = last_or-differs x (Some y) ys (λ e. differs x y ys h (cc)) (let h2 = h in omega arith)

pub last_of-differs : (x : ℕ) (ys : List ℕ) → times x ys ≡ 0 → last_of ys ≢ Some x
last_of-differs x ys h = last_or-differs x None ys (λ e. cc) h

pub first_of-differs : (x : ℕ) (ys : List ℕ) → times x ys ≡ 0 → first_of ys ≢ Some x
first_of-differs x [] h = λ e. cc
first_of-differs x (y ∷ ys) h = λ e. differs x y ys h (cc)

pub last_or-append : (xs : List ℕ) (x : ℕ) (ys : List ℕ) (p : Option ℕ) → last_or (xs ++ x ∷ ys) p ≡ last_or ys (Some x)
last_or-append [] x ys p = refl
last_or-append (z ∷ xs) x ys p = last_or-append xs x ys (Some z)

-- ---- whether a node is in a list, by how often it stands there

place_of : (xs : List ℕ) (x : ℕ) → 1 ≤ times x xs → Contains xs x
place_of [] x h = absurd (omega arith)
place_of (y ∷ ys) x h = elim (eqb_tells y x) [
  | inl w ↦ (0, omega arith, w.1)
  | inr w ↦ let h2 = rw w.0 at h in let c = place_of ys x (omega arith) in (suc c.0, omega (arith, c.1), c.2)
]

-- a node that stands in a list of nodes
pub Contains-times : (xs ys : List ℕ) (x : ℕ) → xs ≡ ys → 1 ≤ times x ys → Contains xs x
Contains-times xs ys x e h = rw e (place_of ys x h)

-- a node that does not
pub not_Contains-times : (xs ys : List ℕ) (x : ℕ) → xs ≡ ys → times x ys ≡ 0 → ¬ Contains xs x
not_Contains-times xs ys x e h = λ c. let there : 1 ≤ times x ys = rw e at (times-split xs x (split xs x c)) in absurd (omega arith)
