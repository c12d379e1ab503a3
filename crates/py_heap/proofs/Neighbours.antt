-- Neighbours in lists of addresses.
use Rattle.std.proofs.Common.{◌≡◌, ◌≢◌, ℕ, ◌+◌, ◌≤◌, inl, inr, cond, eqb, List, [], ◌∷◌, ◌++◌, refl, sym, subst, ◌∙◌, arith}
use Rattle.std.proofs.lemmas.Bool.Decides.{eqb_tells}
use Rattle.links.specs.Nodes.{times}
use Rattle.heap_model.proofs.CallerLemmas.{number_self}
use Rattle.py_heap.specs.Heap.{first_in, next_in, prev_in}

-- ---- the first of a list, and others

pub next_here : (p : ℕ) (qs : List ℕ) → next_in p (p ∷ qs) ≡ first_in qs
next_here p qs = rw (number_self p) refl

pub prev_here : (b p : ℕ) (qs : List ℕ) → prev_in b p (p ∷ qs) ≡ b
prev_here b p qs = rw (number_self p) refl

pub next_other : (p q : ℕ) (qs : List ℕ) → q ≢ p → next_in p (q ∷ qs) ≡ next_in p qs
next_other p q qs n = elim (eqb_tells q p) [ inl w ↦ absurd (n w.1) | inr w ↦ rw w.0 refl ]

pub prev_other : (b p q : ℕ) (qs : List ℕ) → q ≢ p → prev_in b p (q ∷ qs) ≡ prev_in q p qs
prev_other b p q qs n = elim (eqb_tells q p) [ inl w ↦ absurd (n w.1) | inr w ↦ rw w.0 refl ]

-- ---- an address that is not there

absent : (p q : ℕ) (qs : List ℕ) → times p (q ∷ qs) ≡ 0 → (q ≢ p) × (times p qs ≡ 0)
absent p q qs = elim (eqb_tells q p) as (λ _. cond (eqb q p) 1 0 + times p qs ≡ 0 → (q ≢ p) × (times p qs ≡ 0)) [
  | inl w ↦ rw w.0 (λ e. absurd (omega arith))
  | inr w ↦ rw w.0 (λ e. (w.1, omega arith))
]

pub no_next : (p : ℕ) (qs : List ℕ) → times p qs ≡ 0 → next_in p qs ≡ 0
no_next p [] z = refl
no_next p (q ∷ qs) z = let a = absent p q qs z in next_other p q qs a.0 ∙ no_next p qs a.1

pub no_prev : (b p : ℕ) (qs : List ℕ) → times p qs ≡ 0 → prev_in b p qs ≡ 0
no_prev b p [] z = refl
no_prev b p (q ∷ qs) z = let a = absent p q qs z in prev_other b p q qs a.0 ∙ no_prev q p qs a.1

-- ---- an address between others

-- the last of a list, or b
abbrev pub last_in : ℕ → List ℕ → ℕ
last_in b [] = b
last_in b (a ∷ xs) = last_in a xs

pub next_between : (p : ℕ) (xs ys : List ℕ) → times p xs ≡ 0 → next_in p (xs ++ p ∷ ys) ≡ first_in ys
next_between p [] ys z = next_here p ys
next_between p (a ∷ xs) ys z = let x = absent p a xs z in next_other p a (xs ++ p ∷ ys) x.0 ∙ next_between p xs ys x.1

pub prev_between : (b p : ℕ) (xs ys : List ℕ) → times p xs ≡ 0 → prev_in b p (xs ++ p ∷ ys) ≡ last_in b xs
prev_between b p [] ys z = prev_here b p ys
prev_between b p (a ∷ xs) ys z = let x = absent p a xs z in prev_other b p a (xs ++ p ∷ ys) x.0 ∙ prev_between a p xs ys x.1

-- ---- the neighbours of others, with an address p and without it

front_kept : (a x p : ℕ) (xs ys : List ℕ) → a ≡ x → x ≢ last_in a xs → first_in (xs ++ ys) ≡ first_in (xs ++ p ∷ ys)
front_kept a x p [] ys e l = absurd (l (sym e))
front_kept a x p (c ∷ xs) ys e l = refl

pub next_kept : (b x p : ℕ) (xs ys : List ℕ) → x ≢ p → x ≢ last_in b xs → next_in x (xs ++ ys) ≡ next_in x (xs ++ p ∷ ys)
next_kept b x p [] ys n l = sym (next_other x p ys (λ e. n (sym e)))
next_kept b x p (a ∷ xs) ys n l = elim (eqb_tells a x) [
  | inl w ↦ rw w.0 (front_kept a x p xs ys w.1 l)
  | inr w ↦ rw w.0 (next_kept a x p xs ys n l)
]

pub prev_kept : (b x p : ℕ) (xs ys : List ℕ) → x ≢ p → x ≢ first_in ys → prev_in b x (xs ++ ys) ≡ prev_in b x (xs ++ p ∷ ys)
prev_kept b x p [] [] n f = sym (prev_other b x p [] (λ e. n (sym e)))
prev_kept b x p [] (c ∷ ys) n f = prev_other b x c ys (λ e. f (sym e)) ∙ sym (prev_other b x p (c ∷ ys) (λ e. n (sym e)) ∙ prev_other p x c ys (λ e. f (sym e)))
prev_kept b x p (a ∷ xs) ys n f = elim (eqb_tells a x) [
  | inl w ↦ rw w.0 refl
  | inr w ↦ rw w.0 (prev_kept a x p xs ys n f)
]

-- ---- how often

pub times_here : (p : ℕ) (qs : List ℕ) → times p (p ∷ qs) ≡ times p qs + 1
times_here p qs = rw (number_self p) (omega arith)

-- ---- the last of a list, and the first of the next

last_times : (b x : ℕ) (xs : List ℕ) → last_in b xs ≡ x → b ≢ x → 1 ≤ times x xs
last_times b x [] e n = absurd (n e)
last_times b x (a ∷ xs) e n = elim (eqb_tells a x) [
  | inl w ↦ rw w.0 (omega arith)
  | inr w ↦ let t = last_times a x xs e w.1 in rw w.0 (omega arith)
]

only_last : (a x : ℕ) (xs ys : List ℕ) → a ≡ x → last_in a xs ≡ x → times x xs ≡ 0 → first_in (xs ++ ys) ≡ first_in ys
only_last a x [] ys e l z = refl
only_last a x (c ∷ xs) ys e l z = let o = absent x c xs z in let t = last_times c x xs l o.0 in absurd (let y = o.1 in omega arith)

pub next_last : (b x : ℕ) (xs ys : List ℕ) → last_in b xs ≡ x → b ≢ x → times x xs ≤ 1 → next_in x (xs ++ ys) ≡ first_in ys
next_last b x [] ys e n = λ once. absurd (n e)
next_last b x (a ∷ xs) ys e n = elim (eqb_tells a x) as (λ _. cond (eqb a x) 1 0 + times x xs ≤ 1 → next_in x (a ∷ xs ++ ys) ≡ first_in ys) [
  | inl w ↦ rw w.0 (λ once. only_last a x xs ys w.1 e (omega arith))
  | inr w ↦ rw w.0 (λ once. next_last a x xs ys e w.1 (omega arith))
]

pub first_times : (x : ℕ) (ys : List ℕ) → first_in ys ≡ x → x ≢ 0 → 1 ≤ times x ys
first_times x [] e n = absurd (n (sym e))
first_times x (c ∷ ys) e n = elim (eqb_tells c x) [ inl w ↦ rw w.0 (omega arith) | inr w ↦ absurd (w.1 e) ]

pub prev_first : (b x : ℕ) (xs ys : List ℕ) → first_in ys ≡ x → x ≢ 0 → times x xs ≡ 0 → prev_in b x (xs ++ ys) ≡ last_in b xs
prev_first b x xs [] e n z = absurd (n (sym e))
prev_first b x xs (c ∷ ys) e n z = subst (λ y. prev_in b x (xs ++ y ∷ ys) ≡ last_in b xs) (sym e) (prev_between b x xs ys z)
