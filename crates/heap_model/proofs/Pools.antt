-- Pools, their spots and their numbers in kept tables.
use Rattle.std.proofs.Common.{◌≡◌, ◌≢◌, ℕ, ◌≤◌, ◌⊎◌, inl, inr, true, false, cond, eqb, List, [], ◌∷◌, ◌++◌, get_or, Some, refl, sym, ap, subst, ◌∙◌, arith}
use Rattle.std.proofs.lemmas.Bool.Decides.{eqb_tells}
use Rattle.extents.specs.Sums.{tally, Has, Inserted, Removed, Replaced}
use Rattle.extents.proofs.CallerLemmas.{tally_has, tally_le, tally_zero}
use Rattle.layout_model.specs.Sizes.{capacity}
use Rattle.layout_model.specs.Geometry.{PoolLine}
use Rattle.heap_model.specs.Tables.{Spot, spot_of, same_spot}
use Rattle.heap_model.specs.View.{used_pool, used_at, full_pool, full_in, place_in}
use Rattle.heap_model.specs.Kept.{has_number, is_spot, stands_at, open_at, AreOrderly}
use Rattle.heap_model.proofs.Picks.{pick_has}

-- ---- sums of ones

-- an element that adds something
pub tally_some : {X : Type 0} (f : X → ℕ) (xs : List X) → 1 ≤ tally f xs → (x : X) × (Has x xs × (1 ≤ f x))
tally_some f [] h = absurd (omega arith)
tally_some f (x ∷ xs) h = elim (eqb_tells (f x) 0) [
  | inl w ↦ let r = tally_some f xs (let z = w.1 in omega arith) in (r.0, (inr r.1.0, r.1.1))
  | inr w ↦ (x, (inl refl, let z = w.1 in omega arith))
]

-- two elements that count, where at most one does
pub tally_once : {X : Type 0} (f : X → ℕ) (xs : List X) (x z : X) → tally f xs ≤ 1 → Has x xs → Has z xs → 1 ≤ f x → 1 ≤ f z → x ≡ z
tally_once f [] x z once h g one two = absurd h
tally_once f (y ∷ xs) x z once (inl e) (inl d) one two = sym e ∙ d
tally_once f (y ∷ xs) x z once (inl e) (inr g) one two = let more = tally_has f z xs g in let same : f y ≡ f x = ap f e in absurd (omega arith)
tally_once f (y ∷ xs) x z once (inr h) (inl d) one two = let more = tally_has f x xs h in let same : f y ≡ f z = ap f d in absurd (omega arith)
tally_once f (y ∷ xs) x z once (inr h) (inr g) one two = tally_once f xs x z (omega arith) h g one two

-- an element that changes goes and comes
pub replaced_steps : {X : Type 0} (x y : X) (old new : List X) → Replaced x y old new → (mid : List X) × (Removed x old mid × Inserted y mid new)
replaced_steps x y old new r = (r.before ++ r.after, (record { before = r.before; after = r.after; without = refl; with = r.was }, record { before = r.before; after = r.after; without = refl; with = r.is }))

-- ---- spots and numbers

pub spot_tells : (a b : Spot) → ((same_spot a b ≡ true) × (a ≡ b)) ⊎ ((same_spot a b ≡ false) × (a ≢ b))
spot_tells a b = elim (eqb_tells a.arena b.arena) [
  | inl v ↦ elim (eqb_tells a.slot b.slot) [
    | inl w ↦ inl (rw (v.0, w.0) refl, λ i. record { arena = v.1 i; slot = w.1 i })
    | inr w ↦ inr (rw (v.0, w.0) refl, λ e. w.1 (ap (λ (s : Spot). s.slot) e))
  ]
  | inr v ↦ inr (rw v.0 refl, λ e. v.1 (ap (λ (s : Spot). s.arena) e))
]

pub same_self : (s : Spot) → same_spot s s ≡ true
same_self s = elim (spot_tells s s) [ inl w ↦ w.0 | inr w ↦ absurd (w.1 refl) ]

pub number_self : (k : ℕ) → eqb k k ≡ true
number_self k = elim (eqb_tells k k) [ inl w ↦ w.0 | inr w ↦ absurd (w.1 refl) ]

pub is_spot_self : (s : Spot) → is_spot s s ≡ 1
is_spot_self s = rw (same_self s) refl

pub is_spot_same : (s a : Spot) → 1 ≤ is_spot s a → a ≡ s
is_spot_same s a = elim (spot_tells a s) as (λ _. 1 ≤ cond (same_spot a s) 1 0 → a ≡ s) [ inl w ↦ λ h. w.1 | inr w ↦ rw w.0 (λ h. absurd (omega arith)) ]

pub is_spot_other : (s a : Spot) → a ≢ s → is_spot s a ≡ 0
is_spot_other s a n = elim (spot_tells a s) [ inl w ↦ absurd (n w.1) | inr w ↦ rw w.0 refl ]

-- a list without the spot has others
pub spot_absent : (s : Spot) (l : List Spot) → tally (is_spot s) l ≡ 0 → (a : Spot) → Has a l → a ≢ s
spot_absent s l none a h same = let more = tally_has (is_spot s) a l h in let one : is_spot s a ≡ 1 = rw same (is_spot_self s) in omega arith

-- a pool in the list of its class
pub open_here : (c : ℕ) (s : Spot) (x : PoolLine) → 1 ≤ open_at c s x → (x.class ≡ c) × (x.live ≢ capacity c) × (spot_of x ≡ s)
open_here c s x = elim (eqb_tells x.class c) as (λ _. 1 ≤ cond (eqb x.class c) (cond (eqb x.live (capacity c)) 0 (stands_at s x)) 0 → (x.class ≡ c) × (x.live ≢ capacity c) × (spot_of x ≡ s)) [
  | inl v ↦ rw v.0 (elim (eqb_tells x.live (capacity c)) as (λ _. 1 ≤ cond (eqb x.live (capacity c)) 0 (stands_at s x) → (x.class ≡ c) × (x.live ≢ capacity c) × (spot_of x ≡ s)) [
    | inl w ↦ rw w.0 (λ h. absurd (omega arith))
    | inr w ↦ rw w.0 (λ h. (v.1, w.1, is_spot_same s (spot_of x) h))
  ])
  | inr v ↦ rw v.0 (λ h. absurd (omega arith))
]

pub open_yes : (x : PoolLine) → x.live ≢ capacity x.class → open_at x.class (spot_of x) x ≡ 1
open_yes x n = rw (number_self x.class) (elim (eqb_tells x.live (capacity x.class)) [ inl w ↦ absurd (n w.1) | inr w ↦ rw w.0 (is_spot_self (spot_of x)) ])

pub open_no : (c : ℕ) (s : Spot) (x : PoolLine) → (spot_of x ≡ s → x.class ≡ c → x.live ≢ capacity c → ⊥) → open_at c s x ≡ 0
open_no c s x n = elim (eqb_tells (open_at c s x) 0) [ inl w ↦ w.1 | inr w ↦ absurd (let m = w.1 in let p = open_here c s x (omega arith) in n p.2 p.0 p.1) ]

pub open_value : (c : ℕ) (s : Spot) (x : PoolLine) → x.class ≡ c → x.live ≢ capacity c → open_at c s x ≡ stands_at s x
open_value c s x e n = elim (eqb_tells x.class c) [
  | inl v ↦ rw v.0 (elim (eqb_tells x.live (capacity c)) [ inl w ↦ absurd (n w.1) | inr w ↦ rw w.0 refl ])
  | inr v ↦ absurd (v.1 e)
]

pub open_full : (c : ℕ) (s : Spot) (x : PoolLine) → x.live ≡ capacity c → open_at c s x ≡ 0
open_full c s x e = open_no c s x (λ _ _ n. n e)

pub open_class : (c : ℕ) (s : Spot) (x : PoolLine) → x.class ≢ c → open_at c s x ≡ 0
open_class c s x n = open_no c s x (λ _ e _. n e)

pub open_most : (c : ℕ) (s : Spot) (x : PoolLine) → open_at c s x ≤ stands_at s x
open_most c s x = elim (eqb x.class c) as (λ b. cond b (cond (eqb x.live (capacity c)) 0 (stands_at s x)) 0 ≤ stands_at s x) [
  | true ↦ elim (eqb x.live (capacity c)) as (λ b. cond b 0 (stands_at s x) ≤ stands_at s x) [ true ↦ omega arith | false ↦ omega arith ]
  | false ↦ omega arith
]

module _ (started : List PoolLine) (lists : List (List Spot)) (taken : ℕ) (orderly : AreOrderly started lists taken) where
  -- a number names one pool
  pub number_once : (x z : PoolLine) → Has x started → Has z started → x.number ≡ z.number → x ≡ z
  number_once x z h g e =
      let one : has_number z.number z ≡ 1 = rw (number_self z.number) refl in
      let two : has_number z.number x ≡ 1 = rw e one in
      tally_once (has_number z.number) started x z (orderly.numbers z.number) h g (omega arith) (omega arith)

  -- a spot has one pool
  pub spot_once : (x z : PoolLine) → Has x started → Has z started → spot_of x ≡ spot_of z → x ≡ z
  spot_once x z h g e =
      let one : stands_at (spot_of z) z ≡ 1 = is_spot_self (spot_of z) in
      let two : is_spot (spot_of z) (spot_of x) ≡ 1 = subst (λ s. is_spot (spot_of z) s ≡ 1) (sym e) one in
      tally_once (stands_at (spot_of z)) started x z (orderly.spots (spot_of z)) h g (omega arith) (omega arith)

  -- what the tables answer for a pool
  pub used_here : (x : PoolLine) → Has x started → used_at started (spot_of x) ≡ used_pool x
  used_here x h = pick_has (λ y. same_spot (spot_of y) (spot_of x)) used_pool _ x started h (orderly.spots (spot_of x)) (same_self (spot_of x))

  pub full_here : (x : PoolLine) → Has x started → full_in started x.number ≡ full_pool x
  full_here x h = pick_has (λ y. eqb y.number x.number) full_pool _ x started h (orderly.numbers x.number) (number_self x.number)

  pub place_here : (x : PoolLine) → Has x started → place_in started x.number ≡ Some x.place
  place_here x h = pick_has (λ y. eqb y.number x.number) (λ y. Some y.place) _ x started h (orderly.numbers x.number) (number_self x.number)

  -- each spot in a list is one of a pool of that class with a free block
  pub listed_pool : (c : ℕ) (s : Spot) → Has s (get_or lists c []) → (x : PoolLine) × (Has x started × (spot_of x ≡ s) × (x.class ≡ c) × (x.live ≢ capacity c))
  listed_pool c s h =
      let one = is_spot_self s in
      let more = tally_has (is_spot s) s (get_or lists c []) h in
      let same = orderly.listed c s in
      let r = tally_some (open_at c s) started (omega arith) in
      let p = open_here c s r.0 r.1.1 in
      (r.0, (r.1.0, p.2, p.0, p.1))

  -- a pool with a free block stands once in the list of its class
  pub pool_listed : (x : PoolLine) → Has x started → x.live ≢ capacity x.class → tally (is_spot (spot_of x)) (get_or lists x.class []) ≡ 1
  pool_listed x h n =
      let one = open_yes x n in
      let more = tally_has (open_at x.class (spot_of x)) x started h in
      let less = tally_le (open_at x.class (spot_of x)) (stands_at (spot_of x)) started (λ z g. open_most x.class (spot_of x) z) in
      let once = orderly.spots (spot_of x) in
      let same = orderly.listed x.class (spot_of x) in
      omega arith

  -- and in no other list
  pub pool_unlisted : (x : PoolLine) → Has x started → (c : ℕ) → (x.class ≡ c → x.live ≢ capacity c → ⊥) → tally (is_spot (spot_of x)) (get_or lists c []) ≡ 0
  pool_unlisted x h c n =
      let none = tally_zero (open_at c (spot_of x)) started (λ z g. open_no c (spot_of x) z (λ e d l. let same : z ≡ x = spot_once z x g h e in n (ap (λ (y : PoolLine). y.class) (sym same) ∙ d) (subst (λ (y : PoolLine). y.live ≢ capacity c) same l))) in
      let same = orderly.listed c (spot_of x) in
      omega arith
