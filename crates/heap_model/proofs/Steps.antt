-- Two changes of one element as one.
use Rattle.std.proofs.Common.{◌≡◌, ℕ, ◌≤◌, List, [], ◌∷◌, ◌++◌, refl, sym, ap, subst, ◌∙◌, arith}
use Rattle.extents.specs.Sums.{tally, Inserted, Removed, Replaced}
use Rattle.extents.proofs.CallerLemmas.{tally-append}

module _ {X : Type 0} where
  same_first : (x y : X) (xs ys : List X) → x ∷ xs ≡ y ∷ ys → x ≡ y
  same_first x y xs ys e = cc

  same_rest : (x y : X) (xs ys : List X) → x ∷ xs ≡ y ∷ ys → xs ≡ ys
  same_rest x y xs ys e = cc

  -- an element that f counts, where f counts at most one, stands in one place of a list
  split_once : (f : X → ℕ) (x : X) (b a d c : List X) → tally f (b ++ x ∷ a) ≤ 1 → 1 ≤ f x → b ++ x ∷ a ≡ d ++ x ∷ c → (b ≡ d) × (a ≡ c)
  split_once f x [] a [] c once one e = (refl, same_rest x x a c e)
  split_once f x [] a (w ∷ d) c once one e =
      let tail : a ≡ d ++ x ∷ c = same_rest x w a (d ++ x ∷ c) e in
      let sum = tally-append f d (x ∷ c) in
      let same : tally f a ≡ tally f (d ++ x ∷ c) = ap (tally f) tail in absurd (omega arith)
  split_once f x (z ∷ b) a [] c once one e =
      let same : f z ≡ f x = ap f (same_first z x (b ++ x ∷ a) c e) in
      let sum = tally-append f b (x ∷ a) in absurd (omega arith)
  split_once f x (z ∷ b) a (w ∷ d) c once one e =
      let rest = split_once f x b a d c (omega arith) one (same_rest z w (b ++ x ∷ a) (d ++ x ∷ c) e) in
      let first = same_first z w (b ++ x ∷ a) (d ++ x ∷ c) e in
      (λ i. first i ∷ rest.0 i, rest.1)

  -- an element that comes and then changes
  pub inserted_replaced : (f : X → ℕ) (x y : X) (old mid new : List X) → tally f mid ≤ 1 → 1 ≤ f x → Inserted x old mid → Replaced x y mid new → Inserted y old new
  inserted_replaced f x y old mid new once one i r =
      let s = split_once f x i.before i.after r.before r.after (subst (λ l. tally f l ≤ 1) i.with once) one (sym i.with ∙ r.was) in
      record { before = i.before; after = i.after; without = i.without; with = r.is ∙ (λ j. sym s.0 j ++ y ∷ sym s.1 j) }

  -- an element that changes and then goes
  pub replaced_removed : (f : X → ℕ) (x y : X) (old mid new : List X) → tally f mid ≤ 1 → 1 ≤ f y → Replaced x y old mid → Removed y mid new → Removed x old new
  replaced_removed f x y old mid new once one r i =
      let s = split_once f y i.before i.after r.before r.after (subst (λ l. tally f l ≤ 1) i.with once) one (sym i.with ∙ r.is) in
      record { before = i.before; after = i.after; without = i.without; with = r.was ∙ (λ j. sym s.0 j ++ x ∷ sym s.1 j) }
