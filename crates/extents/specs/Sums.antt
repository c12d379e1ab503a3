-- Sums over lists, and lists that differ by one element.
use Rattle.std.specs.Prelude.{◌≡◌, ℕ, ◌+◌, ◌⊎◌, List, [], ◌∷◌, ◌++◌}

-- the sum of f over a list
abbrev pub tally : {X : Type 0} → (X → ℕ) → List X → ℕ
tally f [] = 0
tally f (x ∷ xs) = f x + tally f xs

-- x is in the list
abbrev pub Has : {X : Type 0} → X → List X → Type 0
Has x [] = ⊥
Has x (y ∷ ys) = (y ≡ x) ⊎ Has x ys

-- the new list is the old one with x somewhere
pub record Inserted {X : Type 0} (x : X) (old new : List X) : Type 0 where
  pub before : List X
  pub after : List X
  pub without : old ≡ before ++ after
  pub with : new ≡ before ++ x ∷ after

-- the new list is the old one without one x
abbrev pub Removed : {X : Type 0} → X → List X → List X → Type 0
Removed x old new = Inserted x new old

-- the new list is the old one with y in the place of one x
pub record Replaced {X : Type 0} (x y : X) (old new : List X) : Type 0 where
  pub before : List X
  pub after : List X
  pub was : old ≡ before ++ x ∷ after
  pub is : new ≡ before ++ y ∷ after

-- each element of xs is in ys
abbrev pub AllIn : {X : Type 0} → List X → List X → Type 0
AllIn {X} xs ys = (x : X) → Has x xs → Has x ys

-- rest is all without part, in some order
abbrev pub TakenFrom : {X : Type 0} → List X → List X → List X → Type 0
TakenFrom {X} part all rest = (f : X → ℕ) → tally f all ≡ tally f part + tally f rest

-- what `out` has beside `held` is what it had beside it before, in some order
abbrev pub Balanced : {X : Type 0} → List X → List X → List X → List X → Type 0
Balanced {X} old_held new_held old_out new_out =
    (f : X → ℕ) → tally f new_out + tally f old_held ≡ tally f old_out + tally f new_held
