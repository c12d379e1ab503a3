-- Lists in rising and in falling order.
use Rattle.std.specs.Prelude.{◌≡◌, if◌then◌else◌, List, [], ◌∷◌}
use Rattle.std.specs.declared.cmp.Ordering.{Ordering}
use Rattle.std.specs.declared.cmp.Ordering.TheVariants.{Less}
use Rattle.std.specs.Ordering.{is_lt}
use Rattle.extents.specs.Sums.{Has}

-- each element is below all that follow it
abbrev pub Rises : {X : Type 0} → (X → X → Ordering) → List X → Type 0
Rises cmp [] = Unit {0}
Rises {X} cmp (x ∷ xs) = ((y : X) → Has y xs → cmp x y ≡ Less) × Rises cmp xs

-- each element is above all that follow it
abbrev pub Falls : {X : Type 0} → (X → X → Ordering) → List X → Type 0
Falls cmp [] = Unit {0}
Falls {X} cmp (x ∷ xs) = ((y : X) → Has y xs → cmp y x ≡ Less) × Falls cmp xs

-- the list with one more element, in front of the first that it is below
abbrev pub put_in : {X : Type 0} → (X → X → Ordering) → X → List X → List X
put_in cmp x [] = x ∷ []
put_in cmp x (y ∷ ys) = if is_lt (cmp x y) then x ∷ y ∷ ys else y ∷ put_in cmp x ys

-- the elements in rising order
abbrev pub rising : {X : Type 0} → (X → X → Ordering) → List X → List X
rising cmp [] = []
rising cmp (x ∷ xs) = put_in cmp x (rising cmp xs)

-- and in falling order
abbrev pub falling : {X : Type 0} → (X → X → Ordering) → List X → List X
falling cmp xs = rising (λ a b. cmp b a) xs
