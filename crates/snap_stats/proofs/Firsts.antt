-- What no two of have one key, in order: a front of them is the first of them.
use Rattle.std.proofs.Common.{min, ◌≡◌, ℕ, zero, suc, ◌≤◌, ◌<◌, cond, false, List, [], ◌∷◌, ◌++◌, map, take, length, get_or}
use Rattle.std.proofs.Common.{refl, sym, ap, subst, ◌∙◌, inl, inr, arith, true≢false}
use Rattle.std.specs.declared.cmp.Ordering.{Ordering}
use Rattle.std.specs.declared.cmp.Ordering.TheVariants.{Less, Equal, Greater}
use Rattle.std.specs.Ordering.{is_lt, is_eq, ordering_reverse}
use Rattle.std.specs.Cmp.{IsTotalOrder}
use Rattle.std.specs.List.{AllByRecursion}
use Rattle.std.proofs.lemmas.List.{map-append, length-map}
use Rattle.std.proofs.lemmas.List.Sorted.{ranks_by, IsStrictWeakOrder-flip, sorted_far, IsPermutation-map, IsPermutation-sym}
use Rattle.extents.specs.Sums.{tally, Has}
use Rattle.extents.proofs.CallerLemmas.{tally_has, tally-append, has_left}
use Rattle.snapshot_model.specs.Occurrences.{Key}
use Rattle.snapshot_model.specs.Order.{Falls, falling}
use Rattle.snapshot_model.proofs.CallerLemmas.{AreApart, same_to_itself, falls_same, front_of, falling_falls, rising_length}
use Rattle.snapshot_model.proofs.CallerLemmas.{has_rising, rising_has, from_map}
use Rattle.snap_stats.specs.Groups.{AreInOrder, IsFrontOf}
use Rattle.snap_stats.proofs.Fronts.{mapped_at, place_of, has_moved, tally_moved}
use Rattle.snap_stats.proofs.Weighing.{same}

pub same_one : (k : Key) → same k k ≡ 1
same_one k = ap (λ (o : Ordering). cond (is_eq o) 1 0) (same_to_itself k)

take_min : {X : Type 0} (n : ℕ) (xs : List X) → take (min n (length xs)) xs ≡ take n xs
take_min zero [] = refl
take_min (suc n) [] =
    let none : min (suc n) 0 ≡ 0 = omega arith in
    ap (λ (m : ℕ). take m []) none
take_min zero (x ∷ xs) =
    let none : min 0 (suc (length xs)) ≡ 0 = omega arith in
    ap (λ (m : ℕ). take m (x ∷ xs)) none
take_min (suc n) (x ∷ xs) =
    let more : min (suc n) (suc (length xs)) ≡ suc (min n (length xs)) = omega arith in
    ap (λ (m : ℕ). take m (x ∷ xs)) more ∙ ap (λ (l : List _). x ∷ l) (take_min n xs)

module _ {P : Type 0} {cmp : P → P → Ordering} (total : IsTotalOrder cmp) (key : P → Key) (tied : (a b : P) → cmp a b ≡ Equal → key a ≡ key b) where
  -- no two have one key
  abbrev pub AreOnce : List P → Type 0
  AreOnce ps = (k : Key) → tally (λ p. same k (key p)) ps ≤ 1

  -- two in one list have two keys
  two_keys : (x y : P) (xs : List P) → Has y xs → AreOnce (x ∷ xs) → key x ≡ key y → ⊥
  two_keys x y xs h once e =
      let there = tally_has (λ p. same (key x) (key p)) y xs h in
      let is : same (key x) (key y) ≡ 1 = ap (same (key x)) (sym e) ∙ same_one (key x) in
      omega (arith, once (key x), same_one (key x), there, is)

  apart : (ps : List P) → AreOnce ps → AreApart (λ a b. cmp b a) ps
  apart [] once = tt
  apart (x ∷ xs) once = (
    λ y h ties. two_keys x y xs h once (sym (tied y x ties)),
    apart xs (λ k. omega (arith, once k)),
  )

  less_of : (a b : P) → is_lt (cmp a b) ≡ false → (key a ≡ key b → ⊥) → cmp b a ≡ Less
  less_of a b h other = total.antisymm b a ∙ by (cmp a b) h (λ e. other (tied a b e))
    where
      by : (r : Ordering) → is_lt r ≡ false → (r ≡ Equal → ⊥) → ordering_reverse r ≡ Less
      by Less h n = absurd (true≢false h)
      by Equal h n = absurd (n refl)
      by Greater h n = refl

  abbrev Far : List P → Type 0
  Far xs = (i j : ℕ) (d : P) → i ≤ j → j < length xs → is_lt (cmp (get_or xs i d) (get_or xs j d)) ≡ false

  far_falls : (xs : List P) → AreOnce xs → Far xs → Falls cmp xs
  far_falls [] once far = tt
  far_falls (x ∷ xs) once far = (head, far_falls xs (λ k. omega (arith, once k)) (λ i j d le lt. far (suc i) (suc j) d (omega arith) (omega arith)))
    where
      head : (y : P) → Has y xs → cmp y x ≡ Less
      head y h =
          let p = place_of y xs h in
          let far0 : is_lt (cmp x (get_or xs p.0 y)) ≡ false = far 0 (suc p.0) y (omega arith) (omega (arith, p.1)) in
          let far1 : is_lt (cmp x y) ≡ false = subst (λ (z : P). is_lt (cmp x z) ≡ false) p.2 far0 in
          less_of x y far1 (two_keys x y xs h once)

  -- what is in order step by step is so at any distance
  far : {G : Type 0} (plain : G → P) (gs : List G) → AreInOrder cmp plain gs → Far (map plain gs)
  far plain [] sorted = λ i j d le lt. absurd (omega arith)
  far plain (g ∷ gs) sorted = λ i j d le lt.
      let all = g ∷ gs in
      let long = length-map all plain in
      let apart = sorted_far (λ a b. is_lt (cmp (plain b) (plain a))) (IsStrictWeakOrder-flip (λ a b. is_lt (cmp (plain a) (plain b))) (ranks_by total plain)) all sorted i j g le (omega (arith, lt, long)) in
      let a = mapped_at plain all i d g (omega (arith, lt, long, le)) in
      let b = mapped_at plain all j d g (omega (arith, lt, long)) in
      (λ x. is_lt (cmp (a x) (b x))) ∙ apart

  -- the list that falls and has the same members is these in order
  module _ (list ps : List P) (falls : Falls cmp list) (once : AreOnce ps) (to : (p : P) → Has p ps → Has p list) (from : (p : P) → Has p list → Has p ps) where
    pub list_is : list ≡ falling cmp ps
    list_is =
        falls_same total list (falling cmp ps) falls (falling_falls total ps (apart ps once))
        (λ p h. rising_has (λ a b. cmp b a) p ps (from p h))
        (λ p h. to p (has_rising (λ a b. cmp b a) p ps h))

    pub list_long : length list ≡ length ps
    list_long = ap length list_is ∙ rising_length (λ a b. cmp b a) ps

  module _ {G : Type 0} (plain : G → P) (list : List P) (all front : List G) (falls : Falls cmp list) (once : AreOnce (map plain all))
      (to : (p : P) → Has p (map plain all) → Has p list) (from : (p : P) → Has p list → Has p (map plain all)) (is : IsFrontOf cmp plain all front) where
    parts : map plain (front ++ is.rest) ≡ map plain front ++ map plain is.rest
    parts = map-append plain front is.rest

    all_once : AreOnce (map plain front ++ map plain is.rest)
    all_once =
        let back = IsPermutation-map plain all (front ++ is.rest) is.same in
        subst AreOnce parts (λ k. omega (arith, tally_moved (λ p. same k (key p)) (map plain all) (map plain (front ++ is.rest)) back, once k))

    front_once : AreOnce (map plain front)
    front_once k = omega (arith, all_once k, tally-append (λ p. same k (key p)) (map plain front) (map plain is.rest))

    moved_to : (p : P) → Has p (map plain front ++ map plain is.rest) → Has p list
    moved_to p h =
        let there = IsPermutation-map plain (front ++ is.rest) all (IsPermutation-sym all (front ++ is.rest) is.same) in
        to p (has_moved p (map plain (front ++ is.rest)) (map plain all) there (subst (Has p) (sym parts) h))

    moved_from : (p : P) → Has p list → Has p (map plain front ++ map plain is.rest)
    moved_from p h =
        let back = IsPermutation-map plain all (front ++ is.rest) is.same in
        subst (Has p) parts (has_moved p (map plain all) (map plain (front ++ is.rest)) back (from p h))

    front_falls : Falls cmp (map plain front)
    front_falls = far_falls (map plain front) front_once (far plain front is.sorted)

    above : (a b : P) → Has a (map plain front) → Has b (map plain is.rest) → cmp b a ≡ Less
    above a b h k =
        let r = from_map plain a front h in
        let s = from_map plain b is.rest k in
        let not_under : is_lt (cmp a b) ≡ false = (λ i. is_lt (cmp (r.2 i) (s.2 i))) ∙ is.above r.0 s.0 r.1 s.1 in
        let other : key a ≡ key b → ⊥ = λ e.
        let one = tally_has (λ p. same (key a) (key p)) a (map plain front) h in
        let two = tally_has (λ p. same (key a) (key p)) b (map plain is.rest) k in
        let ties : same (key a) (key b) ≡ 1 = ap (same (key a)) (sym e) ∙ same_one (key a) in
        omega (arith, one, two, ties, same_one (key a), all_once (key a), tally-append (λ p. same (key a) (key p)) (map plain front) (map plain is.rest)) in
        less_of a b not_under other

    -- a front of all is the first of the list
    pub front_first : (most : ℕ) → length front ≡ min most (length all) → map plain front ≡ take most list
    front_first most long =
        let first = front_of total (map plain front) (map plain is.rest) list front_falls above falls moved_to moved_from in
        let many : length (map plain front) ≡ min most (length list)
        = length-map front plain ∙ long ∙ ap (min most) (sym (list_long list (map plain all) falls once to from ∙ length-map all plain)) in
        first ∙ ap (λ (n : ℕ). take n list) many ∙ take_min most list

-- ---- members

pub all_of : {X : Type 0} (P : X → Type 0) (xs : List X) → ((x : X) → Has x xs → P x) → AllByRecursion P xs
all_of P [] each = tt
all_of P (x ∷ xs) each = (each x (inl refl), all_of P xs (λ y h. each y (inr h)))

pub one_of : {X : Type 0} (P : X → Type 0) (xs : List X) (x : X) → AllByRecursion P xs → Has x xs → P x
one_of P [] x have h = absurd h
one_of P (y ∷ xs) x have (inl e) = subst P e have.0
one_of P (y ∷ xs) x have (inr h) = one_of P xs x have.1 h

pub front_keeps : {G P : Type 0} (Q : G → Type 0) (cmp : P → P → Ordering) (plain : G → P) (all front : List G) → IsFrontOf cmp plain all front
    → ((g : G) → Has g all → Q g) → AllByRecursion Q front
front_keeps Q cmp plain all front is each = all_of Q front (λ g h.
    each g (has_moved g (front ++ is.rest) all (IsPermutation-sym all (front ++ is.rest) is.same) (has_left g front is.rest h)))
