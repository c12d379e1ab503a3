-- Sums over lists, and lists after one element has come, gone or changed.
use Rattle.std.proofs.Common.{◌≡◌, ℕ, zero, suc, ◌+◌, ◌<◌, ◌≤◌, ◌⊎◌, inl, inr, List, [], ◌∷◌, ◌++◌, map, length, get_or, set, take, drop, refl, sym, ap, subst, ◌∙◌, arith}
use Rattle.std.proofs.lemmas.List.{append-nil, append_assoc, map-append}
use Rattle.extents.specs.Sums.{tally, Has, Inserted, Removed, Replaced, AllIn, TakenFrom, Balanced}

module _ {X : Type 0} where
  -- ---- sums

  pub tally-append : (f : X → ℕ) (xs ys : List X) → tally f (xs ++ ys) ≡ tally f xs + tally f ys
  tally-append f [] ys = omega arith
  tally-append f (x ∷ xs) ys = let e = tally-append f xs ys in omega arith

  pub tally-map : {Y : Type 0} (f : Y → ℕ) (g : X → Y) (xs : List X) → tally f (map g xs) ≡ tally (λ x. f (g x)) xs
  tally-map f g [] = refl
  tally-map f g (x ∷ xs) = let e = tally-map f g xs in omega arith

  -- a length is a sum
  pub tally_length : (xs : List X) → tally (λ _. 1) xs ≡ length xs
  tally_length [] = refl
  tally_length (x ∷ xs) = let e = tally_length xs in omega arith

  -- a sum after a write at an index
  pub tally-set : (f : X → ℕ) (xs : List X) (i : ℕ) (y d : X) → i < length xs → tally f (set xs i y) + f (get_or xs i d) ≡ tally f xs + f y
  tally-set f [] i y d h = absurd (omega arith)
  tally-set f (x ∷ xs) zero y d h = omega arith
  tally-set f (x ∷ xs) (suc n) y d h = let e = tally-set f xs n y d (omega arith) in omega arith

  -- what an element adds is no more than the sum
  pub tally_at : (f : X → ℕ) (xs : List X) (i : ℕ) (d : X) → i < length xs → f (get_or xs i d) ≤ tally f xs
  tally_at f [] i d h = absurd (omega arith)
  tally_at f (x ∷ xs) zero d h = omega arith
  tally_at f (x ∷ xs) (suc n) d h = let e = tally_at f xs n d (omega arith) in omega arith

  pub tally_has : (f : X → ℕ) (x : X) (xs : List X) → Has x xs → f x ≤ tally f xs
  tally_has f x [] h = absurd h
  tally_has f x (y ∷ xs) (inl e) = let same : f y ≡ f x = ap f e in omega arith
  tally_has f x (y ∷ xs) (inr h) = let e = tally_has f x xs h in omega arith

  -- a sum of what is 0 at each element
  pub tally_zero : (f : X → ℕ) (xs : List X) → ((x : X) → Has x xs → f x ≡ 0) → tally f xs ≡ 0
  tally_zero f [] zeros = refl
  tally_zero f (x ∷ xs) zeros = let a = zeros x (inl refl) in let b = tally_zero f xs (λ y h. zeros y (inr h)) in omega arith

  -- a sum grows with what is summed
  pub tally_le : (f g : X → ℕ) (xs : List X) → ((x : X) → Has x xs → f x ≤ g x) → tally f xs ≤ tally g xs
  tally_le f g [] le = omega arith
  tally_le f g (x ∷ xs) le = let a = le x (inl refl) in let b = tally_le f g xs (λ y h. le y (inr h)) in omega arith

  -- ---- what is in a list

  pub has_left : (x : X) (xs ys : List X) → Has x xs → Has x (xs ++ ys)
  has_left x [] ys h = absurd h
  has_left x (y ∷ xs) ys (inl e) = inl e
  has_left x (y ∷ xs) ys (inr h) = inr (has_left x xs ys h)

  pub has_right : (x : X) (xs ys : List X) → Has x ys → Has x (xs ++ ys)
  has_right x [] ys h = h
  has_right x (y ∷ xs) ys h = inr (has_right x xs ys h)

  pub has_either : (x : X) (xs ys : List X) → Has x (xs ++ ys) → Has x xs ⊎ Has x ys
  has_either x [] ys h = inr h
  has_either x (y ∷ xs) ys (inl e) = inl (inl e)
  has_either x (y ∷ xs) ys (inr h) = elim (has_either x xs ys h) [ inl a ↦ inl (inr a) | inr b ↦ inr b ]

  pub has_at : (xs : List X) (i : ℕ) (d : X) → i < length xs → Has (get_or xs i d) xs
  has_at [] i d h = absurd (omega arith)
  has_at (x ∷ xs) zero d h = inl refl
  has_at (x ∷ xs) (suc n) d h = inr (has_at xs n d (omega arith))

  pub has-map : {Y : Type 0} (g : X → Y) (x : X) (xs : List X) → Has x xs → Has (g x) (map g xs)
  has-map g x [] h = absurd h
  has-map g x (y ∷ xs) (inl e) = inl (ap g e)
  has-map g x (y ∷ xs) (inr h) = inr (has-map g x xs h)

  -- ---- an element that comes

  pub inserted_first : (x : X) (xs : List X) → Inserted x xs (x ∷ xs)
  inserted_first x xs = record { before = []; after = xs; without = refl; with = refl }

  pub inserted_last : (x : X) (xs : List X) → Inserted x xs (xs ++ x ∷ [])
  inserted_last x xs = record { before = xs; after = []; without = sym (append-nil xs); with = refl }

  pub inserted_under : (y x : X) (xs ys : List X) → Inserted x xs ys → Inserted x (y ∷ xs) (y ∷ ys)
  inserted_under y x xs ys i = record { before = y ∷ i.before; after = i.after; without = ap (λ l. y ∷ l) i.without; with = ap (λ l. y ∷ l) i.with }

  pub inserted_left : (x : X) (xs ys zs : List X) → Inserted x xs ys → Inserted x (xs ++ zs) (ys ++ zs)
  inserted_left x xs ys zs i = record {
    before = i.before;
    after = i.after ++ zs;
    without = rw i.without (append_assoc i.before i.after zs);
    with = rw i.with (append_assoc i.before (x ∷ i.after) zs);
  }

  pub inserted_right : (x : X) (xs ys zs : List X) → Inserted x xs ys → Inserted x (zs ++ xs) (zs ++ ys)
  inserted_right x xs ys zs i = record {
    before = zs ++ i.before;
    after = i.after;
    without = rw i.without (sym (append_assoc zs i.before i.after));
    with = rw i.with (sym (append_assoc zs i.before (x ∷ i.after)));
  }

  pub inserted-map : {Y : Type 0} (g : X → Y) (x : X) (xs ys : List X) → Inserted x xs ys → Inserted (g x) (map g xs) (map g ys)
  inserted-map g x xs ys i = record {
    before = map g i.before;
    after = map g i.after;
    without = ap (map g) i.without ∙ map-append g i.before i.after;
    with = ap (map g) i.with ∙ map-append g i.before (x ∷ i.after);
  }

  pub tally_inserted : (f : X → ℕ) (x : X) (xs ys : List X) → Inserted x xs ys → tally f ys ≡ f x + tally f xs
  tally_inserted f x xs ys i =
      let a = tally-append f i.before i.after in let b = tally-append f i.before (x ∷ i.after) in rw (i.with, i.without) (omega arith)

  pub length_inserted : (x : X) (xs ys : List X) → Inserted x xs ys → length ys ≡ length xs + 1
  length_inserted x xs ys i = omega (arith, tally_inserted (λ _. 1) x xs ys i, tally_length xs, tally_length ys)

  -- the new element is there
  pub has_new : (x : X) (xs ys : List X) → Inserted x xs ys → Has x ys
  has_new x xs ys i = subst (Has x) (sym i.with) (has_right x i.before (x ∷ i.after) (inl refl))

  -- what was there stays
  pub has_kept : (x y : X) (xs ys : List X) → Inserted x xs ys → Has y xs → Has y ys
  has_kept x y xs ys i h =
      subst (Has y) (sym i.with) (elim (has_either y i.before i.after (subst (Has y) i.without h)) [
        | inl a ↦ has_left y i.before (x ∷ i.after) a
        | inr b ↦ has_right y i.before (x ∷ i.after) (inr b)
      ])

  -- nothing else came
  pub has_more : (x y : X) (xs ys : List X) → Inserted x xs ys → Has y ys → (y ≡ x) ⊎ Has y xs
  has_more x y xs ys i h =
      elim (has_either y i.before (x ∷ i.after) (subst (Has y) i.with h)) [
        | inl a ↦ inr (subst (Has y) (sym i.without) (has_left y i.before i.after a))
        | inr b ↦ elim b [ inl e ↦ inl (sym e) | inr c ↦ inr (subst (Has y) (sym i.without) (has_right y i.before i.after c)) ]
      ]

  -- ---- an element that goes, or changes

  pub removed_at : (xs : List X) (i : ℕ) (d : X) → i < length xs → Removed (get_or xs i d) xs (take i xs ++ drop (suc i) xs)
  removed_at [] i d h = absurd (omega arith)
  removed_at (x ∷ xs) zero d h = inserted_first x xs
  removed_at (x ∷ xs) (suc n) d h = inserted_under x (get_or xs n d) (take n xs ++ drop (suc n) xs) xs (removed_at xs n d (omega arith))

  -- what is in a list can go
  pub removed_has : (x : X) (xs : List X) → Has x xs → (ys : List X) × Removed x xs ys
  removed_has x [] h = absurd h
  removed_has x (y ∷ xs) (inl e) = (xs, subst (λ z. Removed z (y ∷ xs) xs) e (inserted_first y xs))
  removed_has x (y ∷ xs) (inr h) = let r = removed_has x xs h in (y ∷ r.0, inserted_under y x r.0 xs r.1)

  pub replaced_at : (xs : List X) (i : ℕ) (y d : X) → i < length xs → Replaced (get_or xs i d) y xs (set xs i y)
  replaced_at [] i y d h = absurd (omega arith)
  replaced_at (x ∷ xs) zero y d h = record { before = []; after = xs; was = refl; is = refl }
  replaced_at (x ∷ xs) (suc n) y d h =
      let r = replaced_at xs n y d (omega arith) in
      record { before = x ∷ r.before; after = r.after; was = ap (λ l. x ∷ l) r.was; is = ap (λ l. x ∷ l) r.is }

  pub tally_replaced : (f : X → ℕ) (x y : X) (xs ys : List X) → Replaced x y xs ys → tally f ys + f x ≡ tally f xs + f y
  tally_replaced f x y xs ys r =
      let a = tally-append f r.before (x ∷ r.after) in let b = tally-append f r.before (y ∷ r.after) in rw (r.was, r.is) (omega arith)

  pub length_replaced : (x y : X) (xs ys : List X) → Replaced x y xs ys → length ys ≡ length xs
  length_replaced x y xs ys r = omega (arith, tally_replaced (λ _. 1) x y xs ys r, tally_length xs, tally_length ys)

  -- ---- a part of a list

  -- one that comes to both stays in both
  pub all_in_more : (x : X) (part more_part all more : List X) → Inserted x part more_part → Inserted x all more → AllIn part all → AllIn more_part more
  all_in_more x part more_part all more i j a y h = elim (has_more x y part more_part i h) [
    | inl same ↦ subst (λ z. Has z more) (sym same) (has_new x all more j)
    | inr old ↦ has_kept x y all more j (a y old)
  ]

  -- what comes to the whole alone changes nothing
  pub all_in_wider : (x : X) (part all more : List X) → Inserted x all more → AllIn part all → AllIn part more
  all_in_wider x part all more j a y h = has_kept x y all more j (a y h)

  -- one that comes and goes from both leaves the rest
  pub balanced_more : (x : X) (held more_held out more_out : List X) → Inserted x held more_held → Inserted x out more_out → Balanced held more_held out more_out
  balanced_more x held more_held out more_out i j f = omega (arith, tally_inserted f x held more_held i, tally_inserted f x out more_out j)

  pub balanced_fewer : (x : X) (held fewer_held out fewer_out : List X) → Removed x held fewer_held → Removed x out fewer_out → Balanced held fewer_held out fewer_out
  balanced_fewer x held fewer_held out fewer_out i j f = omega (arith, tally_inserted f x fewer_held held i, tally_inserted f x fewer_out out j)

  pub balanced_then : (h0 h1 h2 o0 o1 o2 : List X) → Balanced h0 h1 o0 o1 → Balanced h1 h2 o1 o2 → Balanced h0 h2 o0 o2
  balanced_then h0 h1 h2 o0 o1 o2 a b f = let p = a f in let q = b f in omega arith

  pub taken_balanced : (held out left : List X) → Balanced held [] out left → TakenFrom held out left
  taken_balanced held out left b f = let p = b f in omega arith

  -- an element that goes leaves each other one
  pub has_other : (x y : X) (old new : List X) → Removed x old new → Has y old → (y ≡ x → ⊥) → Has y new
  has_other x y old new i h other = elim (has_more x y new old i h) [ inl same ↦ absurd (other same) | inr there ↦ there ]
