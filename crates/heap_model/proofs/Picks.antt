-- What is picked of a list by a test that at most one element passes.
use Rattle.std.proofs.Common.{◌≡◌, ◌≢◌, ℕ, ◌+◌, ◌<◌, ◌≤◌, inl, inr, Bool, true, false, cond, List, [], ◌∷◌, ◌++◌, map, length, get_or, set, refl, sym, ap, subst, ◌∙◌, arith}
use Rattle.std.proofs.lemmas.List.{ext_get_or, get_or-set_same, get_or-set_other, length-set}
use Rattle.std.proofs.lemmas.Bool.Decides.{eqb_tells}
use Rattle.std.specs.List.{range_with_len}
use Rattle.std.proofs.lemmas.List.FromFn.{length-map-range_with_len, get_or-map-range_with_len}
use Rattle.extents.specs.Sums.{tally, Has, Inserted}
use Rattle.extents.proofs.CallerLemmas.{tally-append, removed_has}
use Rattle.heap_model.specs.View.{pick}

module _ {X Y : Type 0} where
  -- the elements before the one that is picked do not pass the test
  pick_after : (test : X → Bool) (f : X → Y) (d : Y) (before rest : List X) → tally (λ x. cond (test x) 1 0) before ≡ 0 → pick test f d (before ++ rest) ≡ pick test f d rest
  pick_after test f d [] rest = λ z. refl
  pick_after test f d (x ∷ before) rest = elim (test x) as (λ t. cond t 1 0 + tally (λ w. cond (test w) 1 0) before ≡ 0 → cond t (f x) (pick test f d (before ++ rest)) ≡ pick test f d rest) [
    | true ↦ λ z. absurd (omega arith)
    | false ↦ λ z. pick_after test f d before rest (omega arith)
  ]

  pick_under : (test : X → Bool) (f : X → Y) (d : Y) (y : X) (before after : List X) → test y ≡ false → pick test f d (before ++ y ∷ after) ≡ pick test f d (before ++ after)
  pick_under test f d y [] after no_pass = rw no_pass refl
  pick_under test f d y (x ∷ before) after no_pass = elim (test x) as (λ t. cond t (f x) (pick test f d (before ++ y ∷ after)) ≡ cond t (f x) (pick test f d (before ++ after))) [
    | true ↦ refl
    | false ↦ pick_under test f d y before after no_pass
  ]

  -- an element that passes the test comes, and is the only one
  pub pick_new : (test : X → Bool) (f : X → Y) (d : Y) (y : X) (old new : List X) → Inserted y old new → tally (λ x. cond (test x) 1 0) new ≤ 1 → test y ≡ true → pick test f d new ≡ f y
  pick_new test f d y old new i once pass =
      let sum = tally-append (λ x. cond (test x) 1 0) i.before (y ∷ i.after) in
      let all : tally (λ x. cond (test x) 1 0) (i.before ++ y ∷ i.after) ≤ 1 = subst (λ w. tally (λ x. cond (test x) 1 0) w ≤ 1) i.with once in
      let one : ◌≡◌ {A = ℕ} (cond (test y) 1 0) 1 = rw pass refl in
      rw i.with (pick_after test f d i.before (y ∷ i.after) (omega arith) ∙ rw pass refl)

  -- one that does not pass it changes nothing
  pub pick_kept : (test : X → Bool) (f : X → Y) (d : Y) (y : X) (old new : List X) → Inserted y old new → test y ≡ false → pick test f d new ≡ pick test f d old
  pick_kept test f d y old new i no_pass = rw (i.with, i.without) (pick_under test f d y i.before i.after no_pass)

  -- nothing is picked where nothing passes
  pub pick_none : (test : X → Bool) (f : X → Y) (d : Y) (xs : List X) → tally (λ x. cond (test x) 1 0) xs ≡ 0 → pick test f d xs ≡ d
  pick_none test f d [] = λ z. refl
  pick_none test f d (x ∷ xs) = elim (test x) as (λ t. cond t 1 0 + tally (λ w. cond (test w) 1 0) xs ≡ 0 → cond t (f x) (pick test f d xs) ≡ d) [
    | true ↦ λ z. absurd (omega arith)
    | false ↦ λ z. pick_none test f d xs (omega arith)
  ]

  -- the one that passes is picked
  pub pick_has : (test : X → Bool) (f : X → Y) (d : Y) (y : X) (xs : List X) → Has y xs → tally (λ x. cond (test x) 1 0) xs ≤ 1 → test y ≡ true → pick test f d xs ≡ f y
  pick_has test f d y xs h once pass = let r = removed_has y xs h in pick_new test f d y r.0 xs r.1 once pass

  -- ---- lists made by a function

  pub map_same : (f g : X → Y) (xs : List X) → ((x : X) → Has x xs → f x ≡ g x) → map f xs ≡ map g xs
  map_same f g [] same = refl
  map_same f g (x ∷ xs) same = let a = same x (inl refl) in let b = map_same f g xs (λ y h. same y (inr h)) in rw (a, b) refl

module _ {X : Type 0} where
  pub numbered_same : (f g : ℕ → X) (n : ℕ) → ((k : ℕ) → k < n → f k ≡ g k) → map f (range_with_len 0 n) ≡ map g (range_with_len 0 n)
  numbered_same f g n same = ext_get_or (f 0) _ _ (length-map-range_with_len f 0 n ∙ sym (length-map-range_with_len g 0 n)) (λ i h.
      let low : i < n = subst (λ w. i < w) (length-map-range_with_len f 0 n) h in
      get_or-map-range_with_len f 0 n i i (f 0) low (omega arith) ∙ (same i low ∙ sym (get_or-map-range_with_len g 0 n i i (f 0) low (omega arith))))

  -- one of the values differs
  pub numbered_set : (f g : ℕ → X) (n k : ℕ) → k < n → ((j : ℕ) → j ≢ k → f j ≡ g j) → map g (range_with_len 0 n) ≡ set (map f (range_with_len 0 n)) k (g k)
  numbered_set f g n k low same =
      let fs : List X = map f (range_with_len 0 n) in
      let gs : List X = map g (range_with_len 0 n) in
      let long : length fs ≡ n = length-map-range_with_len f 0 n in
      let long2 : length gs ≡ n = length-map-range_with_len g 0 n in
      ext_get_or (f 0) gs (set fs k (g k)) (long2 ∙ sym (length-set fs k (g k) ∙ long)) (λ i h.
      let at : i < n = subst (λ w. i < w) long2 h in
      get_or-map-range_with_len g 0 n i i (f 0) at (omega arith) ∙ elim (eqb_tells i k) [
        | inl w ↦ ap g w.1 ∙ subst (λ j. g k ≡ get_or (set fs k (g k)) j (f 0)) (sym w.1) (sym (get_or-set_same fs k (g k) (f 0) (omega arith)))
        | inr w ↦ sym (same i w.1) ∙ (sym (get_or-map-range_with_len f 0 n i i (f 0) at (omega arith)) ∙ sym (get_or-set_other fs k i (g k) (f 0) w.1))
      ])
