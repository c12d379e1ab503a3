-- What is listed by the numbers of pools, after a pool changed, came or went.
use Rattle.std.proofs.Common.{◌≡◌, ◌≢◌, ℕ, ◌+◌, ◌<◌, ◌≤◌, inl, inr, true, false, eqb, List, [], ◌∷◌, ◌++◌, map, get_or, set, refl, sym, ap, subst, ◌∙◌, arith}
use Rattle.std.proofs.lemmas.Bool.Decides.{eqb_tells}
use Rattle.std.proofs.lemmas.List.{set-get_or}
use Rattle.std.specs.List.{range_with_len}
use Rattle.std.proofs.lemmas.List.FromFn.{get_or-map-range_with_len, map-range_with_len_more}
use Rattle.extents.specs.Sums.{tally, Inserted, Removed, Replaced}
use Rattle.extents.proofs.CallerLemmas.{tally_inserted}
use Rattle.layout_model.specs.Geometry.{PoolLine}
use Rattle.heap_model.specs.View.{pick}
use Rattle.heap_model.specs.Kept.{has_number}
use Rattle.heap_model.proofs.Picks.{pick_new, pick_kept, pick_none, numbered_same, numbered_set}
use Rattle.heap_model.proofs.Pools.{replaced_steps, number_self}

-- what f makes of the pool numbered k, or d
abbrev pub by_number : {Y : Type 0} → (PoolLine → Y) → Y → List PoolLine → ℕ → Y
by_number f d xs k = pick (λ x. eqb x.number k) f d xs

-- the same for each number below `taken`
abbrev pub by_numbers : {Y : Type 0} → (PoolLine → Y) → Y → ℕ → List PoolLine → List Y
by_numbers f d taken xs = map (by_number f d xs) (range_with_len 0 taken)

module _ {Y : Type 0} (f : PoolLine → Y) (d : Y) where
  other_number : (x : PoolLine) (k : ℕ) → k ≢ x.number → eqb x.number k ≡ false
  other_number x k n = elim (eqb_tells x.number k) [ inl w ↦ absurd (n (sym w.1)) | inr w ↦ w.0 ]

  pub numbered_at : (taken k : ℕ) (xs : List PoolLine) → k < taken → get_or (by_numbers f d taken xs) k d ≡ by_number f d xs k
  numbered_at taken k xs low = get_or-map-range_with_len (by_number f d xs) 0 taken k k d low (omega arith)

  -- a write of what is there
  same_there : (taken k : ℕ) (xs : List PoolLine) (v : Y) → k < taken → by_number f d xs k ≡ v → set (by_numbers f d taken xs) k v ≡ by_numbers f d taken xs
  same_there taken k xs v low e = subst (λ w. set (by_numbers f d taken xs) k w ≡ by_numbers f d taken xs) (numbered_at taken k xs low ∙ e) (set-get_or (by_numbers f d taken xs) k d)

  kept_number : (x y : PoolLine) (old new : List PoolLine) → Replaced x y old new → y.number ≡ x.number → (k : ℕ) → k ≢ x.number → by_number f d old k ≡ by_number f d new k
  kept_number x y old new r same k n =
      let m = replaced_steps x y old new r in
      pick_kept (λ z. eqb z.number k) f d x m.0 old m.1.0 (other_number x k n) ∙ sym (pick_kept (λ z. eqb z.number k) f d y m.0 new m.1.1 (other_number y k (λ e. n (e ∙ same))))

  -- a pool changes
  pub numbered_changed : (taken : ℕ) (x y : PoolLine) (old new : List PoolLine) → Replaced x y old new → y.number ≡ x.number → x.number < taken → tally (has_number x.number) new ≤ 1 →
      by_numbers f d taken new ≡ set (by_numbers f d taken old) x.number (f y)
  numbered_changed taken x y old new r same low once =
      let m = replaced_steps x y old new r in
      let here : by_number f d new x.number ≡ f y = pick_new (λ z. eqb z.number x.number) f d y m.0 new m.1.1 once (subst (λ k. eqb k x.number ≡ true) (sym same) (number_self x.number)) in
      numbered_set (by_number f d old) (by_number f d new) taken x.number low (kept_number x y old new r same) ∙ ap (set (by_numbers f d taken old) x.number) here

  -- and f makes the same of it
  pub numbered_stays : (taken : ℕ) (x y : PoolLine) (old new : List PoolLine) → Replaced x y old new → y.number ≡ x.number → x.number < taken → tally (has_number x.number) old ≤ 1 → tally (has_number x.number) new ≤ 1 →
      f y ≡ f x → by_numbers f d taken new ≡ by_numbers f d taken old
  numbered_stays taken x y old new r same low once once2 e =
      let m = replaced_steps x y old new r in
      let was : by_number f d old x.number ≡ f x = pick_new (λ z. eqb z.number x.number) f d x m.0 old m.1.0 once (number_self x.number) in
      numbered_changed taken x y old new r same low once2 ∙ same_there taken x.number old (f y) low (was ∙ sym e)

  -- a pool comes, with the next number
  pub numbered_comes : (taken : ℕ) (y : PoolLine) (old new : List PoolLine) → Inserted y old new → y.number ≡ taken → tally (has_number taken) new ≤ 1 → by_numbers f d (taken + 1) new ≡ by_numbers f d taken old ++ f y ∷ []
  numbered_comes taken y old new i num once =
      let here : by_number f d new taken ≡ f y = pick_new (λ z. eqb z.number taken) f d y old new i once (subst (λ k. eqb k taken ≡ true) (sym num) (number_self taken)) in
      let same : by_numbers f d taken new ≡ by_numbers f d taken old = numbered_same (by_number f d new) (by_number f d old) taken (λ k h. pick_kept (λ z. eqb z.number k) f d y old new i (other_number y k (λ e. absurd (omega arith)))) in
      map-range_with_len_more (by_number f d new) 0 taken taken (omega arith) ∙ rw (same, here) refl

  -- a pool goes
  pub numbered_goes : (taken : ℕ) (x : PoolLine) (old new : List PoolLine) → Removed x old new → x.number < taken → tally (has_number x.number) old ≤ 1 → by_numbers f d taken new ≡ set (by_numbers f d taken old) x.number d
  numbered_goes taken x old new r low once =
      let sum = tally_inserted (has_number x.number) x new old r in
      let one : has_number x.number x ≡ 1 = rw (number_self x.number) refl in
      let gone : by_number f d new x.number ≡ d = pick_none (λ z. eqb z.number x.number) f d new (omega arith) in
      numbered_set (by_number f d old) (by_number f d new) taken x.number low (λ k n. pick_kept (λ z. eqb z.number k) f d x new old r (other_number x k n)) ∙ ap (set (by_numbers f d taken old) x.number) gone

  -- and f makes d of it
  pub numbered_left : (taken : ℕ) (x : PoolLine) (old new : List PoolLine) → Removed x old new → x.number < taken → tally (has_number x.number) old ≤ 1 → f x ≡ d → by_numbers f d taken new ≡ by_numbers f d taken old
  numbered_left taken x old new r low once e =
      let was : by_number f d old x.number ≡ f x = pick_new (λ z. eqb z.number x.number) f d x new old r once (number_self x.number) in
      numbered_goes taken x old new r low once ∙ same_there taken x.number old d low (was ∙ e)
