-- How many pools and arenas tables have.
use Rattle.std.proofs.Common.{◌≡◌, ◌≢◌, ◌⊎◌, ℕ, suc, ◌+◌, ◌-◌, ◌≤◌, inl, inr, false, eqb, List, [], ◌∷◌, map, length, get_or, Option, Some, None, refl, sym, ap, subst, ◌∙◌, arith}
use Rattle.std.proofs.lemmas.Bool.Decides.{eqb_tells}
use Rattle.std.specs.List.{range_with_len}
use Rattle.extents.specs.Sums.{tally, Has, Inserted, Removed, Replaced}
use Rattle.extents.proofs.CallerLemmas.{tally_zero, tally_has, tally_inserted, tally_replaced, length_inserted, removed_has}
use Rattle.layout_model.specs.Layout.{Usable, Used}
use Rattle.layout_model.specs.Sizes.{capacity}
use Rattle.layout_model.specs.Sound.{is_arena, has_arena, full_arena, free_in, total_in, total_or, dry_times, pools_of, HasTotal}
use Rattle.layout_model.specs.Place.{after_taking, dry_after_taking}
use Rattle.layout_model.specs.Geometry.{PoolLine}
use Rattle.heap_model.specs.Tables.{Spot, Tables, spot_of, with_one_more, with_one_less}
use Rattle.heap_model.specs.View.{used_at, full_of, full_in, layout_of}
use Rattle.heap_model.specs.Kept.{has_number, is_spot, open_at, is_open, IsKept}
use Rattle.heap_model.proofs.Pools.{tally_some, number_self, is_spot_self, is_spot_same}
use Rattle.heap_model.proofs.Steps.{inserted_replaced, replaced_removed}

-- ---- lengths of lists

-- a list without spots is empty
no_spot : (l : List Spot) → ((s : Spot) → tally (is_spot s) l ≡ 0) → l ≡ []
no_spot [] none = refl
no_spot (s ∷ l) none = absurd (let one = is_spot_self s in let z = none s in omega arith)

-- a pool with a free block adds its spot, and others add nothing
open_tells : (c : ℕ) (x : PoolLine) → ((is_open c x ≡ 1) × ((s : Spot) → open_at c s x ≡ is_spot s (spot_of x))) ⊎ ((is_open c x ≡ 0) × ((s : Spot) → open_at c s x ≡ 0))
open_tells c x = elim (eqb_tells x.class c) [
  | inl v ↦ rw v.0 (elim (eqb_tells x.live (capacity c)) [ inl w ↦ rw w.0 (inr (refl, λ s. refl)) | inr w ↦ rw w.0 (inl (refl, λ s. refl)) ])
  | inr v ↦ rw v.0 (inr (refl, λ s. refl))
]

long_list : (c : ℕ) (xs : List PoolLine) (l : List Spot) → ((s : Spot) → tally (is_spot s) l ≡ tally (open_at c s) xs) → length l ≡ tally (is_open c) xs
long_list c [] l same = ap length (no_spot l same)
long_list c (x ∷ xs) l same = elim (open_tells c x) [
  | inl w ↦
      let one = is_spot_self (spot_of x) in
      let here = same (spot_of x) in
      let adds = w.1 (spot_of x) in
      let r = tally_some (is_spot (spot_of x)) l (omega arith) in
      let at : Has (spot_of x) l = subst (λ s. Has s l) (is_spot_same (spot_of x) r.0 r.1.1) r.1.0 in
      let less = removed_has (spot_of x) l at in
      let rest = long_list c xs less.0 (λ s. let sum = tally_inserted (is_spot s) (spot_of x) less.0 l less.1 in let all = same s in let part = w.1 s in omega arith) in
      let long = length_inserted (spot_of x) less.0 l less.1 in
      let counts = w.0 in omega arith
  | inr w ↦ let rest = long_list c xs l (λ s. let all = same s in let part = w.1 s in omega arith) in let counts = w.0 in omega arith
]

pub lists_have_open_pools : (t : Tables) (c : ℕ) → IsKept t → length (get_or t.lists c []) ≡ tally (is_open c) t.started
lists_have_open_pools t c kept = long_list c t.started (get_or t.lists c []) (kept.orderly.listed c)

-- ---- without pools

-- sums over lists of classes that are all empty
empty_lists : (f : Used → ℕ) (g : Spot → Used) (lists : List (List Spot)) → ((c : ℕ) → get_or lists c [] ≡ []) → tally (tally f) (map (map g) lists) ≡ 0
empty_lists f g [] none = refl
empty_lists f g (l ∷ lists) none =
    let here : tally f (map g l) ≡ 0 = ap (λ w. tally f (map g w)) (none 0) in
    let rest = empty_lists f g lists (λ c. none (suc c)) in omega arith

-- sums over numbers of which none has a pool
nothing_full : (a : ℕ) (ks : List ℕ) → tally (full_arena a) (map (full_in []) ks) ≡ 0
nothing_full a [] = refl
nothing_full a (k ∷ ks) = let rest = nothing_full a ks in omega arith

no_pools : (t : Tables) → IsKept t → t.started ≡ [] → (a : ℕ) → pools_of a (layout_of t) ≡ 0
no_pools t kept none a =
    let lists : (c : ℕ) → get_or t.lists c [] ≡ [] = λ c. no_spot (get_or t.lists c []) (λ s. kept.orderly.listed c s ∙ ap (tally (open_at c s)) none) in
    let used = empty_lists (has_arena a) (used_at t.started) t.lists lists in
    let full : tally (full_arena a) (full_of t.taken t.started) ≡ 0 = ap (λ xs. tally (full_arena a) (full_of t.taken xs)) none ∙ nothing_full a (range_with_len 0 t.taken) in
    omega arith

-- an arena counts for its number
counts_one : (u : Usable) → is_arena u.arena u ≡ 1
counts_one u = rw (number_self u.arena) refl

-- what is 0 for each other arena adds up to 0 where arena a is not there
others_only : (f : Usable → ℕ) (a : ℕ) (us : List Usable) → ((u : Usable) → u.arena ≢ a → f u ≡ 0) → tally (is_arena a) us ≡ 0 → tally f us ≡ 0
others_only f a us zeros none = tally_zero f us (λ u h. zeros u (λ e.
    let one : is_arena a u ≡ 1 = subst (λ b. is_arena b u ≡ 1) e (counts_one u) in
    let more = tally_has (is_arena a) u us h in omega arith))

free_else : (a : ℕ) (u : Usable) → u.arena ≢ a → free_in a u ≡ 0
free_else a u n = elim (eqb_tells u.arena a) [ inl w ↦ absurd (n w.1) | inr w ↦ rw w.0 refl ]

total_else : (a : ℕ) (u : Usable) → u.arena ≢ a → total_in a u ≡ 0
total_else a u n = elim (eqb_tells u.arena a) [ inl w ↦ absurd (n w.1) | inr w ↦ rw w.0 refl ]

dry_none : (a : ℕ) (us : List Usable) (o : Option ℕ) → tally (is_arena a) us + dry_times o ≤ 1 → tally (free_in a) us ≡ tally (total_in a) us + total_or o → HasTotal o → o ≡ None
dry_none a us None once adds total = refl
dry_none a us (Some n) once adds total = let free = others_only (free_in a) a us (free_else a) (omega arith) in absurd (omega arith)

-- an arena among the usable ones is the one with its number
alone : (f : Usable → ℕ) (u : Usable) (us : List Usable) → ((v : Usable) → v.arena ≢ u.arena → f v ≡ 0) → Has u us → tally (is_arena u.arena) us ≤ 1 → tally f us ≡ f u
alone f u [] zeros h once = absurd h
alone f u (v ∷ us) zeros (inl e) once =
    let one : is_arena u.arena v ≡ 1 = subst (λ w. is_arena u.arena w ≡ 1) (sym e) (counts_one u) in
    let rest = others_only f u.arena us zeros (omega arith) in
    let here : f v ≡ f u = ap f e in omega arith
alone f u (v ∷ us) zeros (inr h) once =
    let one = counts_one u in
    let more = tally_has (is_arena u.arena) u us h in
    let rest = alone f u us zeros h (omega arith) in
    let here : f v ≡ 0 = zeros v (λ e. let two : is_arena u.arena v ≡ 1 = subst (λ b. is_arena b v ≡ 1) e (counts_one v) in absurd (omega arith)) in omega arith

pub arenas_are_free : (t : Tables) → IsKept t → t.started ≡ [] → ((a : ℕ) → get_or t.dry a None ≡ None) × ((u : Usable) → Has u t.usable → u.free ≡ u.total)
arenas_are_free t kept none =
    let s = kept.sound in
    let adds : (a : ℕ) → tally (free_in a) t.usable ≡ tally (total_in a) t.usable + total_or (get_or t.dry a None) = λ a. let w = s.adds_up a in let z = no_pools t kept none a in omega arith in
    let wet : (a : ℕ) → get_or t.dry a None ≡ None = λ a. dry_none a t.usable (get_or t.dry a None) (s.arenas_once a) (adds a) (s.dry a) in (
      wet,
      λ u h.
          let once = s.arenas_once u.arena in
          let free : tally (free_in u.arena) t.usable ≡ free_in u.arena u = alone (free_in u.arena) u t.usable (free_else u.arena) h (omega arith) in
          let total : tally (total_in u.arena) t.usable ≡ total_in u.arena u = alone (total_in u.arena) u t.usable (total_else u.arena) h (omega arith) in
          let free_is : free_in u.arena u ≡ u.free = rw (number_self u.arena) refl in
          let total_is : total_in u.arena u ≡ u.total = rw (number_self u.arena) refl in
          let w = adds u.arena in
          let z : total_or (get_or t.dry u.arena None) ≡ 0 = ap total_or (wet u.arena) in omega arith,
    )

-- ---- two changes as one

pub started_and_lent : (t : Tables) (x : PoolLine) (mid new : List PoolLine) → IsKept t → x.number ≡ t.taken → Inserted x t.started mid → Replaced x (with_one_more x) mid new → Inserted (with_one_more x) t.started new
started_and_lent t x mid new kept next i r =
    let one : has_number x.number x ≡ 1 = rw (number_self x.number) refl in
    let none : tally (has_number x.number) t.started ≡ 0 = tally_zero (has_number x.number) t.started (λ z h. elim (eqb_tells z.number x.number) [
      | inl w ↦ absurd (let same = w.1 in let low = (kept.orderly.pools z h).known in omega arith)
      | inr w ↦ rw w.0 refl
    ]) in
    let sum = tally_inserted (has_number x.number) x t.started mid i in
    inserted_replaced (has_number x.number) x (with_one_more x) t.started mid new (omega arith) (omega arith) i r

pub mended_and_gone : (t : Tables) (x : PoolLine) (mid new : List PoolLine) → IsKept t → Replaced x (with_one_less x) t.started mid → Removed (with_one_less x) mid new → Removed x t.started new
mended_and_gone t x mid new kept r i =
    let one : has_number x.number (with_one_less x) ≡ 1 = rw (number_self x.number) refl in
    let sum = tally_replaced (has_number x.number) x (with_one_less x) t.started mid r in
    let same : has_number x.number x ≡ 1 = rw (number_self x.number) refl in
    let once = kept.orderly.numbers x.number in
    replaced_removed (has_number x.number) x (with_one_less x) t.started mid new (omega arith) (omega arith) r i

pub new_arena_gives : (a total : ℕ) (ds : List (Option ℕ)) → 63 ≤ total
    → (after_taking (record { arena = a; total = total; free = total }) [] ≡ record { arena = a; total = total; free = total - 1 } ∷ [])
    × (dry_after_taking (record { arena = a; total = total; free = total }) ds ≡ ds)
new_arena_gives a total ds many =
    let some : eqb total 1 ≡ false = elim (eqb_tells total 1) [ inl w ↦ absurd (let one = w.1 in omega arith) | inr w ↦ w.0 ] in
    (rw some refl, rw some refl)
