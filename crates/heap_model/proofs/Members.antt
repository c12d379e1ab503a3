-- Which pools a layout has, and where they are listed.
use Rattle.std.proofs.Common.{◌≡◌, ◌≢◌, ℕ, suc, ◌+◌, ◌<◌, ◌≤◌, inl, inr, eqb, List, [], ◌∷◌, ◌++◌, map, get_or, Option, Some, None, refl, sym, ap, subst, ◌∙◌, arith}
use Rattle.std.proofs.lemmas.Bool.Decides.{eqb_tells, leb_tells}
use Rattle.std.proofs.lemmas.List.{get_or_past, length-map}
use Rattle.std.proofs.lemmas.List.FromFn.{length-map-range_with_len}
use Rattle.extents.specs.Sums.{tally, Has}
use Rattle.extents.proofs.CallerLemmas.{tally-append, tally_at, tally_zero}
use Rattle.layout_model.specs.Layout.{Used}
use Rattle.layout_model.specs.Sizes.{capacity}
use Rattle.layout_model.specs.Sound.{is_pool, pool_times, full_times}
use Rattle.layout_model.specs.Geometry.{PoolLine}
use Rattle.heap_model.specs.Tables.{Spot, Tables, spot_of}
use Rattle.heap_model.specs.View.{used_at, used_pool, used_of, full_pool, full_in, full_of, layout_of, places_of}
use Rattle.heap_model.specs.Kept.{has_number, IsKept}
use Rattle.heap_model.specs.Laws.{place_times}
use Rattle.heap_model.proofs.Picks.{pick_none}
use Rattle.heap_model.proofs.Pools.{number_self, used_here, full_here, listed_pool}
use Rattle.heap_model.proofs.Numbered.{numbered_at}
use Rattle.heap_model.proofs.Places.{place_there}
use Rattle.heap_model.proofs.Placed.{is_full}
use Rattle.heap_model.proofs.Unplaced.{listed, open_split}
use Rattle.heap_model.proofs.Ground.{placed_pool}

-- ---- the lists of classes

pub first_has_room : (t : Tables) (c : ℕ) (s : Spot) (rest : List Spot) → IsKept t → get_or t.lists c [] ≡ s ∷ rest → (x : PoolLine) × (Has x t.started × (spot_of x ≡ s) × (x.class ≡ c) × (x.live < capacity x.class))
first_has_room t c s rest kept e =
    let r = listed_pool t.started t.lists t.taken kept.orderly c s (subst (Has s) (sym e) (inl refl)) in
    let most = (kept.orderly.pools r.0 r.1.0).most in
    let half : r.0.live ≢ capacity r.0.class = λ f. r.1.3 (f ∙ ap capacity r.1.2) in
    (r.0, (r.1.0, r.1.1, r.1.2, omega arith))

pub pool_is_listed : (t : Tables) (x : PoolLine) → IsKept t → Has x t.started → x.live < capacity x.class →
    (before : List Spot) × (after : List Spot) × (get_or t.lists x.class [] ≡ before ++ spot_of x ∷ after) × ((s : Spot) → Has s before → s ≢ spot_of x) × ((s : Spot) → Has s after → s ≢ spot_of x)
pool_is_listed t x kept here low =
    let half : x.live ≢ capacity x.class = λ e. absurd (omega arith) in
    let r = open_split x t kept here half in
    let li = listed x r.0 r.1 t kept here half r.2 in
    (r.0, r.1, r.2, λ s h e. li.absent_before s h (sym e), λ s h e. li.absent_after s h (sym e))

-- ---- numbers of pools

-- a list among others has a place among them
has_index : (lists : List (List Spot)) (l : List Spot) → Has l lists → (c : ℕ) × (get_or lists c [] ≡ l)
has_index [] l h = absurd h
has_index (m ∷ lists) l (inl e) = (0, e)
has_index (m ∷ lists) l (inr h) = let r = has_index lists l h in (suc r.0, r.1)

none_listed : (k : ℕ) (f : Spot → Used) (l : List Spot) → ((s : Spot) → Has s l → (f s).pool ≢ k) → tally (is_pool k) (map f l) ≡ 0
none_listed k f [] other = refl
none_listed k f (s ∷ l) other = elim (eqb_tells (f s).pool k) [ inl w ↦ absurd (other s (inl refl) w.1) | inr w ↦ rw w.0 (let i = none_listed k f l (λ a h. other a (inr h)) in omega arith) ]

none_used : (k : ℕ) (f : Spot → Used) (lists : List (List Spot)) → ((l : List Spot) → Has l lists → (s : Spot) → Has s l → (f s).pool ≢ k) → tally (tally (is_pool k)) (map (map f) lists) ≡ 0
none_used k f [] other = refl
none_used k f (l ∷ lists) other = let a = none_listed k f l (other l (inl refl)) in let b = none_used k f lists (λ m h. other m (inr h)) in omega arith

-- a pool is in a list of a class, or is full
pool_counts : (t : Tables) (x : PoolLine) → IsKept t → Has x t.started → 1 ≤ pool_times x.number (layout_of t).used + full_times (get_or (layout_of t).full x.number None)
pool_counts t x kept here =
    let o = kept.orderly in
    let p = o.pools x here in
    elim (eqb_tells x.live (capacity x.class)) [
      | inl w ↦ let full : get_or (full_of t.taken t.started) x.number None ≡ Some (record { class = x.class; arena = x.arena }) =
          numbered_at full_pool None t.taken x.number t.started p.known ∙ (full_here t.started t.lists t.taken o x here ∙ is_full x w.1) in
          let one : full_times (get_or (full_of t.taken t.started) x.number None) ≡ 1 = ap full_times full in omega arith
      | inr w ↦ let r = open_split x t kept here w.1 in
          let li = listed x r.0 r.1 t kept here w.1 r.2 in
          let f : Spot → Used = used_at t.started in
          let long = length-map t.lists (map f) in
          let inside = li.inside in
          let more : tally (is_pool x.number) (get_or (used_of t.started t.lists) x.class []) ≤ tally (tally (is_pool x.number)) (used_of t.started t.lists) = tally_at (tally (is_pool x.number)) (used_of t.started t.lists) x.class [] (omega arith) in
          let sum = tally-append (is_pool x.number) (map f r.0) (used_pool x ∷ map f r.1) in
          let one : is_pool x.number (used_pool x) ≡ 1 = rw (number_self x.number) refl in
          let here2 : tally (is_pool x.number) (get_or (used_of t.started t.lists) x.class []) ≡ tally (is_pool x.number) (map f r.0 ++ used_pool x ∷ map f r.1) = ap (tally (is_pool x.number)) li.pools in omega arith
    ]

-- without a pool of that number nothing is listed
nothing_counts : (t : Tables) (k : ℕ) → IsKept t → ((x : PoolLine) → Has x t.started → x.number ≢ k) → pool_times k (layout_of t).used + full_times (get_or (layout_of t).full k None) ≡ 0
nothing_counts t k kept other =
    let o = kept.orderly in
    let used : tally (tally (is_pool k)) (used_of t.started t.lists) ≡ 0 = none_used k (used_at t.started) t.lists (λ l h s g e.
    let c = has_index t.lists l h in
    let z = listed_pool t.started t.lists t.taken o c.0 s (subst (Has s) (sym c.1) g) in
    let is : used_at t.started s ≡ used_pool z.0 = ap (used_at t.started) (sym z.1.1) ∙ used_here t.started t.lists t.taken o z.0 z.1.0 in
    other z.0 z.1.0 (sym (ap (λ (u : Used). u.pool) is) ∙ e)) in
    let none : tally (has_number k) t.started ≡ 0 = tally_zero (has_number k) t.started (λ z h. elim (eqb_tells z.number k) [ inl w ↦ absurd (other z h w.1) | inr w ↦ rw w.0 refl ]) in
    let full : get_or (full_of t.taken t.started) k None ≡ None = elim (leb_tells t.taken k) [
      | inl w ↦ let low = w.1 in let long = length-map-range_with_len (full_in t.started) 0 t.taken in get_or_past (full_of t.taken t.started) k None (omega arith)
      | inr w ↦ numbered_at full_pool None t.taken k t.started w.1 ∙ pick_none (λ z. eqb z.number k) full_pool None t.started none
    ] in
    let zero_full : full_times (get_or (full_of t.taken t.started) k None) ≡ 0 = ap full_times full in omega arith

by_place : (t : Tables) (k : ℕ) (o : Option ℕ) → IsKept t → get_or (places_of t) k None ≡ o → place_times o ≡ pool_times k (layout_of t).used + full_times (get_or (layout_of t).full k None)
by_place t k None kept e = sym (nothing_counts t k kept (λ x h n.
    let there : get_or (places_of t) k None ≡ Some x.place = subst (λ j. get_or (places_of t) j None ≡ Some x.place) n (place_there t kept.orderly x h) in absurd (cc)))
by_place t k (Some p) kept e =
    let x = placed_pool t k p e in
    let some = subst (λ j. 1 ≤ pool_times j (layout_of t).used + full_times (get_or (layout_of t).full j None)) x.1.1 (pool_counts t x.0 kept x.1.0) in
    let most = kept.sound.pools_once k in omega arith

pub places_are_of_pools : (t : Tables) (k : ℕ) → IsKept t → place_times (get_or (places_of t) k None) ≡ pool_times k (layout_of t).used + full_times (get_or (layout_of t).full k None)
places_are_of_pools t k kept = by_place t k (get_or (places_of t) k None) kept refl
