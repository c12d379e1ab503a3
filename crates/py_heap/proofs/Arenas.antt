-- Arenas, pools, blocks and regions of a set, found in its lists and in its table.
use Rattle.std.proofs.Common.{◌≡◌, ℕ, zero, suc, ◌+◌, ◌-◌, ◌*◌, ◌<◌, ◌≤◌, inl, inr, List, [], ◌∷◌, ◌++◌, map, length, get_or, set, Option, Some, None, refl, sym, ap, subst, ◌∙◌, arith}
use Rattle.std.proofs.lemmas.List.{length-append, length-map}
use Rattle.std.proofs.Math.Nat.{mul-div-le, mul-le-mul_right}
use native.Mathlib.Numerals.{unary_clauses}
use Rattle.extents.specs.Sums.{tally, Has, Removed}
use Rattle.extents.specs.Extent.{covers, region_extent}
use Rattle.extents.proofs.CallerLemmas.{has_left, has_right, has_either, inserted_first}
use Rattle.layout_model.specs.Sizes.{capacity}
use Rattle.layout_model.specs.Pool.{blocks_of, size_of, IsPool}
use Rattle.layout_model.proofs.CallerLemmas.{some_pools, pools_are_in_arenas, in_arena_covers}
use Rattle.arena_set.specs.declared.pool_id.PoolId.{PoolId}
use Rattle.arena_set.specs.Started.{Started}
use Rattle.arena_set.specs.Flat.{AllSome, part, flat}
use Rattle.layout_model.specs.Geometry.{total_at, pool_offset, Site, in_arena, PoolLine}
use Rattle.arena_set.specs.Arena.{ArenaView, block_extent, pool_loans, arena_loans, IsArena, IsSound}
use Rattle.arena_set.specs.Set.{SetView, pool_line, regions_of, loans_of, IsSet, region_in}
use Rattle.arena_set.specs.Calls.{IsAt, IsStarted}
use Rattle.arena_set.proofs.CallerLemmas.{inside, all_at, part_same, part_removed, flat_push, regions_flat}
use Rattle.py_heap.specs.Heap.{PoolInRegion}
use Rattle.py_heap.specs.Kept.{lines_of, sites_of}

-- ---- lists made of parts

module _ {X Y : Type 0} (f : ℕ → X → List Y) where
  -- an element, and the part that has it
  pub record InFlat (n : ℕ) (os : List (Option X)) (y : Y) : Type 0 where
    pub i : ℕ
    pub m : ℕ
    pub x : X
    pub at : m ≡ n + i
    pub there : get_or os i None ≡ Some x
    pub here : Has y (f m x)

  in_tail : (n : ℕ) (o : Option X) (os : List (Option X)) (y : Y) → InFlat (n + 1) os y → InFlat n (o ∷ os) y
  in_tail n o os y r = record { i = suc r.i; m = r.m; x = r.x; at = let e = r.at in omega arith; there = r.there; here = r.here }

  pub in_flat : (n : ℕ) (os : List (Option X)) (y : Y) → Has y (flat f n os) → InFlat n os y
  in_flat n [] y h = absurd h
  in_flat n (None ∷ os) y h = in_tail n None os y (in_flat (n + 1) os y h)
  in_flat n (Some x ∷ os) y h = elim (has_either y (f n x) (flat f (n + 1) os) h) [
    | inl a ↦ record { i = 0; m = n; x = x; at = omega arith; there = refl; here = a }
    | inr b ↦ in_tail n (Some x) os y (in_flat (n + 1) os y b)
  ]

  pub flat_has : (n i m : ℕ) (os : List (Option X)) (x : X) (y : Y) → m ≡ n + i → get_or os i None ≡ Some x → Has y (f m x) → Has y (flat f n os)
  flat_has n i m [] x y at there here = absurd (cc)
  flat_has n zero m (o ∷ os) x y at there here =
      let same : m ≡ n = omega arith in
      has_left y (part f n o) (flat f (n + 1) os) (subst (λ p. Has y (part f n p)) (sym there) (subst (λ k. Has y (f k x)) same here))
  flat_has n (suc i) m (o ∷ os) x y at there here = has_right y (part f n o) (flat f (n + 1) os) (flat_has (n + 1) i m os x y (omega arith) there here)

-- ---- pools

-- the line of a pool that was started
abbrev pub line_at : PoolId → ArenaView → Started → PoolLine
line_at id a s = pool_line id.arena a.region.base id.pool s

-- the pool of a line
pub record IsLine (v : SetView) (x : PoolLine) : Type 0 where
  pub id : PoolId
  pub a : ArenaView
  pub s : Started
  pub started : IsStarted v id a s
  pub is : line_at id a s ≡ x

-- an arena by its place in the table
pub at_number : (v : SetView) (i m : ℕ) (a : ArenaView) → m ≡ 1 + i → get_or v.arenas i None ≡ Some a → IsAt v m a
at_number v i m a at there =
    let same : i ≡ m - 1 = omega arith in
    record { some = omega arith; there = subst (λ j. get_or v.arenas j None ≡ Some a) same there }

has_only : {X : Type 0} (x y : X) → Has x (y ∷ []) → y ≡ x
has_only x y (inl e) = e
has_only x y (inr h) = absurd h

pub line_there : (v : SetView) (x : PoolLine) → Has x (lines_of v.arenas) → IsLine v x
line_there v x h =
    let o = in_flat (λ n a. flat (λ k s. pool_line n a.region.base k s ∷ []) 0 a.pools) 1 v.arenas x h in
    let p = in_flat (λ k s. pool_line o.m o.x.region.base k s ∷ []) 0 o.x.pools x o.here in
    let same : p.i ≡ p.m = let e = p.at in omega arith in
    record {
      id = record { arena = o.m; pool = p.m };
      a = o.x;
      s = p.x;
      started = record { at = at_number v o.i o.m o.x o.at o.there; there = subst (λ k. get_or o.x.pools k None ≡ Some p.x) same p.there };
      is = has_only x (pool_line o.m o.x.region.base p.m p.x) p.here;
    }

pub started_there : (v : SetView) (id : PoolId) (a : ArenaView) (s : Started) → IsStarted v id a s → Has (line_at id a s) (lines_of v.arenas)
started_there v id a s st =
    let some = st.at.some in
    flat_has (λ n a. flat (λ k s. pool_line n a.region.base k s ∷ []) 0 a.pools) 1 (id.arena - 1) id.arena v.arenas a (pool_line id.arena a.region.base id.pool s) (omega arith) st.at.there
    (flat_has (λ k s. pool_line id.arena a.region.base k s ∷ []) 0 id.pool id.pool a.pools s (pool_line id.arena a.region.base id.pool s) (omega arith) st.there (inl refl))

-- an arena is one, and so is a pool
pub at_once : (v : SetView) (n : ℕ) (a b : ArenaView) → IsAt v n a → IsAt v n b → a ≡ b
at_once v n a b x y = let e = x.there in let d = y.there in cc

pub started_once : (v : SetView) (id : PoolId) (a b : ArenaView) (s t : Started) → IsStarted v id a s → IsStarted v id b t → (a ≡ b) × (s ≡ t)
started_once v id a b s t x y =
    let same = at_once v id.arena a b x.at y.at in
    let e = x.there in let d : get_or a.pools id.pool None ≡ Some t = subst (λ z. get_or z.pools id.pool None ≡ Some t) (sym same) y.there in
    (same, cc)

-- ---- regions

pub region_there : (v : SetView) (n : ℕ) (a : ArenaView) → IsAt v n a → Has (region_extent a.region) (regions_of v.arenas)
region_there v n a at =
    let some = at.some in
    subst (Has (region_extent a.region)) (sym (regions_flat 1 v.arenas)) (flat_has (λ n a. region_extent a.region ∷ []) 1 (n - 1) n v.arenas a (region_extent a.region) (omega arith) at.there (inl refl))

pub arena_at : (v : SetView) (n : ℕ) (a : ArenaView) → IsSet v → IsAt v n a → IsArena a
arena_at v n a s at = all_at IsArena v.arenas (n - 1) a s.arenas at.there

-- a pool's 16,384 bytes lie in its arena
pub pool_ground : (v : SetView) (id : PoolId) (a : ArenaView) → IsSet v → IsAt v id.arena a → id.pool < length a.pools → PoolInRegion (a.region.base + pool_offset a.region.base id.pool) (region_extent a.region)
pool_ground v id a s at below =
    let ar = arena_at v id.arena a s at in
    let low : id.pool < total_at a.region.base = subst (λ n. id.pool < n) ar.count below in
    let p = pools_are_in_arenas a.region.base id.pool low in
    let long = ar.region.len in
    record { aligned = p.0; inside = (p.1, omega arith) }

-- ---- sites

pub site_there : (v : SetView) (n : ℕ) (a : ArenaView) → IsAt v n a → Has (record { arena = n; base = a.region.base }) (sites_of v.arenas)
site_there v n a at = let some = at.some in flat_has (λ n a. record { arena = n; base = a.region.base } ∷ []) 1 (n - 1) n v.arenas a (record { arena = n; base = a.region.base }) (omega arith) at.there (inl refl)

pub record IsSite (v : SetView) (site : Site) : Type 0 where
  pub a : ArenaView
  pub at : IsAt v site.arena a
  pub base : site.base ≡ a.region.base

pub site_at : (v : SetView) (site : Site) → Has site (sites_of v.arenas) → IsSite v site
site_at v site h =
    let o = in_flat (λ n a. record { arena = n; base = a.region.base } ∷ []) 1 v.arenas site h in
    let is = has_only site (record { arena = o.m; base = o.x.region.base }) o.here in
    record { a = o.x; at = subst (λ n. IsAt v n o.x) (ap (λ (s : Site). s.arena) is) (at_number v o.i o.m o.x o.at o.there); base = sym (ap (λ (s : Site). s.base) is) }

-- an address is as often in an arena as in a region
covers_sum : (p n : ℕ) (os : List (Option ArenaView)) → AllSome IsArena os →
    tally (in_arena p) (flat (λ n a. record { arena = n; base = a.region.base } ∷ []) n os) ≡ tally (covers p) (flat (λ n a. region_extent a.region ∷ []) n os)
covers_sum p n [] s = refl
covers_sum p n (None ∷ os) s = covers_sum p (n + 1) os s
covers_sum p n (Some a ∷ os) s = let i = covers_sum p (n + 1) os s.1 in let e = in_arena_covers p n a.region s.0.region.len in omega arith

pub sites_cover : (v : SetView) (p : ℕ) → IsSet v → tally (in_arena p) (sites_of v.arenas) ≡ tally (covers p) (regions_of v.arenas)
sites_cover v p s = covers_sum p 1 v.arenas s.arenas ∙ ap (tally (covers p)) (sym (regions_flat 1 v.arenas))

-- ---- how many there are

capacity_most : (c : ℕ) → capacity c ≤ 1021
capacity_most c = let d = mul-div-le 16336 (16 * (c + 1)) in let one : 16 ≤ 16 * (c + 1) = omega arith in let more = mul-le-mul_right (capacity c) one in omega arith

live_most : (s : Started) → IsPool s.pool → length (blocks_of s.pool) ≤ 1021
live_most s p = let live = p.live in let made = p.made in let most = capacity_most s.pool.class in omega arith

flat_few : {X Y : Type 0} (P : X → Type 0) (f : ℕ → X → List Y) (few n : ℕ) (os : List (Option X)) → ((m : ℕ) (x : X) → P x → length (f m x) ≤ few) → AllSome P os → length (flat f n os) ≤ few * length os
flat_few P f few n [] le s = omega arith
flat_few P f few n (None ∷ os) le s = let i = flat_few P f few (n + 1) os le s in let more : few * suc (length os) ≡ few * length os + few = simp unary_clauses (omega arith) in omega arith
flat_few P f few n (Some x ∷ os) le s =
    let i = flat_few P f few (n + 1) os le s.1 in let a = le n x s.0 in let l = length-append (f n x) (flat f (n + 1) os) in
    let more : few * suc (length os) ≡ few * length os + few = simp unary_clauses (omega arith) in omega arith

arena_few : (a : ArenaView) → IsArena a → length (arena_loans a) ≤ 65344
arena_few a s =
    let f = flat_few IsSound (pool_loans a.region.base a.region.maker) 1021 0 a.pools (λ k st p. let l = length-map (blocks_of st.pool) (block_extent a.region.base a.region.maker (pool_offset a.region.base k) (size_of st.pool)) in let m = live_most st p in omega arith) s.sound in
    let most = (some_pools a.region.base).1 in let count = s.count in omega arith

-- so their number fits
pub loans_few : (v : SetView) → IsSet v → length (loans_of v.arenas) ≤ 65344 * length v.arenas
loans_few v s = flat_few IsArena (λ n a. arena_loans a) 65344 1 v.arenas (λ n a h. arena_few a h) s.arenas

pool_few : (a : ArenaView) (n k : ℕ) (ps : List (Option Started)) → length (flat (λ k s. pool_line n a.region.base k s ∷ []) k ps) ≤ length ps
pool_few a n k [] = omega arith
pool_few a n k (None ∷ ps) = let i = pool_few a n (k + 1) ps in omega arith
pool_few a n k (Some s ∷ ps) = let i = pool_few a n (k + 1) ps in omega arith

-- and the number of pools that were started
pub lines_few : (v : SetView) → IsSet v → length (lines_of v.arenas) ≤ 64 * length v.arenas
lines_few v s =
    flat_few IsArena (λ n a. flat (λ k s. pool_line n a.region.base k s ∷ []) 0 a.pools) 64 1 v.arenas
    (λ n a h. let f = pool_few a n 0 a.pools in let most = (some_pools a.region.base).1 in let count = h.count in omega arith) s.arenas

-- ---- regions by number

pub region_at : (n : ℕ) (arenas : List (Option ArenaView)) → get_or (map region_in arenas) n None ≡ region_in (get_or arenas n None)
region_at n [] = refl
region_at zero (o ∷ arenas) = refl
region_at (suc n) (o ∷ arenas) = region_at n arenas

-- ---- sites after a change

module _ (arenas : List (Option ArenaView)) where
  pub sites_same : (n : ℕ) (a b : ArenaView) → 1 ≤ n → get_or arenas (n - 1) None ≡ Some a → b.region.base ≡ a.region.base → sites_of (set arenas (n - 1) (Some b)) ≡ sites_of arenas
  sites_same n a b some there base =
      part_same (λ n a. record { arena = n; base = a.region.base } ∷ []) 1 (n - 1) n arenas (Some a) (Some b) (omega arith) (inside arenas (n - 1) a there) there (ap (λ k. record { arena = n; base = k } ∷ []) base)

  pub sites_fewer : (n : ℕ) (a : ArenaView) → 1 ≤ n → get_or arenas (n - 1) None ≡ Some a → Removed (record { arena = n; base = a.region.base }) (sites_of arenas) (sites_of (set arenas (n - 1) None))
  sites_fewer n a some there =
      part_removed (λ n a. record { arena = n; base = a.region.base } ∷ []) 1 (n - 1) n arenas (Some a) None (omega arith) (inside arenas (n - 1) a there) there (record { arena = n; base = a.region.base }) (inserted_first (record { arena = n; base = a.region.base }) [])

  pub sites_more : (a : ArenaView) → sites_of (arenas ++ Some a ∷ []) ≡ sites_of arenas ++ record { arena = length arenas + 1; base = a.region.base } ∷ []
  sites_more a = flat_push (λ n a. record { arena = n; base = a.region.base } ∷ []) 1 (length arenas + 1) arenas a (omega arith)
