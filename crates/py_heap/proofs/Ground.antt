-- Which pool has an address, by the arenas and by their marks.
use Rattle.std.proofs.Common.{◌≡◌, ℕ, ◌+◌, ◌<◌, ◌≤◌, inl, inr, cond, eqb, List, length, refl, sym, subst, ◌∙◌, arith}
use Rattle.std.proofs.lemmas.Bool.Decides.{eqb_tells}
use Rattle.raw_region.specs.Region.{RegionView}
use Rattle.extents.specs.Sums.{tally, Has}
use Rattle.extents.specs.Extent.{MeetsNone, covers, region_extent}
use Rattle.extents.proofs.CallerLemmas.{covers_in, tally_has}
use Rattle.layout_model.specs.Geometry.{Site, in_arena, slot_at, total_at, ArenaHas}
use Rattle.layout_model.proofs.CallerLemmas.{some_pools, pools_are_in_arenas, in_arena_is, arena_has}
use Rattle.heap_model.specs.Tables.{Tables, empty_tables}
use Rattle.heap_model.specs.Ground.{StandsIn, AreStanding}
use Rattle.heap_model.proofs.CallerLemmas.{tally_some, number_self, address_finds_pool}
use Rattle.arena_set.specs.declared.pool_id.PoolId.{PoolId}
use Rattle.arena_set.specs.Started.{Started}
use Rattle.arena_set.specs.Arena.{ArenaView}
use Rattle.arena_set.specs.Set.{SetView, regions_of, IsSet}
use Rattle.arena_set.specs.Calls.{IsStarted}
use Rattle.arena_set.proofs.CallerLemmas.{inside}
use Rattle.radix_map.specs.Map.{HasNone as NoArenaHas, IsFree}
use Rattle.py_heap.specs.Kept.{State, sites_of, lines_of, SameSums, IsKeptState}
use Rattle.py_heap.specs.Frees.{IsInPool}
use Rattle.py_heap.specs.Relinks.{AreMarked, HasPoolOf, IsPoolOf}
use Rattle.py_heap.proofs.Arenas.{IsSite, arena_at, line_at, line_there, site_at, site_there, sites_cover, started_there}

-- ---- lists with the same sums

is_site : Site → Site → ℕ
is_site s t = cond (eqb t.arena s.arena) (cond (eqb t.base s.base) 1 0) 0

site_self : (s : Site) → is_site s s ≡ 1
unfolding is_site
site_self s = rw (number_self s.arena) (rw (number_self s.base) refl)

site_same : (s t : Site) → 1 ≤ is_site s t → t ≡ s
unfolding is_site
site_same s t = elim (eqb_tells t.arena s.arena) as (λ _. 1 ≤ cond (eqb t.arena s.arena) (cond (eqb t.base s.base) 1 0) 0 → t ≡ s) [
  | inl w ↦ rw w.0 (elim (eqb_tells t.base s.base) as (λ _. 1 ≤ cond (eqb t.base s.base) 1 0 → t ≡ s) [
    | inl v ↦ λ h i. record { arena = w.1 i; base = v.1 i }
    | inr v ↦ rw v.0 (λ h. absurd (omega arith))
  ])
  | inr w ↦ rw w.0 (λ h. absurd (omega arith))
]

pub has_same : (s : Site) (xs ys : List Site) → SameSums xs ys → Has s xs → Has s ys
has_same s xs ys same h =
    let one = site_self s in let le = tally_has (is_site s) s xs h in let sum = same (is_site s) in
    let z = tally_some (is_site s) ys (omega arith) in
    subst (λ t. Has t ys) (site_same s z.0 z.1.1) z.1.0

-- ---- pools by address

pub below_total : (v : SetView) (id : PoolId) (a : ArenaView) (s : Started) → IsSet v → IsStarted v id a s → id.pool < total_at a.region.base
below_total v id a s sound st = subst (λ n. id.pool < n) (arena_at v id.arena a sound st.at).count (inside a.pools id.pool s st.there)

pub standing_of : (v : SetView) (t : Tables) → IsSet v → t.started ≡ lines_of v.arenas → AreStanding (sites_of v.arenas) t
standing_of v t sound are = record {
  apart = λ p. let c = sites_cover v p sound in let a = sound.apart p in omega arith;
  pools = λ x h.
      let l = line_there v x (subst (Has x) are h) in (
        record { arena = l.id.arena; base = l.a.region.base },
        (
          site_there v l.id.arena l.a l.started.at,
          subst (StandsIn (record { arena = l.id.arena; base = l.a.region.base })) l.is (record { arena = refl; slot = below_total v l.id l.a l.s sound l.started; place = refl }),
        ),
      );
}

abbrev tables_with : SetView → Tables
tables_with v = record empty_tables { started = lines_of v.arenas }

-- the arena that has an address of a pool is the pool's
found : (v : SetView) (id : PoolId) (p : ℕ) (m : Site) → IsSet v → (is : IsPoolOf v id p) → Has m (sites_of v.arenas) → ArenaHas p m → StandsIn m (line_at id is.a is.s) × (id.pool ≡ slot_at m.base p)
found v id p m sound is there has = address_finds_pool (sites_of v.arenas) (tables_with v) (line_at id is.a is.s) m p (standing_of v (tables_with v) sound refl) (started_there v id is.a is.s is.started) is.has there has

site_has : (v : SetView) (id : PoolId) (p : ℕ) → IsSet v → (is : IsPoolOf v id p) → ArenaHas p (record { arena = id.arena; base = is.a.region.base })
site_has v id p sound is =
    let w = pools_are_in_arenas is.a.region.base id.pool (below_total v id is.a is.s sound is.started) in
    let low = is.has.0 in let high = is.has.1 in (omega arith, omega arith)

-- two pools that have an address are one
pub pool_once : (v : SetView) (x y : PoolId) (p : ℕ) → IsSet v → IsPoolOf v x p → IsPoolOf v y p → x ≡ y
pool_once v x y p sound is also =
    let m : Site = record { arena = x.arena; base = is.a.region.base } in
    let f = found v x p m sound is (site_there v x.arena is.a is.started.at) (site_has v x p sound is) in
    let g = found v y p m sound also (site_there v x.arena is.a is.started.at) (site_has v x p sound is) in
    λ i. record { arena = sym g.0.arena i; pool = (f.1 ∙ sym g.1) i }

module _ (v : SetView) (marks : List Site) (ok : AreMarked v marks) (p : ℕ) (there : HasPoolOf v p) (m : Site) (here : Has m marks) (has : ArenaHas p m) where
  in_arena_of : StandsIn m (line_at there.id there.is.a there.is.s) × (there.id.pool ≡ slot_at m.base p)
  in_arena_of = found v there.id p m ok.set there.is (has_same m marks (sites_of v.arenas) ok.same here) has

  pub in_pool : IsInPool m.base p
  in_pool =
      let f = (in_arena_of).0 in let h = there.is.has in let few = (some_pools m.base).1 in let low = f.slot in
      record { slot = there.id.pool; few = omega arith; low = subst (λ n. n ≤ p) f.place h.0; high = subst (λ n. p < n + 16384) f.place h.1 }

  pub found_id : (id : PoolId) → id.arena ≡ m.arena → id.pool ≡ slot_at m.base p → IsPoolOf v id p
  found_id id arena pool =
      let same : there.id ≡ id = λ i. record { arena = ((in_arena_of).0.arena ∙ sym arena) i; pool = ((in_arena_of).1 ∙ sym pool) i } in
      subst (λ (q : PoolId). IsPoolOf v q p) same there.is

-- ---- what the marks tell

module _ (v : SetView) (marks : List Site) (ok : AreMarked v marks) (place : ℕ) where
  pub owned : (m : Site) → Has m marks → ArenaHas place m → tally (covers place) (regions_of v.arenas) ≡ 1
  owned m there has =
      let one = in_arena_is place m has in let le = tally_has (in_arena place) m marks there in
      let same = ok.same (in_arena place) in let c = sites_cover v place ok.set in let most = ok.set.apart place in omega arith

  pub not_owned : NoArenaHas place marks → tally (covers place) (regions_of v.arenas) ≡ 1 → ⊥
  not_owned none one =
      let same = ok.same (in_arena place) in let c = sites_cover v place ok.set in
      let z = tally_some (in_arena place) marks (omega arith) in
      none z.0 z.1.0 (arena_has place z.0 z.1.1)

  -- an arena that is marked is in the set
  pub marked_site : (m : Site) → Has m marks → IsSite v m
  marked_site m there = site_at v m (has_same m marks (sites_of v.arenas) ok.same there)

-- a region that meets no region of the arenas is not marked
pub free_marks : (v : SetView) (marks : List Site) (ok : AreMarked v marks) (r : RegionView) → length r.cells ≡ 1048576 → MeetsNone (region_extent r) (regions_of v.arenas) → IsFree r.base marks
free_marks v marks ok r long apart address has m there mine =
    let one = owned v marks ok address m there mine in let zero = apart address (covers_in address (region_extent r) has.0 (let high = has.1 in omega arith)) in absurd (omega arith)

pub are_marked : (s : State) → IsKeptState s → AreMarked s.set s.marks
are_marked s k = record { set = k.sound_set; same = k.marked }
