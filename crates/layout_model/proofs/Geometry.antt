-- Where arenas and pools stand.
use Rattle.std.proofs.Common.{◌≡◌, ◌⊎◌, ℕ, ◌+◌, ◌*◌, ◌%◌, ◌<◌, ◌≤◌, inl, inr, cond, leb, refl, subst, length, arith}
use Rattle.std.proofs.lemmas.Bool.Decides.{eqb_tells, leb_tells}
use Rattle.raw_region.specs.Region.{RegionView}
use Rattle.extents.specs.Extent.{covers, region_extent}
use Rattle.layout_model.specs.declared.measures.TheConstants.{ARENA_BYTES, POOL_BYTES}
use Rattle.layout_model.specs.Geometry.{Site, ArenaHas, in_arena, first_pool, total_at, PoolsAreInArenas, AddressTellsSlot}

-- the pools of an arena: 64 where the base is a multiple of their size, else 63
few : (base : ℕ) → ((base % POOL_BYTES ≡ 0) × (total_at base ≡ 64)) ⊎ ((base % POOL_BYTES ≡ 0 → ⊥) × (total_at base ≡ 63))
few base = elim (eqb_tells (base % POOL_BYTES) 0) [ inl w ↦ inl (w.1, rw w.0 refl) | inr w ↦ inr (w.1, rw w.0 refl) ]

pub some_pools : (base : ℕ) → (63 ≤ total_at base) × (total_at base ≤ 64)
some_pools base = elim (few base) [ inl w ↦ let e = w.1 in (omega arith, omega arith) | inr w ↦ let e = w.1 in (omega arith, omega arith) ]

pub pools_are_in_arenas : PoolsAreInArenas
pools_are_in_arenas base slot low = elim (few base) [
  | inl w ↦ let whole = w.0 in let all : slot < 64 = subst (λ n. slot < n) w.1 low in (omega arith, omega arith, omega arith)
  | inr w ↦ let part = w.0 in let all : slot < 63 = subst (λ n. slot < n) w.1 low in (omega arith, omega arith, omega arith)
]

-- the pools lie in the arena
pub pools_inside : (base : ℕ) → first_pool base + POOL_BYTES * total_at base ≤ ARENA_BYTES
pools_inside base = elim (few base) [ inl w ↦ let whole = w.0 in let e = w.1 in omega arith | inr w ↦ let part = w.0 in let e = w.1 in omega arith ]

pub address_tells_slot : AddressTellsSlot
address_tells_slot base slot address has = let low = has.0 in let high = has.1 in omega arith

pub in_arena_is : (address : ℕ) (a : Site) → ArenaHas address a → in_arena address a ≡ 1
in_arena_is address a h = elim (leb_tells a.base address) [
  | inl v ↦ rw v.0 (elim (leb_tells (a.base + ARENA_BYTES) address) [ inl w ↦ absurd (let low = w.1 in let high = h.1 in omega arith) | inr w ↦ rw w.0 refl ])
  | inr v ↦ absurd (let low = v.1 in let high = h.0 in omega arith)
]

pub arena_has : (address : ℕ) (a : Site) → 1 ≤ in_arena address a → ArenaHas address a
arena_has address a = elim (leb_tells a.base address) as (λ _. 1 ≤ cond (leb a.base address) (cond (leb (a.base + ARENA_BYTES) address) 0 1) 0 → ArenaHas address a) [
  | inl v ↦ rw v.0 (elim (leb_tells (a.base + ARENA_BYTES) address) as (λ _. 1 ≤ cond (leb (a.base + ARENA_BYTES) address) 0 1 → ArenaHas address a) [ inl w ↦ rw w.0 (λ le. absurd (omega arith)) | inr w ↦ λ le. (v.1, w.1) ])
  | inr v ↦ rw v.0 (λ le. absurd (omega arith))
]

-- an address is as often in an arena as in its region
pub in_arena_covers : (address n : ℕ) (r : RegionView) → length r.cells ≡ ARENA_BYTES → in_arena address (record { arena = n; base = r.base }) ≡ covers address (region_extent r)
in_arena_covers address n r long = rw long refl
