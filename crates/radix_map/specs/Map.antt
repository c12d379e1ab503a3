-- The arenas that a tree marks.
use Rattle.std.specs.Prelude.{◌≡◌, ℕ, zero, suc, ◌+◌, ◌*◌, ◌<◌, ◌≤◌, List, [], ◌∷◌, ◌++◌, Option, Some, None}
use Rattle.extents.specs.Sums.{Has, Removed}
use Rattle.layout_model.specs.Geometry.{Site, ArenaHas}
use Rattle.radix_map.specs.declared.entry.Part.{Part}
use Rattle.radix_map.specs.declared.entry.Entry.{Entry}
use Rattle.radix_map.specs.Tree.{entry_of}

-- ---- what callers see

-- the arena with the number is marked, and has the address
pub record HasArena (addr : ℕ) (sites : List Site) (index : ℕ) : Type 0 where
  pub base : ℕ
  pub there : Has (record { arena = index; base = base }) sites
  pub has : ArenaHas addr (record { arena = index; base = base })

-- no marked arena has the address
abbrev pub HasNone : ℕ → List Site → Type 0
HasNone addr sites = (s : Site) → Has s sites → ArenaHas addr s → ⊥

-- no address of the MiB from the base is in a marked arena
abbrev pub IsFree : ℕ → List Site → Type 0
IsFree base sites = (addr : ℕ) → ArenaHas addr (record { arena = 0; base = base }) → HasNone addr sites

-- an arena with the base is marked
pub record IsMarked (base : ℕ) (sites : List Site) : Type 0 where
  pub index : ℕ
  pub there : Has (record { arena = index; base = base }) sites

-- an arena with the base is taken out
pub record Unmarks (base : ℕ) (old new : List Site) : Type 0 where
  pub index : ℕ
  pub removed : Removed (record { arena = index; base = base }) old new

-- ---- what a tree says

-- the arena that begins in the MiB
abbrev pub site_at : ℕ → Part → Site
site_at at p = record { arena = p.index; base = 1048576 * at + p.bound }

abbrev pub begun : ℕ → Option Part → List Site
begun at None = []
begun at (Some p) = site_at at p ∷ []

-- the arenas that begin in the first n MiB
unfoldable pub sites_below : (ℕ → Entry) → ℕ → List Site
sites_below f zero = []
sites_below f (suc n) = sites_below f n ++ begun n (f n).first

-- the arenas that begin below 2^48
unfoldable pub marked : List (List (List Entry)) → List Site
marked t = sites_below (entry_of t) 268435456

-- an arena that begins inside a MiB is the second part of the next entry, and there is no other second part
pub record AreEntries (f : ℕ → Entry) : Type 0 where
  pub low : (q : Part) → (f 0).second ≡ Some q → ⊥
  pub back : (k j : ℕ) (q : Part) → j ≡ k + 1 → (f j).second ≡ Some q → ((f k).first ≡ Some q) × (0 < q.bound)
  pub forth : (k j : ℕ) (q : Part) → j ≡ k + 1 → (f k).first ≡ Some q → 0 < q.bound → (f j).second ≡ Some q
  pub begins : (k : ℕ) (q : Part) → (f k).first ≡ Some q → (q.bound < 1048576) × (1048576 * k + q.bound + 1048576 ≤ 281474976710656)

abbrev pub IsRadix : List (List (List Entry)) → Type 0
IsRadix t = AreEntries (entry_of t)
