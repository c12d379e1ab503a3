-- Which sources a request asks, and which answers of theirs fit it.
use Rattle.std.specs.Prelude.{◌≡◌, ℕ, ◌≤◌, Bool, true, false, not, ◌&&◌, ◌||◌, List, [], ◌∷◌}
use Rattle.mem_base.specs.declared.history.Grant.{Grant}
use Rattle.mem_base.specs.declared.history.Grant.TheVariants.{NotAsked, Refused, Granted}
use Rattle.mem_base.specs.declared.history.Ask.{Ask}
use Rattle.mem_base.specs.declared.history.Ask.TheVariants as ask
use Rattle.layout_model.specs.Sizes.{is_small, class_of}
use Rattle.layout_model.specs.Layout.{Layout}
use Rattle.layout_model.specs.Place.{pools_of_class}

-- what an event asks for: m bytes of the pools, which hand on what is not small, m bytes of the raw source, or nothing
pub data Request : Type 0 where
  FromPools : (m : ℕ) → Request
  FromRaw : (m : ℕ) → Request
  NoRequest : Request

abbrev pub is_empty : {X : Type 0} → List X → Bool
is_empty [] = true
is_empty (x ∷ xs) = false

-- a block of class c asks for an arena: the class has no pool with a free block, and no arena has a free pool
abbrev pub class_asks : Layout → ℕ → Bool
class_asks l c = is_empty (pools_of_class l c) && is_empty l.usable

-- the request asks the arena source
abbrev pub asks_arena : Layout → Request → Bool
asks_arena l (FromPools m) = is_small m && class_asks l (class_of m)
asks_arena l (FromRaw m) = false
asks_arena l NoRequest = false

abbrev pub is_refused : Grant → Bool
is_refused NotAsked = false
is_refused Refused = true
is_refused (Granted pools) = false

-- the request asks the raw source, where the arena source gave this answer
abbrev pub asks_raw : Request → Grant → Bool
asks_raw (FromPools m) arena = not (is_small m) || is_refused arena
asks_raw (FromRaw m) arena = true
asks_raw NoRequest arena = false

-- an arena was asked for
abbrev pub was_asked : Grant → Bool
was_asked NotAsked = false
was_asked Refused = true
was_asked (Granted pools) = true

-- a raw region was asked for
abbrev pub raw_was_asked : Ask → Bool
raw_was_asked ask.NotAsked = false
raw_was_asked ask.Refused = true
raw_was_asked ask.Granted = true

-- a granted arena has 63 or 64 pools
abbrev pub HasPools : Grant → Type 0
HasPools NotAsked = Unit {0}
HasPools Refused = Unit {0}
HasPools (Granted pools) = (63 ≤ pools) × (pools ≤ 64)

-- an arena answer that fits a request for a block of class c
pub record FitsClass (l : Layout) (c : ℕ) (arena : Grant) : Type 0 where
  pub asked : was_asked arena ≡ class_asks l c
  pub pools : HasPools arena

-- answers that fit a request: each source was asked exactly where the request asks it
pub record FitsRequest (l : Layout) (r : Request) (arena : Grant) (raw : Ask) : Type 0 where
  pub arena_asked : was_asked arena ≡ asks_arena l r
  pub raw_asked : raw_was_asked raw ≡ asks_raw r arena
  pub pools : HasPools arena
