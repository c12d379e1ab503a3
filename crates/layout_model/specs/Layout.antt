-- What a heap's pools and arenas hold.
use Rattle.std.specs.Prelude.{ℕ, List, [], ◌∷◌, replicate, Option, None}
use Rattle.layout_model.specs.declared.measures.TheConstants.{CLASSES}

-- an arena with free pools
pub record Usable : Type 0 where
  pub arena : ℕ
  pub total : ℕ
  pub free : ℕ

-- a pool with blocks in use and free blocks
pub record Used : Type 0 where
  pub pool : ℕ
  pub arena : ℕ
  pub live : ℕ

-- a pool without free blocks
pub record Full : Type 0 where
  pub class : ℕ
  pub arena : ℕ

-- Arenas are numbered from 1 in the order of being granted, pools from 0 in the order of being taken.
-- `usable` has the arenas with free pools, in the order in which they are asked for one.
-- `dry` has at each arena's number its total, if it is out and has no free pool.
-- `used` has the list of each class, in the order in which its pools are asked for a block.
-- `full` has at each pool's number what it is, if it is full: its length is the number of pools taken so far.
-- `given`, `back` and `most` count the arenas granted, given back, and out at once.
pub record Layout : Type 0 where
  pub usable : List Usable
  pub dry : List (Option ℕ)
  pub used : List (List Used)
  pub full : List (Option Full)
  pub given : ℕ
  pub back : ℕ
  pub most : ℕ

-- nothing is taken yet
abbrev pub empty_layout : Layout
empty_layout = record { usable = []; dry = None ∷ []; used = replicate CLASSES []; full = []; given = 0; back = 0; most = 0 }
