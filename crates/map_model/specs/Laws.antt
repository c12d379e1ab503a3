-- Laws over finite maps from names.
use Rattle.std.specs.Prelude.{◌≡◌, ◌≢◌, ℕ, ◌+◌, sum_by, Option, None, Some}
use Rattle.mem_base.specs.Name.{Name}
use Rattle.map_model.specs.Map.{Map, find, hold, AreDistinct}

-- a name holds what it was given
abbrev pub HoldsWhatItGot : Type 0 → Type 0
HoldsWhatItGot V = (m : Map V) (name : Name) (v : Option V) → find (hold m name v) name ≡ v

-- each other name holds what it held
abbrev pub OthersHoldTheirs : Type 0 → Type 0
OthersHoldTheirs V = (m : Map V) (name other : Name) (v : Option V)
    → other ≢ name → find (hold m name v) other ≡ find m other

-- no name comes to stand twice
abbrev pub StaysDistinct : Type 0 → Type 0
StaysDistinct V = (m : Map V) (name : Name) (v : Option V) → AreDistinct m → AreDistinct (hold m name v)

-- a sum over the map changes by what the name held and holds
abbrev pub SumsChangeByOne : Type 0 → Type 0
SumsChangeByOne V = (f : Option V → ℕ) (m : Map V) (name : Name) (v : Option V)
    → f None ≡ 0 → AreDistinct m
    → sum_by (λ e. f (Some e.1)) (hold m name v) + f (find m name) ≡ sum_by (λ e. f (Some e.1)) m + f v
