-- Finite maps from names: what each name holds, in the order in which the names came.
use Rattle.std.specs.Prelude.{◌≡◌, if◌then◌else◌, List, [], ◌∷◌, Option, Some, None}
use Rattle.std.specs.Str.{bytes_eq}
use Rattle.mem_base.specs.Name.{Name}

abbrev pub Map : Type 0 → Type 0
Map V = List (Name × V)

-- what the name holds
abbrev pub find : {V : Type 0} → Map V → Name → Option V
find [] name = None
find (e ∷ m) name = if bytes_eq e.0 name then Some e.1 else find m name

-- the map, where the name holds this
abbrev pub put : {V : Type 0} → Map V → Name → V → Map V
put [] name v = (name, v) ∷ []
put (e ∷ m) name v = if bytes_eq e.0 name then (name, v) ∷ m else e ∷ put m name v

-- the map, where the name holds nothing
abbrev pub drop : {V : Type 0} → Map V → Name → Map V
drop [] name = []
drop (e ∷ m) name = if bytes_eq e.0 name then drop m name else e ∷ drop m name

-- the map, where the name holds this or nothing
abbrev pub hold : {V : Type 0} → Map V → Name → Option V → Map V
hold m name None = drop m name
hold m name (Some v) = put m name v

-- no name stands twice
abbrev pub AreDistinct : {V : Type 0} → Map V → Type 0
AreDistinct [] = Unit {0}
AreDistinct (e ∷ m) = (find m e.0 ≡ None) × AreDistinct m
