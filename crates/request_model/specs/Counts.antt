-- How many requests and refusals the answers of the sources are.
use Rattle.std.specs.Prelude.{ℕ, ◌+◌, List, [], ◌∷◌}
use Rattle.mem_base.specs.declared.trace.Side.{Side}
use Rattle.mem_base.specs.declared.trace.Side.TheVariants as side
use Rattle.mem_base.specs.declared.history.Entry.{Entry}
use Rattle.mem_base.specs.declared.history.Grant.{Grant}
use Rattle.mem_base.specs.declared.history.Grant.TheVariants as grant
use Rattle.mem_base.specs.declared.history.Ask.{Ask}
use Rattle.mem_base.specs.declared.history.Ask.TheVariants as ask

-- how many requests an answer of the raw source is to, and how many refusals it is
abbrev pub raw_asks : Ask → ℕ
raw_asks ask.NotAsked = 0
raw_asks ask.Refused = 1
raw_asks ask.Granted = 1

abbrev pub raw_refusals : Ask → ℕ
raw_refusals ask.NotAsked = 0
raw_refusals ask.Refused = 1
raw_refusals ask.Granted = 0

-- the same of an answer of the arena source
abbrev pub arena_asks : Grant → ℕ
arena_asks grant.NotAsked = 0
arena_asks grant.Refused = 1
arena_asks (grant.Granted pools) = 1

abbrev pub arena_refusals : Grant → ℕ
arena_refusals grant.NotAsked = 0
arena_refusals grant.Refused = 1
arena_refusals (grant.Granted pools) = 0

-- how many requests of a source an entry is
abbrev pub asks_in : Side → Entry → ℕ
asks_in side.Arena e = arena_asks e.arena
asks_in side.Raw e = raw_asks e.raw

-- how many refusals of a source
abbrev pub refusals_in : Side → Entry → ℕ
refusals_in side.Arena e = arena_refusals e.arena
refusals_in side.Raw e = raw_refusals e.raw

-- how many requests of a source a history made
abbrev pub asked_in : Side → List Entry → ℕ
asked_in side [] = 0
asked_in side (e ∷ es) = asks_in side e + asked_in side es

-- how many of them were refused
abbrev pub refused_in : Side → List Entry → ℕ
refused_in side [] = 0
refused_in side (e ∷ es) = refusals_in side e + refused_in side es
