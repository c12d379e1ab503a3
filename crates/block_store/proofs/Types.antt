-- Short names of the types that lemmas on a store speak of.
use Rattle.std.proofs.Common.{ℕ, List, Option}
use Rattle.sources.specs.Source.{ArenaShape, SourceView}
use Rattle.debug_guard.specs.Guard.{Guard}

-- slots, each with a block or without
abbrev pub Slots : Type 0
Slots = List (Option Guard)

-- what is seen of an arena source
abbrev pub Arenas : Type 0
Arenas = SourceView ArenaShape

-- what is seen of a raw source
abbrev pub Raws : Type 0
Raws = SourceView ℕ
