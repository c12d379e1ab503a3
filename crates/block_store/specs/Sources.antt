-- What the calls of a store ask of the memory sources, and what regions come and go.
use Rattle.std.specs.Prelude.{◌≡◌, ℕ, ◌+◌, ◌^◌, ◌<◌, ◌≤◌, List, length}
use Rattle.extents.specs.Extent.{Extent}
use Rattle.request_model.specs.Counts.{arena_asks, arena_refusals, raw_asks, raw_refusals}
use Rattle.sources.specs.Holder.{Answered, AskedAtMostOnce, AskedNothing, AskedUnrefused, Traded}
use Rattle.sources.specs.Source.{ArenaShape, SourceView}
use Rattle.domain_api.specs.Held.{AreOut}
use Rattle.domain_api.specs.declared.answers.Asked.{Asked}
use Rattle.block_store.specs.Store.{StoreView}

-- the arenas and the raw regions of the store are out at the sources, in windows that do not meet
abbrev pub AreHeld : StoreView → SourceView ArenaShape → SourceView ℕ → Type 0
AreHeld s arenas raws = AreOut s.arenas s.raws arenas raws

-- each source can be asked once more, and few enough arenas were granted and pools taken to number one more
pub record CanAsk (s : StoreView) (arenas : SourceView ArenaShape) (raws : SourceView ℕ) : Type 0 where
  pub arena : arenas.asked < 2 ^ 63
  pub raw : raws.asked < 2 ^ 63
  pub few_arenas : s.layout.given + 1 < 2 ^ 32
  pub few_pools : length s.layout.full < 2 ^ 63

-- where the arena source refused, the raw source was asked
abbrev pub IsPassedOn : SourceView ArenaShape → SourceView ArenaShape → SourceView ℕ → SourceView ℕ → Type 0
IsPassedOn arenas arenas_then raws raws_then =
    arenas_then.refused + raws.asked ≤ arenas.refused + raws_then.asked

module _ {S : Type 0} where
  -- a source answered so many requests with so many refusals, and regions came or went
  pub record Serves (asks refusals : ℕ) (held held_then : List Extent) (old new : SourceView S) : Type 0 where
    pub answered : Answered asks refusals old new
    pub plan : new.plan ≡ old.plan
    pub traded : Traded held held_then old new

  -- a source was not asked, and regions at most went back
  pub record Rests (held held_then : List Extent) (old new : SourceView S) : Type 0 where
    pub nothing : AskedNothing old new
    pub traded : Traded held held_then old new

  -- memory ran out: the source was asked once at most, and what it granted has gone back
  pub record Fails (held : List Extent) (old new : SourceView S) : Type 0 where
    pub once : AskedAtMostOnce old new
    pub traded : Traded held held old new

  -- memory ran out, though the source refused nothing
  pub record FailsUnrefused (held : List Extent) (old new : SourceView S) : Type 0 where
    pub once : AskedUnrefused old new
    pub traded : Traded held held old new

-- the arena source gave this answer, and arenas came or went
abbrev pub ArenasServe : Asked → StoreView → StoreView → SourceView ArenaShape → SourceView ArenaShape → Type 0
ArenasServe asked old new = Serves (arena_asks asked.arena) (arena_refusals asked.arena) old.arenas new.arenas

-- the raw source gave this answer, and raw regions came or went
abbrev pub RawsServe : Asked → StoreView → StoreView → SourceView ℕ → SourceView ℕ → Type 0
RawsServe asked old new = Serves (raw_asks asked.raw) (raw_refusals asked.raw) old.raws new.raws
