-- What the domains hold of the sources.
use Rattle.std.specs.Prelude.{◌≡◌, ◌⊎◌, ℕ, ◌+◌, ◌^◌, ◌<◌, ◌≤◌, List, length}
use Rattle.mem_base.specs.declared.reply.Counts.{Counts}
use Rattle.request_model.specs.Counts.{arena_asks, arena_refusals, raw_asks, raw_refusals}
use Rattle.extents.specs.Extent.{Extent, Window, AreApart, AreDisjoint, LiesIn}
use Rattle.extents.specs.Sums.{AllIn, Has}
use Rattle.sources.specs.Source.{ArenaShape, SourceView}
use Rattle.sources.specs.Holder.{Answered, AskedAtMostOnce, AskedNothing, AskedUnrefused, Traded}
use Rattle.py_heap.specs.Heap.{HeapView, IsHeap, regions_of}
use Rattle.domain_api.specs.declared.answers.Asked.{Asked}

-- the domains: the heap of small blocks, and the raw regions that they hold, each of which is a block
pub record DomainsView : Type 0 where
  pub heap : HeapView
  pub raws : List Extent

-- each of the extents lies in the window
abbrev pub AllWithin : List Extent → Window → Type 0
AllWithin es w = (e : Extent) → Has e es → LiesIn e w

-- these arenas and these raw regions are out at the sources, in their windows, which do not meet
pub record AreOut (held_arenas held_raws : List Extent) (arenas : SourceView ArenaShape) (raws : SourceView ℕ)
    : Type 0 where
  pub arenas_out : AllIn held_arenas arenas.out
  pub arenas_in : AllWithin held_arenas arenas.window
  pub raws_out : AllIn held_raws raws.out
  pub raws_in : AllWithin held_raws raws.window
  pub windows : AreDisjoint arenas.window raws.window

-- what the domains hold is out at the sources
abbrev pub AreHeld : DomainsView → SourceView ArenaShape → SourceView ℕ → Type 0
AreHeld d arenas raws = AreOut (regions_of d.heap) d.raws arenas raws

-- the extent is a block of one of the two heaps
abbrev pub IsLoan : Extent → DomainsView → Type 0
IsLoan e d = Has e d.heap.loans ⊎ Has e d.raws

-- what always holds of the two heaps, as callers see it
pub record AreSound (heap : HeapView) (raws : List Extent) : Type 0 where
  pub heap_is : IsHeap heap
  pub raws_apart : AreApart raws

-- few enough arenas were granted and pools taken so far to number one more
pub record FewTaken (d : DomainsView) : Type 0 where
  pub arenas : d.heap.layout.given + 1 < 2 ^ 32
  pub pools : length d.heap.layout.full < 2 ^ 63

-- what the sources were asked in a call, and answered
pub record AreAnswered (asked : Asked)
    (arenas arenas_then : SourceView ArenaShape) (raws raws_then : SourceView ℕ) : Type 0 where
  pub arena : Answered (arena_asks asked.arena) (arena_refusals asked.arena) arenas arenas_then
  pub raw : Answered (raw_asks asked.raw) (raw_refusals asked.raw) raws raws_then

-- the plans of the sources are as before
pub record SamePlans
    (arenas arenas_then : SourceView ArenaShape) (raws raws_then : SourceView ℕ) : Type 0 where
  pub arena : arenas_then.plan ≡ arenas.plan
  pub raw : raws_then.plan ≡ raws.plan

-- the domains traded regions with the sources, and nothing else came or went
pub record AreTraded (old new : DomainsView)
    (arenas arenas_then : SourceView ArenaShape) (raws raws_then : SourceView ℕ) : Type 0 where
  pub arena : Traded (regions_of old.heap) (regions_of new.heap) arenas arenas_then
  pub raw : Traded old.raws new.raws raws raws_then

-- Where there was no memory: each source was asked at most once, the raw source did not refuse, and it was asked
-- where the arena source refused.
pub record AreAskedOnce
    (arenas arenas_then : SourceView ArenaShape) (raws raws_then : SourceView ℕ) : Type 0 where
  pub arena : AskedAtMostOnce arenas arenas_then
  pub raw : AskedUnrefused raws raws_then
  pub passed : arena.refusals ≤ raw.asks

-- no source was asked
pub record AreAskedNothing
    (arenas arenas_then : SourceView ArenaShape) (raws raws_then : SourceView ℕ) : Type 0 where
  pub arena : AskedNothing arenas arenas_then
  pub raw : AskedNothing raws raws_then

-- each source can be asked once more, and few enough arenas and pools were taken to number one more
pub record CanAsk (d : DomainsView) (arenas : SourceView ArenaShape) (raws : SourceView ℕ) : Type 0 where
  pub arena : arenas.asked < 2 ^ 63
  pub raw : raws.asked < 2 ^ 63
  pub few : FewTaken d

-- how many arenas were granted, given back and out at most, and how many blocks lie in them
pub record HasCounts (d : DomainsView) (c : Counts) : Type 0 where
  pub given : c.given ≡ d.heap.layout.given
  pub back : c.back ≡ d.heap.layout.back
  pub most : c.most ≡ d.heap.layout.most
  pub out : c.out ≡ length (regions_of d.heap)
  pub pooled : c.pooled ≡ length d.heap.loans
