-- What an operation does to what is held, and asks of the sources.
use Rattle.std.specs.Prelude.{◌≡◌, ℕ, ◌+◌, ◌<◌, true, if◌then◌else◌, List, length, Some, is_some, IfSome}
use Rattle.mem_base.specs.Name.{Name}
use Rattle.mem_base.specs.Plan.{plan_with}
use Rattle.mem_base.specs.Texts.{IsTable}
use Rattle.mem_base.specs.declared.reply.Reply.{Reply}
use Rattle.mem_base.specs.declared.texts.TextId.{TextId}
use Rattle.mem_base.specs.declared.trace.Op.{Op}
use Rattle.mem_base.specs.declared.trace.Side.{Side}
use Rattle.mem_base.specs.declared.trace.Side.TheVariants as sides
use Rattle.trace_model.specs.Plain.{action_of}
use Rattle.layout_model.specs.Asks.{FitsRequest}
use Rattle.event_model.specs.Effects.{act, effect, request_of}
use Rattle.event_model.specs.Plans.{GrowsBy, lists}
use Rattle.event_model.specs.Replies.{PlainReply, is_fault, plain_reply}
use Rattle.event_model.specs.State.{Held}
use Rattle.extents.specs.Extent.{Extent}
use Rattle.sources.specs.Holder.{Answered, Traded}
use Rattle.request_model.specs.Counts.{arena_asks, arena_refusals, raw_asks, raw_refusals}
use Rattle.sources.specs.Source.{ArenaShape, SourceView}
use Rattle.domain_api.specs.declared.answers.Asked.{Asked}
use Rattle.trace_table.specs.Traces.{trace_at}
use Rattle.trace_table.specs.Plain.{IsKnownKey}
use Rattle.trace_table.specs.Ranks.{AreRanks}
use Rattle.trace_table.specs.declared.key.TraceKey.{TraceKey}
use Rattle.trace_table.specs.declared.key.TraceKey.TheVariants as keys
use Rattle.snap_store.specs.Stand.{AreStored}
pub use Rattle.block_store.specs.Sources.{Fails, FailsUnrefused}
use Rattle.machine_core.specs.Deeds.{deed_for}
use Rattle.machine_core.specs.Held.{StandsFor}
use Rattle.machine_core.specs.Traces.{IsNumbered}
use Rattle.machine_core.specs.declared.held.Held.{Held as Holding}

-- ---- what is held

-- what an operation left: after a fault all is as it was
abbrev pub left_by : Held → Held × PlainReply → Held
left_by h r = if is_fault r.1 then h else r.0

-- an operation of track t came to this: what is held and the reply are those, and the answers fit what it asks
-- for
pub record CameTo (texts : List Name) (h : Held) (t : ℕ) (op : Op) (asked : Asked) (r : Held × PlainReply)
    (new : Holding) (reply : Reply) : Type 0 where
  pub held : StandsFor texts new (left_by h r)
  pub answer : plain_reply texts reply ≡ r.1
  pub fits : FitsRequest h.layout (request_of h t (deed_for texts op)) asked.arena asked.raw

-- the operation was done, as the definitions say
abbrev pub Done : List Name → Held → ℕ → Op → Asked → Holding → Reply → Type 0
Done texts h t op asked =
    CameTo texts h t op asked (act h t (deed_for texts op) asked.arena asked.raw)

-- it was done but for what is traced
abbrev pub HasEffect : List Name → Held → ℕ → Op → Asked → Holding → Reply → Type 0
HasEffect texts h t op asked =
    CameTo texts h t op asked (effect h t (deed_for texts op) asked.arena asked.raw)

-- whatever is held by name, the operation of track t was done to it, with these answers of the sources: where
-- the texts are these, and whatever they are
abbrev pub ActsAmong : List Name → ℕ → Op → Holding → Holding → Asked → Reply → Type 0
ActsAmong texts t op old new asked reply =
    (h : Held) → IsTable texts → StandsFor texts old h → Done texts h t op asked new reply

abbrev pub Acts : ℕ → Op → Holding → Holding → Asked → Reply → Type 0
Acts t op old new asked reply = (texts : List Name) → ActsAmong texts t op old new asked reply

-- the same, but for what is traced
abbrev pub AffectsAmong : List Name → ℕ → Op → Holding → Holding → Asked → Reply → Type 0
AffectsAmong texts t op old new asked reply =
    (h : Held) → IsTable texts → StandsFor texts old h → HasEffect texts h t op asked new reply

abbrev pub Affects : ℕ → Op → Holding → Holding → Asked → Reply → Type 0
Affects t op old new asked reply = (texts : List Name) → AffectsAmong texts t op old new asked reply

-- there is a block or none for each text, the files of frames are of them, the tracebacks of all traces, of which
-- each has a key that is known, and of the rows of snapshots have numbers, and the ranks are those of the texts
pub record IsSound (texts : List Name) (now : Holding) : Type 0 where
  pub blocks : length now.store.blocks ≡ length texts
  pub files : now.callers.files ≡ length now.store.blocks
  pub numbered : (name : TextId) → name.0 < length now.store.blocks
      → IsNumbered now.callers.table (trace_at now.tracing.traces (keys.Block name))
  pub known : (key : TraceKey) → is_some (trace_at now.tracing.traces key) ≡ true → IsKnownKey (length texts) key
  pub stored : AreStored now.callers.table now.snapshots
  pub ranks : IfSome now.ranks (AreRanks texts)

-- ---- the sources

module _ {S : Type 0} where
  -- what a source answered: its counts say so, its plan grew by what the operation lists, and regions came or
  -- went
  pub record Asks (op : Op) (side : Side) (asks refusals : ℕ) (held held_then : List Extent)
      (old new : SourceView S) : Type 0 where
    pub answered : Answered asks refusals old new
    pub plan : (texts : List Name)
        → GrowsBy (lists side old.asked (Some (action_of texts op))) old.plan new.plan
    pub traded : Traded held held_then old new

  -- the source, asked to refuse the k-th request from now
  abbrev pub told : ℕ → SourceView S → SourceView S
  told k seen = record seen { plan = plan_with (seen.asked + k) seen.plan }

  -- the source of the first side, where the source of the second is asked so
  abbrev pub told_where : Side → Side → ℕ → SourceView S → SourceView S
  told_where sides.Arena sides.Arena k seen = told k seen
  told_where sides.Arena sides.Raw k seen = seen
  told_where sides.Raw sides.Arena k seen = seen
  told_where sides.Raw sides.Raw k seen = told k seen

-- what the arena source was asked in an operation, by its answer
abbrev pub AsksArenas : Op → Asked → Holding → Holding → SourceView ArenaShape → SourceView ArenaShape → Type 0
AsksArenas op asked old new =
    Asks op sides.Arena (arena_asks asked.arena) (arena_refusals asked.arena) old.store.arenas new.store.arenas

-- what the raw source was asked
abbrev pub AsksRaws : Op → Asked → Holding → Holding → SourceView ℕ → SourceView ℕ → Type 0
AsksRaws op asked old new =
    Asks op sides.Raw (raw_asks asked.raw) (raw_refusals asked.raw) old.store.raws new.store.raws
