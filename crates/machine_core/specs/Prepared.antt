-- What is prepared for the trace of an operation's block before a source is asked, and what is made of it.
use Rattle.std.specs.Prelude.{◌≡◌, ◌⊎◌, ℕ, ◌<◌, ◌≤◌, Bool, true, false, List, length, slice_get}
use Rattle.std.specs.Prelude.{Option, Some, None, is_some}
use Rattle.mem_base.specs.Name.{Name}
use Rattle.mem_base.specs.declared.reply.Reply.{Reply}
use Rattle.mem_base.specs.declared.trace.Op.{Op}
use Rattle.frame_model.specs.Frames.{recent, total}
use Rattle.tracing_model.specs.Traces.{of_block}
use Rattle.tracing_model.specs.Tracing.{Change, gets, forgets, starts, stops, clears, resets, keeps}
use Rattle.mem_base.specs.Texts.{text_at}
use Rattle.request_model.specs.Decision.{max_size}
use Rattle.event_model.specs.Replies.{is_ok, ok, plain_reply}
use Rattle.event_model.specs.Effects.{change_of}
use Rattle.frame_stack.specs.Callers.{frames_of}
use Rattle.frame_stack.specs.Tracebacks.{unknown_frame}
use Rattle.trace_table.specs.Tracing.{TracingView, ChangesOne}
use Rattle.trace_table.specs.declared.key.TraceKey.TheVariants as keys
use Rattle.trace_table.specs.declared.key.TraceOf.{TraceOf as Stored}
use Rattle.machine_core.specs.Deeds.{deed_for}
use Rattle.machine_core.specs.declared.held.Held.{Held as Holding}
use Rattle.machine_core.specs.declared.traces.Prepared.{Prepared}
use Rattle.machine_core.specs.declared.traces.Prepared.TheVariants as prepared

-- ---- what is prepared

-- a trace of so many bytes by track t: the number of those of its frames that a trace keeps, and how many there
-- are in all
pub record IsTraceBy (now : Holding) (t size : ℕ) (of : Stored) : Type 0 where
  pub limit : ℕ
  pub limited : now.tracing.limit ≡ Some limit
  pub kept : slice_get now.callers.table of.trace.0
      ≡ Some (recent unknown_frame limit (frames_of now.callers t))
  pub counted : of.total ≡ total (frames_of now.callers t)
  pub sized : of.size ≡ size

-- nothing comes of the change: nothing is traced, or no block has so many bytes
abbrev pub ComesToNothing : Option ℕ → Change → Type 0
ComesToNothing limit (gets key size) = (limit ≡ None) ⊎ (max_size < size)
ComesToNothing limit (forgets key) = ⊥
ComesToNothing limit (starts n) = ⊥
ComesToNothing limit stops = ⊥
ComesToNothing limit clears = ⊥
ComesToNothing limit resets = ⊥
ComesToNothing limit keeps = Unit {0}

-- this is prepared for the change that an ok of track t makes
abbrev pub IsPreparedFor : List Name → Holding → ℕ → Prepared → Change → Type 0
IsPreparedFor texts now t (prepared.Gets name of) change =
    (change ≡ gets (of_block (text_at texts name)) of.size)
    × (name.0 < length now.store.blocks) × IsTraceBy now t of.size of
IsPreparedFor texts now t (prepared.Forgets name) change =
    (change ≡ forgets (of_block (text_at texts name))) × (name.0 < length now.store.blocks)
IsPreparedFor texts now t prepared.Nothing change = ComesToNothing now.tracing.limit change

-- this is prepared for an operation of track t
abbrev pub IsPrepared : ℕ → Op → Holding → Prepared → Type 0
IsPrepared t op now p = (texts : List Name) → IsPreparedFor texts now t p (change_of (deed_for texts op) ok)

-- there is memory for the trace that is to come
abbrev pub HasRoom : TracingView → Prepared → Type 0
HasRoom now (prepared.Gets name of) = (is_some now.limit ≡ true) × (1 ≤ now.spare)
HasRoom now (prepared.Forgets name) = Unit {0}
HasRoom now prepared.Nothing = Unit {0}

-- ---- what is made of it

-- where the operation answered ok, what was prepared is made of it; else all is as it was
abbrev pub MakesWhere : Bool → Prepared → TracingView → TracingView → Type 0
MakesWhere true (prepared.Gets name of) old new = ChangesOne (keys.Block name) (Some of) old new
MakesWhere true (prepared.Forgets name) old new = ChangesOne (keys.Block name) None old new
MakesWhere true prepared.Nothing old new = new ≡ old
MakesWhere false p old new = new ≡ old

-- the same by the reply, whatever its texts are
abbrev pub Makes : Prepared → Reply → TracingView → TracingView → Type 0
Makes p reply old new = (texts : List Name) → MakesWhere (is_ok (plain_reply texts reply)) p old new
