-- What is traced: what a call for a block means for it, and what the operations that ask about it answer.
use Rattle.std.specs.Prelude.{if◌then◌else◌, Option, Some, None}
use Rattle.mem_base.specs.Name.{Name}
use Rattle.mem_base.specs.Texts.{unknown}
use Rattle.frame_model.specs.Frames.{PlainFrame}
use Rattle.tracing_model.specs.Traces.{Key, of_block, TraceOf, trace_at}
use Rattle.tracing_model.specs.Tracing.{Tracing, Change, gets, keeps, peak, traced_now}
use Rattle.event_model.specs.Memory.{SizedCall}
use Rattle.event_model.specs.Replies.{PlainReply, ok, frames, is_ok, not_tracing, traced, untraced}

-- the frame of a track that has none
abbrev pub unknown_frame : PlainFrame
unknown_frame = record { file = unknown; line = 0 }

-- ---- what an event means

-- a change that only an operation that was done makes
abbrev pub where_ok : PlainReply → Change → Change
where_ok reply change = if is_ok reply then change else keeps

-- a call for a block: its name gets as many bytes as were asked for
abbrev pub sized_change : Name → SizedCall → Change
sized_change name call = gets (of_block name) call.size

-- ---- what is answered

-- whether a number is marked or unmarked
abbrev pub mark_answer : Option Tracing → PlainReply
mark_answer None = not_tracing
mark_answer (Some t) = ok

-- the bytes that are traced, and the most that were
abbrev pub traced_answer : Option Tracing → PlainReply
traced_answer tracing = traced (traced_now tracing) (peak tracing)

-- the trace under a key, where there is one
abbrev pub trace_in : Option Tracing → Key → Option TraceOf
trace_in None key = None
trace_in (Some t) key = trace_at t.traces key

-- the frames of a trace
abbrev pub trace_answer : Option TraceOf → PlainReply
trace_answer None = untraced
trace_answer (Some t) = frames t.frames t.total

-- the trace of the block of a name
abbrev pub origin_answer : Option Tracing → Name → PlainReply
origin_answer tracing name = trace_answer (trace_in tracing (of_block name))
