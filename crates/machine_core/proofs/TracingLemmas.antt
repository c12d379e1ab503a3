-- What the operations on frames and of tracing do.
use Rattle.std.proofs.Common.{◌≡◌, ℕ, ◌<◌, Bool, true, false, cond, List, [], length, map, slice_get, Option, Some}
use Rattle.std.proofs.Common.{None, refl, sym, ap, subst, ◌∙◌, arith, true≢false}
use Rattle.std.specs.Prelude.{IfNone, IfSome, unwrap_or}
use Rattle.std.specs.Option.{option_map}
use Rattle.std.proofs.lemmas.Option.{slice_get_within}
use Rattle.mem_base.specs.Name.{Name}
use Rattle.mem_base.specs.Texts.{IsTable}
use Rattle.mem_base.specs.declared.history.Ask.TheVariants as ask
use Rattle.mem_base.specs.declared.history.Grant.TheVariants as grant
use Rattle.mem_base.specs.declared.reply.Frame.{Frame}
use Rattle.mem_base.specs.declared.reply.Reply.{Reply}
use Rattle.mem_base.specs.declared.reply.Reply.TheVariants as replies
use Rattle.mem_base.specs.declared.texts.TextId.{TextId}
use Rattle.mem_base.specs.declared.trace.Op.{Op}
use Rattle.mem_base.specs.declared.trace.Op.TheVariants as ops
use Rattle.layout_model.specs.Asks.{FitsRequest}
use Rattle.layout_model.specs.Asks.Request.{NoRequest}
use Rattle.layout_model.specs.Layout.{Layout}
use Rattle.frame_model.specs.Frames.{PlainFrame, frames_below, frames_on, frames_with}
use Rattle.tracing_model.specs.Traces.{TraceOf, of_block, of_mark}
use Rattle.tracing_model.specs.Tracing.{Tracing, keeps, peak, traced_now}
use Rattle.mem_base.specs.Texts.{text_at}
use Rattle.event_model.specs.Effects.{change_of, effect, on_frames, request_of, tracing_after}
use Rattle.event_model.specs.Frames.{frames_at, with_call, with_line}
use Rattle.event_model.specs.Replies.{PlainReply, not_tracing, ok, traced, frames_of, is_fault, plain_reply}
use Rattle.event_model.specs.State.{Held}
use Rattle.event_model.specs.Tracing.{mark_answer, origin_answer, trace_answer, trace_in}
use Rattle.domain_api.specs.Domains.{not_asked}
use Rattle.frame_stack.specs.Callers.{frames_of as stack_of, with_frames}
use Rattle.frame_stack.specs.Tracebacks.{at_line}
use Rattle.trace_table.specs.Ranks.{AreRanks}
use Rattle.trace_table.specs.Traces.{trace_at, traced_bytes}
use Rattle.trace_table.specs.Tracing.{ChangesOne, IsIdle}
use Rattle.trace_table.specs.declared.key.TraceKey.TheVariants as keys
use Rattle.snap_store.specs.Stand.{SnapshotsStand}
use Rattle.trace_table.specs.declared.key.TraceOf.{TraceOf as Stored}
use Rattle.machine_core.specs.Acts.{Acts, HasEffect, left_by}
use Rattle.machine_core.specs.Deeds.{deed_for}
use Rattle.machine_core.specs.Held.{Holds, IsAsItWas, StandsFor}
use Rattle.machine_core.specs.Prepared.{IsTraceBy}
use Rattle.machine_core.specs.Traces.{TracesStand, trace_of}
use Rattle.machine_core.specs.declared.held.Held.{Held as Holding}
use Rattle.machine_core.proofs.FollowLemmas.{as_it_was_stands, follows, kept, unchanged}
use Rattle.machine_core.proofs.FrameLemmas.{below_named, call_named, line_named, stacks_change, trace_named}
use Rattle.machine_core.proofs.TraceLemmas.{clears_stand, forgets_stand, gets_stand, idle_forgets, idle_stands}
use Rattle.machine_core.proofs.TraceLemmas.{resets_stand, starts_stand, stops_stand}

-- no source is asked
pub nothing_asked : (l : Layout) → FitsRequest l NoRequest grant.NotAsked ask.NotAsked
nothing_asked l = record { arena_asked = refl; raw_asked = refl; pools = tt }

-- ---- calls, lines and returns

module _ (t : ℕ) (op : Op) (old new : Holding) where
  -- the frames of the track change, by number and by name
  frames_act : (o : Op) (f : List Frame → List Frame) (g : List Name → List PlainFrame → List PlainFrame)
      → ((texts : List Name) (h : Held) → effect h t (deed_for texts o) grant.NotAsked ask.NotAsked ≡ on_frames h t (g texts))
      → ((texts : List Name) (h : Held) → request_of h t (deed_for texts o) ≡ NoRequest)
      → ((texts : List Name) (r : PlainReply) → change_of (deed_for texts o) r ≡ keeps)
      → ((texts : List Name) (fs : List Frame) → frames_of texts (f fs) ≡ g texts (frames_of texts fs))
      → new ≡ record old { callers = with_frames old.callers t (f (stack_of old.callers t)) }
      → Acts t o old new not_asked replies.Ok
  frames_act o f g does none keep named is = kept t o old new not_asked replies.Ok keep (λ texts h names stands. record {
    held = subst (λ (x : Held × PlainReply). StandsFor texts new (left_by h x)) (sym (does texts h)) (record {
      blocks = subst (λ (n : Holding). Holds texts n.store.blocks h.blocks) (sym is) stands.blocks;
      layout = ap (λ (n : Holding). n.store.layout) is ∙ stands.layout;
      owner = ap (λ (n : Holding). n.owner) is ∙ stands.owner;
      files = ap (λ (n : Holding). n.callers.files) is ∙ stands.files;
      frames = stacks_change texts old.callers h.frames t f (g texts) stands.frames (named texts)
          ∙ ap (λ (n : Holding). map (frames_of texts) n.callers.frames) (sym is);
      traces = subst (λ (n : Holding). TracesStand texts n.callers.table n.tracing h.tracing) (sym is) stands.traces;
      ranks = subst (λ (n : Holding). IfSome n.ranks (AreRanks texts)) (sym is) stands.ranks;
      snapshots = subst (λ (n : Holding). SnapshotsStand texts n.callers.table n.snapshots h.snapshots) (sym is)
          stands.snapshots;
    });
    answer = sym (ap (λ (x : Held × PlainReply). x.1) (does texts h));
    fits = subst (λ (q : _). FitsRequest h.layout q grant.NotAsked ask.NotAsked) (sym (none texts h)) (nothing_asked h.layout);
  })

  pub enter_acts : (file : TextId) (line : ℕ) → op ≡ ops.Enter file line
      → new ≡ record old {
        callers = with_frames old.callers t
            (frames_with (stack_of old.callers t) (record { file = file; line = line }));
      }
      → Acts t op old new not_asked replies.Ok
  enter_acts file line is entered =
      subst (λ (o : Op). Acts t o old new not_asked replies.Ok) (sym is)
      (frames_act (ops.Enter file line) (λ fs. frames_with fs (record { file = file; line = line }))
      (λ texts. with_call (text_at texts file) line) (λ texts h. refl) (λ texts h. refl) (λ texts r. refl)
      (λ texts fs. call_named texts file line fs) entered)

  pub line_acts : (line : ℕ) → op ≡ ops.Line line
      → new ≡ record old { callers = with_frames old.callers t (frames_on (at_line line) (stack_of old.callers t)) }
      → Acts t op old new not_asked replies.Ok
  line_acts line is moved =
      subst (λ (o : Op). Acts t o old new not_asked replies.Ok) (sym is)
      (frames_act (ops.Line line) (frames_on (at_line line)) (λ texts. with_line line) (λ texts h. refl)
      (λ texts h. refl) (λ texts r. refl) (λ texts fs. line_named texts line fs) moved)

  pub leave_acts : op ≡ ops.Leave
      → new ≡ record old { callers = with_frames old.callers t (frames_below (stack_of old.callers t)) }
      → Acts t op old new not_asked replies.Ok
  leave_acts is left =
      subst (λ (o : Op). Acts t o old new not_asked replies.Ok) (sym is)
      (frames_act ops.Leave frames_below (λ texts. frames_below) (λ texts h. refl) (λ texts h. refl)
      (λ texts r. refl) (λ texts fs. below_named texts fs) left)

-- ---- what is traced

-- an operation that leaves all but what is traced
module _ (t : ℕ) (op : Op) (old mid new : Holding) (reply : Reply) (same : IsAsItWas old mid)
    (others : new ≡ record mid { tracing = new.tracing }) where
  stays : (h : Held) (b : Bool) → cond b h h ≡ h
  stays h true = refl
  stays h false = refl

  traces_act : (o : Op) → ((texts : List Name) → is_fault (plain_reply texts reply) ≡ false)
      → ((texts : List Name) (h : Held) → request_of h t (deed_for texts o) ≡ NoRequest)
      → ((texts : List Name) (h : Held) → StandsFor texts mid h
      → effect h t (deed_for texts o) grant.NotAsked ask.NotAsked ≡ (h, plain_reply texts reply))
      → ((texts : List Name) (g : Held) → IsTable texts → StandsFor texts mid g
      → TracesStand texts mid.callers.table new.tracing
      (tracing_after (frames_at g.frames t) (deed_for texts o) (plain_reply texts reply) g.tracing))
      → Acts t o old new not_asked reply
  traces_act o sound none does then_traced = λ texts h names stands.
      let before = as_it_was_stands texts old mid h same stands in
      let is = does texts h before in
      let e : HasEffect texts h t o not_asked mid reply = record {
        held = subst (λ (x : Held × PlainReply). StandsFor texts mid (left_by h x)) (sym is)
            (subst (StandsFor texts mid) (sym (stays h (is_fault (plain_reply texts reply)))) before);
        answer = sym (ap (λ (x : Held × PlainReply). x.1) is);
        fits = subst (λ (q : _). FitsRequest h.layout q grant.NotAsked ask.NotAsked) (sym (none texts h))
            (nothing_asked h.layout);
      } in
      follows texts h t o not_asked mid new reply e others
      (λ fell. absurd (true≢false (sym fell ∙ ap (λ (x : Held × PlainReply). is_fault x.1) is ∙ sound texts)))
      (λ g there. subst (λ (r : PlainReply). TracesStand texts mid.callers.table new.tracing
      (tracing_after (frames_at g.frames t) (deed_for texts o) r g.tracing))
      (sym (ap (λ (x : Held × PlainReply). x.1) is))
      (then_traced texts g names there))

-- tracing starts and stops, the traces are cleared and the peak is reset
module _ (t : ℕ) (op : Op) (old new : Holding) (others : new ≡ record old { tracing = new.tracing }) where
  changes : (o : Op) → op ≡ o → ((texts : List Name) (h : Held) → request_of h t (deed_for texts o) ≡ NoRequest)
      → ((texts : List Name) (h : Held) → StandsFor texts old h
      → effect h t (deed_for texts o) grant.NotAsked ask.NotAsked ≡ (h, ok))
      → ((texts : List Name) (g : Held) → IsTable texts → StandsFor texts old g
      → TracesStand texts old.callers.table new.tracing
      (tracing_after (frames_at g.frames t) (deed_for texts o) ok g.tracing))
      → Acts t op old new not_asked replies.Ok
  changes o is none does then_traced =
      subst (λ (p : Op). Acts t p old new not_asked replies.Ok) (sym is)
      (traces_act t op old old new replies.Ok (unchanged old) others o (λ texts. refl) none does then_traced)

  pub start_acts : (limit : ℕ) → op ≡ ops.Start limit
      → IfNone old.tracing.limit (new.tracing ≡ record old.tracing { limit = Some limit })
      → IfNone old.tracing.limit ((new.tracing.traces ≡ []) × (new.tracing.peak ≡ 0))
      → IfSome old.tracing.limit (λ n. new.tracing ≡ old.tracing) → Acts t op old new not_asked replies.Ok
  start_acts limit is begins nothing goes_on =
      changes (ops.Start limit) is (λ texts h. refl) (λ texts h stands. refl)
      (λ texts g names there. starts_stand texts old.callers.table (frames_at g.frames t) old.tracing new.tracing
      limit g.tracing there.traces begins nothing goes_on)

  pub stop_acts : op ≡ ops.Stop → IsIdle new.tracing → Acts t op old new not_asked replies.Ok
  stop_acts is idle =
      changes ops.Stop is (λ texts h. refl) (λ texts h stands. refl)
      (λ texts g names there. stops_stand texts old.callers.table (frames_at g.frames t) new.tracing g.tracing
      idle)

  pub clear_acts : op ≡ ops.Clear → new.tracing.limit ≡ old.tracing.limit → new.tracing.traces ≡ []
      → new.tracing.peak ≡ 0 → Acts t op old new not_asked replies.Ok
  clear_acts is limit empty nothing =
      changes ops.Clear is (λ texts h. refl) (λ texts h stands. refl)
      (λ texts g names there. clears_stand texts old.callers.table (frames_at g.frames t) old.tracing new.tracing
      g.tracing there.traces limit empty nothing)

  pub reset_acts : op ≡ ops.ResetPeak → new.tracing ≡ record old.tracing { peak = traced_bytes old.tracing.traces }
      → Acts t op old new not_asked replies.Ok
  reset_acts is reset =
      changes ops.ResetPeak is (λ texts h. refl) (λ texts h stands. refl)
      (λ texts g names there. resets_stand texts old.callers.table (frames_at g.frames t) old.tracing new.tracing
      g.tracing there.traces reset)

-- ---- what is asked about it

-- the bytes that are traced, and the peak
pub traced_acts : (t : ℕ) (op : Op) (old : Holding) (current most : ℕ) → op ≡ ops.Traced
    → (◌≡◌ {A = ℕ × ℕ} (current, most) (traced_bytes old.tracing.traces, old.tracing.peak))
    → Acts t op old old not_asked (replies.Traced current most)
traced_acts t op old current most is said =
    subst (λ (o : Op). Acts t o old old not_asked (replies.Traced current most)) (sym is)
    (kept t ops.Traced old old not_asked (replies.Traced current most) (λ texts r. refl)
    (λ texts h names stands.
    let now : current ≡ traced_now h.tracing = ap (λ (p : ℕ × ℕ). p.0) said ∙ stands.traces.bytes in
    let then_most : most ≡ peak h.tracing = ap (λ (p : ℕ × ℕ). p.1) said ∙ stands.traces.most in
    record { held = stands; answer = λ i. traced (now i) (then_most i); fits = nothing_asked h.layout }))

-- the reply for the trace of a block, by number and by name
pub origin_acts : (t : ℕ) (name : TextId) (old : Holding) (reply : Reply) → name.0 < length old.store.blocks
    → ((texts : List Name) → plain_reply texts reply ≡ trace_answer
    (option_map (trace_of texts old.callers.table) (trace_at old.tracing.traces (keys.Block name))))
    → Acts t (ops.Origin name) old old not_asked reply
origin_acts t name old reply known says =
    kept t (ops.Origin name) old old not_asked reply (λ texts r. refl) (λ texts h names stands.
    let here = stands.traces.each (keys.Block name) (omega (arith, known, stands.blocks.size)) in
    let answer : plain_reply texts reply ≡ origin_answer h.tracing (text_at texts name) =
    says texts ∙ sym (ap trace_answer here.named) in
    record {
      held = subst (StandsFor texts old) (sym (left_there h (trace_in h.tracing (of_block (text_at texts name))))) stands;
      answer = answer;
      fits = nothing_asked h.layout;
    })
  where
    left_there : (h : Held) (o : Option TraceOf) → left_by h (h, trace_answer o) ≡ h
    left_there h None = refl
    left_there h (Some x) = refl

-- a block has a trace, or none
pub origin_says : (texts : List Name) (table : List (List Frame)) (o : Option Stored) (of : Stored)
    (kept : List Frame) → Some of ≡ o → slice_get table of.trace.0 ≡ Some kept
    → plain_reply texts (replies.Frames kept of.total) ≡ trace_answer (option_map (trace_of texts table) o)
origin_says texts table o of kept is at =
    ap (λ (l : List Frame). plain_reply texts (replies.Frames l of.total))
    (sym (ap (λ (x : Option (List Frame)). unwrap_or x []) at))
    ∙ ap (λ (x : Option Stored). trace_answer (option_map (trace_of texts table) x)) is

pub origin_says_none : (texts : List Name) (table : List (List Frame)) (o : Option Stored) → None ≡ o
    → plain_reply texts replies.Untraced ≡ trace_answer (option_map (trace_of texts table) o)
origin_says_none texts table o is = ap (λ (x : Option Stored). trace_answer (option_map (trace_of texts table) x)) is

-- ---- marks

-- whether numbers are marked
mark_tells : (tracing : Option Tracing) (limit : ℕ) → option_map (λ (x : Tracing). x.limit) tracing ≡ Some limit
    → mark_answer tracing ≡ ok
mark_tells None limit is = absurd cc
mark_tells (Some x) limit is = refl

mark_tells_some : (tracing : Option Tracing) → (option_map (λ (x : Tracing). x.limit) tracing ≡ None → ⊥)
    → mark_answer tracing ≡ ok
mark_tells_some None some = absurd (some refl)
mark_tells_some (Some x) some = refl

mark_tells_none : (tracing : Option Tracing) → option_map (λ (x : Tracing). x.limit) tracing ≡ None
    → mark_answer tracing ≡ not_tracing
mark_tells_none None is = refl
mark_tells_none (Some x) is = absurd cc

module _ (t : ℕ) (old mid new : Holding) (domain number : ℕ) (same : IsAsItWas old mid) where
  -- a number gets a trace
  pub mark_acts : (size : ℕ) (of : Stored) → IsTraceBy mid t size of → new ≡ record mid { tracing = new.tracing }
      → ChangesOne (keys.Number domain number) (Some of) mid.tracing new.tracing
      → Acts t (ops.Mark domain number size) old new not_asked replies.Ok
  mark_acts size of by others change =
      traces_act t (ops.Mark domain number size) old mid new replies.Ok same others (ops.Mark domain number size)
      (λ texts. refl) (λ texts h. refl)
      (λ texts h stands. ap (λ (r : PlainReply). (h, r)) (mark_tells h.tracing by.limit (sym stands.traces.limit ∙ by.limited)))
      (λ texts g names there. gets_stand texts mid.callers.table mid.tracing new.tracing (keys.Number domain number)
      (frames_at g.frames t) names.distinct tt g.tracing by.limit size of
      there.traces by.limited change (slice_get_within mid.callers.table of.trace.0 _ by.kept)
      (trace_named texts names mid g.frames there.frames t size of by))

  -- nothing is traced
  pub mark_idle : (size : ℕ) → mid.tracing.limit ≡ None → new ≡ mid
      → Acts t (ops.Mark domain number size) old new not_asked replies.NotTracing
  mark_idle size none is =
      subst (λ (n : Holding). Acts t (ops.Mark domain number size) old n not_asked replies.NotTracing) (sym is)
      (traces_act t (ops.Mark domain number size) old mid mid replies.NotTracing same refl
      (ops.Mark domain number size) (λ texts. refl) (λ texts h. refl)
      (λ texts h stands. ap (λ (r : PlainReply). (h, r)) (mark_tells_none h.tracing (sym stands.traces.limit ∙ none)))
      (λ texts g names there. idle_stands texts mid.callers.table mid.tracing (frames_at g.frames t)
      (of_mark domain number) size g.tracing there.traces none))

  -- a number loses its trace
  pub unmark_acts : (mid.tracing.limit ≡ None → ⊥) → new ≡ record mid { tracing = new.tracing }
      → ChangesOne (keys.Number domain number) None mid.tracing new.tracing
      → Acts t (ops.Unmark domain number) old new not_asked replies.Ok
  unmark_acts tracing others change =
      traces_act t (ops.Unmark domain number) old mid new replies.Ok same others (ops.Unmark domain number)
      (λ texts. refl) (λ texts h. refl)
      (λ texts h stands. ap (λ (r : PlainReply). (h, r))
      (mark_tells_some h.tracing (λ none. tracing (stands.traces.limit ∙ none))))
      (λ texts g names there. forgets_stand texts mid.callers.table mid.tracing new.tracing
      (keys.Number domain number) (frames_at g.frames t) names.distinct tt g.tracing there.traces change)

  pub unmark_idle : mid.tracing.limit ≡ None → new ≡ mid → Acts t (ops.Unmark domain number) old new not_asked replies.NotTracing
  unmark_idle none is =
      subst (λ (n : Holding). Acts t (ops.Unmark domain number) old n not_asked replies.NotTracing) (sym is)
      (traces_act t (ops.Unmark domain number) old mid mid replies.NotTracing same refl (ops.Unmark domain number)
      (λ texts. refl) (λ texts h. refl)
      (λ texts h stands. ap (λ (r : PlainReply). (h, r)) (mark_tells_none h.tracing (sym stands.traces.limit ∙ none)))
      (λ texts g names there. idle_forgets texts mid.callers.table mid.tracing (frames_at g.frames t)
      (of_mark domain number) g.tracing there.traces none))
