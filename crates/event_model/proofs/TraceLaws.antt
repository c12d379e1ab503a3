-- When each trace under a block's name belongs to a live block of that name, and has its number of data bytes.
use Rattle.std.proofs.Common.{◌≡◌, ◌≢◌, ℕ, ◌+◌, ◌-◌, ◌≤◌, ℤ, Bool, true, false, cond, List, ◌++◌, length}
use Rattle.std.proofs.Common.{replicate, take, drop, Option, Some, None, refl, sym, ap, subst, ◌∙◌, inl, inr}
use Rattle.std.proofs.Common.{◌⊎◌, arith}
use Rattle.std.proofs.Common.{true≢false}
use Rattle.std.specs.Str.{bytes_eq}
use Rattle.std.proofs.lemmas.Bool.{leb-true}
use Rattle.std.proofs.lemmas.Grind.{common_steps}
use Rattle.std.proofs.lemmas.Slice.Eq.{bytes_eq-Decides}
use Rattle.mem_base.specs.Name.{Name}
use Rattle.mem_base.specs.declared.history.Grant.{Grant}
use Rattle.mem_base.specs.declared.history.Ask.{Ask}
use Rattle.mem_base.specs.declared.reply.Fault.{Fault}
use Rattle.mem_base.specs.declared.trace.Letter.{Letter}
use Rattle.block_model.specs.Block.{Body, data_of, fresh, index_of, poked, reaches, resized, size_of}
use Rattle.block_model.proofs.CallerLemmas.{size-body_of}
use Rattle.frame_model.specs.Frames.{PlainFrame}
use Rattle.layout_model.specs.Layout.{Layout}
use Rattle.map_model.specs.Map.{find, hold}
use Rattle.map_model.proofs.CallerLemmas.{find-hold_again, find-hold_other, find-hold_same}
use Rattle.tracing_model.specs.Traces.{of_block, of_mark, TraceOf, trace_at, traces_with}
use Rattle.tracing_model.specs.Tracing.{Tracing, Change, gets, forgets, starts, stops, clears, resets, keeps}
use Rattle.tracing_model.specs.Tracing.{after, trace_of}
use Rattle.tracing_model.proofs.CallerLemmas.{gone_at, gone_other, got_at, got_other}
use Rattle.event_model.specs.Blocks.{Block, Blocks}
use Rattle.event_model.specs.Deeds.{Deed, reads_bytes, writes_bytes}
use Rattle.event_model.specs.Effects.{act, change_of, effect}
use Rattle.event_model.specs.Frames.{frames_at}
use Rattle.event_model.specs.Memory.{SizedCall, Turn, free_unless, given_body, poke_turn, sized_turn, turn_to}
use Rattle.event_model.specs.Replies.{PlainReply, ok, outside, is_ok}
use Rattle.event_model.specs.State.{Held, is_owner}
use Rattle.event_model.specs.Tracing.{sized_change, trace_in, unknown_frame, where_ok}
use Rattle.event_model.proofs.KeepLaws.{free_held, free_keeps, peek_keeps, sized_gives, sized_keeps}

-- a block is held, with so many bytes of data
abbrev pub HoldsSize : ℕ → Option Block → Type 0
HoldsSize size o = (block : Block) × (o ≡ Some block) × (size_of block.body ≡ size)

-- each trace under a name is of the block that the name holds
abbrev pub AreOf : Blocks → Option Tracing → Type 0
AreOf blocks tracing =
    (name : Name) (t : TraceOf) → trace_in tracing (of_block name) ≡ Some t → HoldsSize t.size (find blocks name)

-- the same of all that is held
abbrev pub AreIn : Held → Type 0
AreIn h = AreOf h.blocks h.tracing

-- ---- names

pub same_or_other : (a b : Name) → (a ≡ b) ⊎ (a ≢ b)
same_or_other a b = by (bytes_eq a b) refl
  where
    by : (v : Bool) → bytes_eq a b ≡ v → (a ≡ b) ⊎ (a ≢ b)
    by true e = inl ((bytes_eq-Decides a b).0 e)
    by false e = inr (λ same. true≢false (sym ((bytes_eq-Decides a b).1 same) ∙ e))

other_block : (a b : Name) → a ≢ b → of_block a ≢ of_block b
other_block a b away = λ keys. let same : a ≡ b = cc in away same

no_mark : (name : Name) (domain number : ℕ) → of_block name ≢ of_mark domain number
no_mark name domain number = λ keys. absurd cc

-- ---- what becomes of traces

-- each trace under a name was there before
abbrev Fewer : Option Tracing → Option Tracing → Type 0
Fewer old new =
    (name : Name) (t : TraceOf) → trace_in new (of_block name) ≡ Some t → trace_in old (of_block name) ≡ Some t

-- the event gives no name a trace
abbrev pub gives_none : Change → Bool
gives_none (gets (of_block name) size) = false
gives_none (gets (of_mark domain number) size) = true
gives_none (forgets key) = true
gives_none (starts limit) = true
gives_none stops = true
gives_none clears = true
gives_none resets = true
gives_none keeps = true

-- a name that holds a block of some size holds one of that size still
abbrev pub SizesStay : Blocks → Blocks → Type 0
SizesStay old new = (name : Name) (size : ℕ) → HoldsSize size (find old name) → HoldsSize size (find new name)

same_sizes : (old new : Blocks) → ((name : Name) → find new name ≡ find old name) → SizesStay old new
same_sizes old new same = λ name size here. (here.0, same name ∙ here.1, here.2)

module _ (unknown : PlainFrame) (fs : List PlainFrame) where
  forgotten : (name : Name) (tracing : Option Tracing)
      → trace_in (after unknown fs (forgets (of_block name)) tracing) (of_block name) ≡ None
  forgotten name None = refl
  forgotten name (Some tracing) = gone_at tracing.traces (of_block name)

  -- the trace of a name that is the one forgotten
  not_forgotten : (name mine : Name) (tracing : Option Tracing) (t : TraceOf) → mine ≡ name
      → trace_in (after unknown fs (forgets (of_block name)) tracing) (of_block mine) ≡ Some t → ⊥
  not_forgotten name mine tracing t same is =
      let left = after unknown fs (forgets (of_block name)) tracing in
      let gone : None ≡ Some t =
      sym (ap (λ (n : Name). trace_in left (of_block n)) same ∙ forgotten name tracing) ∙ is in
      absurd cc

  fewer_after : (change : Change) (tracing : Option Tracing)
      → gives_none change ≡ true → Fewer tracing (after unknown fs change tracing)
  fewer_after (gets (of_block mine) size) tracing none = absurd (true≢false (sym none))
  fewer_after (gets (of_mark domain number) size) None none = λ name t is. is
  fewer_after (gets (of_mark domain number) size) (Some tracing) none = λ name t is.
      let new = trace_of unknown tracing.limit fs size in
      sym (got_other tracing.traces (of_mark domain number) (of_block name) new (no_mark name domain number)) ∙ is
  fewer_after (forgets key) None none = λ name t is. is
  fewer_after (forgets (of_mark domain number)) (Some tracing) none = λ name t is.
      sym (gone_other tracing.traces (of_mark domain number) (of_block name) (no_mark name domain number)) ∙ is
  fewer_after (forgets (of_block mine)) (Some tracing) none = λ name t is.
      elim (same_or_other name mine) [
        | inl same ↦ absurd (not_forgotten mine name (Some tracing) t same is)
        | inr away ↦ sym (gone_other tracing.traces (of_block mine) (of_block name) (other_block name mine away)) ∙ is
      ]
  fewer_after (starts limit) None none = λ name t is. absurd cc
  fewer_after (starts limit) (Some tracing) none = λ name t is. is
  fewer_after stops tracing none = λ name t is. absurd cc
  fewer_after clears None none = λ name t is. is
  fewer_after clears (Some tracing) none = λ name t is. absurd cc
  fewer_after resets None none = λ name t is. is
  fewer_after resets (Some tracing) none = λ name t is. is
  fewer_after keeps None none = λ name t is. is
  fewer_after keeps (Some tracing) none = λ name t is. is

  are_still : (old new : Blocks) (change : Change) (tracing : Option Tracing)
      → gives_none change ≡ true → AreOf old tracing → SizesStay old new → AreOf new (after unknown fs change tracing)
  are_still old new change tracing none are stay = λ name t is.
      stay name t.size (are name t (fewer_after change tracing none name t is))

  -- a name that comes to hold a block gets a trace of its size
  are_given : (blocks : Blocks) (tracing : Option Tracing) (name : Name) (block : Block) (size : ℕ)
      → size_of block.body ≡ size → AreOf blocks tracing
      → AreOf (hold blocks name (Some block)) (after unknown fs (gets (of_block name) size) tracing)
  are_given blocks None name block size has are = λ mine t is. absurd cc
  are_given blocks (Some tracing) name block size has are = λ mine t is.
      let key = of_block name in
      let new = trace_of unknown tracing.limit fs size in
      elim (same_or_other mine name) [
        | inl same ↦
            let traces = traces_with tracing.traces key new in
            let got : Some new ≡ Some t =
            sym (got_at tracing.traces key new) ∙ ap (λ (n : Name). trace_at traces (of_block n)) (sym same) ∙ is in
            let trace : new ≡ t = cc in (
              block,
              ap (find (hold blocks name (Some block))) same ∙ find-hold_same blocks name (Some block),
              has ∙ ap (λ (x : TraceOf). x.size) trace,
            )
        | inr away ↦
            let kept = got_other tracing.traces key (of_block mine) new (other_block mine name away) in
            let before = are mine t (sym kept ∙ is) in
            (before.0, find-hold_other blocks name mine (Some block) away ∙ before.1, before.2)
      ]

  -- a name that holds nothing any more has no trace
  are_freed : (blocks : Blocks) (tracing : Option Tracing) (name : Name) → AreOf blocks tracing
      → AreOf (hold blocks name None) (after unknown fs (forgets (of_block name)) tracing)
  are_freed blocks tracing name are = λ mine t is.
      elim (same_or_other mine name) [
        | inl same ↦ absurd (not_forgotten name mine tracing t same is)
        | inr away ↦
            let before = are mine t (fewer_after (forgets (of_block name)) tracing refl mine t is) in
            (before.0, find-hold_other blocks name mine None away ∙ before.1, before.2)
      ]

-- ---- sizes

size-fresh : (v : Letter) (n b : ℕ) → size_of (fresh v n b) ≡ n
size-fresh v n b = size-body_of v (replicate n b) ∙ grind (arith, common_steps)

length-data : (body : Body) → length (data_of body) ≡ size_of body
length-data body = grind (arith, common_steps)

size-kept : (v : Letter) (n b : ℕ) (body : Body) → size_of (resized v n b body) ≡ n
size-kept v n b body =
    let kept = length-data body in
    size-body_of v (take n (data_of body) ++ replicate (n - size_of body) b) ∙ grind (arith, common_steps)

size-given : (call : SizedCall) (now : Option Block) → size_of (given_body call now) ≡ call.size
size-given call None = size-fresh call.letter call.size call.fill
size-given call (Some block) = size-kept call.letter call.size call.fill block.body

size-poked : (body : Body) (offset : ℤ) (new : List ℕ)
    → reaches body offset (length new) ≡ true → size_of (poked body offset new) ≡ size_of body
size-poked body offset new within =
    let at = index_of offset in
    let behind = at + length new in
    let fits : behind ≤ length body = leb-true behind (length body) within in
    let front : length (take at body) ≡ at = grind (arith, common_steps) in
    let back : length (drop behind body) ≡ length body - behind = grind (arith, common_steps) in
    let all : length (poked body offset new) ≡ length body = grind (arith, common_steps) in
    ap (λ (n : ℕ). n - 16) all

poke_size : (offset : ℤ) (new : List ℕ) (l : Layout) (now : Option Block) (size : ℕ)
    → HoldsSize size now → HoldsSize size (poke_turn offset new l now).block
poke_size offset new l None size here = here
poke_size offset new l (Some block) size here = by (reaches block.body offset (length new)) refl
  where
    after_it : Block
    after_it = record block { body = poked block.body offset new }

    turn : Bool → Turn
    turn b = cond b (turn_to (Some after_it) l ok) (turn_to (Some block) l outside)

    by : (b : Bool) → reaches block.body offset (length new) ≡ b → HoldsSize size (turn b).block
    by true within =
        let one : Some block ≡ Some here.0 = here.1 in
        let same : block ≡ here.0 = cc in
        let size = size-poked block.body offset new within ∙ ap (λ (b : Block). size_of b.body) same ∙ here.2 in
        (after_it, refl, size)
    by false beyond = here

-- ---- one operation

is_done : (reply : PlainReply) → is_ok reply ≡ true → reply ≡ ok
is_done ok done = refl
is_done reply done = absurd (true≢false (sym done))

is_undone : (reply : PlainReply) → is_ok reply ≡ false → reply ≢ ok
is_undone reply undone = λ same. true≢false (sym (ap is_ok same) ∙ undone)

module _ (h : Held) (t : ℕ) (arena : Grant) (raw : Ask) (are : AreIn h) where
  -- the block that a name comes to hold, and its trace, where a call was done or not
  module _ (name : Name) (fs : List PlainFrame) (turn : Turn) where
    abbrev pub blocks_then : Blocks
    blocks_then = hold h.blocks name turn.block

    -- each trace is of the block of its name, where this is what the call means for what is traced if it was done
    abbrev pub AreThen : Change → Type 0
    AreThen change = AreOf blocks_then (after unknown_frame fs (where_ok turn.answer change) h.tracing)

    then_are : (change : Change)
        → (turn.answer ≢ ok → turn.block ≡ find h.blocks name)
        → (turn.answer ≡ ok → AreOf blocks_then (after unknown_frame fs change h.tracing)) → AreThen change
    then_are change kept made = by (is_ok turn.answer) refl
      where
        by : (b : Bool) → is_ok turn.answer ≡ b → AreOf blocks_then (after unknown_frame fs (cond b change keeps) h.tracing)
        by true done = made (is_done turn.answer done)
        by false undone =
            let same = kept (is_undone turn.answer undone) in
            let stay = same_sizes h.blocks blocks_then (λ mine. find-hold_again h.blocks name mine turn.block same) in
            are_still unknown_frame fs h.blocks blocks_then keeps h.tracing refl are stay

  pub sized_are : (name : Name) (call : SizedCall) (fs : List PlainFrame)
      → AreThen name fs (sized_turn call (is_owner h.owner t) arena raw h.layout (find h.blocks name)) (sized_change name call)
  sized_are name call fs =
      then_are name fs turn (sized_change name call) (sized_keeps call locked arena raw h.layout now)
      (λ answer.
      let gave = sized_gives call locked arena raw h.layout now answer in
      let size : size_of gave.0.body ≡ call.size = ap size_of gave.2 ∙ size-given call now in
      subst (λ (o : Option Block). AreOf (hold h.blocks name o) (after unknown_frame fs (sized_change name call) h.tracing))
      (sym gave.1) (are_given unknown_frame fs h.blocks h.tracing name gave.0 call.size size are))
    where
      locked : Bool
      locked = is_owner h.owner t

      now : Option Block
      now = find h.blocks name

      turn : Turn
      turn = sized_turn call locked arena raw h.layout now

  pub free_are : (name : Name) (found : Option Fault) (fs : List PlainFrame)
      → AreThen name fs (free_unless found h.layout (find h.blocks name)) (forgets (of_block name))
  free_are name found fs =
      then_are name fs turn (forgets (of_block name)) (free_keeps found h.layout now)
      (λ answer.
      subst (λ (o : Option Block). AreOf (hold h.blocks name o) (after unknown_frame fs (forgets (of_block name)) h.tracing))
      (sym (free_held found h.layout now answer)) (are_freed unknown_frame fs h.blocks h.tracing name are))
    where
      now : Option Block
      now = find h.blocks name

      turn : Turn
      turn = free_unless found h.layout now

  pub poke_sizes : (name : Name) (offset : ℤ) (new : List ℕ)
      → SizesStay h.blocks (effect h t (writes_bytes name offset new) arena raw).0.blocks
  poke_sizes name offset new = λ mine size here.
      let now = find h.blocks name in
      let block = (poke_turn offset new h.layout now).block in
      elim (same_or_other mine name) [
        | inl same ↦
            let there = subst (λ (n : Name). HoldsSize size (find h.blocks n)) same here in
            let is : find (hold h.blocks name block) mine ≡ block =
            ap (find (hold h.blocks name block)) same ∙ find-hold_same h.blocks name block in
            subst (HoldsSize size) (sym is) (poke_size offset new h.layout now size there)
        | inr away ↦ subst (HoldsSize size) (sym (find-hold_other h.blocks name mine block away)) here
      ]

  pub peek_sizes : (name : Name) (offset : ℤ) (count : ℕ)
      → SizesStay h.blocks (effect h t (reads_bytes name offset count) arena raw).0.blocks
  peek_sizes name offset count =
      same_sizes h.blocks (effect h t (reads_bytes name offset count) arena raw).0.blocks
      (λ mine. find-hold_again h.blocks name mine _ (peek_keeps offset count h.layout (find h.blocks name)))

  pub all_stay : SizesStay h.blocks h.blocks
  all_stay = λ name size here. here

  -- an operation that gives no name a trace
  pub other_are : (d : Deed) → gives_none (change_of d (effect h t d arena raw).1) ≡ true
      → AreOf h.blocks (effect h t d arena raw).0.tracing → SizesStay h.blocks (effect h t d arena raw).0.blocks
      → AreIn (act h t d arena raw).0
  other_are d none same stay =
      let r = effect h t d arena raw in
      are_still unknown_frame (frames_at r.0.frames t) h.blocks r.0.blocks (change_of d r.1) r.0.tracing none same stay
