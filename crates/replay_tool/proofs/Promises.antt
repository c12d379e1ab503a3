-- From what a run did to all that it promises.
use Rattle.std.proofs.Common.{◌≡◌, ℕ, ◌⊎◌, inl, inr, List, Option, Some, None, Result, Ok, Err, refl, sym, ap}
use Rattle.std.proofs.Common.{subst, ◌∙◌, arith, ◌<◌, ◌≤◌, length, true≢false, length-append}
use Rattle.std.specs.Prelude.{IfSome, ◌==◌, if◌then◌else◌}
use Rattle.std.specs.Io.KnownBytes.{IsAtEnd}
use Rattle.streams.specs.Moves.{GaveWithin, GavePast, IsToldPast}
use Rattle.mem_base.specs.declared.limits.TheConstants.{MAX_INPUT}
use Rattle.mem_base.specs.declared.history.Entry.{Entry}
use Rattle.event_model.proofs.CallerLemmas.{ends_in_fault}
use Rattle.trace_model.specs.declared.cause.TraceCause.{TraceCause}
use Rattle.trace_model.specs.Plain.{PlainTrace}
use Rattle.trace_model.specs.Spelling.{spelling, IsWellFormed}
use Rattle.trace_model.specs.Reading.{Stop, trace_at}
use Rattle.trace_model.proofs.CallerLemmas.{trace_again}
use Rattle.replay_tool.specs.declared.refusal.Refusal.{Refusal}
use Rattle.replay_tool.specs.declared.refusal.Refusal.TheVariants as refusal
use Rattle.replay_tool.specs.declared.status.Status.{Status}
use Rattle.replay_tool.specs.declared.status.Status.TheVariants.{Done, Faulted, Usage, FaultyLine, ReadFault}
use Rattle.replay_tool.specs.declared.status.Status.TheVariants.{WriteFault, OutOfMemory, TooLong}
use Rattle.replay_tool.specs.Input.{WasRead}
use Rattle.replay_tool.specs.Promise.{Promise, Says, Gets, CanWrite, EndedOrBroke, EndedOrYielded}
use Rattle.replay_tool.specs.Refusals.{Refusing, told, broke, lacked, TakesMemory, IsInputCause, line_of, status_of}
use Rattle.replay_tool.specs.Replays.{ReplayEnds}
use Rattle.replay_tool.specs.Runs.{Run, Ended, Accepted, DidNothing, IsCause, NeverBegan, replay_of}
use Rattle.replay_tool.specs.Served.{NothingOut}
use Rattle.replay_tool.specs.Status.{number_of}
use Rattle.replay_tool.specs.Streams.{Stream, Wrote}
use Rattle.replay_tool.specs.Words.{AsksReplay}

-- ---- a number is of one status

abbrev status_of_number : ℕ → Status
status_of_number n =
    if n == 0 then Done else if n == 1 then Faulted else if n == 2 then Usage else if n == 3 then FaultyLine
    else if n == 4 then ReadFault else if n == 5 then WriteFault else if n == 6 then OutOfMemory else TooLong

numbered : (s : Status) → status_of_number (number_of s) ≡ s
numbered Done = refl
numbered Faulted = refl
numbered Usage = refl
numbered FaultyLine = refl
numbered ReadFault = refl
numbered WriteFault = refl
numbered OutOfMemory = refl
numbered TooLong = refl

same_status : (s t : Status) → number_of s ≡ number_of t → s ≡ t
same_status s t same = sym (numbered s) ∙ ap status_of_number same ∙ numbered t

-- ---- what is told of the input

at_some : (o : Option (List ℕ)) (bytes : List ℕ) (P : List ℕ → Type 0) → o ≡ Some bytes → IfSome o P → P bytes
at_some None bytes P is h = absurd cc
at_some (Some xs) bytes P is h =
    let same : xs ≡ bytes = cc in
    subst P same h

-- what gave more than it may has more than it may
not_past : (o new : Option (List ℕ)) (bytes : List ℕ) (max : ℕ) → o ≡ Some bytes → GavePast o new max → length bytes ≤ max → ⊥
not_past None new bytes max is past few = absurd cc
not_past (Some xs) None bytes max is past few = absurd past.gone
not_past (Some xs) (Some rest) bytes max is past few =
    let same : xs ≡ bytes = cc in
    absurd (omega (arith, past.long, ap length past.gone, ap length same, length-append past.given rest))

-- what has few bytes is told to have given no more
past_few : (left left_then : Option (List ℕ)) (max : ℕ) → IsToldPast left left_then max → IfSome left (λ bytes. length bytes ≤ max) → ⊥
past_few None now max h short = absurd h
past_few (Some xs) None max h short = absurd h
past_few (Some xs) (Some ys) max h short = absurd (omega (arith, h, short))

past_within : (left left_then : Option (List ℕ)) (max : ℕ) → IsToldPast left left_then max → GaveWithin left left_then max → ⊥
past_within None now max h gave = absurd h
past_within (Some xs) None max h gave = absurd h
past_within (Some xs) (Some ys) max h gave = absurd (omega (arith, h, gave.short, ap length gave.gone, length-append gave.given ys))

-- what was read has few bytes
short_of : (before after : Stream) → WasRead before after → IfSome before.bytes (λ bytes. length bytes ≤ MAX_INPUT)
short_of before after read = by before.bytes after.bytes read.all.gave read.end
  where
    by : (left left_then : Option (List ℕ)) → GaveWithin left left_then MAX_INPUT → IsAtEnd left_then → IfSome left (λ bytes. length bytes ≤ MAX_INPUT)
    by None now gave end = tt
    by (Some xs) None gave end = absurd gave.gone
    by (Some xs) (Some ys) gave end = omega (arith, gave.short, ap length gave.gone, length-append gave.given ys, ap length end)

abbrev refused_at : ℕ → TraceCause → Result PlainTrace Stop
refused_at line cause = Err (line, cause)

abbrev fine : PlainTrace → Result PlainTrace Stop
fine t = Ok t

-- what is spelt so has no faulty line
not_faulty : (bytes : List ℕ) (trace : PlainTrace) (line : ℕ) (cause : TraceCause) → IsWellFormed trace → bytes ≡ spelling trace → trace_at bytes ≡ Err (line, cause) → ⊥
not_faulty bytes trace line cause well is refused =
    let e : refused_at line cause ≡ fine trace = sym refused ∙ ap trace_at is ∙ trace_again trace well in
    absurd cc

-- ---- what a run did, by its status

-- a trace was replayed
pub replayed : (r : Run) (trace : PlainTrace) → Accepted r trace → (s : Status) → ReplayEnds (replay_of r trace) s → Says r s
replayed r trace accepted Done e = record { trace = trace; accepted = accepted; ran = e.0; fault = e.1; last = λ no. absurd (true≢false (sym no)) }
replayed r trace accepted Faulted e = record { trace = trace; accepted = accepted; ran = e.0; fault = e.1; last = λ yes_. ends_in_fault trace.tracks r.entries e.0.legal e.1 }
replayed r trace accepted WriteFault e = inl (record { trace = trace; accepted = accepted; ran = e })
replayed r trace accepted OutOfMemory e = inr (record { trace = trace; accepted = accepted; ran = e })
replayed r trace accepted Usage e = absurd e
replayed r trace accepted FaultyLine e = absurd e
replayed r trace accepted ReadFault e = absurd e
replayed r trace accepted TooLong e = absurd e

-- it was refused
module _ (r : Run) (nothing : DidNothing r) where
  told_is : (why : Refusal) → IsCause why r → Wrote r.before.err r.after.err (line_of why) → Says r (status_of why)
  told_is refusal.Usage cause line = record { cause = cause; line = line; nothing = nothing }
  told_is (refusal.FaultyLine at why) cause line = (at, why, record { cause = cause; line = line; nothing = nothing })
  told_is refusal.ReadFault cause line = record { cause = cause; line = line; nothing = nothing }
  told_is refusal.TooLong cause line = record { cause = cause; line = line; nothing = nothing }

  lacked_is : (why : Refusal) → IsCause why r → TakesMemory why → r.after.err ≡ r.before.err → NeverBegan r
  lacked_is refusal.Usage cause takes kept = absurd takes
  lacked_is (refusal.FaultyLine at why) cause takes kept = record { asked = cause.0; input = cause.1.read.all; err = kept; nothing = nothing }
  lacked_is refusal.ReadFault cause takes kept = absurd takes
  lacked_is refusal.TooLong cause takes kept = absurd takes

  pub refused : (why : Refusal) (s : Status) → IsCause why r → Refusing why r.before.err r.after.err s → Says r s
  refused why s cause (told is line) = subst (Says r) (sym is) (told_is why cause line)
  refused why s cause (broke is front) = subst (Says r) (sym is) (inr (record { refusal = why; cause = cause; line = front; nothing = nothing }))
  refused why s cause (lacked is takes kept) = subst (Says r) (sym is) (inl (lacked_is why cause takes kept))

-- with the words that ask for a replay, what is wrong with the input is the cause
pub input_cause : (r : Run) (why : Refusal) → AsksReplay r.words → IsInputCause why r.before.input r.after.input → IsCause why r
input_cause r refusal.Usage asks h = absurd h
input_cause r (refusal.FaultyLine line cause) asks h = (asks, h)
input_cause r refusal.ReadFault asks h = (asks, h)
input_cause r refusal.TooLong asks h = (asks, h)

-- ---- all that a run promises

module _ (r : Run) where
  other_is : (s : Status) → Ended r s → Says r s → ¬ AsksReplay r.words → EndedOrBroke r Usage
  other_is Done is x other = absurd (other x.accepted.asked)
  other_is Faulted is x other = absurd (other x.accepted.asked)
  other_is Usage is x other = inl is
  other_is FaultyLine is x other = absurd (other x.2.cause.0)
  other_is ReadFault is x other = absurd (other x.cause.0)
  other_is WriteFault is x other = inr is
  other_is OutOfMemory is x other = elim x [ inl never ↦ absurd (other never.asked) | inr off ↦ absurd (other off.accepted.asked) ]
  other_is TooLong is x other = absurd (other x.cause.0)

  too_long_is : (s : Status) → Ended r s → Says r s → AsksReplay r.words → IsToldPast r.before.input.bytes r.after.input.bytes MAX_INPUT → EndedOrBroke r TooLong
  too_long_is Done is x asks past = absurd (past_few r.before.input.bytes r.after.input.bytes MAX_INPUT past (short_of r.before.input r.after.input x.accepted.input.read))
  too_long_is Faulted is x asks past = absurd (past_few r.before.input.bytes r.after.input.bytes MAX_INPUT past (short_of r.before.input r.after.input x.accepted.input.read))
  too_long_is Usage is x asks past = absurd (x.cause.0 asks)
  too_long_is FaultyLine is x asks past = absurd (past_few r.before.input.bytes r.after.input.bytes MAX_INPUT past (short_of r.before.input r.after.input x.2.cause.1.read))
  too_long_is ReadFault is x asks past = absurd (past_within r.before.input.bytes r.after.input.bytes MAX_INPUT past x.cause.1.gave)
  too_long_is WriteFault is x asks past = inr is
  too_long_is OutOfMemory is x asks past = elim x [
    | inl never ↦ absurd (past_within r.before.input.bytes r.after.input.bytes MAX_INPUT past never.input.gave)
    | inr off ↦ absurd (past_few r.before.input.bytes r.after.input.bytes MAX_INPUT past (short_of r.before.input r.after.input off.accepted.input.read))
  ]
  too_long_is TooLong is x asks past = inl is

  module _ (bytes : List ℕ) (gets : Gets r bytes) where
    short_is : IfSome r.before.input.bytes (λ all. length all ≤ MAX_INPUT) → length bytes ≤ MAX_INPUT
    short_is short = at_some r.before.input.bytes bytes _ gets.has short

    too_many_is : (s : Status) → Ended r s → Says r s → MAX_INPUT < length bytes → EndedOrYielded r TooLong
    too_many_is Done is x many = absurd (omega (arith, many, short_is (short_of r.before.input r.after.input x.accepted.input.read)))
    too_many_is Faulted is x many = absurd (omega (arith, many, short_is (short_of r.before.input r.after.input x.accepted.input.read)))
    too_many_is Usage is x many = absurd (x.cause.0 gets.asks)
    too_many_is FaultyLine is x many = absurd (omega (arith, many, short_is (short_of r.before.input r.after.input x.2.cause.1.read)))
    too_many_is ReadFault is x many = absurd (gets.calm x.cause.1.broke)
    too_many_is WriteFault is x many = inr (inl is)
    too_many_is OutOfMemory is x many = inr (inr is)
    too_many_is TooLong is x many = inl is

    faulty_is : (s : Status) (line : ℕ) (cause : TraceCause) → Ended r s → Says r s → length bytes ≤ MAX_INPUT → trace_at bytes ≡ Err (line, cause) → EndedOrYielded r FaultyLine
    faulty_is Done line cause is x few found = absurd (not_faulty bytes x.trace line cause x.accepted.input.well_formed (at_some r.before.input.bytes bytes _ gets.has x.accepted.input.spelt) found)
    faulty_is Faulted line cause is x few found = absurd (not_faulty bytes x.trace line cause x.accepted.input.well_formed (at_some r.before.input.bytes bytes _ gets.has x.accepted.input.spelt) found)
    faulty_is Usage line cause is x few found = absurd (x.cause.0 gets.asks)
    faulty_is FaultyLine line cause is x few found = inl is
    faulty_is ReadFault line cause is x few found = absurd (gets.calm x.cause.1.broke)
    faulty_is WriteFault line cause is x few found = inr (inl is)
    faulty_is OutOfMemory line cause is x few found = inr (inr is)
    faulty_is TooLong line cause is x few found = absurd (not_past r.before.input.bytes r.after.input.bytes bytes MAX_INPUT gets.has x.cause.1.gave few)

  complete_is : (trace : PlainTrace) (s : Status) → Ended r s → Says r s → Gets r (spelling trace) → IsWellFormed trace → length (spelling trace) ≤ MAX_INPUT → CanWrite r
      → Ended r Done ⊎ Ended r Faulted ⊎ Ended r OutOfMemory
  complete_is trace Done is x gets well few can = inl is
  complete_is trace Faulted is x gets well few can = inr (inl is)
  complete_is trace Usage is x gets well few can = absurd (x.cause.0 gets.asks)
  complete_is trace FaultyLine is x gets well few can = absurd (not_faulty (spelling trace) trace x.0 x.1 well refl (at_some r.before.input.bytes (spelling trace) _ gets.has x.2.cause.1.first))
  complete_is trace ReadFault is x gets well few can = absurd (gets.calm x.cause.1.broke)
  complete_is trace WriteFault is x gets well few can = elim x [
    | inl cut ↦ elim cut.ran.broke [ inl e ↦ absurd (can.out e.written.broke) | inr e ↦ absurd (can.out e.written.broke) ]
    | inr untold ↦ absurd (can.err untold.line.broke)
  ]
  complete_is trace OutOfMemory is x gets well few can = inr (inr is)
  complete_is trace TooLong is x gets well few can = absurd (not_past r.before.input.bytes r.after.input.bytes (spelling trace) MAX_INPUT gets.has x.cause.1.gave few)

  pub promise : (s : Status) → Ended r s → Says r s → NothingOut r.after.sources → Promise r
  promise s is x back = record {
    known = (s, is);
    says = λ t ended. subst (Says r) (same_status s t (sym is ∙ ended)) x;
    back = back;
    other_words = other_is s is x;
    too_long = too_long_is s is x;
    too_many = λ bytes gets. too_many_is bytes gets s is x;
    faulty = λ bytes line cause gets. faulty_is bytes gets s line cause is x;
    complete = λ trace gets. complete_is trace s is x gets;
  }

-- the same of a run whose entries are those
pub promise_of : (r : Run) (s : Status) (es : List Entry) → r.entries ≡ es → Ended r s → Says (record r { entries = es }) s → NothingOut r.after.sources → Promise r
promise_of r s es same is x back = promise r s is (subst (λ (entries : List Entry). Says (record r { entries = entries }) s) (sym same) x) back
