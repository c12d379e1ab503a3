-- What proofs of other crates may cite: what a decision says of its size and its faults, and what one more entry adds.
use Rattle.std.proofs.Common.{◌≡◌, ℕ, ◌+◌, ◌*◌, ◌<◌, ◌≤◌, Bool, true, false, true≢false, cond, List, [], ◌∷◌, ◌++◌, length, Option, Some, None, refl, sym, arith}
use Rattle.std.specs.Prelude.{◌&&◌, nat_le, nat_lt}
use Rattle.std.proofs.lemmas.Bool.{le-leb, leb-true, lt-ltb, ltb-true, ltb-false}
use Rattle.mem_base.specs.declared.history.Ask.{Ask}
use Rattle.mem_base.specs.declared.history.Ask.TheVariants as ask
use Rattle.mem_base.specs.declared.history.Entry.{Entry}
use Rattle.mem_base.specs.declared.history.Grant.{Grant}
use Rattle.mem_base.specs.declared.history.Grant.TheVariants as grant
use Rattle.mem_base.specs.declared.reply.Fault.{Fault}
use Rattle.mem_base.specs.declared.trace.Letter.{Letter}
use Rattle.mem_base.specs.declared.trace.Side.{Side}
use Rattle.mem_base.specs.declared.trace.Side.TheVariants as sides
use Rattle.request_model.specs.Counts.{arena_asks, arena_refusals, asked_in, asks_in, raw_asks, raw_refusals, refused_in, refusals_in}
use Rattle.request_model.specs.Decision.{max_size, max_data, call_fault, Decision, too_great, faults, asks, decision, fits_in_place, unless_fault}

-- ---- decisions

-- a decision, and what it says of the size and of the call's fault
pub data Decides (n : ℕ) (fault : Option Fault) : Decision → Type 0 where
  over_all : max_size < n → Decides n fault too_great
  faulty : (found : Fault) → n ≤ max_size → fault ≡ Some found → Decides n fault (faults found)
  over_data : max_data < n → fault ≡ None → Decides n fault too_great
  within : n ≤ max_data → fault ≡ None → Decides n fault asks

-- each decision is one of these
pub decides : (v : Letter) (n : ℕ) (locked : Bool) (found : Option Fault) → Decides n (call_fault v locked found) (decision v n locked found)
decides v n locked found = by (nat_lt max_size n) (call_fault v locked found) (nat_lt max_data n) refl refl
  where
    by : (over : Bool) (fault : Option Fault) (over_hooks : Bool) → nat_lt max_size n ≡ over → nat_lt max_data n ≡ over_hooks
        → Decides n fault (cond over too_great (unless_fault fault (cond over_hooks too_great asks)))
    by true fault b g h = over_all (ltb-true max_size n g)
    by false (Some f) b g h = faulty f (ltb-false max_size n g) refl
    by false None true g h = over_data (ltb-true max_data n h) refl
    by false None false g h = within (ltb-false max_data n h) refl

-- ---- a block that gets another size

pub fits_in_place_is : (s m : ℕ) → fits_in_place s m ≡ true → (m ≤ s) × (3 * s < 4 * m)
fits_in_place_is s m is = by (nat_le m s) (nat_lt (3 * s) (4 * m)) refl refl is
  where
    by : (a b : Bool) → nat_le m s ≡ a → nat_lt (3 * s) (4 * m) ≡ b → (a && b) ≡ true → (m ≤ s) × (3 * s < 4 * m)
    by true true f g is = (leb-true m s f, ltb-true (3 * s) (4 * m) g)
    by true false f g is = absurd (true≢false (sym is))
    by false b f g is = absurd (true≢false (sym is))

pub fits_in_place_so : (s m : ℕ) → m ≤ s → 3 * s < 4 * m → fits_in_place s m ≡ true
fits_in_place_so s m fits most = λ i. le-leb m s fits i && lt-ltb (3 * s) (4 * m) most i

-- a test that does not hold, by what holds where it does
pub no_fit : (s m : ℕ) → ((m ≤ s) × (3 * s < 4 * m) → ⊥) → fits_in_place s m ≡ false
no_fit s m not_so = by (fits_in_place s m) refl
  where
    by : (b : Bool) → fits_in_place s m ≡ b → b ≡ false
    by true is = absurd (not_so (fits_in_place_is s m is))
    by false is = refl

-- ---- counts

pub asked_more : (side : Side) (es : List Entry) (e : Entry) → asked_in side (es ++ e ∷ []) ≡ asked_in side es + asks_in side e
asked_more side [] e = omega arith
asked_more side (x ∷ es) e = omega (arith, asked_more side es e)

pub refused_more : (side : Side) (es : List Entry) (e : Entry) → refused_in side (es ++ e ∷ []) ≡ refused_in side es + refusals_in side e
refused_more side [] e = omega arith
refused_more side (x ∷ es) e = omega (arith, refused_more side es e)

raw_few : (a : Ask) → (raw_asks a ≤ 1) × (raw_refusals a ≤ raw_asks a)
raw_few ask.NotAsked = (omega arith, omega arith)
raw_few ask.Refused = (omega arith, omega arith)
raw_few ask.Granted = (omega arith, omega arith)

arena_few : (g : Grant) → (arena_asks g ≤ 1) × (arena_refusals g ≤ arena_asks g)
arena_few grant.NotAsked = (omega arith, omega arith)
arena_few grant.Refused = (omega arith, omega arith)
arena_few (grant.Granted pools) = (omega arith, omega arith)

-- an entry is at most one request of a source, and a refusal only where it is one
pub one_at_most : (side : Side) (e : Entry) → (asks_in side e ≤ 1) × (refusals_in side e ≤ asks_in side e)
one_at_most sides.Arena e = arena_few e.arena
one_at_most sides.Raw e = raw_few e.raw

pub few_asked : (side : Side) (es : List Entry) → (asked_in side es ≤ length es) × (refused_in side es ≤ asked_in side es)
few_asked side [] = (omega arith, omega arith)
few_asked side (e ∷ es) =
    let rest = few_asked side es in
    let one = one_at_most side e in
    (omega (arith, rest.0, one.0), omega (arith, rest.1, one.1))
