-- What one more entry adds to the requests that a history wants to be refused, and to those that it heeds.
use Rattle.std.proofs.Common.{◌≡◌, ℕ, ◌+◌, ◌<◌, ◌≤◌, Bool, true, false, List, [], ◌∷◌, ◌++◌, Some, None, refl}
use Rattle.std.proofs.Common.{sym, ap, subst, ◌∙◌, arith}
use Rattle.std.specs.Prelude.{◌||◌}
use Rattle.mem_base.specs.Plan.{Plan, IsPlanned}
use Rattle.mem_base.specs.declared.history.Entry.{Entry}
use Rattle.mem_base.specs.declared.trace.Side.{Side}
use Rattle.request_model.specs.Counts.{asked_in, asks_in, refusals_in}
use Rattle.trace_model.specs.Plain.{PlainTrack}
use Rattle.event_model.specs.Events.{event, next_action}
use Rattle.event_model.specs.History.{opening, state_after, last_state}
use Rattle.event_model.specs.Plans.{GrowsBy, Heeds, planned_from, is_planned, lists}
use Rattle.event_model.specs.State.{State}

or_nothing : (a : Bool) → (a || false) ≡ a
or_nothing true = refl
or_nothing false = refl

or_groups : (a b c : Bool) → (a || (b || c)) ≡ ((a || b) || c)
or_groups true b c = refl
or_groups false b c = refl

planned_push : (tracks : List PlainTrack) (side : Side) (s : State) (asked : ℕ) (es : List Entry) (e : Entry) (n : ℕ)
    → planned_from tracks side s asked (es ++ e ∷ []) n ≡ (planned_from tracks side s asked es n || lists side (asked + asked_in side es) (next_action tracks (state_after tracks s es) e.track) n)
planned_push tracks side s asked [] e n =
    let none : asked + 0 ≡ asked = omega arith in
    or_nothing (lists side asked (next_action tracks s e.track) n) ∙ ap (λ (a : ℕ). lists side a (next_action tracks s e.track) n) (sym none)
planned_push tracks side s asked (x ∷ es) e n =
    let later : State = (event tracks s x).0 in
    let first : Bool = lists side asked (next_action tracks s x.track) n in
    let last : ℕ → Bool = λ a. lists side a (next_action tracks (state_after tracks later es) e.track) n in
    let adds : (asked + asks_in side x) + asked_in side es ≡ asked + (asks_in side x + asked_in side es) = omega arith in
    ap (λ (b : Bool). first || b) (planned_push tracks side later (asked + asks_in side x) es e n)
    ∙ or_groups first (planned_from tracks side later (asked + asks_in side x) es n) (last ((asked + asks_in side x) + asked_in side es))
    ∙ ap (λ (a : ℕ). (first || planned_from tracks side later (asked + asks_in side x) es n) || last a) adds

or_swaps : (a b c : Bool) → (b || (a || c)) ≡ ((a || b) || c)
or_swaps true true c = refl
or_swaps true false c = refl
or_swaps false true c = refl
or_swaps false false c = refl

-- a plan that grows twice
grows_twice : (first second both : ℕ → Bool) → ((n : ℕ) → both n ≡ (first n || second n)) → (a b c : Plan)
    → GrowsBy first a b → GrowsBy second b c → GrowsBy both a c
grows_twice first second both is None None c f s = s
grows_twice first second both is None (Some b) c f s = absurd cc
grows_twice first second both is (Some a) None c f s = absurd f
grows_twice first second both is (Some a) (Some b) None f s = absurd s
grows_twice first second both is (Some a) (Some b) (Some c) f s = λ n.
    s n ∙ ap (λ (x : Bool). second n || x) (f n) ∙ or_swaps (first n) (second n) (a n) ∙ ap (λ (x : Bool). x || a n) (sym (is n))

pub planned_more : (tracks : List PlainTrack) (side : Side) (asked : ℕ) (es : List Entry) (e : Entry) (before between now : Plan)
    → GrowsBy (is_planned tracks side asked es) before between
    → GrowsBy (lists side (asked + asked_in side es) (next_action tracks (last_state tracks es) e.track)) between now
    → GrowsBy (is_planned tracks side asked (es ++ e ∷ [])) before now
planned_more tracks side asked es e before between now first second =
    grows_twice (is_planned tracks side asked es) (lists side (asked + asked_in side es) (next_action tracks (last_state tracks es) e.track)) (is_planned tracks side asked (es ++ e ∷ []))
    (λ n. planned_push tracks side (opening tracks) asked es e n) before between now first second

-- a number that came to the plan only later was in it, where it lies below those that came
was_planned : (more : ℕ → Bool) (before now : Plan) (m n : ℕ) → GrowsBy more before now
    → ((k : ℕ) → more k ≡ true → m < k) → n ≤ m → IsPlanned now n → IsPlanned before n
was_planned more None None m n grows past low planned = absurd planned
was_planned more None (Some now) m n grows past low planned = absurd cc
was_planned more (Some before) None m n grows past low planned = absurd planned
was_planned more (Some before) (Some now) m n grows past low planned = by (more n) refl (sym (grows n) ∙ planned)
  where
    by : (b : Bool) → more n ≡ b → (b || before n) ≡ true → before n ≡ true
    by true is h = absurd (omega (arith, past n is, low))
    by false is h = h

heeds_push : (side : Side) (asked : ℕ) (es : List Entry) (e : Entry) (more : ℕ → Bool) (before now : Plan) (m : ℕ)
    → Heeds side before asked es → GrowsBy more before now → ((n : ℕ) → more n ≡ true → m < n) → asked + asked_in side es ≤ m
    → (asks_in side e ≡ 1 → IsPlanned now (asked + asked_in side es + 1) → refusals_in side e ≡ 1)
    → Heeds side now asked (es ++ e ∷ [])
heeds_push side asked [] e more before now m heeds grows past low last =
    let none : asked + 0 ≡ asked = omega arith in
    (λ asks planned. last asks (subst (λ (a : ℕ). IsPlanned now (a + 1)) (sym none) planned), tt)
heeds_push side asked (x ∷ es) e more before now m heeds grows past low last =
    let adds : asked + asked_in side (x ∷ es) ≡ (asked + asks_in side x) + asked_in side es = omega arith in (
      λ asks planned. heeds.0 asks (was_planned more before now m (asked + 1) grows past (omega (arith, asks, low)) planned),
      heeds_push side (asked + asks_in side x) es e more before now m heeds.1 grows past (omega (arith, low))
          (λ asks planned. last asks (subst (λ (a : ℕ). IsPlanned now (a + 1)) (sym adds) planned)),
    )

pub heeds_more : (side : Side) (asked : ℕ) (es : List Entry) (e : Entry) (more : ℕ → Bool) (before now : Plan)
    → Heeds side before asked es → GrowsBy more before now → ((n : ℕ) → more n ≡ true → asked + asked_in side es < n)
    → (asks_in side e ≡ 1 → IsPlanned now (asked + asked_in side es + 1) → refusals_in side e ≡ 1)
    → Heeds side now asked (es ++ e ∷ [])
heeds_more side asked es e more before now heeds grows past last =
    heeds_push side asked es e more before now (asked + asked_in side es) heeds grows past (omega arith) last
