-- What the sources see while an operation is done.
use Rattle.std.proofs.Common.{◌≡◌, ℕ, ◌+◌, Bool, true, false, List, Some, None, Result, Ok, Err, refl, sym, ap}
use Rattle.std.proofs.Common.{subst, ◌∙◌, arith, true≢false}
use Rattle.std.specs.Prelude.{◌==◌, ◌||◌, OnErr}
use Rattle.mem_base.specs.Name.{Name}
use Rattle.mem_base.specs.Plan.{Plan, plan_with}
use Rattle.mem_base.specs.declared.texts.TextId.{TextId}
use Rattle.mem_base.specs.declared.trace.Op.{Op}
use Rattle.mem_base.specs.declared.trace.Op.TheVariants as ops
use Rattle.mem_base.specs.declared.trace.Side.{Side}
use Rattle.mem_base.specs.declared.trace.Side.TheVariants as sides
use Rattle.trace_model.specs.Plain.{action_of}
use Rattle.extents.specs.Extent.{Extent}
use Rattle.extents.specs.Sums.{AllIn}
use Rattle.sources.specs.Holder.{Answered, AskedNothing, Traded}
use Rattle.sources.specs.Source.{ArenaShape, SourceView}
use Rattle.sources.proofs.CallerLemmas.{traded_nothing, unrefused_nothing, unrefused_once}
use Rattle.event_model.specs.Deeds.{Deed, takes_lock, gives_lock, calls, frees, writes_bytes, reads_bytes, moves}
use Rattle.event_model.specs.Deeds.{changes, marks, asks_traced, asks_trace, takes_snapshot, keeps_by, asks_snapshots}
use Rattle.event_model.specs.Deeds.{asks_shape, lists_request}
use Rattle.event_model.specs.Effects.{is_quiet as is_quiet_deed, lists_as}
use Rattle.event_model.specs.Memory.{SizedCall}
use Rattle.event_model.specs.Plans.{GrowsBy, lists}
use Rattle.domain_api.specs.Held.{AreOut}
use Rattle.block_store.specs.Sources.{AreHeld, Fails, FailsUnrefused, IsPassedOn, Rests, Serves}
use Rattle.block_store.specs.Store.{HoldsTheSame, StoreView}
use Rattle.machine_core.specs.Acts.{Asks, told, told_where}
use Rattle.machine_core.specs.Deeds.{IsCallFor, deed_for, is_quiet}
use Rattle.machine_core.proofs.DeedLemmas.{still_quiet}

-- ---- plans

grows_none : (more : ℕ → Bool) (p q : Plan) → q ≡ p → ((n : ℕ) → more n ≡ false) → GrowsBy more p q
grows_none more None q same none = same
grows_none more (Some plan) None same none = absurd cc
grows_none more (Some plan) (Some now) same none = λ n.
    let f : Plan → Bool = λ p. elim p [ None ↦ false | Some g ↦ g n ] in
    ap f same ∙ sym (ap (λ (b : Bool). b || plan n) (none n))

grows_one : (p : Plan) (m : ℕ) → GrowsBy (λ n. m == n) p (plan_with m p)
grows_one None m = refl
grows_one (Some plan) m = λ n. refl

-- the operation lists no request of the side
abbrev pub ListsNone : Op → Side → Type 0
ListsNone op side = (texts : List Name) (asked n : ℕ) → lists side asked (Some (action_of texts op)) n ≡ false

-- an operation that asks no source lists no request
quiet_lists : (op : Op) (side : Side) → is_quiet op ≡ true → ListsNone op side
quiet_lists op side quiet = λ texts asked n. by (deed_for texts op) asked n (still_quiet op texts ∙ quiet)
  where
    by : (d : Deed) (asked n : ℕ) → is_quiet_deed d ≡ true → lists_as side asked d n ≡ false
    by takes_lock asked n is = refl
    by gives_lock asked n is = refl
    by (calls name call) asked n is = refl
    by (frees letter name) asked n is = refl
    by (writes_bytes name offset bytes) asked n is = refl
    by (reads_bytes name offset count) asked n is = refl
    by (moves f) asked n is = refl
    by (changes change) asked n is = refl
    by (marks change) asked n is = refl
    by asks_traced asked n is = refl
    by (asks_trace name) asked n is = refl
    by (takes_snapshot name) asked n is = refl
    by (keeps_by new old rules) asked n is = refl
    by (asks_snapshots question) asked n is = refl
    by asks_shape asked n is = refl
    by (lists_request at k) asked n is = absurd (true≢false (sym is))

-- nor does a call for a block, or a free
pub call_lists : (op : Op) (side : Side) (name : TextId) (call : SizedCall) → IsCallFor op name call → ListsNone op side
call_lists op side name call is = λ texts asked n. ap (λ (d : Deed). lists_as side asked d n) (is texts)

pub free_lists : (op : Op) (side : Side) (letter : _) (name : _) → op ≡ ops.Free letter name → ListsNone op side
free_lists op side letter name is = subst (λ (o : Op). ListsNone o side) (sym is) (λ texts asked n. refl)

-- ---- what a source was asked

module _ {S : Type 0} (op : Op) (side : Side) (held held' : List Extent) (old new : SourceView S) where
  -- a source answered, and its plan is as before
  pub served : (asks refusals : ℕ) → Serves asks refusals held held' old new → ListsNone op side
      → Asks op side asks refusals held held' old new
  served asks refusals serves none = record {
    answered = serves.answered;
    plan = λ texts. grows_none (lists side old.asked (Some (action_of texts op))) old.plan new.plan serves.plan
        (none texts old.asked);
    traded = serves.traded;
  }

  -- a source was not asked
  pub rested : Rests held held' old new → ListsNone op side → Asks op side 0 0 held held' old new
  rested rests none =
      served 0 0 (record {
        answered = record {
          asked = omega (arith, rests.nothing.asked);
          refused = omega (arith, rests.nothing.refused);
          heeded = λ one planned. absurd (omega (arith, one));
        };
        plan = rests.nothing.plan;
        traded = rests.traded;
      }) none

-- nothing was asked
no_asks : {S : Type 0} (seen : SourceView S) → AskedNothing seen seen
no_asks seen = record { asked = refl; refused = refl; plan = refl }

-- nothing happened to a source, while a quiet operation was done
pub quiet_asks : {S : Type 0} (op : Op) (side : Side) (held held' : List Extent) (seen : SourceView S)
    → is_quiet op ≡ true → AllIn held seen.out → held' ≡ held → Asks op side 0 0 held held' seen seen
quiet_asks op side held held' seen quiet were same =
    rested op side held held' seen seen
    (record { nothing = no_asks seen; traded = traded_nothing held held' seen seen were refl refl same refl })
    (quiet_lists op side quiet)

module _ {S : Type 0} (op : Op) (held : List Extent) (old new : SourceView S) (were : AllIn held old.out) where
  -- a refusal is listed, of this side or of the other
  pub told_asks : (side other : Side) (k : ℕ) → op ≡ ops.Refuse other k → new ≡ told_where side other k old
      → Asks op side 0 0 held held old new
  told_asks side other k is was =
      subst (λ (o : Op). Asks o side 0 0 held held old new) (sym is)
      (subst (Asks (ops.Refuse other k) side 0 0 held held old) (sym was) (by side other))
    where
      none_asked : (now : SourceView S) → now.asked ≡ old.asked → now.refused ≡ old.refused → Answered 0 0 old now
      none_asked now asked refused =
          record {
            asked = omega (arith, asked);
            refused = omega (arith, refused);
            heeded = λ one planned. absurd (omega (arith, one));
          }

      by : (side other : Side) → Asks (ops.Refuse other k) side 0 0 held held old (told_where side other k old)
      by sides.Arena sides.Arena = record {
        answered = none_asked (told k old) refl refl;
        plan = λ texts. grows_one old.plan (old.asked + k);
        traded = traded_nothing held held old (told k old) were refl refl refl refl;
      }
      by sides.Raw sides.Raw = record {
        answered = none_asked (told k old) refl refl;
        plan = λ texts. grows_one old.plan (old.asked + k);
        traded = traded_nothing held held old (told k old) were refl refl refl refl;
      }
      by sides.Arena sides.Raw = record {
        answered = none_asked old refl refl;
        plan = λ texts. grows_none (λ n. false) old.plan old.plan refl (λ n. refl);
        traded = traded_nothing held held old old were refl refl refl refl;
      }
      by sides.Raw sides.Arena = record {
        answered = none_asked old refl refl;
        plan = λ texts. grows_none (λ n. false) old.plan old.plan refl (λ n. refl);
        traded = traded_nothing held held old old were refl refl refl refl;
      }

-- ---- want of memory

module _ {S : Type 0} (held : List Extent) (old new : SourceView S) (were : AllIn held old.out) (same : new ≡ old) where
  nothing_traded : Traded held held old old
  nothing_traded = traded_nothing held held old old were refl refl refl refl

  -- nothing happened
  pub nothing_fails : Fails held old new
  nothing_fails = subst (Fails held old) (sym same)
      (record { once = unrefused_once old old (unrefused_nothing old old (no_asks old)); traded = nothing_traded })

  pub nothing_fails_unrefused : FailsUnrefused held old new
  nothing_fails_unrefused =
      subst (FailsUnrefused held old) (sym same)
      (record { once = unrefused_nothing old old (no_asks old); traded = nothing_traded })

-- no source refused, and none was asked
pub nothing_passed : (arenas arenas' : SourceView ArenaShape) (raws raws' : SourceView ℕ) → arenas' ≡ arenas
    → raws' ≡ raws → IsPassedOn arenas arenas' raws raws'
nothing_passed arenas arenas' raws raws' first second =
    omega (arith, ap (λ (s : SourceView ArenaShape). s.refused) first, ap (λ (s : SourceView ℕ). s.asked) second)

pub on_err : {A E P : Type 0} (r : Result A E) → P → OnErr r P
on_err (Ok a) p = tt
on_err (Err e) p = p

-- ---- what is held stays held

-- the same regions are held
pub held_the_same : (old new : StoreView) (arenas : SourceView ArenaShape) (raws : SourceView ℕ)
    → HoldsTheSame old new → AreHeld old arenas raws → AreHeld new arenas raws
held_the_same old new arenas raws same held =
    subst (λ (l : List Extent). AreOut l new.raws arenas raws) (sym same.arenas)
    (subst (λ (l : List Extent). AreOut old.arenas l arenas raws) (sym same.raws) held)

-- a source was told to refuse a request
pub held_told : (s : StoreView) (side : Side) (k : ℕ) (arenas arenas' : SourceView ArenaShape)
    (raws raws' : SourceView ℕ) → AreHeld s arenas raws
    → arenas' ≡ told_where sides.Arena side k arenas → raws' ≡ told_where sides.Raw side k raws → AreHeld s arenas' raws'
held_told s side k arenas arenas' raws raws' held first second =
    subst (λ (a : SourceView ArenaShape). AreHeld s a raws') (sym first)
    (subst (AreHeld s (told_where sides.Arena side k arenas)) (sym second) (by side))
  where
    by : (side : Side) → AreHeld s (told_where sides.Arena side k arenas) (told_where sides.Raw side k raws)
    by sides.Arena = record {
      arenas_out = held.arenas_out;
      arenas_in = held.arenas_in;
      raws_out = held.raws_out;
      raws_in = held.raws_in;
      windows = held.windows;
    }
    by sides.Raw = record {
      arenas_out = held.arenas_out;
      arenas_in = held.arenas_in;
      raws_out = held.raws_out;
      raws_in = held.raws_in;
      windows = held.windows;
    }

-- and it was not, for want of memory
pub held_untold : (s : StoreView) (arenas arenas' : SourceView ArenaShape) (raws raws' : SourceView ℕ)
    → AreHeld s arenas raws → arenas' ≡ arenas → raws' ≡ raws → AreHeld s arenas' raws'
held_untold s arenas arenas' raws raws' held first second =
    subst (λ (a : SourceView ArenaShape). AreHeld s a raws') (sym first) (subst (AreHeld s arenas) (sym second) held)
