-- What proofs of other crates may cite: what a holder of regions did with its source, and what it asked it.
use Rattle.std.proofs.Common.{◌≡◌, ◌≤◌, List, sym, ap, subst, ◌∙◌, arith}
use Rattle.extents.specs.Extent.{Extent, AreApart, MeetsNone}
use Rattle.extents.specs.Sums.{tally, Inserted, Removed, AllIn}
use Rattle.extents.proofs.CallerLemmas.{tally_inserted, has_kept, has_other, all_in_more, balanced_more, balanced_fewer, balanced_then, meets_other, all_in_fewer}
use Rattle.sources.specs.Source.{SourceView}
use Rattle.sources.specs.Holder.{AskedAtMostOnce, AskedNothing, AskedUnrefused, Traded}

module _ {S : Type 0} where
  -- one trade after the other is a trade
  pub traded_then : (h0 h1 h2 : List Extent) (s0 s1 s2 : SourceView S) → Traded h0 h1 s0 s1 → Traded h1 h2 s1 s2 → Traded h0 h2 s0 s2
  traded_then h0 h1 h2 s0 s1 s2 a b = record {
    balance = balanced_then h0 h1 h2 s0.out s1.out s2.out a.balance b.balance;
    held = b.held;
    window = b.window ∙ a.window;
    shape = b.shape ∙ a.shape;
  }

  module _ (held new_held : List Extent) (old new : SourceView S) (were : AllIn held old.out) (window : new.window ≡ old.window) (shape : new.shape ≡ old.shape) where
    -- nothing came or went
    pub traded_nothing : new_held ≡ held → new.out ≡ old.out → Traded held new_held old new
    traded_nothing same left = record {
      balance = λ f. let a = ap (tally f) same in let b = ap (tally f) left in omega arith;
      held = subst (λ out. AllIn new_held out) (sym left) (subst (λ h. AllIn h old.out) (sym same) were);
      window = window;
      shape = shape;
    }

    -- a region came, and went back at once
    pub traded_back : (e : Extent) (out : List Extent) → 1 ≤ e.len → MeetsNone e old.out → Inserted e old.out out → Removed e out new.out → new_held ≡ held → Traded held new_held old new
    traded_back e out some meets i j same = record {
      balance = λ f. let a = ap (tally f) same in let b = tally_inserted f e old.out out i in let c = tally_inserted f e new.out out j in omega arith;
      held = subst (λ h. AllIn h new.out) (sym same) (λ d h. has_other e d out new.out j (has_kept e d old.out out i (were d h)) (meets_other e d old.out some meets (were d h)));
      window = window;
      shape = shape;
    }

    -- a region came
    pub traded_got : (e : Extent) → Inserted e held new_held → Inserted e old.out new.out → Traded held new_held old new
    traded_got e i j = record {
      balance = balanced_more e held new_held old.out new.out i j;
      held = all_in_more e held new_held old.out new.out i j were;
      window = window;
      shape = shape;
    }

    -- a region went back
    pub traded_gave : (e : Extent) → 1 ≤ e.len → AreApart held → Removed e held new_held → Removed e old.out new.out → Traded held new_held old new
    traded_gave e some apart i j = record {
      balance = balanced_fewer e held new_held old.out new.out i j;
      held = all_in_fewer e held new_held old.out new.out some apart i j were;
      window = window;
      shape = shape;
    }

  -- ---- what was asked

  -- who asked nothing was not refused
  pub unrefused_nothing : (old new : SourceView S) → AskedNothing old new → AskedUnrefused old new
  unrefused_nothing old new nothing = record {
    asks = 0;
    few = omega arith;
    answered = record { asked = omega (arith, nothing.asked); refused = omega (arith, nothing.refused); heeded = λ (never : 0 ≡ 1) listed. absurd (omega (arith, never)) };
    plan = nothing.plan;
  }

  -- who was not refused asked at most once
  pub unrefused_once : (old new : SourceView S) → AskedUnrefused old new → AskedAtMostOnce old new
  unrefused_once old new asked = record {
    asks = asked.asks;
    refusals = 0;
    few = (omega arith, asked.few);
    answered = asked.answered;
    plan = asked.plan;
  }
