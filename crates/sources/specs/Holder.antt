-- What a holder of regions and its source do, and what a call did to a source's counts and plan.
use Rattle.std.specs.Prelude.{◌≡◌, ℕ, ◌+◌, ◌≤◌, List}
use Rattle.mem_base.specs.Plan.{IsPlanned}
use Rattle.extents.specs.Extent.{Extent}
use Rattle.extents.specs.Sums.{AllIn, Balanced}
use Rattle.sources.specs.Source.{SourceView}

module _ {S : Type 0} where
  -- a holder of regions had those of old_held and has those of new_held: just these came from the source or went back,
  -- all else that is out stays, and all that the holder has is out
  pub record Traded (old_held new_held : List Extent) (old new : SourceView S) : Type 0 where
    pub balance : Balanced old_held new_held old.out new.out
    pub held : AllIn new_held new.out
    pub window : new.window ≡ old.window
    pub shape : new.shape ≡ old.shape

  -- no request was made, and none will be refused that would not have been
  pub record AskedNothing (old new : SourceView S) : Type 0 where
    pub asked : new.asked ≡ old.asked
    pub refused : new.refused ≡ old.refused
    pub plan : new.plan ≡ old.plan

  -- so many requests were made, so many of them were refused, and one that the plan had was
  pub record Answered (asks refusals : ℕ) (old new : SourceView S) : Type 0 where
    pub asked : new.asked ≡ old.asked + asks
    pub refused : new.refused ≡ old.refused + refusals
    pub heeded : asks ≡ 1 → IsPlanned old.plan (old.asked + 1) → refusals ≡ 1

  -- at most one request was made, and at most that one was refused
  pub record AskedAtMostOnce (old new : SourceView S) : Type 0 where
    pub asks : ℕ
    pub refusals : ℕ
    pub few : (refusals ≤ asks) × (asks ≤ 1)
    pub answered : Answered asks refusals old new
    pub plan : new.plan ≡ old.plan

  -- at most one request was made, and it was not refused
  pub record AskedUnrefused (old new : SourceView S) : Type 0 where
    pub asks : ℕ
    pub few : asks ≤ 1
    pub answered : Answered asks 0 old new
    pub plan : new.plan ≡ old.plan
