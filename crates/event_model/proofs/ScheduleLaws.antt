-- The schedule takes one track, and a history is its own schedule.
use Rattle.std.proofs.Common.{◌≡◌, ℕ, ◌+◌, ◌≤◌, Bool, true, false, cond, List, [], ◌∷◌, ◌++◌, map, replicate}
use Rattle.std.proofs.Common.{refl, sym, ap, subst, ◌∙◌, inl, inr, arith, true≢false, add-one}
use Rattle.std.specs.Prelude.{◌==◌}
use Rattle.std.specs.List.{AllByRecursion}
use Rattle.std.proofs.lemmas.Bool.{cases_lt}
use Rattle.std.proofs.lemmas.Bool.Decides.{eqb_tells}
use Rattle.std.proofs.lemmas.List.Concat.{flat_map-cons}
use Rattle.mem_base.specs.declared.history.Entry.{Entry}
use Rattle.trace_model.specs.Plain.{PlainTrack}
use Rattle.event_model.specs.Events.{is_ready, event}
use Rattle.event_model.specs.History.{opening, state_after, IsLegalFrom, IsLegal}
use Rattle.event_model.specs.Schedule.{one_by_one, NoneIsReady, IsPicked, IsFirstReady, Takes, FollowsFrom}
use Rattle.event_model.specs.Schedule.{Follows, in_front, runs, NeighboursDiffer}
use Rattle.event_model.specs.State.{State}

-- ---- one track

module _ (ready : ℕ → Bool) where
  pub takes_ready : (picks : List ℕ) (t : ℕ) (left : List ℕ) → Takes ready picks t left → ready t ≡ true
  takes_ready picks t left (inl picked) = picked.is
  takes_ready picks t left (inr unpicked) = unpicked.first.is

  -- a track is not ready and ready
  both_ways : (t : ℕ) → ready t ≡ false → ready t ≡ true → ⊥
  both_ways t waits goes = true≢false (sym goes ∙ waits)

  -- among tracks that are not ready is no ready one
  none_among : (passed left : List ℕ) (t : ℕ) → NoneIsReady ready (passed ++ t ∷ left) → ready t ≡ false
  none_among [] left t none = none.0
  none_among (p ∷ passed) left t none = none_among passed left t none.1

  same_pick : (passed passed_too left rest : List ℕ) (t u : ℕ) → passed ++ t ∷ left ≡ passed_too ++ u ∷ rest
      → NoneIsReady ready passed → NoneIsReady ready passed_too
      → ready t ≡ true → ready u ≡ true → (t ≡ u) × (left ≡ rest)
  same_pick [] [] left rest t u same none none_too is is_too = (cc, cc)
  same_pick [] (q ∷ qs) left rest t u same none none_too is is_too =
      let first : t ≡ q = cc in
      absurd (both_ways q none_too.0 (ap ready (sym first) ∙ is))
  same_pick (p ∷ ps) [] left rest t u same none none_too is is_too =
      let first : p ≡ u = cc in
      absurd (both_ways p none.0 (ap ready first ∙ is_too))
  same_pick (p ∷ ps) (q ∷ qs) left rest t u same none none_too is is_too =
      let others : ps ++ t ∷ left ≡ qs ++ u ∷ rest = cc in
      same_pick ps qs left rest t u others none.1 none_too.1 is is_too

  same_first : (t u : ℕ) → IsFirstReady ready t → IsFirstReady ready u → t ≡ u
  same_first t u first first_too = elim (cases_lt t u) [
    | inl lt ↦ absurd (both_ways t (first_too.before t lt) first.is)
    | inr le ↦ elim (cases_lt u t) [
      | inl lt ↦ absurd (both_ways u (first.before u lt) first_too.is)
      | inr ge ↦ omega (arith, le, ge)
    ]
  ]

  not_picked : (picks : List ℕ) (t : ℕ) (left : List ℕ) → NoneIsReady ready picks → IsPicked ready picks t left → ⊥
  not_picked picks t left none picked =
      both_ways t (none_among picked.passed left t (subst (NoneIsReady ready) picked.all none)) picked.is

  pub takes_one : (picks : List ℕ) (t u : ℕ) (left rest : List ℕ) → Takes ready picks t left
      → Takes ready picks u rest → (t ≡ u) × (left ≡ rest)
  takes_one picks t u left rest (inl a) (inl b) =
      same_pick a.passed b.passed left rest t u (sym a.all ∙ b.all) a.over b.over a.is b.is
  takes_one picks t u left rest (inl a) (inr b) = absurd (not_picked picks t left b.over a)
  takes_one picks t u left rest (inr a) (inl b) = absurd (not_picked picks u rest a.over b)
  takes_one picks t u left rest (inr a) (inr b) = (same_first t u a.first b.first, a.none ∙ sym b.none)

-- ---- histories

-- one more entry, of the track that the schedule takes from the picks that were left
pub follows_push : (tracks : List PlainTrack) (s : State) (picks : List ℕ) (es : List Entry) (e : Entry) (left rest : List ℕ)
    → FollowsFrom tracks s picks es left
    → Takes (is_ready tracks (state_after tracks s es)) left e.track rest → FollowsFrom tracks s picks (es ++ e ∷ []) rest
follows_push tracks s picks [] e left rest is takes =
    (rest, subst (λ (ps : List ℕ). Takes (is_ready tracks s) ps e.track rest) is takes, refl)
follows_push tracks s picks (x ∷ es) e left rest follows takes =
    (follows.0, follows.1, follows_push tracks (event tracks s x).0 follows.0 es e left rest follows.2 takes)

-- legal entries follow their own tracks
follows_itself : (tracks : List PlainTrack) (s : State) (es : List Entry) → IsLegalFrom tracks s es
    → FollowsFrom tracks s (map (λ e. e.track) es) es []
follows_itself tracks s [] legal = refl
follows_itself tracks s (e ∷ es) legal = (
  map (λ e. e.track) es,
  inl (record { passed = []; all = refl; over = tt; is = legal.0.ready }),
  follows_itself tracks (event tracks s e).0 es legal.1,
)

-- ---- runs

-- the tracks of picks, the first of which is written out
first_too : (p : ℕ × ℕ) (ps : List (ℕ × ℕ)) → one_by_one (p ∷ ps) ≡ replicate p.1 p.0 ++ one_by_one ps
first_too p ps = flat_map-cons (λ q. replicate q.1 q.0) p ps

in_front_spells : (t : ℕ) (ps : List (ℕ × ℕ)) → one_by_one (in_front t ps) ≡ t ∷ one_by_one ps
in_front_spells t [] = refl
in_front_spells t (p ∷ ps) = elim (eqb_tells t p.0) [
  | inl hit ↦
      ap (λ (b : Bool). one_by_one (cond b ((p.0, p.1 + 1) ∷ ps) ((t, 1) ∷ p ∷ ps))) hit.0
      ∙ first_too (p.0, p.1 + 1) ps
      ∙ (λ i. replicate (add-one p.1 i) p.0 ++ one_by_one ps)
      ∙ (λ i. sym hit.1 i ∷ sym (first_too p ps) i)
  | inr miss ↦ ap (λ (b : Bool). one_by_one (cond b ((p.0, p.1 + 1) ∷ ps) ((t, 1) ∷ p ∷ ps))) miss.0 ∙ first_too (t, 1) (p ∷ ps)
]

pub runs_spell : (es : List Entry) → one_by_one (runs es) ≡ map (λ e. e.track) es
runs_spell [] = refl
runs_spell (e ∷ es) = in_front_spells e.track (runs es) ∙ ap (λ (ts : List ℕ). e.track ∷ ts) (runs_spell es)

in_front_differs : (t : ℕ) (ps : List (ℕ × ℕ)) → NeighboursDiffer ps → NeighboursDiffer (in_front t ps)
in_front_differs t [] differ = tt
in_front_differs t (p ∷ ps) differ = elim (eqb_tells t p.0) [
  | inl hit ↦ subst (λ (b : Bool). NeighboursDiffer (cond b ((p.0, p.1 + 1) ∷ ps) ((t, 1) ∷ p ∷ ps))) (sym hit.0) (longer ps differ)
  | inr miss ↦ subst (λ (b : Bool). NeighboursDiffer (cond b ((p.0, p.1 + 1) ∷ ps) ((t, 1) ∷ p ∷ ps))) (sym miss.0) (miss.1, differ)
]
  where
    longer : (qs : List (ℕ × ℕ)) → NeighboursDiffer (p ∷ qs) → NeighboursDiffer ((p.0, p.1 + 1) ∷ qs)
    longer [] d = tt
    longer (q ∷ qs) d = d

pub runs_differ : (es : List Entry) → NeighboursDiffer (runs es)
runs_differ [] = tt
runs_differ (e ∷ es) = in_front_differs e.track (runs es) (runs_differ es)

in_front_some : (t : ℕ) (ps : List (ℕ × ℕ)) → AllByRecursion (λ p. 1 ≤ p.1) ps → AllByRecursion (λ p. 1 ≤ p.1) (in_front t ps)
in_front_some t [] some = (omega arith, tt)
in_front_some t (p ∷ ps) some = by (t == p.0)
  where
    by : (b : Bool) → AllByRecursion (λ p. 1 ≤ p.1) (cond b ((p.0, p.1 + 1) ∷ ps) ((t, 1) ∷ p ∷ ps))
    by true = (omega arith, some.1)
    by false = (omega arith, some)

pub runs_some : (es : List Entry) → AllByRecursion (λ p. 1 ≤ p.1) (runs es)
runs_some [] = tt
runs_some (e ∷ es) = in_front_some e.track (runs es) (runs_some es)

pub legal_follows : (tracks : List PlainTrack) (es : List Entry) → IsLegal tracks es → Follows tracks (runs es) es
legal_follows tracks es legal =
    ([], subst (λ (ps : List ℕ). FollowsFrom tracks (opening tracks) ps es []) (sym (runs_spell es)) (follows_itself tracks (opening tracks) es legal))
