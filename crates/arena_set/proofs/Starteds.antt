-- Pools as the bytes of their arena tell them, when one of them changes.
use Rattle.std.proofs.Common.{◌≡◌, ◌≢◌, ℕ, zero, suc, ◌+◌, ◌*◌, ◌<◌, ◌≤◌, inl, inr, List, [], ◌∷◌, length, get_or, set, Option, Some, None, refl, sym, ap, subst, ◌∙◌, arith, length-set}
use Rattle.std.proofs.lemmas.List.{get_or-set_same, get_or-set_other}
use Rattle.std.proofs.lemmas.Bool.Decides.{eqb_tells, leb_tells}
use lib.Seq.{ext_get_or}
use Rattle.raw_region.specs.Region.{RegionView}
use Rattle.links.specs.Nodes.{times}
use Rattle.layout_model.specs.Plain.{PlainView, StandsFor, plain_at}
use Rattle.pool_core.specs.Calls.{InRun, OnlyAt, home}
use Rattle.pool_core.proofs.CallerLemmas.{plain_is, stands_apart}
use Rattle.arena_set.specs.Started.{Started, plain_of, started_from, started_in, started_of}
use Rattle.layout_model.specs.Geometry.{first_pool, pool_offset}
use Rattle.arena_set.specs.Arena.{ArenaView, arena_loans, started_times, AccountsFor, AllStand, IsSound, IsArena, PoolChange}
use Rattle.arena_set.proofs.Flats.{all_set}

-- ---- the pools by their numbers

pub started_at : (cells : List (Option ℕ)) (at : ℕ) (os : List (Option ℕ)) (i : ℕ) → get_or (started_from cells at os) i None ≡ started_in cells (at + 16384 * i) (get_or os i None)
started_at cells at [] i = refl
started_at cells at (o ∷ os) zero = let e : at ≡ at + 16384 * 0 = omega arith in ap (λ k. started_in cells k o) e
started_at cells at (o ∷ os) (suc i) = let e : at + 16384 + 16384 * i ≡ at + 16384 * suc i = omega arith in started_at cells (at + 16384) os i ∙ ap (λ k. started_in cells k (get_or os i None)) e

pub length-started : (cells : List (Option ℕ)) (at : ℕ) (os : List (Option ℕ)) → length (started_from cells at os) ≡ length os
length-started cells at [] = refl
length-started cells at (o ∷ os) = let i = length-started cells (at + 16384) os in omega arith

-- pools that are told one by one
pub started_is : (cells : List (Option ℕ)) (at : ℕ) (os : List (Option ℕ)) (ps : List (Option Started)) → length ps ≡ length os → ((i : ℕ) → i < length os → started_in cells (at + 16384 * i) (get_or os i None) ≡ get_or ps i None) → started_from cells at os ≡ ps
started_is cells at os ps long each =
    let size = length-started cells at os in
    ext_get_or None (started_from cells at os) ps (size ∙ sym long) (λ i lt. started_at cells at os i ∙ each i (omega arith))

-- ---- one pool changes

pub same_read : (n : ℕ) (p q : PlainView) → p ≡ q → Some (started_of n p) ≡ Some (started_of n q)
same_read n p q e = ap (λ x. Some (started_of n x)) e

module _ (a : ArenaView) (k : ℕ) (t : Started) (cells : List (Option ℕ)) (sound : IsArena a) (lt : k < length a.pools)
    (long : length cells ≡ length a.region.cells) (beside : (i : ℕ) → (InRun (pool_offset a.region.base k) 16384 i → ⊥) → get_or cells i None ≡ get_or a.region.cells i None)
    (here : StandsFor cells (pool_offset a.region.base k) (plain_of t)) where
  abbrev region_now : RegionView
  region_now = record { base = a.region.base; maker = a.region.maker; cells = cells }

  abbrev pools_now : List (Option Started)
  pools_now = set a.pools k (Some t)

  abbrev arena_now : ArenaView
  arena_now = record { region = region_now; free = a.free; pools = pools_now }

  -- the other pools stay
  pub others_stand : (j : ℕ) (s : Started) → j ≢ k → get_or a.pools j None ≡ Some s → StandsFor cells (pool_offset a.region.base j) (plain_of s)
  others_stand j s other there =
      stands_apart a.region.cells cells (pool_offset a.region.base j) (plain_of s) (sound.stands j s there) long
      (λ i r. beside i (λ q. absurd (let a1 = r.0 in let a2 = r.1 in let b1 = q.0 in let b2 = q.1 in elim (leb_tells j k) [ inl w ↦ omega arith | inr w ↦ omega arith ])))

  pub all_stand : AllStand region_now pools_now
  all_stand j s there = elim (eqb_tells j k) [
    | inl same ↦
        let is : Some t ≡ Some s = sym (get_or-set_same a.pools k (Some t) None lt) ∙ subst (λ i. get_or pools_now i None ≡ Some s) same.1 there in
        let e : t ≡ s = cc in
        subst (λ i. StandsFor cells (pool_offset a.region.base i) (plain_of s)) (sym same.1) (subst (λ u. StandsFor cells (pool_offset a.region.base k) (plain_of u)) e here)
    | inr other ↦ others_stand j s other.1 (sym (get_or-set_other a.pools k j (Some t) None other.1) ∙ there)
  ]

  -- so the bytes tell the pools, by their numbers
  module _ (os now : List (Option ℕ)) (seen : a.pools ≡ started_from a.region.cells (first_pool a.region.base) os) (size : length now ≡ length os) (named : get_or now k None ≡ Some t.number) (others : (j : ℕ) → j ≢ k → get_or now j None ≡ get_or os j None) where
    one_read : (j : ℕ) → j ≢ k → (o : Option ℕ) → get_or os j None ≡ o → started_in cells (pool_offset a.region.base j) o ≡ get_or a.pools j None
    one_read j other None is = sym (ap (λ ps. get_or ps j None) seen ∙ (started_at a.region.cells (first_pool a.region.base) os j ∙ ap (started_in a.region.cells (pool_offset a.region.base j)) is))
    one_read j other (Some n) is =
        let there = ap (λ ps. get_or ps j None) seen ∙ (started_at a.region.cells (first_pool a.region.base) os j ∙ ap (started_in a.region.cells (pool_offset a.region.base j)) is) in
        let p : PlainView = plain_at a.region.cells (pool_offset a.region.base j) in
        same_read n (plain_at cells (pool_offset a.region.base j)) p (plain_is cells (pool_offset a.region.base j) p (others_stand j (started_of n p) other there)) ∙ sym there

    pub pools_are : started_from cells (first_pool a.region.base) now ≡ pools_now
    pools_are =
        let count : length a.pools ≡ length os = ap length seen ∙ length-started a.region.cells (first_pool a.region.base) os in
        started_is cells (first_pool a.region.base) now pools_now (length-set a.pools k (Some t) ∙ (count ∙ sym size)) (λ i less. elim (eqb_tells i k) [
          | inl same ↦ subst (λ j. started_in cells (pool_offset a.region.base j) (get_or now j None) ≡ get_or pools_now j None) (sym same.1)
              (ap (started_in cells (pool_offset a.region.base k)) named ∙ (same_read t.number (plain_at cells (pool_offset a.region.base k)) (plain_of t) (plain_is cells (pool_offset a.region.base k) (plain_of t) here) ∙ sym (get_or-set_same a.pools k (Some t) None lt)))
          | inr other ↦ ap (started_in cells (pool_offset a.region.base i)) (others i other.1) ∙ (one_read i other.1 (get_or os i None) refl ∙ sym (get_or-set_other a.pools k i (Some t) None other.1))
        ])

  -- and the arena stays one, where its bytes account for what is lent then
  pub arena_stands : times k a.free ≡ 0 → AccountsFor region_now (arena_loans arena_now) → IsArena arena_now
  arena_stands out accounts = record {
    region = record { len = long ∙ sound.region.len; aligned = sound.region.aligned; somewhere = sound.region.somewhere };
    count = length-set a.pools k (Some t) ∙ sound.count;
    free = λ j. elim (eqb_tells j k) [
      | inl same ↦ subst (λ i. times i a.free + started_times (get_or pools_now i None) ≤ 1) (sym same.1) (let e = ap started_times (get_or-set_same a.pools k (Some t) None lt) in omega arith)
      | inr other ↦ let e = ap started_times (get_or-set_other a.pools k j (Some t) None other.1) in let f = sound.free j in omega arith
    ];
    below = λ j h. subst (λ n. j < n) (sym (length-set a.pools k (Some t))) (sound.below j h);
    sound = all_set IsSound a.pools k t sound.sound here.pool;
    accounts = accounts;
    stands = all_stand;
  }

  pub arena_changes : PoolChange a arena_now k t
  arena_changes = record { base = refl; maker = refl; long = long; free = refl; pools = refl; beside = beside }

-- ---- accounts

-- a change that leaves at home what is, and away what is
pub accounts_only : {P : ℕ → Type 0} (r s : RegionView) (es : List Rattle.extents.specs.Extent.Extent) → s.base ≡ r.base → OnlyAt P r.cells s.cells → AccountsFor r es → AccountsFor s es
accounts_only r s es base only accounts i lt =
    let l = only.length in let h = only.home i in
    subst (λ b. home (get_or s.cells i None) + Rattle.extents.specs.Sums.tally (Rattle.extents.specs.Extent.covers (b + i)) es ≡ 1) (sym base) (let a = accounts i (omega arith) in omega arith)

-- a change of a part of the pool
pub only_beside : {P : ℕ → Type 0} (off : ℕ) (old new : List (Option ℕ)) → OnlyAt P old new → ((i : ℕ) → P i → InRun off 16384 i) → (i : ℕ) → (InRun off 16384 i → ⊥) → get_or new i None ≡ get_or old i None
only_beside off old new only within i out = only.kept i (λ p. out (within i p))
