-- Which arena the bytes of each pool name.
use Rattle.std.proofs.Common.{◌≡◌, ℕ, zero, suc, ◌+◌, ◌<◌, inl, inr, List, [], ◌∷◌, ◌++◌, length, get_or, set, replicate, Option, Some, None, sym, ap, subst, ◌∙◌, arith}
use Rattle.std.proofs.lemmas.List.{get_or-set_same, get_or-set_other}
use Rattle.std.proofs.lemmas.Bool.Decides.{eqb_tells}
use Rattle.raw_region.specs.Region.{RegionView}
use Rattle.arena_set.specs.Started.{Started}
use Rattle.layout_model.specs.Geometry.{total_at}
use Rattle.arena_set.specs.Arena.{ArenaView, new_arena}
use Rattle.arena_set.specs.Set.{AreNamed, PoolsNamed}
use Rattle.arena_set.proofs.Flats.{some_same}

pub named_set : (arenas : List (Option ArenaView)) (i : ℕ) (b : ArenaView) → AreNamed arenas → i < length arenas → PoolsNamed (i + 1) b → AreNamed (set arenas i (Some b))
named_set arenas i b all lt here j a there k s is = elim (eqb_tells j i) [
  | inl w ↦
      let same : b ≡ a = some_same b a (sym (get_or-set_same arenas i (Some b) None lt) ∙ subst (λ n. get_or (set arenas i (Some b)) n None ≡ Some a) w.1 there) in
      here k s (ap (λ (x : ArenaView). get_or x.pools k None) same ∙ is) ∙ ap (λ n. n + 1) (sym w.1)
  | inr w ↦ all j a (sym (get_or-set_other arenas i j (Some b) None w.1) ∙ there) k s is
]

pub named_gap : (arenas : List (Option ArenaView)) (i : ℕ) → AreNamed arenas → i < length arenas → AreNamed (set arenas i None)
named_gap arenas i all lt j a there k s is = elim (eqb_tells j i) [
  | inl w ↦ let e = sym (get_or-set_same arenas i None None lt) ∙ subst (λ n. get_or (set arenas i None) n None ≡ Some a) w.1 there in absurd (cc)
  | inr w ↦ all j a (sym (get_or-set_other arenas i j None None w.1) ∙ there) k s is
]

no_pool : (n k : ℕ) (s : Started) → get_or (replicate n None) k None ≡ Some s → ⊥
no_pool zero k s e = absurd (cc)
no_pool (suc n) zero s e = absurd (cc)
no_pool (suc n) (suc k) s e = no_pool n k s e

-- the first of the arenas has the number n + 1
named_from : (arenas : List (Option ArenaView)) (r : RegionView) (n : ℕ) → ((i : ℕ) (a : ArenaView) → get_or arenas i None ≡ Some a → PoolsNamed (i + 1 + n) a) → (i : ℕ) (a : ArenaView) → get_or (arenas ++ Some (new_arena r) ∷ []) i None ≡ Some a → PoolsNamed (i + 1 + n) a
named_from [] r n all zero a there k s is = let same : new_arena r ≡ a = some_same (new_arena r) a there in absurd (no_pool (total_at r.base) k s (ap (λ (x : ArenaView). get_or x.pools k None) same ∙ is))
named_from [] r n all (suc j) a there k s is = absurd (cc)
named_from (o ∷ os) r n all zero a there k s is = all zero a there k s is
named_from (o ∷ os) r n all (suc j) a there k s is =
    let h = named_from os r (n + 1) (λ i b e m t f. (let q = all (suc i) b e m t f in omega arith)) j a there k s is in omega arith

pub named_push : (arenas : List (Option ArenaView)) (r : RegionView) → AreNamed arenas → AreNamed (arenas ++ Some (new_arena r) ∷ [])
named_push arenas r all j a there k s is = let h = named_from arenas r 0 (λ i b e m t f. (let q = all i b e m t f in omega arith)) j a there k s is in omega arith

-- one pool changes
pub named_change : (n k : ℕ) (a b : ArenaView) (t : Started) → PoolsNamed n a → k < length a.pools → b.pools ≡ set a.pools k (Some t) → t.pool.arena ≡ n → PoolsNamed n b
named_change n k a b t all lt is mine j s there = elim (eqb_tells j k) [
  | inl w ↦
      let same : t ≡ s = some_same t s (sym (get_or-set_same a.pools k (Some t) None lt) ∙ (ap (λ ps. get_or ps k None) (sym is) ∙ subst (λ i. get_or b.pools i None ≡ Some s) w.1 there)) in
      ap (λ (x : Started). x.pool.arena) (sym same) ∙ mine
  | inr w ↦ all j s (sym (get_or-set_other a.pools k j (Some t) None w.1) ∙ (ap (λ ps. get_or ps j None) (sym is) ∙ there))
]

-- one pool goes
pub named_less : (n k : ℕ) (a b : ArenaView) → PoolsNamed n a → k < length a.pools → b.pools ≡ set a.pools k None → PoolsNamed n b
named_less n k a b all lt is j s there = elim (eqb_tells j k) [
  | inl w ↦ let e = sym (get_or-set_same a.pools k None None lt) ∙ (ap (λ ps. get_or ps k None) (sym is) ∙ subst (λ i. get_or b.pools i None ≡ Some s) w.1 there) in absurd (cc)
  | inr w ↦ all j s (sym (get_or-set_other a.pools k j None None w.1) ∙ (ap (λ ps. get_or ps j None) (sym is) ∙ there))
]
