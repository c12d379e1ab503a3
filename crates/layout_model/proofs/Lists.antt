-- The lists of pools and arenas after an edit.
use Rattle.std.proofs.Common.{◌≡◌, ℕ, ◌+◌, ◌-◌, ◌≤◌, ◌≢◌, inl, inr, cond, eqb, List, [], ◌∷◌, Some, None, refl, arith}
use Rattle.std.proofs.lemmas.Bool.Decides.{eqb_tells, leb_tells}
use Rattle.extents.specs.Sums.{tally}
use Rattle.layout_model.specs.Layout.{Usable, Used}
use Rattle.layout_model.specs.Unplace.{lowered, without_pool, find_pool, find_arena, without_arena, put_arena}
use Rattle.layout_model.specs.Sound.{StartsAt, AreUsable, Lives}
use Rattle.layout_model.proofs.Tallies.{starts_less}

some_same : {X : Type 0} (x y : X) → Some x ≡ Some y → x ≡ y
some_same x y e = cc

pub tally_without : (f : Used → ℕ) (k : ℕ) (ps : List Used) (p : Used) → find_pool k ps ≡ Some p → tally f (without_pool k ps) + f p ≡ tally f ps
tally_without f k [] p = λ e. cc
tally_without f k (q ∷ ps) p = elim (eqb_tells q.pool k) as (λ _. cond (eqb q.pool k) (Some q) (find_pool k ps) ≡ Some p → tally f (cond (eqb q.pool k) ps (q ∷ without_pool k ps)) + f p ≡ f q + tally f ps) [
  | inl w ↦ rw w.0 (λ e. let same : q ≡ p = some_same q p e in rw same (omega arith))
  | inr w ↦ rw w.0 (λ e. let i = tally_without f k ps p e in omega arith)
]

pub tally_lowered : (f : Used → ℕ) → ((p : Used) (n : ℕ) → f (record p { live = n }) ≡ f p) → (k : ℕ) (ps : List Used) → tally f (lowered k ps) ≡ tally f ps
tally_lowered f blind k [] = refl
tally_lowered f blind k (q ∷ ps) = elim (eqb_tells q.pool k) [
  | inl w ↦ rw w.0 (let b = blind q (q.live - 1) in omega arith)
  | inr w ↦ rw w.0 (let i = tally_lowered f blind k ps in omega arith)
]

pub lives_without : (n k : ℕ) (ps : List Used) → Lives n ps → Lives n (without_pool k ps)
lives_without n k [] s = tt
lives_without n k (q ∷ ps) s = elim (eqb_tells q.pool k) [
  | inl w ↦ rw w.0 s.2
  | inr w ↦ rw w.0 (s.0, s.1, lives_without n k ps s.2)
]

pub lives_lowered : (n k : ℕ) (ps : List Used) (p : Used) → find_pool k ps ≡ Some p → p.live ≢ 1 → Lives n ps → Lives n (lowered k ps)
lives_lowered n k [] p = λ e m s. tt
lives_lowered n k (q ∷ ps) p = elim (eqb_tells q.pool k) as (λ _. cond (eqb q.pool k) (Some q) (find_pool k ps) ≡ Some p → p.live ≢ 1 → Lives n (q ∷ ps) → Lives n (cond (eqb q.pool k) (record q { live = q.live - 1 } ∷ ps) (q ∷ lowered k ps))) [
  | inl w ↦ rw w.0 (λ e m s. let same : q ≡ p = some_same q p e in let m2 : q.live ≢ 1 = rw same m in (omega arith, omega arith, s.2))
  | inr w ↦ rw w.0 (λ e m s. (s.0, s.1, lives_lowered n k ps p e m s.2))
]

pub found_arena : (a : ℕ) (us : List Usable) (u : Usable) → find_arena a us ≡ Some u → u.arena ≡ a
found_arena a [] u = λ e. cc
found_arena a (v ∷ us) u = elim (eqb_tells v.arena a) as (λ _. cond (eqb v.arena a) (Some v) (find_arena a us) ≡ Some u → u.arena ≡ a) [
  | inl w ↦ rw w.0 (λ e. let same : v ≡ u = some_same v u e in rw (← same) w.1)
  | inr w ↦ rw w.0 (λ e. found_arena a us u e)
]

pub tally_apart : (f : Usable → ℕ) (a : ℕ) (us : List Usable) (u : Usable) → find_arena a us ≡ Some u → tally f (without_arena a us) + f u ≡ tally f us
tally_apart f a [] u = λ e. cc
tally_apart f a (v ∷ us) u = elim (eqb_tells v.arena a) as (λ _. cond (eqb v.arena a) (Some v) (find_arena a us) ≡ Some u → tally f (cond (eqb v.arena a) us (v ∷ without_arena a us)) + f u ≡ f v + tally f us) [
  | inl w ↦ rw w.0 (λ e. let same : v ≡ u = some_same v u e in rw same (omega arith))
  | inr w ↦ rw w.0 (λ e. let i = tally_apart f a us u e in omega arith)
]

pub none_there : (f : Usable → ℕ) (a : ℕ) → ((u : Usable) → u.arena ≢ a → f u ≡ 0) → (us : List Usable) → find_arena a us ≡ None → tally f us ≡ 0
none_there f a zeros [] = λ e. refl
none_there f a zeros (v ∷ us) = elim (eqb_tells v.arena a) as (λ _. cond (eqb v.arena a) (Some v) (find_arena a us) ≡ None → f v + tally f us ≡ 0) [
  | inl w ↦ rw w.0 (λ e. absurd (cc))
  | inr w ↦ rw w.0 (λ e. let i = none_there f a zeros us e in let z = zeros v w.1 in omega arith)
]

starts_without : (n a : ℕ) (us : List Usable) → StartsAt n us → AreUsable us → StartsAt n (without_arena a us)
starts_without n a [] s r = tt
starts_without n a (v ∷ us) s r = elim (eqb_tells v.arena a) [
  | inl w ↦ rw w.0 (starts_less v.free n us s r.4)
  | inr w ↦ rw w.0 s
]

pub usable_without : (a : ℕ) (us : List Usable) → AreUsable us → AreUsable (without_arena a us)
usable_without a [] r = tt
usable_without a (v ∷ us) r = elim (eqb_tells v.arena a) [
  | inl w ↦ rw w.0 r.5
  | inr w ↦ rw w.0 (r.0, r.1, r.2, r.3, starts_without v.free a us r.4 r.5, usable_without a us r.5)
]

pub tally_put : (f : Usable → ℕ) (v : Usable) (us : List Usable) → tally f (put_arena v us) ≡ f v + tally f us
tally_put f v [] = refl
tally_put f v (u ∷ us) = elim (leb_tells v.free u.free) [
  | inl w ↦ rw w.0 refl
  | inr w ↦ rw w.0 (let i = tally_put f v us in omega arith)
]

starts_put : (n : ℕ) (v : Usable) (us : List Usable) → n ≤ v.free → StartsAt n us → StartsAt n (put_arena v us)
starts_put n v [] h s = h
starts_put n v (u ∷ us) h s = elim (leb_tells v.free u.free) [
  | inl w ↦ rw w.0 h
  | inr w ↦ rw w.0 s
]

pub usable_put : (v : Usable) (us : List Usable) → 63 ≤ v.total → v.total ≤ 64 → 1 ≤ v.free → v.free ≤ v.total → AreUsable us → AreUsable (put_arena v us)
usable_put v [] a b c d r = (a, b, c, d, tt, tt)
usable_put v (u ∷ us) a b c d r = elim (leb_tells v.free u.free) [
  | inl w ↦ rw w.0 (a, b, c, d, w.1, r)
  | inr w ↦ rw w.0 (r.0, r.1, r.2, r.3, starts_put u.free v us (omega arith) r.4, usable_put v us a b c d r.5)
]

-- what is found, as a fact about the whole list
pub usable_found : (a : ℕ) (us : List Usable) (u : Usable) → find_arena a us ≡ Some u → AreUsable us → (63 ≤ u.total) × (u.total ≤ 64) × (1 ≤ u.free) × (u.free ≤ u.total)
usable_found a [] u = λ e r. cc
usable_found a (v ∷ us) u = elim (eqb_tells v.arena a) as (λ _. cond (eqb v.arena a) (Some v) (find_arena a us) ≡ Some u → AreUsable (v ∷ us) → (63 ≤ u.total) × (u.total ≤ 64) × (1 ≤ u.free) × (u.free ≤ u.total)) [
  | inl w ↦ rw w.0 (λ e r. let same : v ≡ u = some_same v u e in rw (← same) (r.0, r.1, r.2, r.3))
  | inr w ↦ rw w.0 (λ e r. usable_found a us u e r.5)
]
