-- Sums over lists.
use Rattle.std.proofs.Common.{◌≡◌, ℕ, zero, suc, ◌+◌, ◌<◌, ◌≤◌, inl, inr, cond, eqb, List, [], ◌∷◌, ◌++◌, length, get_or, set, Option, Some, None, refl, sym, subst, arith}
use Rattle.std.proofs.lemmas.List.{get_or-set_same, get_or-set_other}
use Rattle.std.proofs.lemmas.Bool.Decides.{eqb_tells}
use Rattle.extents.specs.Sums.{tally}
use Rattle.extents.proofs.CallerLemmas.{tally-set}
use Rattle.layout_model.specs.Layout.{Usable, Used, Full}
use Rattle.layout_model.specs.Sizes.{capacity}
use Rattle.layout_model.specs.Sound.{dry_times, full_times, one_if, StartsAt, Lives}

-- what is found at an index adds no more than the sum, also past the end
pub tally_or : {X : Type 0} (f : X → ℕ) (xs : List X) (i : ℕ) (d : X) → f d ≡ 0 → f (get_or xs i d) ≤ tally f xs
tally_or f [] i d z = omega arith
tally_or f (x ∷ xs) zero d z = omega arith
tally_or f (x ∷ xs) (suc n) d z = let e = tally_or f xs n d z in omega arith

-- one class's list is replaced
pub swapped : (f : Used → ℕ) (pss : List (List Used)) (c : ℕ) (ps qs : List Used) → c < length pss → get_or pss c [] ≡ ps → tally (tally f) (set pss c qs) + tally f ps ≡ tally (tally f) pss + tally f qs
swapped f pss c ps qs h e = subst (λ w. tally (tally f) (set pss c qs) + tally f w ≡ tally (tally f) pss + tally f qs) e (tally-set (tally f) pss c qs [] h)

pub lives_set : (pss : List (List Used)) (c : ℕ) (qs : List Used) → c < length pss → ((d : ℕ) → d < 32 → Lives (capacity d) (get_or pss d [])) → Lives (capacity c) qs → (d : ℕ) → d < 32 → Lives (capacity d) (get_or (set pss c qs) d [])
lives_set pss c qs h all here d small =
    elim (eqb_tells d c) [
      | inl w ↦ subst (λ x. Lives (capacity x) (get_or (set pss c qs) x [])) (sym w.1) (rw (get_or-set_same pss c qs [] h) here)
      | inr w ↦ rw (get_or-set_other pss c d qs [] w.1) (all d small)
    ]

pub get_or_more : {X : Type 0} (xs : List (Option X)) (k : ℕ) → get_or (xs ++ None ∷ []) k None ≡ get_or xs k None
get_or_more [] zero = refl
get_or_more [] (suc n) = refl
get_or_more (x ∷ xs) zero = refl
get_or_more (x ∷ xs) (suc n) = get_or_more xs n

pub only_none : (o : Option Full) → full_times o ≡ 0 → o ≡ None
only_none None e = refl
only_none (Some f) e = absurd (omega arith)

pub only_none_total : (o : Option ℕ) → dry_times o ≡ 0 → o ≡ None
only_none_total None e = refl
only_none_total (Some f) e = absurd (omega arith)

pub one_if_same : (k : ℕ) → one_if (eqb k k) ≡ 1
one_if_same k = elim (eqb_tells k k) [ inl w ↦ rw w.0 refl | inr w ↦ absurd (w.1 refl) ]

-- what is known of an option at an index after a write there
pub held_set : {X : Type 0} (P : Option X → Type 0) (xs : List (Option X)) (i : ℕ) (y : Option X) → ((k : ℕ) → P (get_or xs k None)) → P y → i < length xs → (k : ℕ) → P (get_or (set xs i y) k None)
held_set P xs i y all here h k =
    elim (eqb_tells k i) [
      | inl w ↦ subst (λ x. P (get_or (set xs i y) x None)) (sym w.1) (rw (get_or-set_same xs i y None h) here)
      | inr w ↦ rw (get_or-set_other xs i k y None w.1) (all k)
    ]

-- a number of an option at an index after a write where it was 0
pub held_more : {X : Type 0} (f : Option X → ℕ) (xs : List (Option X)) (i : ℕ) (y : Option X) → i < length xs → f (get_or xs i None) ≡ 0 → (k : ℕ) → f (get_or (set xs i y) k None) ≡ f (get_or xs k None) + cond (eqb i k) (f y) 0
held_more f xs i y h z k =
    elim (eqb_tells i k) [
      | inl w ↦ rw w.0 (subst (λ x. f (get_or (set xs i y) x None) ≡ f (get_or xs x None) + f y) w.1 (rw (get_or-set_same xs i y None h) (omega arith)))
      | inr w ↦ rw w.0 (rw (get_or-set_other xs i k y None (λ e. w.1 (sym e))) (omega arith))
    ]

-- and after one that makes it 0
pub held_less : {X : Type 0} (f : Option X → ℕ) (xs : List (Option X)) (i : ℕ) (y x : Option X) → i < length xs → get_or xs i None ≡ x → f y ≡ 0 → (k : ℕ) → f (get_or (set xs i y) k None) + cond (eqb i k) (f x) 0 ≡ f (get_or xs k None)
held_less f xs i y x h e z k =
    elim (eqb_tells i k) [
      | inl w ↦ rw w.0 (subst (λ j. f (get_or (set xs i y) j None) + f x ≡ f (get_or xs j None)) w.1 (rw (get_or-set_same xs i y None h) (rw e (omega arith))))
      | inr w ↦ rw w.0 (rw (get_or-set_other xs i k y None (λ e. w.1 (sym e))) (omega arith))
    ]

pub starts_less : (m n : ℕ) (us : List Usable) → n ≤ m → StartsAt m us → StartsAt n us
starts_less m n [] h s = tt
starts_less m n (u ∷ us) h s = omega arith
