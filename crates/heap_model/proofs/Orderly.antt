-- The tables stay orderly.
use Rattle.std.proofs.Common.{◌≡◌, ◌≢◌, ℕ, ◌+◌, ◌<◌, ◌≤◌, ◌⊎◌, inl, inr, List, [], ◌∷◌, length, get_or, set, refl, sym, ap, subst, ◌∙◌, arith}
use Rattle.std.proofs.lemmas.Bool.Decides.{eqb_tells}
use Rattle.std.proofs.lemmas.List.{get_or-set_same, get_or-set_other, length-set}
use Rattle.extents.specs.Sums.{tally, Has, Inserted, Removed, Replaced}
use Rattle.extents.proofs.CallerLemmas.{tally_zero, tally_inserted, tally_replaced, has_new, has_kept, has_more}
use Rattle.layout_model.specs.Sizes.{capacity}
use Rattle.layout_model.proofs.CallerLemmas.{many}
use Rattle.layout_model.specs.Geometry.{PoolLine}
use Rattle.heap_model.specs.Tables.{Spot, spot_of}
use Rattle.heap_model.specs.Kept.{has_number, is_spot, stands_at, open_at, IsPool, AreOrderly}
use Rattle.heap_model.proofs.Pools.{replaced_steps, is_spot_self, is_spot_same, is_spot_other, open_value, open_class}

-- what a list has after one of its elements changed
pub has_replaced : {X : Type 0} (x y z : X) (old new : List X) → Replaced x y old new → Has z new → (z ≡ y) ⊎ Has z old
has_replaced x y z old new r h =
    let m = replaced_steps x y old new r in
    elim (has_more y z m.0 new m.1.1 h) [ inl e ↦ inl e | inr g ↦ inr (has_kept x z m.0 old m.1.0 g) ]

pub has_before : {X : Type 0} (x y : X) (old new : List X) → Replaced x y old new → Has x old
has_before x y old new r = let m = replaced_steps x y old new r in has_new x m.0 old m.1.0

pub has_after : {X : Type 0} (x y : X) (old new : List X) → Replaced x y old new → Has y new
has_after x y old new r = let m = replaced_steps x y old new r in has_new y m.0 new m.1.1

-- one class's list is replaced, and the pools of the other classes stay
listed_set : (lists : List (List Spot)) (c : ℕ) (ks : List Spot) (old new : List PoolLine) → c < length lists →
    ((d : ℕ) (s : Spot) → tally (is_spot s) (get_or lists d []) ≡ tally (open_at d s) old) →
    ((s : Spot) → tally (is_spot s) ks ≡ tally (open_at c s) new) →
    ((d : ℕ) (s : Spot) → d ≢ c → tally (open_at d s) new ≡ tally (open_at d s) old) →
    (d : ℕ) (s : Spot) → tally (is_spot s) (get_or (set lists c ks) d []) ≡ tally (open_at d s) new
listed_set lists c ks old new inside was here others d s = elim (eqb_tells d c) [
  | inl w ↦ subst (λ e. tally (is_spot s) (get_or (set lists c ks) e []) ≡ tally (open_at e s) new) (sym w.1) (rw (get_or-set_same lists c ks [] inside) (here s))
  | inr w ↦ rw (get_or-set_other lists c d ks [] w.1) (was d s ∙ sym (others d s w.1))
]

-- a pool changes the number of its blocks in use, and its class gets a list that fits
pub pool_changed : (x y : PoolLine) (old new : List PoolLine) (lists : List (List Spot)) (ks : List Spot) (taken : ℕ) → AreOrderly old lists taken → Replaced x y old new →
    y.number ≡ x.number → y.class ≡ x.class → spot_of y ≡ spot_of x → 1 ≤ y.live → y.live ≤ capacity x.class →
    ((s : Spot) → tally (is_spot s) ks ≡ tally (open_at x.class s) new) → AreOrderly new (set lists x.class ks) taken
pool_changed x y old new lists ks taken o r num class spot some most fits =
    let here = has_before x y old new r in
    let p = o.pools x here in
    let inside : x.class < length lists = let c = o.classes in let s = p.small in omega arith in
    record {
      classes = length-set lists x.class ks ∙ o.classes;
      pools = λ z h. elim (has_replaced x y z old new r h) [
        | inl e ↦ subst (IsPool taken) (sym e) (record { known = subst (λ n. n < taken) (sym num) p.known; small = subst (λ n. n < 32) (sym class) p.small; some = some; most = subst (λ n. y.live ≤ capacity n) (sym class) most })
        | inr g ↦ o.pools z g
      ];
      numbers = λ k. let sum = tally_replaced (has_number k) x y old new r in let same : has_number k y ≡ has_number k x = rw num refl in let once = o.numbers k in omega arith;
      spots = λ s. let sum = tally_replaced (stands_at s) x y old new r in let same : stands_at s y ≡ stands_at s x = ap (is_spot s) spot in let once = o.spots s in omega arith;
      listed = listed_set lists x.class ks old new inside o.listed fits (λ d s n.
          let sum = tally_replaced (open_at d s) x y old new r in
          let a = open_class d s x (λ e. n (sym e)) in let b = open_class d s y (λ e. n (sym e ∙ class)) in omega arith);
    }

-- a new pool, the only one of its class with a free block
pub pool_comes : (y : PoolLine) (old new : List PoolLine) (lists : List (List Spot)) (taken : ℕ) → AreOrderly old lists taken → Inserted y old new →
    y.number ≡ taken → y.class < 32 → y.live ≡ 1 → ((x : PoolLine) → Has x old → spot_of x ≢ spot_of y) → get_or lists y.class [] ≡ [] →
    AreOrderly new (set lists y.class (spot_of y ∷ [])) (taken + 1)
pool_comes y old new lists taken o i num small live free none =
    let room = many y.class small in
    let inside : y.class < length lists = let c = o.classes in omega arith in
    let half : y.live ≢ capacity y.class = λ e. absurd (omega arith) in
    record {
      classes = length-set lists y.class (spot_of y ∷ []) ∙ o.classes;
      pools = λ z h. elim (has_more y z old new i h) [
        | inl e ↦ subst (IsPool (taken + 1)) (sym e) (record { known = omega arith; small = small; some = omega arith; most = omega arith })
        | inr g ↦ let p = o.pools z g in record { known = let k = p.known in omega arith; small = p.small; some = p.some; most = p.most }
      ];
      numbers = λ k. let sum = tally_inserted (has_number k) y old new i in let once = o.numbers k in elim (eqb_tells y.number k) [
        | inl w ↦ let one : has_number k y ≡ 1 = rw w.0 refl in
            let zeros = tally_zero (has_number k) old (λ z g. elim (eqb_tells z.number k) [ inl v ↦ absurd (let p = (o.pools z g).known in omega (arith, v.1, w.1)) | inr v ↦ rw v.0 refl ]) in omega arith
        | inr w ↦ let one : has_number k y ≡ 0 = rw w.0 refl in omega arith
      ];
      spots = λ s. let sum = tally_inserted (stands_at s) y old new i in let once = o.spots s in elim (eqb_tells (stands_at s y) 0) [
        | inl w ↦ let z = w.1 in omega arith
        | inr w ↦ let n = w.1 in let at : spot_of y ≡ s = is_spot_same s (spot_of y) (omega arith) in
            let zeros = tally_zero (stands_at s) old (λ z g. is_spot_other s (spot_of z) (λ e. free z g (e ∙ sym at))) in let one : stands_at s y ≡ 1 = ap (is_spot s) at ∙ is_spot_self s in omega arith
      ];
      listed = listed_set lists y.class (spot_of y ∷ []) old new inside o.listed
          (λ s. let sum = tally_inserted (open_at y.class s) y old new i in let was : tally (is_spot s) [] ≡ tally (open_at y.class s) old = subst (λ l. tally (is_spot s) l ≡ tally (open_at y.class s) old) none (o.listed y.class s) in let v = open_value y.class s y refl half in omega arith)
          (λ d s n. let sum = tally_inserted (open_at d s) y old new i in let z = open_class d s y (λ e. n (sym e)) in omega arith);
    }

-- a pool with a free block goes
pub pool_goes : (x : PoolLine) (old new : List PoolLine) (lists : List (List Spot)) (ks : List Spot) (taken : ℕ) → AreOrderly old lists taken → Removed x old new →
    x.live ≢ capacity x.class → Removed (spot_of x) (get_or lists x.class []) ks → AreOrderly new (set lists x.class ks) taken
pool_goes x old new lists ks taken o r half left =
    let here = has_new x new old r in
    let p = o.pools x here in
    let inside : x.class < length lists = let c = o.classes in let s = p.small in omega arith in
    record {
      classes = length-set lists x.class ks ∙ o.classes;
      pools = λ z h. o.pools z (has_kept x z new old r h);
      numbers = λ k. let sum = tally_inserted (has_number k) x new old r in let once = o.numbers k in omega arith;
      spots = λ s. let sum = tally_inserted (stands_at s) x new old r in let once = o.spots s in omega arith;
      listed = listed_set lists x.class ks old new inside o.listed
          (λ s. let sum = tally_inserted (open_at x.class s) x new old r in let less = tally_inserted (is_spot s) (spot_of x) ks (get_or lists x.class []) left in let was = o.listed x.class s in let v = open_value x.class s x refl half in omega arith)
          (λ d s n. let sum = tally_inserted (open_at d s) x new old r in let z = open_class d s x (λ e. n (sym e)) in omega arith);
    }
