-- What proofs of other crates may cite: what a map holds after one name changes, and how its sums change.
use Rattle.std.proofs.Common.{◌≡◌, ℕ, ◌+◌, Bool, true, false, cond, [], ◌∷◌, Option, Some, None, refl, sym, ap, ◌∙◌, arith, true≢false}
use Rattle.std.specs.Prelude.{◌≢◌, sum_by}
use Rattle.std.specs.Str.{bytes_eq}
use Rattle.std.proofs.lemmas.List.Sums.{sum_by-cons}
use Rattle.std.proofs.lemmas.Slice.Eq.{bytes_eq-Decides}
use Rattle.mem_base.specs.Name.{Name}
use Rattle.map_model.specs.Map.{Map, find, put, drop, hold, AreDistinct}

-- ---- names

same_name : (a b : Name) → bytes_eq a b ≡ true → a ≡ b
same_name a b e = (bytes_eq-Decides a b).0 e

name_is : (a : Name) → bytes_eq a a ≡ true
name_is a = (bytes_eq-Decides a a).1 refl

is_other : (a b : Name) → b ≢ a → bytes_eq a b ≡ false
is_other a b ne = by (bytes_eq a b) refl
  where
    by : (v : Bool) → bytes_eq a b ≡ v → v ≡ false
    by true e = absurd (ne (sym (same_name a b e)))
    by false e = refl

differs : (a b : Name) → bytes_eq a b ≡ false → a ≢ b
differs a b e = λ h. true≢false (sym (name_is a) ∙ ap (bytes_eq a) h ∙ e)

-- ---- what a name holds

find-put_same : {V : Type 0} (m : Map V) (name : Name) (v : V) → find (put m name v) name ≡ Some v
find-put_same [] name v = ap (λ (b : Bool). cond b (Some v) None) (name_is name)
find-put_same (e ∷ m) name v = by (bytes_eq e.0 name) refl (find-put_same m name v)
  where
    by : (b : Bool) → bytes_eq e.0 name ≡ b → find (put m name v) name ≡ Some v → find (cond b ((name, v) ∷ m) (e ∷ put m name v)) name ≡ Some v
    by true h rest = ap (λ (b : Bool). cond b (Some v) (find m name)) (name_is name)
    by false h rest = ap (λ (b : Bool). cond b (Some e.1) (find (put m name v) name)) h ∙ rest

find-drop_same : {V : Type 0} (m : Map V) (name : Name) → find (drop m name) name ≡ None
find-drop_same [] name = refl
find-drop_same (e ∷ m) name = by (bytes_eq e.0 name) refl (find-drop_same m name)
  where
    by : (b : Bool) → bytes_eq e.0 name ≡ b → find (drop m name) name ≡ None → find (cond b (drop m name) (e ∷ drop m name)) name ≡ None
    by true h rest = rest
    by false h rest = ap (λ (b : Bool). cond b (Some e.1) (find (drop m name) name)) h ∙ rest

-- a name holds what it was given
pub find-hold_same : {V : Type 0} (m : Map V) (name : Name) (v : Option V) → find (hold m name v) name ≡ v
find-hold_same m name None = find-drop_same m name
find-hold_same m name (Some v) = find-put_same m name v

-- an entry of one name is not found under another
passes : {V : Type 0} (e : Name × V) (m : Map V) (name other : Name) → other ≢ name → bytes_eq e.0 name ≡ true → find (e ∷ m) other ≡ find m other
passes e m name other ne h = ap (λ (b : Bool). cond b (Some e.1) (find m other)) (is_other e.0 other (λ k. ne (k ∙ same_name e.0 name h)))

find-put_other : {V : Type 0} (m : Map V) (name other : Name) (v : V) → other ≢ name → find (put m name v) other ≡ find m other
find-put_other [] name other v ne = ap (λ (b : Bool). cond b (Some v) None) (is_other name other ne)
find-put_other (e ∷ m) name other v ne = by (bytes_eq e.0 name) refl (find-put_other m name other v ne)
  where
    by : (b : Bool) → bytes_eq e.0 name ≡ b → find (put m name v) other ≡ find m other → find (cond b ((name, v) ∷ m) (e ∷ put m name v)) other ≡ find (e ∷ m) other
    by true h rest = passes (name, v) m name other ne (name_is name) ∙ sym (passes e m name other ne h)
    by false h rest = ap (λ (o : Option _). cond (bytes_eq e.0 other) (Some e.1) o) rest

find-drop_other : {V : Type 0} (m : Map V) (name other : Name) → other ≢ name → find (drop m name) other ≡ find m other
find-drop_other [] name other ne = refl
find-drop_other (e ∷ m) name other ne = by (bytes_eq e.0 name) refl (find-drop_other m name other ne)
  where
    by : (b : Bool) → bytes_eq e.0 name ≡ b → find (drop m name) other ≡ find m other → find (cond b (drop m name) (e ∷ drop m name)) other ≡ find (e ∷ m) other
    by true h rest = rest ∙ sym (passes e m name other ne h)
    by false h rest = ap (λ (o : Option _). cond (bytes_eq e.0 other) (Some e.1) o) rest

-- each other name holds what it held
pub find-hold_other : {V : Type 0} (m : Map V) (name other : Name) (v : Option V) → other ≢ name → find (hold m name v) other ≡ find m other
find-hold_other m name other None ne = find-drop_other m name other ne
find-hold_other m name other (Some v) ne = find-put_other m name other v ne

-- a name that is given what it holds changes nothing
pub find-hold_again : {V : Type 0} (m : Map V) (name other : Name) (v : Option V) → v ≡ find m name → find (hold m name v) other ≡ find m other
find-hold_again m name other v same = by (bytes_eq other name) refl
  where
    by : (b : Bool) → bytes_eq other name ≡ b → find (hold m name v) other ≡ find m other
    by true h =
        let named : other ≡ name = same_name other name h in
        ap (find (hold m name v)) named ∙ find-hold_same m name v ∙ same ∙ sym (ap (find m) named)
    by false h = find-hold_other m name other v (differs other name h)

-- ---- no name stands twice

put_distinct : {V : Type 0} (m : Map V) (name : Name) (v : V) → AreDistinct m → AreDistinct (put m name v)
put_distinct [] name v apart = (refl, tt)
put_distinct (e ∷ m) name v apart = by (bytes_eq e.0 name) refl (put_distinct m name v apart.1)
  where
    by : (b : Bool) → bytes_eq e.0 name ≡ b → AreDistinct (put m name v) → AreDistinct (cond b ((name, v) ∷ m) (e ∷ put m name v))
    by true h rest = (ap (find m) (sym (same_name e.0 name h)) ∙ apart.0, apart.1)
    by false h rest = (find-put_other m name e.0 v (differs e.0 name h) ∙ apart.0, rest)

drop_distinct : {V : Type 0} (m : Map V) (name : Name) → AreDistinct m → AreDistinct (drop m name)
drop_distinct [] name apart = tt
drop_distinct (e ∷ m) name apart = by (bytes_eq e.0 name) refl (drop_distinct m name apart.1)
  where
    by : (b : Bool) → bytes_eq e.0 name ≡ b → AreDistinct (drop m name) → AreDistinct (cond b (drop m name) (e ∷ drop m name))
    by true h rest = rest
    by false h rest = (find-drop_other m name e.0 (differs e.0 name h) ∙ apart.0, rest)

pub hold_distinct : {V : Type 0} (m : Map V) (name : Name) (v : Option V) → AreDistinct m → AreDistinct (hold m name v)
hold_distinct m name None apart = drop_distinct m name apart
hold_distinct m name (Some v) apart = put_distinct m name v apart

-- ---- sums

-- a sum over a map of a measure of what its names hold
abbrev weight_of : {V : Type 0} → (Option V → ℕ) → Map V → ℕ
weight_of f m = sum_by (λ e. f (Some e.1)) m

sum_put : {V : Type 0} (f : Option V → ℕ) (m : Map V) (name : Name) (v : V) → f None ≡ 0 → weight_of f (put m name v) + f (find m name) ≡ weight_of f m + f (Some v)
sum_put f [] name v none = omega (arith, none)
sum_put f (e ∷ m) name v none = by (bytes_eq e.0 name) (sum_put f m name v none)
  where
    by : (b : Bool) → weight_of f (put m name v) + f (find m name) ≡ weight_of f m + f (Some v)
        → weight_of f (cond b ((name, v) ∷ m) (e ∷ put m name v)) + f (cond b (Some e.1) (find m name)) ≡ weight_of f (e ∷ m) + f (Some v)
    by true rest = omega (arith, sum_by-cons (λ x. f (Some x.1)) e m, sum_by-cons (λ x. f (Some x.1)) (name, v) m)
    by false rest = omega (arith, rest, sum_by-cons (λ x. f (Some x.1)) e m, sum_by-cons (λ x. f (Some x.1)) e (put m name v))

drop_absent : {V : Type 0} (m : Map V) (name : Name) → find m name ≡ None → drop m name ≡ m
drop_absent [] name none = refl
drop_absent (e ∷ m) name none = by (bytes_eq e.0 name) none (drop_absent m name)
  where
    by : (b : Bool) → cond b (Some e.1) (find m name) ≡ None → (find m name ≡ None → drop m name ≡ m) → cond b (drop m name) (e ∷ drop m name) ≡ e ∷ m
    by true k rest = absurd cc
    by false k rest = ap (λ (l : Map _). e ∷ l) (rest k)

sum_drop : {V : Type 0} (f : Option V → ℕ) (m : Map V) (name : Name) → f None ≡ 0 → AreDistinct m → weight_of f (drop m name) + f (find m name) ≡ weight_of f m
sum_drop f [] name none apart = omega (arith, none)
sum_drop f (e ∷ m) name none apart = by (bytes_eq e.0 name) refl (sum_drop f m name none apart.1)
  where
    by : (b : Bool) → bytes_eq e.0 name ≡ b → weight_of f (drop m name) + f (find m name) ≡ weight_of f m
        → weight_of f (cond b (drop m name) (e ∷ drop m name)) + f (cond b (Some e.1) (find m name)) ≡ weight_of f (e ∷ m)
    by true h rest =
        let gone : weight_of f (drop m name) ≡ weight_of f m = ap (weight_of f) (drop_absent m name (ap (find m) (sym (same_name e.0 name h)) ∙ apart.0)) in
        omega (arith, gone, sum_by-cons (λ x. f (Some x.1)) e m)
    by false h rest = omega (arith, rest, sum_by-cons (λ x. f (Some x.1)) e m, sum_by-cons (λ x. f (Some x.1)) e (drop m name))

-- a sum over the map changes by what the name held and holds
pub sum_hold : {V : Type 0} (f : Option V → ℕ) (m : Map V) (name : Name) (v : Option V) → f None ≡ 0 → AreDistinct m
    → sum_by (λ e. f (Some e.1)) (hold m name v) + f (find m name) ≡ sum_by (λ e. f (Some e.1)) m + f v
sum_hold f m name None none apart = omega (arith, none, sum_drop f m name none apart)
sum_hold f m name (Some v) none apart = sum_put f m name v none
