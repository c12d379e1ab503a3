-- The names of tracks, which differ, and the track of a name.
use Rattle.std.proofs.Common.{◌≡◌, ◌⊎◌, inl, inr, ℕ, zero, suc, ◌+◌, ◌<◌, Bool, true, false, cond, ◌||◌, List}
use Rattle.std.proofs.Common.{[], ◌∷◌, ◌++◌, length, slice_get, Some, Ok, Result, refl, sym, ap, subst, ◌∙◌}
use Rattle.std.proofs.Common.{arith, true≢false, add-one}
use Rattle.std.specs.List.{list_any}
use Rattle.std.specs.Str.{bytes_eq}
use Rattle.std.proofs.Math.Bool.{or-true}
use Rattle.std.proofs.lemmas.List.{map-append}
use Rattle.std.proofs.lemmas.Option.{slice_get_within}
use Rattle.std.proofs.lemmas.Slice.Eq.{bytes_eq-Decides}
use Rattle.mem_base.specs.Name.{Name}
use Rattle.mem_base.specs.Texts.{IsDistinct}
use Rattle.trace_model.specs.Operands.{◌>>=◌}
use Rattle.trace_model.specs.Plain.{Action, PlainTrack}
use Rattle.trace_model.specs.Spelling.{names_of, name_at_index}
use Rattle.trace_model.specs.Reading.{index_of, with_action}
use Rattle.trace_model.specs.declared.cause.TraceCause.{TraceCause}
use Rattle.trace_model.proofs.OperandLaws.{bind_ok, ok_is}

-- one of the tracks has the name
abbrev pub is_taken : Name → List PlainTrack → Bool
is_taken name ts = list_any (λ t. bytes_eq t.name name) ts

same_name : (a b : Name) → a ≡ b → bytes_eq a b ≡ true
same_name a b is = (bytes_eq-Decides a b).1 is

-- a name that stands among those of tracks is taken, and stands there where it is
taken_at : (ts : List PlainTrack) (name : Name) (i : ℕ) → slice_get (names_of ts) i ≡ Some name → is_taken name ts ≡ true
taken_at [] name i at = absurd cc
taken_at (t ∷ ts) name zero at =
    let same : t.name ≡ name = cc in
    ap (λ (b : Bool). b || is_taken name ts) (same_name t.name name same)
taken_at (t ∷ ts) name (suc i) at = ap (λ (b : Bool). bytes_eq t.name name || b) (taken_at ts name i at) ∙ or-true (bytes_eq t.name name)

place_of : (ts : List PlainTrack) (name : Name) → is_taken name ts ≡ true → (i : ℕ) × (slice_get (names_of ts) i ≡ Some name)
place_of [] name taken = absurd cc
place_of (t ∷ ts) name taken = by (bytes_eq t.name name) refl taken (place_of ts name)
  where
    by : (b : Bool) → bytes_eq t.name name ≡ b → (b || is_taken name ts) ≡ true → (is_taken name ts ≡ true → (i : ℕ) × (slice_get (names_of ts) i ≡ Some name))
        → (i : ℕ) × (slice_get (names_of (t ∷ ts)) i ≡ Some name)
    by true is h rest = (0, ap Some ((bytes_eq-Decides t.name name).0 is))
    by false is h rest = (suc (rest h).0, (rest h).1)

-- where a name stands once one more is at the end
slot : (names : List Name) (name text : Name) (i : ℕ) → slice_get (names ++ name ∷ []) i ≡ Some text → (slice_get names i ≡ Some text) ⊎ ((i ≡ length names) × (text ≡ name))
slot [] name text zero at = inr (refl, cc)
slot [] name text (suc i) at = absurd cc
slot (x ∷ xs) name text zero at = inl at
slot (x ∷ xs) name text (suc i) at = elim (slot xs name text i at) [ inl a ↦ inl a | inr b ↦ inr (ap suc b.0, b.1) ]

-- a new name keeps the names apart
pub distinct_push : (ts : List PlainTrack) (name : Name) → is_taken name ts ≡ false → IsDistinct (names_of ts) → IsDistinct (names_of (ts ++ record { name = name; actions = [] } ∷ []))
distinct_push ts name fresh distinct =
    subst IsDistinct (sym (map-append (λ (t : PlainTrack). t.name) ts (record { name = name; actions = [] } ∷ []))) (λ i j text at_i at_j.
    let nowhere = λ (k : ℕ) (x : Name) (is : x ≡ name) (at : slice_get (names_of ts) k ≡ Some x). true≢false (sym (taken_at ts name k (at ∙ ap Some is)) ∙ fresh) in
    elim (slot (names_of ts) name text i at_i) [
      | inl a ↦ elim (slot (names_of ts) name text j at_j) [ inl b ↦ distinct i j text a b | inr b ↦ absurd (nowhere i text b.1 a) ]
      | inr a ↦ elim (slot (names_of ts) name text j at_j) [ inl b ↦ absurd (nowhere j text a.1 b) | inr b ↦ a.0 ∙ sym b.0 ]
    ])

front_stays : (names more : List Name) (i : ℕ) (name : Name) → slice_get names i ≡ Some name → slice_get (names ++ more) i ≡ Some name
front_stays [] more i name at = absurd cc
front_stays (x ∷ xs) more zero name at = at
front_stays (x ∷ xs) more (suc i) name at = front_stays xs more i name at

at_seam : (names more : List Name) (name : Name) → slice_get (names ++ name ∷ more) (length names) ≡ Some name
at_seam [] more name = refl
at_seam (x ∷ xs) more name = at_seam xs more name

-- the name of a track is not that of one before it
pub fresh_name : (done todo : List PlainTrack) (t : PlainTrack) → IsDistinct (names_of (done ++ t ∷ todo)) → is_taken t.name done ≡ false
fresh_name done todo t distinct = by (is_taken t.name done) refl
  where
    parts : names_of (done ++ t ∷ todo) ≡ names_of done ++ t.name ∷ names_of todo
    parts = map-append (λ (t : PlainTrack). t.name) done (t ∷ todo)

    by : (b : Bool) → is_taken t.name done ≡ b → b ≡ false
    by false is = refl
    by true is =
        let place = place_of done t.name is in
        let apart : IsDistinct (names_of done ++ t.name ∷ names_of todo) = subst IsDistinct parts distinct in
        let same = apart place.0 (length (names_of done)) t.name (front_stays (names_of done) (t.name ∷ names_of todo) place.0 t.name place.1) (at_seam (names_of done) (names_of todo) t.name) in
        absurd (omega (arith, same, slice_get_within (names_of done) place.0 t.name place.1))

pub names_with : (ts : List PlainTrack) (a : Action) → names_of (with_action ts a) ≡ names_of ts
names_with [] a = refl
names_with (t ∷ []) a = refl
names_with (t ∷ u ∷ ts) a = ap (λ (ns : List Name). t.name ∷ ns) (names_with (u ∷ ts) a)

-- ---- the track of a name

pub index_takes : (ts : List PlainTrack) (name : Name) (i : ℕ) → index_of ts name ≡ Ok i → (i < length ts) × (name_at_index ts i ≡ name)
index_takes [] name i found = absurd cc
index_takes (t ∷ ts) name i found = by (bytes_eq t.name name) refl found (index_takes ts name)
  where
    by : (b : Bool) → bytes_eq t.name name ≡ b → cond b (Ok 0) (index_of ts name >>= λ i. Ok (i + 1)) ≡ Ok i → ((k : ℕ) → index_of ts name ≡ Ok k → (k < length ts) × (name_at_index ts k ≡ name))
        → (i < length (t ∷ ts)) × (name_at_index (t ∷ ts) i ≡ name)
    by true is h behind =
        subst (λ (k : ℕ). (k < length (t ∷ ts)) × (name_at_index (t ∷ ts) k ≡ name)) (ok_is 0 i h) (omega arith, (bytes_eq-Decides t.name name).0 is)
    by false is h behind =
        let b = bind_ok (index_of ts name) (λ i. Ok (i + 1)) i h in
        let rest = behind b.0 b.1 in
        subst (λ (k : ℕ). (k < length (t ∷ ts)) × (name_at_index (t ∷ ts) k ≡ name)) (sym (add-one b.0) ∙ ok_is (b.0 + 1) i b.2) (omega (arith, rest.0), rest.1)

name_there : (ts : List PlainTrack) (i : ℕ) → i < length ts → slice_get (names_of ts) i ≡ Some (name_at_index ts i)
name_there [] i lt = absurd (omega arith)
name_there (t ∷ ts) zero lt = refl
name_there (t ∷ ts) (suc i) lt = name_there ts i (omega arith)

apart_behind : (name : Name) (names : List Name) → IsDistinct (name ∷ names) → IsDistinct names
apart_behind name names distinct i j text at_i at_j =
    let same = distinct (suc i) (suc j) text at_i at_j in
    omega (arith, same)

pub index_again : (ts : List PlainTrack) (i : ℕ) → IsDistinct (names_of ts) → i < length ts → index_of ts (name_at_index ts i) ≡ Ok i
index_again [] i distinct lt = absurd (omega arith)
index_again (t ∷ ts) zero distinct lt = ap (λ (b : Bool). cond b (Ok 0) (index_of ts t.name >>= λ i. Ok (i + 1))) (same_name t.name t.name refl)
index_again (t ∷ ts) (suc i) distinct lt = by (bytes_eq t.name (name_at_index ts i)) refl (index_again ts i)
  where
    within : i < length ts
    within = omega (arith, lt)

    by : (b : Bool) → bytes_eq t.name (name_at_index ts i) ≡ b → (IsDistinct (names_of ts) → i < length ts → index_of ts (name_at_index ts i) ≡ Ok i)
        → cond b (Ok 0) (index_of ts (name_at_index ts i) >>= λ i. Ok (i + 1)) ≡ Ok (suc i)
    by true is behind =
        let same = distinct 0 (suc i) t.name refl (name_there ts i within ∙ ap Some (sym ((bytes_eq-Decides t.name (name_at_index ts i)).0 is))) in
        absurd (omega (arith, same))
    by false is behind =
        ap (λ (r : Result ℕ TraceCause). r >>= λ i. Ok (i + 1)) (behind (apart_behind t.name (names_of ts) distinct) within)
        ∙ ap (λ (k : ℕ). Ok k) (add-one i)
