-- Where a text stands in a table.
use Rattle.std.proofs.Common.{◌≡◌, ℕ, Bool, true, false, cond, ◌||◌, List, [], ◌∷◌, ◌++◌, length, get_or, slice_get, Some, None, refl, sym, ap, ◌∙◌, true≢false, inl, inr, ◌⊎◌, zero, suc, ◌<◌, ◌^◌, ◌-◌, arith, length-append}
use Rattle.mem_base.specs.declared.texts.Key.{Key}
use Rattle.std.proofs.Math.Bool.{or-true}
use Rattle.std.specs.List.{list_any, position}
use Rattle.std.specs.Option.{option_map}
use Rattle.std.specs.Str.{bytes_eq}
use Rattle.std.proofs.lemmas.Grind.{common_steps}
use Rattle.std.proofs.lemmas.List.Quantifiers.{position-Some}
use Rattle.std.proofs.lemmas.Option.{slice_get-get_or, slice_get-map}
use Rattle.std.proofs.lemmas.Slice.Eq.{bytes_eq-Decides}
use Rattle.mem_base.specs.Texts.{texts_of, with_text, IsDistinct, IsTable, unknown}

abbrev pub test : List ℕ → Key → Bool
test t v = bytes_eq t v.bytes.items

pub is_at : (t : List ℕ) (keys : List Key) (i : ℕ) → position (test t) keys ≡ Some i → slice_get (texts_of keys) i ≡ Some t
is_at t [] i h = absurd cc
is_at t (k ∷ ks) i h =
    let p = position-Some (test t) (k ∷ ks) i k h in
    let at : slice_get (k ∷ ks) i ≡ Some (get_or (k ∷ ks) i k) = slice_get-get_or (k ∷ ks) i k p.0 in
    let e : t ≡ (get_or (k ∷ ks) i k).bytes.items = (bytes_eq-Decides t (get_or (k ∷ ks) i k).bytes.items).0 p.1 in
    slice_get-map (λ v. v.bytes.items) (k ∷ ks) i ∙ ap (option_map (λ (v : Key). v.bytes.items)) at ∙ ap Some (sym e)

-- where no place is found, none passes
pub none_passes : (t : List ℕ) (keys : List Key) → position (test t) keys ≡ None → false ≡ list_any (test t) keys
none_passes t [] h = refl
none_passes t (k ∷ ks) h = by (bytes_eq t k.bytes.items) refl (none_passes t ks)
  where
    by : (b : Bool) → bytes_eq t k.bytes.items ≡ b → (position (test t) ks ≡ None → false ≡ list_any (test t) ks) → false ≡ list_any (test t) (k ∷ ks)
    by true e later = absurd (grind (arith, common_steps))
    by false e later = later (grind (arith, common_steps)) ∙ ap (λ (b : Bool). b || list_any (test t) ks) (sym e)

any_map : (t : List ℕ) (keys : List Key) → list_any (bytes_eq t) (texts_of keys) ≡ list_any (test t) keys
any_map t [] = refl
any_map t (k ∷ ks) = ap (λ (b : Bool). bytes_eq t k.bytes.items || b) (any_map t ks)

texts_of-push : (keys : List Key) (v : Key) → texts_of (keys ++ v ∷ []) ≡ texts_of keys ++ v.bytes.items ∷ []
texts_of-push [] v = refl
texts_of-push (k ∷ ks) v = ap (λ (ts : List (List ℕ)). k.bytes.items ∷ ts) (texts_of-push ks v)

-- the texts after a key is sought or added
pub interned : (t : List ℕ) (keys news : List Key) (v : Key) → v.bytes.items ≡ t
    → news ≡ cond (list_any (test v.bytes.items) keys) keys (keys ++ v ∷ []) → texts_of news ≡ with_text (texts_of keys) t
interned t keys news v is at = by (list_any (test t) keys) refl
  where
    here : news ≡ cond (list_any (test t) keys) keys (keys ++ v ∷ [])
    here = at ∙ ap (λ (x : List ℕ). cond (list_any (test x) keys) keys (keys ++ v ∷ [])) is

    with : Bool → List (List ℕ)
    with b = cond b (texts_of keys) (texts_of keys ++ t ∷ [])

    by : (b : Bool) → list_any (test t) keys ≡ b → texts_of news ≡ with_text (texts_of keys) t
    by true e = ap texts_of (here ∙ ap (λ (b : Bool). cond b keys (keys ++ v ∷ [])) e) ∙ ap with (sym (any_map t keys ∙ e))
    by false e =
        ap texts_of (here ∙ ap (λ (b : Bool). cond b keys (keys ++ v ∷ [])) e) ∙ texts_of-push keys v
        ∙ ap (λ (x : List ℕ). texts_of keys ++ x ∷ []) is ∙ ap with (sym (any_map t keys ∙ e))

any_at : (t : List ℕ) (ts : List (List ℕ)) (i : ℕ) → slice_get ts i ≡ Some t → list_any (bytes_eq t) ts ≡ true
any_at t [] i h = absurd cc
any_at t (x ∷ xs) zero h =
    let e : t ≡ x = cc in
    ap (λ (b : Bool). b || list_any (bytes_eq t) xs) ((bytes_eq-Decides t x).1 e)
any_at t (x ∷ xs) (suc i) h = ap (λ (b : Bool). bytes_eq t x || b) (any_at t xs i h) ∙ or-true (bytes_eq t x)

-- a text that no test finds stands nowhere
pub is_absent : (t : List ℕ) (keys : List Key) (i : ℕ) → false ≡ list_any (test t) keys → slice_get (texts_of keys) i ≡ Some t → ⊥
is_absent t keys i h at = true≢false (sym (any_at t (texts_of keys) i at) ∙ any_map t keys ∙ sym h)

slot : (ts : List (List ℕ)) (t text : List ℕ) (i : ℕ) → slice_get (ts ++ t ∷ []) i ≡ Some text → (slice_get ts i ≡ Some text) ⊎ ((i ≡ length ts) × (text ≡ t))
slot [] t text zero h = inr (refl, cc)
slot [] t text (suc i) h = absurd cc
slot (x ∷ xs) t text zero h = inl h
slot (x ∷ xs) t text (suc i) h = elim (slot xs t text i h) [ inl a ↦ inl a | inr b ↦ inr (ap suc b.0, b.1) ]

push_distinct : (ts : List (List ℕ)) (t : List ℕ) → list_any (bytes_eq t) ts ≡ false → IsDistinct ts → IsDistinct (ts ++ t ∷ [])
push_distinct ts t none h i j text hi hj =
    let nowhere = λ (k : ℕ) (x : List ℕ) (e : x ≡ t) (at : slice_get ts k ≡ Some x). true≢false (sym (any_at t ts k (at ∙ ap Some e)) ∙ none) in
    elim (slot ts t text i hi) [
      | inl a ↦ elim (slot ts t text j hj) [ inl b ↦ h i j text a b | inr b ↦ absurd (nowhere i text b.1 a) ]
      | inr a ↦ elim (slot ts t text j hj) [ inl b ↦ absurd (nowhere j text a.1 b) | inr b ↦ a.0 ∙ sym b.0 ]
    ]

first_stays : (ts : List (List ℕ)) (t : List ℕ) → slice_get ts 0 ≡ Some unknown → slice_get (ts ++ t ∷ []) 0 ≡ Some unknown
first_stays [] t h = absurd cc
first_stays (x ∷ xs) t h = h

pub interned_table : (ts : List (List ℕ)) (t : List ℕ) → length ts < 2 ^ 32 - 1 → IsTable ts → IsTable (with_text ts t)
interned_table ts t few h = by (list_any (bytes_eq t) ts) refl
  where
    by : (b : Bool) → list_any (bytes_eq t) ts ≡ b → IsTable (cond b ts (ts ++ t ∷ []))
    by true e = h
    by false e = record {
      first = first_stays ts t h.first;
      distinct = push_distinct ts t e h.distinct;
      few = omega (arith, few, length-append ts (t ∷ []));
    }

pub stored_at : (t : List ℕ) (keys : List Key) (v k : Key) (i : ℕ) → v.bytes.items ≡ t → slice_get keys i ≡ Some k → bytes_eq v.bytes.items k.bytes.items ≡ true → slice_get (texts_of keys) i ≡ Some t
stored_at t keys v k i is at same =
    slice_get-map (λ v. v.bytes.items) keys i ∙ ap (option_map (λ (v : Key). v.bytes.items)) at ∙ ap Some (sym ((bytes_eq-Decides v.bytes.items k.bytes.items).0 same) ∙ is)
