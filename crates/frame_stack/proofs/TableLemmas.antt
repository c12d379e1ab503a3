-- Where a traceback stands in a table.
use Rattle.std.proofs.Common.{◌≡◌, ℕ, zero, suc, ◌+◌, ◌-◌, ◌<◌, ◌^◌, Bool, true, false, cond, ◌||◌, List, [], ◌∷◌, ◌++◌, length, map, take, drop, get_or, set, slice_get, Some, ◌≤◌, refl, sym, ap, subst, ◌∙◌, true≢false, inl, inr, ◌⊎◌, arith, length-append}
use Rattle.std.specs.Bool.{Decides}
use Rattle.std.specs.Prelude.{◌&&◌, ◌==◌}
use Rattle.std.proofs.lemmas.Bool.Decides.{Decides-eqb}
use Rattle.std.proofs.lemmas.Slice.Eq.{slice_eq-Decides}
use lib.Pointwise.{pointwise}
use Rattle.std.specs.List.{list_any}
use Rattle.std.specs.Option.{option_map}
use Rattle.std.proofs.lemmas.Option.{slice_get-map}
use Rattle.std.proofs.lemmas.List.{drop_all, drop_more, map_push, set_split}
use Rattle.frame_model.specs.Frames.{frames_on}
use Rattle.mem_base.specs.declared.reply.Frame.{Frame}
use Rattle.smallvec.specs.SmallVec.{SmallVec}
use Rattle.frame_stack.specs.Tracebacks.{at_line, tracebacks_of, IsDistinct, IsInterned, IsTable, StandsIn}

abbrev Key : Type 0
Key = SmallVec Frame

abbrev frames_in : Key → List Frame
frames_in v = v.items

-- two frames are equal where their files and their lines are
abbrev frame_eq : Frame → Frame → Bool
frame_eq a b = (a.file.0 == b.file.0) && (a.line == b.line)

frame_tells : (a b : Frame) → Decides (frame_eq a b) (a ≡ b)
frame_tells a b = (
  λ both. by (a.file.0 == b.file.0) (a.line == b.line) refl refl both,
  λ same i. (Decides-eqb a.file.0 b.file.0).1 (ap (λ (f : Frame). f.file.0) same) i && (Decides-eqb a.line b.line).1 (ap (λ (f : Frame). f.line) same) i,
)
  where
    by : (x y : Bool) → (a.file.0 == b.file.0) ≡ x → (a.line == b.line) ≡ y → (x && y) ≡ true → a ≡ b
    by true true e f h =
        let file = (Decides-eqb a.file.0 b.file.0).0 e in
        let line = (Decides-eqb a.line b.line).0 f in
        λ i. record { file = record { 0 = file i }; line = line i }
    by true false e f h = absurd (true≢false (sym h))
    by false y e f h = absurd (true≢false (sym h))

-- two keys are equal where their frames are
abbrev pub key_eq : Key → Key → Bool
key_eq v w = pointwise frame_eq v.items w.items

pub key_tells : (v w : Key) → Decides (key_eq v w) (v.items ≡ w.items)
key_tells v w = slice_eq-Decides frame_tells v.items w.items (key_eq v w) refl

module _ (E : Key → Key → Bool) (tells : (v w : Key) → Decides (E v w) (v.items ≡ w.items)) where
  -- a test that some key passes
  found : (v : Key) (keys : List Key) → list_any (E v) keys ≡ true → StandsIn v.items (tracebacks_of keys)
  found v [] h = absurd (true≢false (sym h))
  found v (k ∷ ks) h = by (E v k) refl h (λ rest. found v ks rest)
    where
      by : (b : Bool) → E v k ≡ b → (b || list_any (E v) ks) ≡ true → (list_any (E v) ks ≡ true → StandsIn v.items (tracebacks_of ks)) → StandsIn v.items (tracebacks_of (k ∷ ks))
      by true e h later = (0, ap Some (sym ((tells v k).0 e)))
      by false e h later =
          let rest = later h in
          (suc rest.0, rest.1)

  -- one that none passes
  absent : (v : Key) (keys : List Key) (i : ℕ) → list_any (E v) keys ≡ false → slice_get (tracebacks_of keys) i ≡ Some v.items → ⊥
  absent v [] i none at = absurd cc
  absent v (k ∷ ks) i none at = by (E v k) refl i none at (λ j rest there. absent v ks j rest there)
    where
      by : (b : Bool) → E v k ≡ b → (i : ℕ) → (b || list_any (E v) ks) ≡ false → slice_get (tracebacks_of (k ∷ ks)) i ≡ Some v.items
          → ((j : ℕ) → list_any (E v) ks ≡ false → slice_get (tracebacks_of ks) j ≡ Some v.items → ⊥) → ⊥
      by true e i none at later = true≢false none
      by false e zero none at later =
          let same : k.items ≡ v.items = cc in
          true≢false (sym ((tells v k).1 (sym same)) ∙ e)
      by false e (suc i) none at later = later i none at

  -- the keys after a key is inserted
  pub interned : (v : Key) (old new : List Key) → new ≡ cond (list_any (E v) old) old (old ++ v ∷ []) → IsInterned v.items (tracebacks_of old) (tracebacks_of new)
  interned v old new is = by (list_any (E v) old) refl is
    where
      by : (b : Bool) → list_any (E v) old ≡ b → new ≡ cond b old (old ++ v ∷ []) → IsInterned v.items (tracebacks_of old) (tracebacks_of new)
      by true e is = inl (found v old e, ap tracebacks_of is)
      by false e is = inr (λ (there : StandsIn v.items (tracebacks_of old)). absent v old there.0 e there.1, ap tracebacks_of is ∙ map_push frames_in old v)

  -- a key that is equal to one in the table has its frames
  pub stored : (v k : Key) (keys : List Key) (i : ℕ) → slice_get keys i ≡ Some k → E v k ≡ true → slice_get (tracebacks_of keys) i ≡ Some v.items
  stored v k keys i at same = slice_get-map frames_in keys i ∙ ap (option_map frames_in) at ∙ ap Some (sym ((tells v k).0 same))

-- ---- the table

slot : (ts : List (List Frame)) (t u : List Frame) (i : ℕ) → slice_get (ts ++ t ∷ []) i ≡ Some u → (slice_get ts i ≡ Some u) ⊎ ((i ≡ length ts) × (u ≡ t))
slot [] t u zero h = inr (refl, cc)
slot [] t u (suc i) h = absurd cc
slot (x ∷ xs) t u zero h = inl h
slot (x ∷ xs) t u (suc i) h = elim (slot xs t u i h) [ inl a ↦ inl a | inr b ↦ inr (ap suc b.0, b.1) ]

push_distinct : (ts : List (List Frame)) (t : List Frame) → (StandsIn t ts → ⊥) → IsDistinct ts → IsDistinct (ts ++ t ∷ [])
push_distinct ts t nowhere h i j u hi hj =
    elim (slot ts t u i hi) [
      | inl a ↦ elim (slot ts t u j hj) [ inl b ↦ h i j u a b | inr b ↦ absurd (nowhere (i, a ∙ ap Some b.1)) ]
      | inr a ↦ elim (slot ts t u j hj) [ inl b ↦ absurd (nowhere (j, b ∙ ap Some a.1)) | inr b ↦ a.0 ∙ sym b.0 ]
    ]

pub interned_table : (t : List Frame) (old new : List (List Frame)) → length old < 2 ^ 32 - 1 → IsTable old → IsInterned t old new → IsTable new
interned_table t old new few h is = elim is [
  | inl there ↦ subst IsTable (sym there.1) h
  | inr added ↦
      subst IsTable (sym added.1) (record {
        distinct = push_distinct old t added.0 h.distinct;
        few = omega (arith, few, length-append old (t ∷ []));
      })
]

-- ---- the frames of a track

pub no_table : IsTable []
no_table = record { distinct = λ i j t hi hj. absurd cc; few = omega arith }

-- the last frame of some goes on to another line
pub last_on : (frames : List Frame) (last n line : ℕ) (f : Frame) → n ≡ length frames → 1 ≤ length frames → last ≡ n - 1 → f ≡ get_or frames last f
    → set frames last (at_line line f) ≡ frames_on (at_line line) frames
last_on frames last n line f same some is at =
    let here : length frames - 1 ≡ last = omega (arith, same, is) in
    let more : last < length frames = omega (arith, same, is) in
    let one : drop last frames ≡ f ∷ [] = drop_more frames last f more ∙ ap (λ (l : List Frame). get_or frames last f ∷ l) (drop_all (last + 1) frames (omega arith)) ∙ ap (λ (x : Frame). x ∷ []) (sym at) in
    set_split frames last (at_line line f) more
    ∙ ap (λ (l : List Frame). take last frames ++ at_line line f ∷ l) (drop_all (suc last) frames (omega arith))
    ∙ (λ i. take (sym here i) frames ++ map (at_line line) ((sym one ∙ ap (λ k. drop k frames) (sym here)) i))
