-- The names of snapshots, kept as their numbers in a table.
use Rattle.std.proofs.Common.{◌≡◌, ◌==◌, ℕ, zero, suc, ◌<◌, Bool, true, false, cond, ◌||◌, List, [], ◌∷◌}
use Rattle.std.proofs.Common.{◌++◌}
use Rattle.std.proofs.Common.{length, slice_get, Some, refl, sym, ap, ◌∙◌, arith}
use Rattle.std.specs.Prelude.{unwrap_or}
use Rattle.std.specs.List.{AllByRecursion, list_any}
use Rattle.std.specs.Str.{bytes_eq}
use Rattle.std.proofs.lemmas.Bool.{eq-eqb, eqb-true}
use Rattle.std.proofs.lemmas.List.{map-append}
use Rattle.std.proofs.lemmas.Slice.Eq.{bytes_eq-Decides}
use Rattle.mem_base.specs.Name.{Name}
use Rattle.mem_base.specs.Texts.{IsDistinct, text_at, with_text}
use Rattle.mem_base.specs.declared.texts.TextId.{TextId}
use Rattle.trace_model.specs.Known.{IsKnown}
use Rattle.trace_reader.specs.Progress.{texts_at}

-- a number of the table has a text there
there : (texts : List Name) (k : ℕ) → k < length texts
    → slice_get texts k ≡ Some (unwrap_or (slice_get texts k) [])
there [] k lt = absurd (omega arith)
there (t ∷ ts) zero lt = refl
there (t ∷ ts) (suc k) lt = there ts k (omega arith)

module _ (texts : List Name) (distinct : IsDistinct texts) (id : TextId) (known : IsKnown texts id) where
  -- a number is another one where the texts are the same
  same_text : (other : TextId) → IsKnown texts other
      → (other.0 == id.0) ≡ bytes_eq (text_at texts id) (text_at texts other)
  same_text other within = by (other.0 == id.0) (bytes_eq (text_at texts id) (text_at texts other)) refl refl
    where
      by : (a b : Bool) → (other.0 == id.0) ≡ a → bytes_eq (text_at texts id) (text_at texts other) ≡ b
          → a ≡ b
      by true true p q = refl
      by false false p q = refl
      by true false p q =
          let same : id.0 ≡ other.0 = sym (eqb-true other.0 id.0 p) in
          sym ((bytes_eq-Decides _ _).1 (ap (λ (k : ℕ). unwrap_or (slice_get texts k) []) same)) ∙ q
      by false true p q =
          let same : text_at texts id ≡ text_at texts other = (bytes_eq-Decides _ _).0 q in
          let at_id = there texts id.0 known ∙ ap (λ (t : Name). Some t) same in
          let one : other.0 ≡ id.0 =
          distinct other.0 id.0 (text_at texts other) (there texts other.0 within) at_id
          in
          sym p ∙ eq-eqb other.0 id.0 one

  -- so a number is among others where its text is among theirs
  pub is_among : (ids : List TextId) → AllByRecursion (IsKnown texts) ids
      → list_any (λ other. other.0 == id.0) ids ≡ list_any (bytes_eq (text_at texts id)) (texts_at texts ids)
  is_among [] all = refl
  is_among (x ∷ xs) all = λ i. same_text x all.0 i || is_among xs all.1 i

  -- what adding it leaves, by whether it is there
  abbrev named : List TextId → Bool → List Name
  named ids found = cond found (texts_at texts ids) (texts_at texts ids ++ text_at texts id ∷ [])

  pub stays : (ids : List TextId) → AllByRecursion (IsKnown texts) ids
      → list_any (λ other. other.0 == id.0) ids ≡ true
      → texts_at texts ids ≡ with_text (texts_at texts ids) (text_at texts id)
  stays ids all found = sym (ap (named ids) (sym (is_among ids all) ∙ found))

  pub grows : (ids news : List TextId) → AllByRecursion (IsKnown texts) ids
      → list_any (λ other. other.0 == id.0) ids ≡ false → news ≡ ids ++ id ∷ [] → texts_at texts news ≡ with_text (texts_at texts ids) (text_at texts id)
  grows ids news all absent pushed =
      ap (texts_at texts) pushed ∙ map-append (text_at texts) ids (id ∷ [])
      ∙ sym (ap (named ids) (sym (is_among ids all) ∙ absent))
