-- What one more line adds to the table of a trace's texts.
use Rattle.std.proofs.Common.{◌≡◌, Bool, true, false, cond, not, ◌||◌, List, [], ◌∷◌, ◌++◌, length}
use Rattle.std.proofs.Common.{refl, sym, ap, ◌∙◌, append_assoc, append-nil, true≢false}
use Rattle.std.specs.Prelude.{◌==◌}
use Rattle.std.specs.List.{filter, list_any}
use Rattle.std.specs.Str.{bytes_eq}
use Rattle.std.proofs.lemmas.Grind.{flat_map-append}
use Rattle.std.proofs.lemmas.List.Elements.{filter-append}
use Rattle.std.proofs.lemmas.Map.Views.{any-filter_same}
use Rattle.std.proofs.lemmas.Slice.Eq.{bytes_eq-Decides}
use Rattle.mem_base.specs.Name.{Name}
use Rattle.mem_base.specs.Texts.{unknown, with_text}
use Rattle.trace_model.specs.Plain.{Action, PlainTrack, says}
use Rattle.trace_model.specs.Reading.{with_action}
use Rattle.trace_model.specs.Table.{texts_in, names_in, firsts, table_of, with_texts}
use Rattle.trace_model.proofs.TrackLaws.{suc_not_zero}

-- ---- one more text of a list

-- it is not this one
abbrev differs : Name → Name → Bool
differs x y = not (bytes_eq x y)

is_same : (x y : Name) → bytes_eq x y ≡ true → x ≡ y
is_same x y e = (bytes_eq-Decides x y).0 e

same_turned : (x y : Name) → bytes_eq x y ≡ bytes_eq y x
same_turned x y = by (bytes_eq x y) (bytes_eq y x) refl refl
  where
    by : (a b : Bool) → bytes_eq x y ≡ a → bytes_eq y x ≡ b → a ≡ b
    by true true p q = refl
    by false false p q = refl
    by true false p q = sym ((bytes_eq-Decides y x).1 (sym (is_same x y p))) ∙ q
    by false true p q = sym p ∙ (bytes_eq-Decides x y).1 (sym (is_same y x q))

-- a text stands in a list where it stands in it without another text
stands_without : (x y : Name) (ts : List Name) → bytes_eq x y ≡ false
    → list_any (bytes_eq x) (filter (differs y) ts) ≡ list_any (bytes_eq x) ts
stands_without x y ts other =
    any-filter_same (bytes_eq x) (differs y) true
    (λ k e. ap (differs y) (sym (is_same x k e)) ∙ ap not (same_turned y x ∙ other)) ts

module _ (x y : Name) (rest : List Name) where
  -- the texts that differ from the first one
  abbrev others : List Name
  others = filter (differs y) rest

  -- the texts after y, with x where it did not stand among them
  abbrev before : Bool → List Name
  before stands = y ∷ filter (differs y) (cond stands rest (rest ++ x ∷ []))

  -- the texts with x, where it is neither y nor stands behind it
  abbrev after : Bool → Bool → List Name
  after same stands = cond (same || stands) (y ∷ others) ((y ∷ others) ++ x ∷ [])

  last : (same : Bool) → bytes_eq x y ≡ same → filter (differs y) (x ∷ []) ≡ cond same [] (x ∷ [])
  last true e = ap (λ (c : Bool). cond (not c) (x ∷ []) []) (same_turned y x ∙ e)
  last false e = ap (λ (c : Bool). cond (not c) (x ∷ []) []) (same_turned y x ∙ e)

  longer : (same : Bool) → bytes_eq x y ≡ same → before false ≡ y ∷ others ++ cond same [] (x ∷ [])
  longer same e =
      ap (λ (l : List Name). y ∷ l) (filter-append (differs y) rest (x ∷ [])
      ∙ ap (λ (l : List Name). others ++ l) (last same e))

  either : (same stands : Bool) → bytes_eq x y ≡ same → list_any (bytes_eq x) rest ≡ stands
      → before stands ≡ after same (list_any (bytes_eq x) others)
  either true true e h = refl
  either true false e h = longer true e ∙ ap (λ (l : List Name). y ∷ l) (append-nil others)
  either false true e h = ap (after false) (sym (stands_without x y rest e ∙ h))
  either false false e h = longer false e ∙ ap (after false) (sym (stands_without x y rest e ∙ h))

  one_more : before (list_any (bytes_eq x) rest) ≡ after (bytes_eq x y) (list_any (bytes_eq x) others)
  one_more = either (bytes_eq x y) (list_any (bytes_eq x) rest) refl refl

firsts_push : (xs : List Name) (x : Name) → firsts (xs ++ x ∷ []) ≡ with_text (firsts xs) x
firsts_push [] x = refl
firsts_push (y ∷ ys) x = ap (λ (l : List Name). y ∷ filter (differs y) l) (firsts_push ys x) ∙ one_more x y (firsts ys)

-- the texts of a list, and then those of another
pub firsts_append : (xs ys : List Name) → firsts (xs ++ ys) ≡ with_texts (firsts xs) ys
firsts_append xs [] = ap firsts (append-nil xs)
firsts_append xs (y ∷ ys) =
    ap firsts (sym (append_assoc xs (y ∷ []) ys)) ∙ firsts_append (xs ++ y ∷ []) ys
    ∙ ap (λ (l : List Name). with_texts l ys) (firsts_push xs y)

-- ---- one more line

texts_push : (actions : List Action) (a : Action) → texts_in (actions ++ a ∷ []) ≡ texts_in actions ++ says a
texts_push actions a =
    flat_map-append says actions (a ∷ []) ∙ ap (λ (l : List Name). texts_in actions ++ l) (append-nil (says a))

pub table_with_track : (ts : List PlainTrack) (name : Name)
    → table_of (ts ++ record { name = name; actions = [] } ∷ []) ≡ with_text (table_of ts) name
table_with_track ts name =
    ap (λ (l : List Name). firsts (unknown ∷ l))
    (flat_map-append (λ t. t.name ∷ texts_in t.actions) ts (record { name = name; actions = [] } ∷ []))
    ∙ firsts_push (unknown ∷ names_in ts) name

names_with : (ts : List PlainTrack) (a : Action) → (length ts == 0) ≡ false
    → names_in (with_action ts a) ≡ names_in ts ++ says a
names_with [] a some = absurd (true≢false some)
names_with (t ∷ []) a some =
    ap (λ (l : List Name). t.name ∷ l) (append-nil (texts_in (t.actions ++ a ∷ [])) ∙ texts_push t.actions a
    ∙ ap (λ (l : List Name). l ++ says a) (sym (append-nil (texts_in t.actions))))
names_with (t ∷ u ∷ ts) a some =
    ap (λ (l : List Name). (t.name ∷ texts_in t.actions) ++ l) (names_with (u ∷ ts) a (suc_not_zero (length ts)))
    ∙ sym (append_assoc (t.name ∷ texts_in t.actions) (names_in (u ∷ ts)) (says a))

pub table_with_action : (ts : List PlainTrack) (a : Action) → (length ts == 0) ≡ false
    → table_of (with_action ts a) ≡ with_texts (table_of ts) (says a)
table_with_action ts a some =
    ap (λ (l : List Name). firsts (unknown ∷ l)) (names_with ts a some)
    ∙ firsts_append (unknown ∷ names_in ts) (says a)
