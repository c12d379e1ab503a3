-- The names of the snapshots that operations write, as tracks and operations come.
use Rattle.std.proofs.Common.{◌≡◌, ◌≤◌, Bool, true, false, cond, List, [], ◌∷◌, ◌++◌, length, sym, ap}
use Rattle.std.proofs.Common.{◌∙◌, append_assoc, append-nil, arith, length-append, true≢false}
use Rattle.std.specs.Prelude.{◌==◌}
use Rattle.std.specs.List.{flat_map, list_any}
use Rattle.std.specs.Option.{option_to_list}
use Rattle.std.specs.Str.{bytes_eq}
use Rattle.std.proofs.lemmas.Grind.{flat_map-append}
use Rattle.mem_base.specs.Name.{Name}
use Rattle.mem_base.specs.Texts.{with_text}
use Rattle.trace_model.specs.Plain.{Action, PlainTrack, written_by}
use Rattle.trace_model.specs.Spelling.{written_in, snapshot_names}
use Rattle.trace_model.specs.Reading.{with_action}
use Rattle.trace_model.specs.Table.{firsts, with_texts}
use Rattle.trace_model.proofs.TableLaws.{firsts_append}
use Rattle.trace_model.proofs.TrackLaws.{suc_not_zero}

-- the names that tracks write, in order
abbrev all_written : List PlainTrack → List Name
all_written ts = flat_map (λ t. written_in t.actions) ts

written_push : (actions : List Action) (a : Action)
    → written_in (actions ++ a ∷ []) ≡ written_in actions ++ option_to_list (written_by a)
written_push actions a =
    flat_map-append (λ b. option_to_list (written_by b)) actions (a ∷ [])
    ∙ ap (λ (l : List Name). written_in actions ++ l) (append-nil (option_to_list (written_by a)))

-- a new track writes none
pub snapshots_of_new : (ts : List PlainTrack) (name : Name)
    → snapshot_names (ts ++ record { name = name; actions = [] } ∷ []) ≡ snapshot_names ts
snapshots_of_new ts name = ap firsts (
    flat_map-append (λ t. written_in t.actions) ts (record { name = name; actions = [] } ∷ [])
    ∙ append-nil (all_written ts))

written_with : (ts : List PlainTrack) (a : Action) → (length ts == 0) ≡ false
    → all_written (with_action ts a) ≡ all_written ts ++ option_to_list (written_by a)
written_with [] a some = absurd (true≢false some)
written_with (t ∷ []) a some =
    append-nil (written_in (t.actions ++ a ∷ [])) ∙ written_push t.actions a
    ∙ ap (λ (l : List Name). l ++ option_to_list (written_by a)) (sym (append-nil (written_in t.actions)))
written_with (t ∷ u ∷ ts) a some =
    ap (λ (l : List Name). written_in t.actions ++ l) (written_with (u ∷ ts) a (suc_not_zero (length ts)))
    ∙ sym (append_assoc (written_in t.actions) (all_written (u ∷ ts)) (option_to_list (written_by a)))

-- one more operation adds the name that it writes, where it is new
pub snapshots_with : (ts : List PlainTrack) (a : Action) → (length ts == 0) ≡ false
    → snapshot_names (with_action ts a) ≡ with_texts (snapshot_names ts) (option_to_list (written_by a))
snapshots_with ts a some =
    ap firsts (written_with ts a some) ∙ firsts_append (all_written ts) (option_to_list (written_by a))

-- ---- fewer tracks and operations write no more names

text_grows : (texts : List Name) (x : Name) → length texts ≤ length (with_text texts x)
text_grows texts x = by (list_any (bytes_eq x) texts)
  where
    by : (b : Bool) → length texts ≤ length (cond b texts (texts ++ x ∷ []))
    by true = omega arith
    by false = omega (arith, length-append texts (x ∷ []))

texts_grow : (texts xs : List Name) → length texts ≤ length (with_texts texts xs)
texts_grow texts [] = omega arith
texts_grow texts (x ∷ xs) = omega (arith, text_grows texts x, texts_grow (with_text texts x) xs)

firsts_grow : (xs ys : List Name) → length (firsts xs) ≤ length (firsts (xs ++ ys))
firsts_grow xs ys = omega (arith, ap length (firsts_append xs ys), texts_grow (firsts xs) ys)

pub snapshots_front : (ts us : List PlainTrack) → length (snapshot_names ts) ≤ length (snapshot_names (ts ++ us))
snapshots_front ts us =
    let parts = ap (λ (l : List Name). length (firsts l)) (flat_map-append (λ t. written_in t.actions) ts us) in
    omega (arith, parts, firsts_grow (all_written ts) (all_written us))

-- the same for the last track's operations
pub snapshots_begun : (ts : List PlainTrack) (name : Name) (did todo : List Action)
    → length (snapshot_names (ts ++ record { name = name; actions = did } ∷ []))
    ≤ length (snapshot_names (ts ++ record { name = name; actions = did ++ todo } ∷ []))
snapshots_begun ts name did todo =
    let before = written (record { name = name; actions = did }) in
    let after = written (record { name = name; actions = did ++ todo }) in
    let more = flat_map-append (λ b. option_to_list (written_by b)) did todo in
    let whole = after ∙ ap (λ (l : List Name). all_written ts ++ l) more
    ∙ sym (append_assoc (all_written ts) (written_in did) (written_in todo)) in
    omega (
      arith,
      ap (λ (l : List Name). length (firsts l)) before,
      ap (λ (l : List Name). length (firsts l)) whole,
      firsts_grow (all_written ts ++ written_in did) (written_in todo),
    )
  where
    written : (t : PlainTrack) → all_written (ts ++ t ∷ []) ≡ all_written ts ++ written_in t.actions
    written t =
        flat_map-append (λ u. written_in u.actions) ts (t ∷ [])
        ∙ ap (λ (l : List Name). all_written ts ++ l) (append-nil (written_in t.actions))
