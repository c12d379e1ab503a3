-- What is known of answers by number, what rules ask by number, and rows that are left out.
use Rattle.std.proofs.Common.{◌≡◌, ◌≢◌, ℕ, ◌+◌, ◌-◌, ◌<◌, ◌≤◌, Bool, true, false, not, ◌&&◌, ◌||◌, if◌then◌else◌, cond, List, [], ◌∷◌, ◌++◌, length, map, drop, take, append-nil, get_or, slice_get, slice_set, Option, Some, None, refl, sym, ap, ◌∙◌, subst, arith, inl, inr, unwrap_or, filter}
use Rattle.std.specs.Prelude.{All}
use Rattle.std.specs.List.{AllByRecursion, list_any}
use Rattle.std.proofs.lemmas.Bool.Decides.{eqb_tells}
use Rattle.std.proofs.lemmas.List.{drop-map, length-map, take-append-drop, length-set, get_or-set_same, get_or-set_other}
use Rattle.std.proofs.Math.ListN.{drop_of_length-le}
use Rattle.mem_base.specs.Name.{Name}
use Rattle.mem_base.specs.Texts.{text_at}
use Rattle.mem_base.specs.declared.reply.Frame.{Frame}
use Rattle.mem_base.specs.declared.trace.Rule.{Rule}
use Rattle.mem_base.specs.declared.trace.Rule.TheVariants.{File, Domain}
use Rattle.frame_model.specs.Frames.{frame_of, frames_of, latest}
use Rattle.frame_stack.specs.Callers.{AreAmong}
use Rattle.frame_stack.specs.Tracebacks.{traceback_at}
use Rattle.frame_stack.specs.declared.tracebacks.TbId.{TbId}
use Rattle.trace_table.specs.declared.key.TraceKey.{TraceKey}
use Rattle.trace_table.specs.declared.key.TraceKey.TheVariants as keys
use Rattle.trace_table.specs.declared.snapshot.Row.{Row}
use Rattle.trace_table.specs.Plain.{key_of, plain_row, plain_rows}
use Rattle.snapshot_model.specs.Snapshots.{PlainRow, domain_of}
use Rattle.snapshot_model.specs.Rules.{frame_fits, frames_seen, is_inclusive, is_or_none}
use Rattle.snapshot_model.specs.Rules.{is_about as is_about_plain, stays as stays_plain}
use Rattle.snap_filter.specs.Questions.{AreRight, AskedOfTraces, trace_fits}
use Rattle.snap_filter.specs.Held.{domain_in, held_rule, is_about, stays, HasTrace}

-- ---- answers by number

-- one more answer that is right
pub right_with : (answer : ℕ → Bool) (many : ℕ) (known : List (Option Bool)) (n : ℕ) (b : Bool) → AreRight answer many known → n < many → b ≡ answer n → AreRight answer many (slice_set known n (Some b))
right_with answer many known n b right lt is = record {
  room = length-set known n (Some b) ∙ right.room;
  each = λ k c at. elim (eqb_tells k n) [
    | inl w ↦
        let here : get_or (slice_set known n (Some b)) k None ≡ Some b = ap (λ (m : ℕ). get_or (slice_set known n (Some b)) m None) w.1 ∙ get_or-set_same known n (Some b) None (omega (arith, lt, right.room)) in
        let same : c ≡ b = ap (λ (o : Option Bool). unwrap_or o c) (sym at ∙ here) in
        same ∙ is ∙ ap answer (sym w.1)
    | inr w ↦ right.each k c (sym (get_or-set_other known n k (Some b) None w.1) ∙ at)
  ];
}

-- ---- frames

-- a list up to its end
pub take_whole : {X : Type 0} (xs : List X) (n : ℕ) → length xs ≤ n → take n xs ≡ xs
take_whole xs n long = sym (append-nil (take n xs)) ∙ ap (λ l. take n xs ++ l) (sym (drop_of_length-le xs long)) ∙ take-append-drop n xs

-- a test of some elements of a list that was made of another one
pub any_map : {X Y : Type 0} (p : Y → Bool) (h : X → Y) (xs : List X) → list_any p (map h xs) ≡ list_any (λ x. p (h x)) xs
any_map p h [] = refl
any_map p h (x ∷ xs) = ap (λ b. p (h x) || b) (any_map p h xs)

-- the frames that are looked at have the same names
pub seen_frames : (all : Bool) (texts : List Name) (frames : List Frame) → frames_seen all (frames_of texts frames) ≡ frames_of texts (frames_seen all frames)
seen_frames true texts frames = refl
seen_frames false texts frames =
    ap (λ n. drop (n - 1) (frames_of texts frames)) (length-map frames (frame_of texts)) ∙ drop-map (frame_of texts) (length frames - 1) frames

-- a frame of these fits exactly where one of the traceback does
pub fits_trace : (asked : AskedOfTraces) (trace : TbId) (frames seen : List Frame) → slice_get asked.table trace.0 ≡ Some frames → seen ≡ frames_seen asked.all_frames frames → list_any (frame_fits asked.line asked.files.pattern) (frames_of asked.files.texts seen) ≡ trace_fits asked trace
fits_trace asked trace frames seen at are =
    let here : traceback_at asked.table trace ≡ frames = ap (λ o. unwrap_or o []) at in
    let names = ap (frames_of asked.files.texts) (are ∙ ap (frames_seen asked.all_frames) (sym here)) in
    ap (list_any (frame_fits asked.line asked.files.pattern)) (names ∙ sym (seen_frames asked.all_frames asked.files.texts (traceback_at asked.table trace)))

-- ---- rules

-- the domain of a key does not depend on names
pub same_domain : (texts : List Name) (key : TraceKey) → domain_of (key_of texts key) ≡ domain_in key
same_domain texts (keys.Block name) = refl
same_domain texts (keys.Number domain number) = refl

-- a rule that was read is about the same rows
pub same_about : (texts : List Name) (table : List (List Frame)) (rule : Rule) (row : Row) → is_about (held_rule texts table rule) row ≡ is_about_plain rule (plain_row texts table row)
same_about texts table (File inclusive all_frames line domain pattern) row =
    let asked : AskedOfTraces = record {
      files = record { pattern = pattern; texts = texts };
      line = line;
      all_frames = all_frames;
      table = table;
    } in
    ap (λ (n : ℕ). trace_fits asked row.trace && is_or_none domain n) (sym (same_domain texts row.key))
same_about texts table (Domain inclusive domain) row = ap (λ (n : ℕ). is_or_none (Some domain) n) (sym (same_domain texts row.key))

-- and is for traces to keep where it was
pub same_kind : (texts : List Name) (table : List (List Frame)) (rule : Rule) → (held_rule texts table rule).inclusive ≡ is_inclusive rule
same_kind texts table (File inclusive all_frames line domain pattern) = refl
same_kind texts table (Domain inclusive domain) = refl

-- under rules that were read the same rows stay
pub same_stays : (texts : List Name) (table : List (List Frame)) (rules : List Rule) (row : Row) → stays (map (held_rule texts table) rules) row ≡ stays_plain rules (plain_row texts table row)
same_stays texts table rules row =
    let held = held_rule texts table in
    let wanted = any_map (λ rule. rule.inclusive && is_about rule row) held rules in
    let inclusive = any_map (λ rule. rule.inclusive) held rules in
    let rejected = any_map (λ rule. not rule.inclusive && is_about rule row) held rules in
    let kinds = same_kind texts table in
    let about : (rule : Rule) → is_about (held rule) row ≡ is_about_plain rule (plain_row texts table row) = λ rule. same_about texts table rule row in
    let by_map : stays (map held rules) row
    ≡ ((list_any (λ rule. (held rule).inclusive && is_about (held rule) row) rules || not (list_any (λ rule. (held rule).inclusive) rules)) && not (list_any (λ rule. not (held rule).inclusive && is_about (held rule) row) rules))
    = λ i. (wanted i || not (inclusive i)) && not (rejected i) in
    by_map ∙ (λ i. (list_any (λ rule. kinds rule i && about rule i) rules || not (list_any (λ rule. kinds rule i) rules)) && not (list_any (λ rule. not (kinds rule i) && about rule i) rules))

-- a row whose traceback has a number has it for each rule
pub traces_known : (texts : List Name) (table : List (List Frame)) (rules : List Rule) (row : Row) → row.trace.0 < length table → AllByRecursion (HasTrace row) (map (held_rule texts table) rules)
traces_known texts table [] row lt = tt
traces_known texts table (File inclusive all_frames line domain pattern ∷ rules) row lt = (lt, traces_known texts table rules row lt)
traces_known texts table (Domain inclusive domain ∷ rules) row lt = (tt, traces_known texts table rules row lt)

-- ---- rows

-- elements that are left out of a list are left out of what is made of it
pub filter_map_same : {X Y : Type 0} (h : X → Y) (p : Y → Bool) (xs : List X) → map h (filter (λ x. p (h x)) xs) ≡ filter p (map h xs)
filter_map_same h p [] = refl
filter_map_same h p (x ∷ xs) = elim (p (h x)) as (λ b. map h (if b then x ∷ filter (λ x. p (h x)) xs else filter (λ x. p (h x)) xs) ≡ (if b then h x ∷ filter p (map h xs) else filter p (map h xs))) [
  | true ↦ ap (λ l. h x ∷ l) (filter_map_same h p xs)
  | false ↦ filter_map_same h p xs
]
