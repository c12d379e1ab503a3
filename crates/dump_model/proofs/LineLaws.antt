-- What a line says that is read, and how it stands in the text of dumps.
use Rattle.std.proofs.Common.{◌≡◌, ℕ, ◌+◌, ◌<◌, ◌≤◌, Bool, true, false, cond, not, ◌||◌}
use Rattle.std.proofs.Common.{List, [], ◌∷◌, ◌++◌, length, map, Option, Some, None, Result, Ok, refl, sym, ap}
use Rattle.std.proofs.Common.{subst, ◌∙◌, arith, true≢false, append_assoc, append-nil, length-append, min}
use Rattle.std.specs.Prelude.{◌==◌, nat_le, nat_lt, decimal, codes}
use Rattle.std.specs.List.{AllByRecursion, list_all, list_any, join_with_byte, flat_map}
use Rattle.std.specs.Str.{bytes_eq}
use Rattle.std.proofs.lemmas.Bool.{eqb-true, ltb-true}
use Rattle.std.proofs.lemmas.List.{nil_from_length, map-append}
use Rattle.std.proofs.lemmas.Grind.{flat_map-append}
use Rattle.std.proofs.lemmas.List.Splits.{join_with_byte-slice_split}
use Rattle.std.proofs.lemmas.Slice.Eq.{bytes_eq-Decides}
use Rattle.mem_base.specs.declared.limits.TheConstants.{MAX_DUMP_ROWS, MAX_FRAME_LIMIT}
use Rattle.snapshot_model.specs.Snapshots.{PlainRow, PlainSnapshot, row_cmp}
use Rattle.trace_model.specs.Operands.{is_between}
use Rattle.trace_model.specs.Reading.{is_empty}
use Rattle.trace_model.specs.Spelling.{with_end}
use Rattle.trace_model.proofs.CallerLemmas.{all_push}
use Rattle.dump_model.specs.Operands.{◌>>=◌, frames_at, row_at}
use Rattle.dump_model.specs.Spelling.{header, last_line, limit_line, row_line, dump_text, dumps_text}
use Rattle.dump_model.specs.Spelling.{FitsRow, IsDumpable}
use Rattle.dump_model.specs.Reading.{Stand, between, in_head, in_rows, Place, Item, a_header, a_limit, a_trace, an_end}
use Rattle.dump_model.specs.Reading.{words_of, is_last, item_at, when, first_cause, fault_of, begins}
use Rattle.dump_model.specs.Reading.{has_words, is_no_header, is_after, row_causes, item_causes, line_causes}
use Rattle.dump_model.specs.Reading.{place_after, unless, line_at}
use Rattle.dump_model.specs.declared.cause.LoadCause.{LoadCause}
use Rattle.dump_model.specs.declared.cause.LoadCause.TheVariants.{Trailing, BadHeader, BadByte, UnknownWord, BadWords}
use Rattle.dump_model.specs.declared.cause.LoadCause.TheVariants.{BadFrames, OutOfOrder, TooMany}
use Rattle.dump_model.proofs.OperandLaws.{bind_ok, ok_is, some_left, ranged_takes, row_takes, row_words, IsTold}
use Rattle.dump_model.proofs.OrderLaws.{rises_push, above_all}

-- ---- causes that do not hold

pub none_first :
    (o : Option LoadCause) (cs : List (Option LoadCause)) → first_cause (o ∷ cs) ≡ None
    → (o ≡ None) × (first_cause cs ≡ None)
none_first None cs e = (refl, e)
none_first (Some c) cs e = absurd cc

pub when_not : (c : LoadCause) (b : Bool) → when c b ≡ None → b ≡ false
when_not c true e = absurd cc
when_not c false e = refl

pub unless_is :
    {X : Type 0} (o : Option LoadCause) (r : Result X LoadCause) (x : X) → unless o r ≡ Ok x → (o ≡ None) × (r ≡ Ok x)
unless_is None r x e = (refl, e)
unless_is (Some c) r x e = absurd cc

pub is_true : (b : Bool) → not b ≡ false → b ≡ true
is_true true e = refl
is_true false e = sym e

pub neither : (a b : Bool) → (a || b) ≡ false → (a ≡ false) × (b ≡ false)
neither true b e = absurd (true≢false e)
neither false b e = (refl, e)

-- a line that says this, where no cause holds
pub record Reads (p : Place) (line : List ℕ) (item : Item) : Type 0 where
  pub due : (p.left == 0) ≡ false
  pub heads : is_no_header p.at line ≡ false
  pub plain : list_all (is_between 32 126) line ≡ true
  pub begun : begins p.at (words_of line) ≡ true
  pub full : list_any is_empty (words_of line) ≡ false
  pub sized : has_words p.at (words_of line) ≡ true
  pub said : item_at p.at (words_of line) ≡ Ok item
  pub fits : first_cause (item_causes p.at (Ok item)) ≡ None

pub line_takes :
    (p q : Place) (line : List ℕ) → line_at p line ≡ Ok q
    → (item : Item) × Reads p line item × (place_after p item ≡ q)
unfolding line_at
line_takes p q line e =
    let said = item_at p.at (words_of line) in
    let u = unless_is (first_cause (line_causes p line)) (said >>= λ item. Ok (place_after p item)) q e in
    let words = words_of line in
    let b = bind_ok said (λ item. Ok (place_after p item)) q u.1 in
    let trailing = none_first (when Trailing (p.left == 0)) _ u.0 in
    let headed = none_first (when BadHeader (is_no_header p.at line)) _ trailing.1 in
    let bytes = none_first (when BadByte (not (list_all (is_between 32 126) line))) _ headed.1 in
    let begun = none_first (when UnknownWord (not (begins p.at words))) _ bytes.1 in
    let sized = none_first (when BadWords (list_any is_empty words || not (has_words p.at words))) _ begun.1 in
    let read = none_first (fault_of said) (item_causes p.at said) sized.1 in
    let parts = neither (list_any is_empty words) (not (has_words p.at words)) (when_not BadWords _ sized.0) in (
      b.0,
      record {
        due = when_not Trailing (p.left == 0) trailing.0;
        heads = when_not BadHeader (is_no_header p.at line) headed.0;
        plain = is_true _ (when_not BadByte (not (list_all (is_between 32 126) line)) bytes.0);
        begun = is_true _ (when_not UnknownWord (not (begins p.at words)) begun.0);
        full = parts.0;
        sized = is_true _ parts.1;
        said = b.1;
        fits = subst (λ (r : Result Item LoadCause). first_cause (item_causes p.at r) ≡ None) b.1 read.1;
      },
      ok_is (place_after p b.0) q b.2,
    )

pub line_again :
    (p : Place) (line : List ℕ) (item : Item) → Reads p line item → line_at p line ≡ Ok (place_after p item)
unfolding line_at
line_again p line item reads =
    (λ i. unless (first_cause (
    when Trailing (reads.due i)
    ∷ when BadHeader (reads.heads i)
    ∷ when BadByte (not (reads.plain i))
    ∷ when UnknownWord (not (reads.begun i))
    ∷ when BadWords (reads.full i || not (reads.sized i))
    ∷ fault_of (reads.said i)
    ∷ item_causes p.at (reads.said i)
    )) (reads.said i >>= λ x. Ok (place_after p x)))
    ∙ ap (λ (o : Option LoadCause). unless o (Ok (place_after p item))) reads.fits

-- ---- the text up to a place

-- the lines of the dump that is being read
abbrev pub lines_of : Stand → List (List ℕ)
lines_of between = []
lines_of in_head = header ∷ []
lines_of (in_rows limit rows) = header ∷ limit_line limit ∷ map row_line rows

abbrev pub text_to : Place → List ℕ
text_to p = dumps_text p.done ++ flat_map with_end (lines_of p.at)

abbrev pub snapshot : ℕ → List PlainRow → PlainSnapshot
snapshot limit rows = record { limit = limit; rows = rows }

-- what was read of a dump has a spelling, and a dump that is being read is due
abbrev pub FitsStand : ℕ → Stand → Type 0
FitsStand left between = Unit {0}
FitsStand left in_head = 1 ≤ left
FitsStand left (in_rows limit rows) = (1 ≤ left) × IsDumpable (record { limit = limit; rows = rows })

-- what was read has a spelling, and so many dumps were due at first
pub record IsPlace (count : ℕ) (p : Place) : Type 0 where
  pub whole : AllByRecursion IsDumpable p.done
  pub counted : p.left + length p.done ≡ count
  pub stands : FitsStand p.left p.at

-- a line more of the same dumps
abbrev pub Grows : ℕ → Place → List ℕ → Place → Type 0
Grows count p line q = IsPlace count q × (text_to q ≡ text_to p ++ with_end line)

abbrev pub place : List PlainSnapshot → ℕ → Stand → Place
place done left at = record { done = done; left = left; at = at }

one_more :
    (done : List ℕ) (lines : List (List ℕ)) (line : List ℕ)
    → done ++ flat_map with_end (lines ++ line ∷ []) ≡ (done ++ flat_map with_end lines) ++ with_end line
one_more done lines line =
    ap (λ (l : List ℕ). done ++ l)
    (flat_map-append with_end lines (line ∷ [])
    ∙ ap (λ (l : List ℕ). flat_map with_end lines ++ l) (append-nil (with_end line)))
    ∙ sym (append_assoc done (flat_map with_end lines) (with_end line))

pub limit_parts : (n : ℕ) → join_with_byte 32 (codes "limit" ∷ decimal n ∷ []) ≡ limit_line n
unfolding limit_line
limit_parts n = refl

pub row_parts : (row : PlainRow) → join_with_byte 32 (codes "trace" ∷ row_words row) ≡ row_line row
unfolding row_line
row_parts row = refl

-- one more trace, where none of its causes holds
row_fits :
    (limit : ℕ) (rows : List PlainRow) (row : PlainRow) → first_cause (row_causes limit rows row) ≡ None
    → (length row.frames ≡ min limit row.total) × (is_after rows row.key ≡ true) × (length rows < MAX_DUMP_ROWS)
row_fits limit rows row e =
    let kept = none_first (when BadFrames (not (length row.frames == min limit row.total))) _ e in
    let after = none_first (when OutOfOrder (not (is_after rows row.key))) _ kept.1 in
    let few = none_first (when TooMany (not (nat_lt (length rows) MAX_DUMP_ROWS))) [] after.1 in (
      eqb-true _ _ (is_true _ (when_not BadFrames _ kept.0)),
      is_true _ (when_not OutOfOrder _ after.0),
      ltb-true _ _ (is_true _ (when_not TooMany _ few.0)),
    )

module _ (count : ℕ) (done : List PlainSnapshot) (left : ℕ) (line : List ℕ) where
  header_grows :
      (item : Item) → Reads (place done left between) line item → IsPlace count (place done left between)
      → Grows count (place done left between) line (place_after (place done left between) item)
  header_grows item reads good =
      let here = place done left between in
      let is : line ≡ header = (bytes_eq-Decides line header).0 (is_true _ reads.heads) in
      subst (λ (x : Item). Grows count here line (place_after here x)) (ok_is a_header item reads.said) (
        record { whole = good.whole; counted = good.counted; stands = some_left left reads.due },
        one_more (dumps_text done) [] header ∙ ap (λ (l : List ℕ). text_to here ++ with_end l) (sym is),
      )

  limit_grows :
      (item : Item) → Reads (place done left in_head) line item → IsPlace count (place done left in_head)
      → Grows count (place done left in_head) line (place_after (place done left in_head) item)
  limit_grows item reads good = by (words_of line) reads.begun reads.said (join_with_byte-slice_split 32 line)
    where
      here : Place
      here = place done left in_head

      by : (ws : List (List ℕ)) → begins in_head ws ≡ true → item_at in_head ws ≡ Ok item → join_with_byte 32 ws ≡ line
          → Grows count here line (place_after here item)
      by [] begun said is = absurd (true≢false (sym begun))
      by (w ∷ []) begun said is = absurd cc
      by (w ∷ v ∷ u ∷ us) begun said is = absurd cc
      by (w ∷ v ∷ []) begun said is =
          let b = bind_ok (frames_at v) (λ n. Ok (a_limit n)) item said in
          let t = ranged_takes 1 MAX_FRAME_LIMIT v b.0 b.1 in
          let first : w ≡ codes "limit" = (bytes_eq-Decides w (codes "limit")).0 begun in
          let spelt : line ≡ limit_line b.0 =
          sym is ∙ (λ i. join_with_byte 32 (first i ∷ t.0 i ∷ [])) ∙ limit_parts b.0 in
          subst (λ (x : Item). Grows count here line (place_after here x)) (ok_is (a_limit b.0) item b.2) (
            record {
              whole = good.whole;
              counted = good.counted;
              stands = (good.stands, record { some = t.1; most = t.2; few = omega arith; rises = tt; rows = tt });
            },
            one_more (dumps_text done) (header ∷ []) (limit_line b.0)
                ∙ ap (λ (l : List ℕ). text_to here ++ with_end l) (sym spelt),
          )

  module _ (limit : ℕ) (rows : List PlainRow) where
    abbrev here : Place
    here = place done left (in_rows limit rows)

    trace_grows :
        (row : PlainRow) → IsTold row → line ≡ row_line row → first_cause (row_causes limit rows row) ≡ None
        → IsPlace count here → Grows count here line (place_after here (a_trace row))
    trace_grows row told spelt free good =
        let s = good.stands.1 in
        let fit = row_fits limit rows row free in
        let fits : FitsRow limit row = record {
          key = told.key;
          size = told.size;
          some = told.some;
          few = told.few;
          frames = told.frames;
          kept = fit.0;
        } in (
          record {
            whole = good.whole;
            counted = good.counted;
            stands = (
              good.stands.0,
              record {
                some = s.some;
                most = s.most;
                few = omega (arith, length-append rows (row ∷ []), fit.2);
                rises = rises_push row_cmp rows row s.rises (above_all rows row.key s.rises fit.1);
                rows = all_push (FitsRow limit) rows row s.rows fits;
              },
            );
          },
          ap (λ (ls : List (List ℕ)). dumps_text done ++ flat_map with_end (header ∷ limit_line limit ∷ ls))
              (map-append row_line rows (row ∷ []))
              ∙ one_more (dumps_text done) (lines_of (in_rows limit rows)) (row_line row)
              ∙ ap (λ (l : List ℕ). text_to here ++ with_end l) (sym spelt),
        )

    end_grows : line ≡ last_line → IsPlace count here → Grows count here line (place_after here an_end)
    end_grows spelt good =
        let s = snapshot limit rows in (
          record {
            whole = all_push IsDumpable done s good.whole good.stands.1;
            counted = omega (arith, length-append done (s ∷ []), good.counted, good.stands.0);
            stands = tt;
          },
          append-nil (dumps_text (done ++ s ∷ []))
              ∙ flat_map-append dump_text done (s ∷ [])
              ∙ ap (λ (l : List ℕ). dumps_text done ++ l) (append-nil (dump_text s))
              ∙ one_more (dumps_text done) (lines_of (in_rows limit rows)) last_line
              ∙ ap (λ (l : List ℕ). text_to here ++ with_end l) (sym spelt),
        )

    rows_grow :
        (item : Item) → Reads here line item → IsPlace count here → Grows count here line (place_after here item)
    rows_grow item reads good =
        by (words_of line) reads.begun reads.sized reads.said (join_with_byte-slice_split 32 line)
      where
        split : (w : List ℕ) (ws : List (List ℕ)) (b : Bool) → is_last w ≡ b
            → (bytes_eq w (codes "trace") || b) ≡ true → cond b (length ws == 0) (nat_le 5 (length ws)) ≡ true
            → cond b (Ok an_end) (row_at ws >>= λ row. Ok (a_trace row)) ≡ Ok item → join_with_byte 32 (w ∷ ws) ≡ line
            → Grows count here line (place_after here item)
        split w ws true last begun sized said is =
            let alone : ws ≡ [] = nil_from_length ws (eqb-true (length ws) 0 sized) in
            let word : w ≡ last_line = (bytes_eq-Decides w last_line).0 last in
            subst (λ (x : Item). Grows count here line (place_after here x)) (ok_is an_end item said)
            (end_grows (sym is ∙ (λ i. join_with_byte 32 (word i ∷ alone i))) good)
        split w ws false last begun sized said is =
            let b = bind_ok (row_at ws) (λ row. Ok (a_trace row)) item said in
            let t = row_takes ws b.0 b.1 in
            let word : w ≡ codes "trace" =
            (bytes_eq-Decides w (codes "trace")).0 (either (bytes_eq w (codes "trace")) begun) in
            let same : item ≡ a_trace b.0 = sym (ok_is (a_trace b.0) item b.2) in
            let free =
            subst (λ (x : Item). first_cause (item_causes (in_rows limit rows) (Ok x)) ≡ None) same reads.fits in
            subst (λ (x : Item). Grows count here line (place_after here x)) (sym same) (
            trace_grows b.0 t.1 (sym is ∙ (λ i. join_with_byte 32 (word i ∷ t.0 i)) ∙ row_parts b.0) free good)
          where
            either : (a : Bool) → (a || false) ≡ true → a ≡ true
            either true e = refl
            either false e = e

        by : (ws : List (List ℕ)) → begins (in_rows limit rows) ws ≡ true → has_words (in_rows limit rows) ws ≡ true
            → item_at (in_rows limit rows) ws ≡ Ok item → join_with_byte 32 ws ≡ line
            → Grows count here line (place_after here item)
        by [] begun sized said is = absurd (true≢false (sym begun))
        by (w ∷ ws) begun sized said is = split w ws (is_last w) refl begun sized said is

stand_grows :
    (count : ℕ) (done : List PlainSnapshot) (left : ℕ) (at : Stand) (line : List ℕ) (item : Item)
    → Reads (place done left at) line item → IsPlace count (place done left at)
    → Grows count (place done left at) line (place_after (place done left at) item)
stand_grows count done left between line item reads good = header_grows count done left line item reads good
stand_grows count done left in_head line item reads good = limit_grows count done left line item reads good
stand_grows count done left (in_rows limit rows) line item reads good =
    rows_grow count done left line limit rows item reads good

-- a line that is read stands behind the text before it
pub line_grows :
    (count : ℕ) (p q : Place) (line : List ℕ) → line_at p line ≡ Ok q → IsPlace count p → Grows count p line q
line_grows count p q line e good =
    let t = line_takes p q line e in
    subst (Grows count p line) t.2 (stand_grows count p.done p.left p.at line t.0 t.1 good)
