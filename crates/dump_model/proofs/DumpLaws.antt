-- What is read is spelt so, what is spelt so is read, and each snapshot has one spelling.
use Rattle.std.proofs.Common.{◌≡◌, ℕ, zero, suc, ◌+◌, ◌-◌, ◌≤◌, Bool, true, false, not, ◌&&◌, List, [], ◌∷◌, ◌++◌}
use Rattle.std.proofs.Common.{length, map, Result, Ok, Err, refl, sym, ap, subst, ◌∙◌, arith, lit<, inl, inr, ◌⊎◌}
use Rattle.std.proofs.Common.{true≢false, append_assoc, append-nil, length-append}
use Rattle.std.specs.Prelude.{◌==◌, nat_lt}
use Rattle.std.specs.List.{AllByRecursion, slice_split, join_with_byte, flat_map}
use Rattle.std.proofs.lemmas.Bool.{eqb-true, lt-ltb}
use Rattle.std.proofs.lemmas.List.{nil_from_length}
use Rattle.std.proofs.lemmas.Grind.{flat_map-append}
use Rattle.std.proofs.lemmas.List.Splits.{join_with_byte-slice_split}
use Rattle.snapshot_model.specs.Snapshots.{PlainRow, PlainSnapshot}
use Rattle.trace_model.specs.Operands.{is_between}
use Rattle.trace_model.specs.Reading.{is_empty}
use Rattle.trace_model.specs.Spelling.{with_end}
use Rattle.trace_model.proofs.CallerLemmas.{cut_first, first_part, not_sep}
use Rattle.dump_model.specs.Spelling.{header, last_line, limit_line, row_line, dump_text, dumps_text}
use Rattle.dump_model.specs.Spelling.{FitsRow, IsDumpable}
use Rattle.dump_model.specs.Reading.{Stand, between, in_head, in_rows, Place, Item, a_header, a_limit, a_trace, an_end}
use Rattle.dump_model.specs.Reading.{when, first_cause, end_causes, place_after, line_at, end_at, Stop, at_line}
use Rattle.dump_model.specs.Reading.{then_lines, lines_at, dumps_at, start}
use Rattle.dump_model.specs.declared.cause.LoadCause.{LoadCause}
use Rattle.dump_model.specs.declared.cause.LoadCause.TheVariants.{Short, BadEnd}
use Rattle.dump_model.proofs.OrderLaws.{after_front}
use Rattle.dump_model.proofs.LineSteps.{with_line}
use Rattle.dump_model.proofs.LineLaws.{none_first, when_not, unless_is, is_true, snapshot, text_to, FitsStand, IsPlace}
use Rattle.dump_model.proofs.LineLaws.{place, Reads, line_takes, line_again, line_grows}
use Rattle.dump_model.proofs.LinesAgain.{header_reads, limit_reads, trace_reads, end_reads}

-- ---- what is read is spelt so

abbrev fine : List PlainSnapshot → Result (List PlainSnapshot) Stop
fine ss = Ok ss

fine_is : (ss ts : List PlainSnapshot) → fine ss ≡ fine ts → ss ≡ ts
fine_is ss ts e = cc

at_line_is : {X : Type 0} (k : ℕ) (r : Result X LoadCause) (x : X) → at_line k r ≡ Ok x → r ≡ Ok x
at_line_is k (Ok y) x e = cc
at_line_is k (Err c) x e = absurd cc

then_is :
    {X : Type 0} (r : Result X Stop) (f : X → Result (List PlainSnapshot) Stop) (ss : List PlainSnapshot)
    → then_lines r f ≡ Ok ss → (x : X) × (r ≡ Ok x) × (f x ≡ Ok ss)
then_is (Ok x) f ss e = (x, refl, e)
then_is (Err stop) f ss e = absurd cc

-- the snapshots of so many dumps, and the whole text
abbrev AreRead : ℕ → List ℕ → List PlainSnapshot → Type 0
AreRead count bytes ss = AllByRecursion IsDumpable ss × (length ss ≡ count) × (bytes ≡ dumps_text ss)

-- at the end nothing is due, so no dump is half read
none_due : (left : ℕ) (at : Stand) → nat_lt 0 left ≡ false → FitsStand left at → (left ≡ 0) × (at ≡ between)
none_due zero between idle stands = (refl, refl)
none_due zero in_head idle stands = absurd (omega (arith, stands))
none_due zero (in_rows limit rows) idle stands = absurd (omega (arith, stands.0))
none_due (suc n) at idle stands = absurd (true≢false (sym (lt-ltb 0 (suc n) (omega arith)) ∙ idle))

end_takes :
    (count : ℕ) (p : Place) (rest : List ℕ) (ss : List PlainSnapshot) → end_at p rest ≡ Ok ss → IsPlace count p
    → AreRead count (text_to p ++ rest) ss
end_takes count p rest ss e good =
    let u = unless_is (first_cause (end_causes p rest)) (Ok p.done) ss e in
    let short = none_first (when Short (is_empty rest && nat_lt 0 p.left)) _ u.0 in
    let ended = none_first (when BadEnd (not (is_empty rest))) [] short.1 in
    let empty : is_empty rest ≡ true = is_true _ (when_not BadEnd _ ended.0) in
    let none : rest ≡ [] = nil_from_length rest (eqb-true (length rest) 0 empty) in
    let idle : nat_lt 0 p.left ≡ false =
    ap (λ (b : Bool). b && nat_lt 0 p.left) (sym empty) ∙ when_not Short _ short.0 in
    let due = none_due p.left p.at idle good.stands in
    let done : p.done ≡ ss = cc in
    subst (AreRead count (text_to p ++ rest)) done (
      good.whole,
      omega (arith, due.0, ap length done, good.counted),
      (λ i. text_to (place p.done p.left (due.1 i)) ++ none i)
          ∙ append-nil (dumps_text p.done ++ []) ∙ append-nil (dumps_text p.done),
    )

lines_take :
    (count k : ℕ) (p : Place) (ss : List PlainSnapshot) (line : List ℕ) (more : List (List ℕ))
    → lines_at k p (line ∷ more) ≡ Ok ss → IsPlace count p
    → AreRead count (text_to p ++ join_with_byte 10 (line ∷ more)) ss
lines_take count k p ss rest [] e good = end_takes count p rest ss (at_line_is k (end_at p rest) ss e) good
lines_take count k p ss line (next ∷ more) e good =
    let t = then_is (at_line k (line_at p line)) (λ q. lines_at (k + 1) q (next ∷ more)) ss e in
    let q = t.0 in
    let one = line_grows count p q line (at_line_is k (line_at p line) q t.1) good in
    let rest = lines_take count (k + 1) q ss next more t.2 one.0 in
    let behind = join_with_byte 10 (next ∷ more) in (
      rest.0,
      rest.1,
      ap (λ (l : List ℕ). text_to p ++ l) (sym (append_assoc line (10 ∷ []) behind))
          ∙ sym (append_assoc (text_to p) (with_end line) behind)
          ∙ ap (λ (l : List ℕ). l ++ behind) (sym one.1) ∙ rest.2,
    )

pub dumps_take :
    (bytes : List ℕ) (count : ℕ) (ss : List PlainSnapshot) → dumps_at bytes count ≡ Ok ss → AreRead count bytes ss
unfolding dumps_at
dumps_take bytes count ss e =
    let f = first_part (λ b. b == 10) bytes in
    let read = lines_take count 1 (start count) ss f.0 f.1 (ap (lines_at 1 (start count)) (sym f.2) ∙ e) begin in
    let whole = ap (join_with_byte 10) (sym f.2) ∙ join_with_byte-slice_split 10 bytes in
    subst (λ (l : List ℕ). AreRead count l ss) whole read
  where
    begin : IsPlace count (start count)
    begin = record { whole = tt; counted = omega arith; stands = tt }

-- ---- what is spelt so is read

abbrev cut : List ℕ → List (List ℕ)
cut bytes = slice_split (λ b. b == 10) bytes

-- a line that is spelt is read, and then those behind it
line_step :
    (k : ℕ) (p : Place) (line : List ℕ) (item : Item) (rest : List ℕ) → Reads p line item
    → lines_at k p (cut (with_end line ++ rest)) ≡ lines_at (k + 1) (place_after p item) (cut rest)
line_step k p line item rest reads =
    let parts : cut (with_end line ++ rest) ≡ line ∷ cut rest =
    ap cut (append_assoc line (10 ∷ []) rest)
    ∙ cut_first (λ b. b == 10) (is_between 32 126) (not_sep 10 32 (lit< tt)) line 10 rest refl reads.plain in
    with_line (λ b. b == 10) (with_end line ++ rest) k p line rest parts
    ∙ ap (λ (r : Result Place LoadCause). then_lines (at_line k r) (λ q. lines_at (k + 1) q (cut rest)))
    (line_again p line item reads)

-- bytes are read up to what stands behind them, which is then at some line
abbrev pub ReadsOn : ℕ → Place → List ℕ → Place → List ℕ → Type 0
ReadsOn k p bytes q rest =
    (m : ℕ) × (lines_at k p (slice_split (λ b. b == 10) bytes) ≡ lines_at m q (slice_split (λ b. b == 10) rest))

-- with one line in front
line_in_front :
    (k : ℕ) (p q : Place) (line : List ℕ) (item : Item) (bytes rest : List ℕ) → Reads p line item
    → ReadsOn (k + 1) (place_after p item) bytes q rest → ReadsOn k p (with_end line ++ bytes) q rest
line_in_front k p q line item bytes rest reads on = (on.0, line_step k p line item bytes reads ∙ on.1)

abbrev row_lines : List PlainRow → List ℕ
row_lines rows = flat_map with_end (map row_line rows)

fits_at :
    (limit : ℕ) (did todo : List PlainRow) (row : PlainRow) → AllByRecursion (FitsRow limit) (did ++ row ∷ todo)
    → FitsRow limit row
fits_at limit [] todo row fits = fits.0
fits_at limit (r ∷ did) todo row fits = fits_at limit did todo row fits.1

module _ (done : List PlainSnapshot) (left : ℕ) (some : 1 ≤ left) where
  -- among the traces of this dump
  abbrev among : ℕ → List PlainRow → Place
  among limit rows = place done left (in_rows limit rows)

  rows_again :
      (k limit : ℕ) (did todo : List PlainRow) (rest : List ℕ) → IsDumpable (snapshot limit (did ++ todo))
      → ReadsOn k (among limit did) (row_lines todo ++ rest) (among limit (did ++ todo)) rest
  rows_again k limit did [] rest good =
      (k, ap (λ (rows : List PlainRow). lines_at k (among limit rows) (cut rest)) (sym (append-nil did)))
  rows_again k limit did (row ∷ todo) rest good =
      let fits = fits_at limit did todo row good.rows in
      let after = after_front did row todo good.rises in
      let whole : (did ++ row ∷ []) ++ todo ≡ did ++ row ∷ todo = append_assoc did (row ∷ []) todo in
      let here = among limit did in
      let behind = among limit ((did ++ row ∷ []) ++ todo) in
      let on = rows_again (k + 1) limit (did ++ row ∷ []) todo rest
      (subst (λ (rows : List PlainRow). IsDumpable (snapshot limit rows)) (sym whole) good) in
      let read = line_in_front k here behind (row_line row) (a_trace row) (row_lines todo ++ rest) rest
      (trace_reads done left some limit did row fits (omega (arith, fits.kept, fits.some, good.some)) after
      (omega (arith, length-append did (row ∷ todo), good.few))) on in (
        read.0,
        ap (λ (l : List ℕ). lines_at k here (cut l)) (append_assoc (with_end (row_line row)) (row_lines todo) rest)
            ∙ read.1
            ∙ ap (λ (rows : List PlainRow). lines_at read.0 (among limit rows) (cut rest)) whole,
      )

  -- the lines of a dump, and what stands behind it
  text_parts :
      (s : PlainSnapshot) (rest : List ℕ)
      → dump_text s ++ rest
      ≡ with_end header ++ (with_end (limit_line s.limit) ++ (row_lines s.rows ++ (with_end last_line ++ rest)))
  text_parts s rest =
      let limit = with_end (limit_line s.limit) in
      let rows = row_lines s.rows in
      let last = with_end last_line in
      ap (λ (l : List ℕ). (with_end header ++ (limit ++ l)) ++ rest)
      (flat_map-append with_end (map row_line s.rows) (last_line ∷ [])
      ∙ ap (λ (l : List ℕ). rows ++ l) (append-nil last))
      ∙ append_assoc (with_end header) (limit ++ (rows ++ last)) rest
      ∙ ap (λ (l : List ℕ). with_end header ++ l) (
      append_assoc limit (rows ++ last) rest ∙ ap (λ (l : List ℕ). limit ++ l) (append_assoc rows last rest))

  pub dump_again :
      (k : ℕ) (s : PlainSnapshot) (rest : List ℕ) → IsDumpable s
      → ReadsOn k (place done left between) (dump_text s ++ rest) (place (done ++ s ∷ []) (left - 1) between) rest
  dump_again k s rest good =
      let last = with_end last_line ++ rest in
      let lines = row_lines s.rows ++ last in
      let body = with_end (limit_line s.limit) ++ lines in
      let all = among s.limit s.rows in
      let rows = rows_again (k + 1 + 1) s.limit [] s.rows last good in
      let end = line_step rows.0 all last_line an_end rest (end_reads done left some s.limit s.rows) in (
        rows.0 + 1,
        ap (λ (l : List ℕ). lines_at k (place done left between) (cut l)) (text_parts s rest)
            ∙ line_step k (place done left between) header a_header body (header_reads done left some)
            ∙ line_step (k + 1) (place done left in_head) (limit_line s.limit) (a_limit s.limit) lines
            (limit_reads done left some s.limit good.some good.most)
            ∙ rows.1 ∙ end,
      )

dumps_again :
    (k : ℕ) (done ss : List PlainSnapshot) → AllByRecursion IsDumpable ss
    → lines_at k (place done (length ss) between) (cut (dumps_text ss)) ≡ Ok (done ++ ss)
dumps_again k done [] are = ap fine (sym (append-nil done))
dumps_again k done (s ∷ ss) are =
    let fewer : length (s ∷ ss) - 1 ≡ length ss = omega arith in
    let read = dump_again done (length (s ∷ ss)) (omega arith) k s (dumps_text ss) are.0 in
    read.1
    ∙ ap (λ (n : ℕ). lines_at read.0 (place (done ++ s ∷ []) n between) (cut (dumps_text ss))) fewer
    ∙ dumps_again read.0 (done ++ s ∷ []) ss are.1
    ∙ ap fine (append_assoc done (s ∷ []) ss)

pub dumps_read :
    (ss : List PlainSnapshot) → AllByRecursion IsDumpable ss → dumps_at (dumps_text ss) (length ss) ≡ Ok ss
unfolding dumps_at
dumps_read ss are = dumps_again 1 [] ss are

pub read_back :
    (bytes : List ℕ) (ss : List PlainSnapshot) → AllByRecursion IsDumpable ss → bytes ≡ dumps_text ss
    → dumps_at bytes (length ss) ≡ Ok ss
read_back bytes ss are is = ap (λ (l : List ℕ). dumps_at l (length ss)) is ∙ dumps_read ss are

-- ---- one spelling

-- of two texts that go on to the same, one begins with the other
one_first :
    (xs ys more less : List ℕ) → xs ++ more ≡ ys ++ less
    → ((cs : List ℕ) × (ys ≡ xs ++ cs)) ⊎ ((cs : List ℕ) × (xs ≡ ys ++ cs))
one_first [] ys more less e = inl (ys, refl)
one_first (x ∷ xs) [] more less e = inr (x ∷ xs, refl)
one_first (x ∷ xs) (y ∷ ys) more less e =
    let first : x ≡ y = cc in
    let later : xs ++ more ≡ ys ++ less = cc in
    elim (one_first xs ys more less later) [
      | inl a ↦ inl (a.0, (λ i. sym first i ∷ a.1 i))
      | inr a ↦ inr (a.0, (λ i. first i ∷ a.1 i))
    ]

-- where no dump is due, nothing may follow
none_left :
    (k : ℕ) (ss ts : List PlainSnapshot) (parts : List (List ℕ)) → lines_at k (place ss 0 between) parts ≡ Ok ts
    → ss ≡ ts
none_left k ss ts [] e = fine_is ss ts e
none_left k ss ts (rest ∷ []) e =
    let here = place ss 0 between in
    let ended = at_line_is k (end_at here rest) ts e in
    let u = unless_is (first_cause (end_causes here rest)) (Ok ss) ts ended in
    cc
none_left k ss ts (line ∷ next ∷ more) e =
    let here = place ss 0 between in
    let t = then_is (at_line k (line_at here line)) (λ q. lines_at (k + 1) q (next ∷ more)) ts e in
    let read = line_takes here t.0 line (at_line_is k (line_at here line) t.0 t.1) in
    absurd (true≢false read.1.due)

same_one : (s t : PlainSnapshot) → s ∷ [] ≡ t ∷ [] → s ≡ t
same_one s t e = cc

-- a dump that begins with another is that one
whole_once :
    (s t : PlainSnapshot) (rest : List ℕ) → IsDumpable s → IsDumpable t → dump_text t ≡ dump_text s ++ rest → s ≡ t
unfolding dumps_at
whole_once s t rest good well same =
    let on = dump_again [] 1 (omega arith) 1 s rest good in
    let read : lines_at 1 (start 1) (cut (dump_text t)) ≡ Ok (t ∷ []) =
    ap (λ (l : List ℕ). lines_at 1 (start 1) (cut l)) (sym (append-nil (dump_text t)))
    ∙ dumps_read (t ∷ []) (well, tt) in
    same_one s t (none_left on.0 (s ∷ []) (t ∷ []) (cut rest) (
    sym on.1 ∙ ap (λ (l : List ℕ). lines_at 1 (start 1) (cut l)) (sym same) ∙ read))

pub dump_once :
    (s t : PlainSnapshot) (behind more : List ℕ) → IsDumpable s → IsDumpable t
    → dump_text s ++ behind ≡ dump_text t ++ more → s ≡ t
dump_once s t behind more good well same = elim (one_first (dump_text s) (dump_text t) behind more same) [
  | inl a ↦ whole_once s t a.0 good well a.1
  | inr a ↦ sym (whole_once t s a.0 well good a.1)
]
