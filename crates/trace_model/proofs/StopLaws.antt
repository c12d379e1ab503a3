-- Bytes are refused at their first line that has a cause, and for the first of its causes.
use Rattle.std.proofs.Common.{◌≡◌, ℕ, ◌+◌, Bool, true, false, cond, not, List, [], ◌∷◌, ◌++◌, length}
use Rattle.std.proofs.Common.{Option, Some, None, Result, Ok, Err, refl, sym, ap, subst, ◌∙◌, ◌↔◌}
use Rattle.std.proofs.Common.{append_assoc, append-nil, arith}
use Rattle.std.specs.Prelude.{◌==◌}
use Rattle.std.specs.Bool.{then_some}
use Rattle.std.specs.List.{onto_first, join_with_byte}
use Rattle.std.specs.Option.{option_or}
use Rattle.std.specs.Str.{bytes_eq}
use Rattle.std.proofs.lemmas.Bool.{eqb-true}
use Rattle.std.proofs.lemmas.List.{nil_from_length}
use Rattle.std.proofs.lemmas.List.Sums.{sum_by-append}
use Rattle.std.proofs.lemmas.List.Splits.{join_with_byte-slice_split, length-slice_split}
use Rattle.std.proofs.lemmas.Slice.Eq.{bytes_eq-Decides}
use Rattle.trace_model.specs.Plain.{PlainTrace}
use Rattle.trace_model.specs.Spelling.{with_end, header, body, spelling, IsWellFormed}
use Rattle.trace_model.specs.Reading.{Stop, is_empty, opening, then_lines, line_at, lines_at, header_at}
use Rattle.trace_model.specs.Reading.{end_cause, trace_at}
use Rattle.trace_model.specs.Causes.{parts_of, header_causes, line_causes, line_count, first_cause}
use Rattle.trace_model.specs.Causes.{IsRefused, at_header, behind}
use Rattle.trace_model.specs.declared.cause.TraceCause.{TraceCause}
use Rattle.trace_model.specs.declared.cause.TraceCause.TheVariants.{BadEnd, BadHeader}
use Rattle.trace_model.proofs.CauseLaws.{first_row_is_cause}
use Rattle.trace_model.proofs.LineLaws.{line_takes}
use Rattle.trace_model.proofs.LineSteps.{first_part, with_header, with_line}
use Rattle.trace_model.proofs.TrackLaws.{suc_not_zero}
use Rattle.trace_model.proofs.TraceLaws.{fine, fine_is, line_grows, no_tracks, done_lines, went_on, trace_again}

-- ---- cutting a line off

-- the bytes are this line, its end and others; and whatever stands there in their place is cut in the same way
abbrev CutsOff : List ℕ → List ℕ → List ℕ → List (List ℕ) → Type 0
CutsOff bytes line next more =
    (rest : List ℕ) × (bytes ≡ line ++ 10 ∷ rest) × (parts_of rest ≡ next ∷ more)
    × ((others : List ℕ) → parts_of (line ++ 10 ∷ others) ≡ line ∷ parts_of others)

cut_off : (bytes line next : List ℕ) (more : List (List ℕ)) → parts_of bytes ≡ line ∷ next ∷ more
    → CutsOff bytes line next more
cut_off [] line next more e = absurd cc
cut_off (x ∷ xs) line next more e = by (x == 10) refl (parts_of xs) refl (λ q. cut_off xs q next more) e
  where
    by : (b : Bool) → (x == 10) ≡ b → (ps : List (List ℕ)) → parts_of xs ≡ ps
        → ((q : List ℕ) → parts_of xs ≡ q ∷ next ∷ more → CutsOff xs q next more)
        → cond b ([] ∷ ps) (onto_first x ps) ≡ line ∷ next ∷ more → CutsOff (x ∷ xs) line next more
    by true is ps are later h =
        let none : [] ≡ line = cc in
        let others : ps ≡ next ∷ more = cc in
        subst (λ (l : List ℕ). CutsOff (x ∷ xs) l next more) none
        (xs, ap (λ (n : ℕ). n ∷ xs) (eqb-true x 10 is), are ∙ others, λ ys. refl)
    by false is [] are later h = absurd cc
    by false is (q ∷ qs) are later h =
        let same : x ∷ q ≡ line = cc in
        let others : qs ≡ next ∷ more = cc in
        let r = later q (are ∙ ap (λ (ps : List (List ℕ)). q ∷ ps) others) in
        subst (λ (l : List ℕ). CutsOff (x ∷ xs) l next more) same (
          r.0,
          ap (λ (l : List ℕ). x ∷ l) r.1,
          r.2,
          λ ys. ap (λ (b : Bool). cond b ([] ∷ parts_of (q ++ 10 ∷ ys)) (onto_first x (parts_of (q ++ 10 ∷ ys)))) is
              ∙ ap (onto_first x) (r.3 ys),
        )

-- the ends of lines are counted part by part
line_count-append : (xs ys : List ℕ) → line_count (xs ++ ys) ≡ line_count xs + line_count ys
line_count-append xs ys = sum_by-append (λ b. cond (b == 10) 1 0) xs ys

-- ---- where reading stops

abbrev stopped : ℕ → TraceCause → Result PlainTrace Stop
stopped k c = Err (k, c)

stops_here : (k j : ℕ) (c d : TraceCause) → stopped k c ≡ stopped j d → (k ≡ j) × (c ≡ d)
stops_here k j c d e =
    let x : Stop = (k, c) in
    let y : Stop = (j, d) in
    let same : x ≡ y = cc in
    (ap (λ (s : Stop). s.0) same, ap (λ (s : Stop). s.1) same)

-- the first causes of parts, behind a trace
abbrev found : PlainTrace → List (List ℕ) → Option TraceCause
found t ps = first_cause (line_causes t ps)

-- what is read behind the k-th line
abbrev go_on : ℕ → List (List ℕ) → Result PlainTrace TraceCause → Result PlainTrace Stop
go_on k ps r = then_lines k r (λ v. lines_at (k + 1) v ps)

-- the lines up to the faulty one are those of a trace, and that one has its first cause
abbrev Stops : ℕ → ℕ → TraceCause → PlainTrace → List ℕ → Type 0
Stops k j c t bytes =
    (u : PlainTrace) × (read : List ℕ) × (rest : List ℕ) × IsWellFormed u × (bytes ≡ read ++ rest)
    × (body u ≡ body t ++ read) × (j + length (parts_of rest) ≡ k + length (parts_of bytes))
    × (first_cause (line_causes u (parts_of rest)) ≡ Some c)

-- it is the first of these lines
at_once : (k j : ℕ) (c : TraceCause) (t : PlainTrace) (bytes : List ℕ) → IsWellFormed t → k ≡ j
    → first_cause (line_causes t (parts_of bytes)) ≡ Some c → Stops k j c t bytes
at_once k j c t bytes well same is =
    (t, [], bytes, well, refl, sym (append-nil (body t)), ap (λ (n : ℕ). n + length (parts_of bytes)) (sym same), is)

-- it is one behind a line that was read
later_on : (k j : ℕ) (c : TraceCause) (t v : PlainTrace) (bytes line next : List ℕ) (more : List (List ℕ))
    → parts_of bytes ≡ line ∷ next ∷ more → line_at t line ≡ Ok v → IsWellFormed t
    → ((rest : List ℕ) → parts_of rest ≡ next ∷ more → IsWellFormed v → Stops (k + 1) j c v rest) → Stops k j c t bytes
later_on k j c t v bytes line next more are read well on =
    let cut = cut_off bytes line next more are in
    let one = line_grows t v line (line_takes t v line read) well in
    let s = on cut.0 cut.2 one.0 in
    let counted = ap (λ (ps : List (List ℕ)). length ps) are in
    let others = ap (λ (ps : List (List ℕ)). length ps) cut.2 in (
      s.0,
      with_end line ++ s.1,
      s.2,
      s.3,
      cut.1 ∙ ap (λ (l : List ℕ). line ++ 10 ∷ l) s.4 ∙ sym (append_assoc line (10 ∷ []) (s.1 ++ s.2))
          ∙ sym (append_assoc (with_end line) s.1 s.2),
      s.5 ∙ ap (λ (l : List ℕ). l ++ s.1) one.1 ∙ append_assoc (body t) (with_end line) s.1,
      omega (arith, s.6, counted, others),
      s.7,
    )

stops : (ps : List (List ℕ)) (k j : ℕ) (c : TraceCause) (t : PlainTrace) (bytes : List ℕ) → parts_of bytes ≡ ps
    → lines_at k t ps ≡ stopped j c → IsWellFormed t → Stops k j c t bytes
stops [] k j c t bytes are e well = absurd cc
stops (part ∷ []) k j c t bytes are e well = by (is_empty part) e (ap (found t) are)
  where
    by : (b : Bool) → cond b (fine t) (stopped k BadEnd) ≡ stopped j c
        → first_cause (line_causes t (parts_of bytes)) ≡ option_or (then_some (not b) BadEnd) None → Stops k j c t bytes
    by true h rows = absurd cc
    by false h rows =
        let s = stops_here k j BadEnd c h in
        at_once k j c t bytes well s.0 (rows ∙ ap Some s.1)
stops (line ∷ next ∷ more) k j c t bytes are e well =
    by (line_at t line) refl e (λ v. stops (next ∷ more) (k + 1) j c v)
  where
    by : (r : Result PlainTrace TraceCause) → line_at t line ≡ r
        → then_lines k r (λ v. lines_at (k + 1) v (next ∷ more)) ≡ stopped j c
        → ((v : PlainTrace) (rest : List ℕ) → parts_of rest ≡ next ∷ more
        → lines_at (k + 1) v (next ∷ more) ≡ stopped j c → IsWellFormed v → Stops (k + 1) j c v rest)
        → Stops k j c t bytes
    by (Err d) is h later =
        let s = stops_here k j d c h in
        at_once k j c t bytes well s.0
        (ap (found t) are ∙ (first_row_is_cause t line c).0 (is ∙ ap Err s.1))
    by (Ok v) is h later =
        later_on k j c t v bytes line next more are is well (λ rest at_rest fits. later v rest at_rest h fits)

-- ---- the other way

-- the lines of a trace are read, and then those behind them
goes_on : (ps : List (List ℕ)) (k : ℕ) (t u : PlainTrace) (bytes rest : List ℕ) → parts_of bytes ≡ ps
    → lines_at k t ps ≡ fine u
    → (m : ℕ) × (m + 1 ≡ k + length ps) × (lines_at k t (parts_of (bytes ++ rest)) ≡ lines_at m u (parts_of rest))
goes_on [] k t u bytes rest are e =
    let f = first_part (λ b. b == 10) bytes in
    let none : [] ≡ f.0 ∷ f.1 = sym are ∙ f.2 in
    absurd cc
goes_on (part ∷ []) k t u bytes rest are e =
    let p = went_on (is_empty part) (fine t) (k, BadEnd) u e in
    let nothing : part ≡ [] = nil_from_length part (eqb-true (length part) 0 p.0) in
    let none : bytes ≡ [] = sym (join_with_byte-slice_split 10 bytes) ∙ ap (join_with_byte 10) are ∙ nothing in
    let same : t ≡ u = fine_is t u p.1 in
    (k, refl, (λ i. lines_at k (same i) (parts_of (none i ++ rest))))
goes_on (line ∷ next ∷ more) k t u bytes rest are e =
    let d = done_lines k (line_at t line) (λ v. lines_at (k + 1) v (next ∷ more)) u e in
    let cut = cut_off bytes line next more are in
    let on = goes_on (next ∷ more) (k + 1) d.0 u cut.0 rest cut.2 d.2 in
    let whole : bytes ++ rest ≡ line ++ 10 ∷ (cut.0 ++ rest) =
    ap (λ (l : List ℕ). l ++ rest) cut.1 ∙ append_assoc line (10 ∷ cut.0) rest in
    let begins = ap parts_of whole ∙ cut.3 (cut.0 ++ rest) in (
      on.0,
      omega (arith, on.1),
      with_line (λ b. b == 10) (bytes ++ rest) line (cut.0 ++ rest) begins k t
          ∙ ap (go_on k (parts_of (cut.0 ++ rest))) d.1
          ∙ on.2,
    )

-- the first cause of a line stops reading there
faulty : (k : ℕ) (t : PlainTrace) (ps : List (List ℕ)) (c : TraceCause) → first_cause (line_causes t ps) ≡ Some c
    → lines_at k t ps ≡ stopped k c
faulty k t [] c e = absurd cc
faulty k t (part ∷ []) c e = by (is_empty part) e
  where
    by : (b : Bool) → option_or (then_some (not b) BadEnd) None ≡ Some c
        → cond b (fine t) (stopped k BadEnd) ≡ stopped k c
    by true h = absurd cc
    by false h = cc
faulty k t (line ∷ next ∷ more) c e =
    ap (go_on k (next ∷ more)) ((first_row_is_cause t line c).1 e)

-- ---- the first line

-- the row of a header
abbrev no_header : Bool → Option TraceCause
no_header b = option_or (then_some (not b) BadHeader) None

-- a first line with no end
one_part : (part : List ℕ) → first_cause (header_causes (part ∷ [])) ≡ Some (end_cause part)
one_part [] = refl
one_part (b ∷ bs) =
    let some = suc_not_zero (length bs) in
    ap (λ (v : Bool). option_or (then_some (not v) BadEnd) (no_header (bytes_eq (b ∷ bs) header))) some
    ∙ ap (λ (v : Bool). Some (cond v BadHeader BadEnd)) (sym some)

header_faulty : (ps : List (List ℕ)) (c : TraceCause) → first_cause (header_causes ps) ≡ Some c
    → header_at ps ≡ stopped 1 c
header_faulty [] c e = cc
header_faulty (part ∷ []) c e =
    let found : Some (end_cause part) ≡ Some c = sym (one_part part) ∙ e in
    let same : end_cause part ≡ c = cc in
    ap (stopped 1) same
header_faulty (line ∷ next ∷ more) c e = by (bytes_eq line header) e
  where
    by : (b : Bool) → no_header b ≡ Some c
        → cond b (lines_at 2 opening (next ∷ more)) (stopped 1 BadHeader) ≡ stopped 1 c
    by true h = absurd cc
    by false h = cc

-- ---- the law

refused_read : (bytes : List ℕ) (stop : Stop) → IsRefused bytes stop → trace_at bytes ≡ Err stop
unfolding trace_at
refused_read bytes stop (at_header first cause) =
    header_faulty (parts_of bytes) stop.1 cause ∙ ap (λ (n : ℕ). stopped n stop.1) (sym first)
refused_read bytes stop (behind t rest well is number cause) = by (parts_of (spelling t)) refl (trace_again t well)
  where
    by : (ps : List (List ℕ)) → parts_of (spelling t) ≡ ps → header_at ps ≡ fine t → trace_at bytes ≡ Err stop
    by [] are h = absurd cc
    by (part ∷ []) are h = absurd cc
    by (line ∷ next ∷ more) are h =
        let p = went_on (bytes_eq line header) (lines_at 2 opening (next ∷ more)) (1, BadHeader) t h in
        let cut = cut_off (spelling t) line next more are in
        let on = goes_on (next ∷ more) 2 opening t cut.0 rest cut.2 p.1 in
        let begins : parts_of bytes ≡ line ∷ parts_of (cut.0 ++ rest) =
        ap parts_of (is ∙ ap (λ (l : List ℕ). l ++ rest) cut.1 ∙ append_assoc line (10 ∷ cut.0) rest)
        ∙ cut.3 (cut.0 ++ rest) in
        let counted = ap (λ (ps : List (List ℕ)). length ps) are in
        let ends = length-slice_split (λ b. b == 10) (spelling t) in
        let here : on.0 ≡ stop.0 = omega (arith, on.1, number, counted, ends) in
        with_header (λ b. b == 10) bytes line (cut.0 ++ rest) begins
        ∙ ap (λ (b : Bool). cond b (lines_at 2 opening (parts_of (cut.0 ++ rest))) (stopped 1 BadHeader)) p.0
        ∙ on.2 ∙ faulty on.0 t (parts_of rest) stop.1 cause ∙ ap (λ (n : ℕ). stopped n stop.1) here

read_refused : (bytes : List ℕ) (stop : Stop) → trace_at bytes ≡ Err stop → IsRefused bytes stop
unfolding trace_at
read_refused bytes stop e = by (parts_of bytes) refl e
  where
    at_first : (c : TraceCause) → stopped 1 c ≡ Err stop → first_cause (header_causes (parts_of bytes)) ≡ Some c
        → IsRefused bytes stop
    at_first c h rows =
        let s = stops_here 1 stop.0 c stop.1 h in
        at_header (sym s.0) (rows ∙ ap Some s.1)

    later : (line next : List ℕ) (more : List (List ℕ)) → parts_of bytes ≡ line ∷ next ∷ more
        → bytes_eq line header ≡ true → lines_at 2 opening (next ∷ more) ≡ Err stop → IsRefused bytes stop
    later line next more are begins h =
        let cut = cut_off bytes line next more are in
        let s = stops (next ∷ more) 2 stop.0 stop.1 opening cut.0 cut.2 h no_tracks in
        let named = (bytes_eq-Decides line header).0 begins in
        let whole : bytes ≡ spelling s.0 ++ s.2 =
        cut.1 ∙ (λ i. named i ++ 10 ∷ s.4 i) ∙ ap (λ (l : List ℕ). header ++ 10 ∷ (l ++ s.2)) (sym s.5) in
        let counts = ap line_count whole ∙ line_count-append (spelling s.0) s.2 in
        let all = ap (λ (ps : List (List ℕ)). length ps) are in
        let others = ap (λ (ps : List (List ℕ)). length ps) cut.2 in
        let ends = length-slice_split (λ b. b == 10) in
        let number : stop.0 ≡ line_count (spelling s.0) + 1 =
        omega (arith, s.6, counts, all, others, ends bytes, ends s.2) in
        behind s.0 s.2 s.3 whole number s.7

    by_header : (b : Bool) (line next : List ℕ) (more : List (List ℕ)) → parts_of bytes ≡ line ∷ next ∷ more
        → bytes_eq line header ≡ b → cond b (lines_at 2 opening (next ∷ more)) (stopped 1 BadHeader) ≡ Err stop
        → IsRefused bytes stop
    by_header true line next more are is h = later line next more are is h
    by_header false line next more are is h = at_first BadHeader h
        (ap (λ (ps : List (List ℕ)). first_cause (header_causes ps)) are ∙ ap no_header is)

    by : (ps : List (List ℕ)) → parts_of bytes ≡ ps → header_at ps ≡ Err stop → IsRefused bytes stop
    by [] are h = at_first BadHeader h (ap (λ (ps : List (List ℕ)). first_cause (header_causes ps)) are)
    by (part ∷ []) are h =
        at_first (end_cause part) h (ap (λ (ps : List (List ℕ)). first_cause (header_causes ps)) are ∙ one_part part)
    by (line ∷ next ∷ more) are h = by_header (bytes_eq line header) line next more are refl h

pub refused_where : (bytes : List ℕ) (stop : Stop) → (trace_at bytes ≡ Err stop) ↔ IsRefused bytes stop
refused_where bytes stop = (read_refused bytes stop, refused_read bytes stop)
