-- Reading line after line, as a loop does, and a line in steps.
use Rattle.std.proofs.Common.{◌≡◌, ◌==◌, ℕ, ◌+◌, Bool, true, false, not, ◌||◌, List, [], ◌∷◌, map, Option}
use Rattle.std.proofs.Common.{Result, Ok, Err, refl, sym, ap, ◌∙◌, ◌≤◌, ◌≢◌, length, arith}
use Rattle.std.proofs.lemmas.Bool.{eqb-true}
use Rattle.std.proofs.lemmas.Slice.Eq.{bytes_eq-Decides}
use Rattle.std.proofs.lemmas.List.{length-map}
use Rattle.std.proofs.lemmas.List.Splits.{length-slice_split}
use Rattle.std.proofs.lemmas.List.Sums.{count_by-le-length}
use Rattle.std.specs.List.{list_all, list_any, slice_split}
use Rattle.std.specs.Str.{bytes_eq}
use Rattle.snapshot_model.specs.Snapshots.{PlainSnapshot}
use Rattle.trace_model.specs.Operands.{is_between}
use Rattle.trace_model.specs.Reading.{is_empty}
use Rattle.trace_model.specs.Spelling.{blank}
use Rattle.dump_model.specs.Operands.{◌>>=◌}
use Rattle.dump_model.specs.Reading.{Item, Place, Stop, begins, end_causes, fault_of, first_cause, has_words, is_no_header}
use Rattle.dump_model.specs.Reading.{item_at, item_causes, line_at, lines_at, place_after, then_lines, unless, when, words_of}
use Rattle.dump_model.specs.Reading.{at_line as at_stop, between, in_head}
use Rattle.dump_model.specs.Spelling.{header}
use Rattle.dump_model.specs.declared.cause.LoadCause.{LoadCause}
use Rattle.dump_model.specs.declared.cause.LoadCause.TheVariants.{Trailing, BadHeader, BadByte, UnknownWord, BadWords}
use Rattle.dump_model.proofs.CallerLemmas.{with_line, with_rest}
use Rattle.snap_file.specs.declared.error.LineError.{LineError}
use Rattle.snap_file.specs.declared.error.LineError.TheVariants as faults
use Rattle.snap_file.specs.Answers.{Fails, at_line, Stops}
use Rattle.snap_file.specs.Steps.{item_step, refuse, words_in, words_step}

-- ---- line after line

module _ (p : ℕ → Bool) (k : ℕ) (at : Place) (rest text after : List ℕ) (total : Result (List PlainSnapshot) Stop)
    (parts : slice_split p rest ≡ text ∷ slice_split p after) (read_so_far : lines_at k at (slice_split p rest) ≡ total) where
  abbrev followed : Result Place LoadCause → Result (List PlainSnapshot) Stop
  followed r = then_lines (at_stop k r) (λ q. lines_at (k + 1) q (slice_split p after))

  one_more : followed (line_at at text) ≡ total
  one_more = sym (with_line p rest k at text after parts) ∙ read_so_far

  pub goes_on : (next : Place) → line_at at text ≡ Ok next → lines_at (k + 1) next (slice_split p after) ≡ total
  goes_on next read = sym (ap followed read) ∙ one_more

  pub stops : (e : LineError) → Fails e (line_at at text) → Stops (at_line k e) total
  stops faults.OutOfMemory read = tt
  stops (faults.Wrong c) read = sym one_more ∙ ap followed read

-- what stands behind the last line's end
module _ (p : ℕ → Bool) (k : ℕ) (at : Place) (rest : List ℕ) (total : Result (List PlainSnapshot) Stop)
    (whole : slice_split p rest ≡ rest ∷ []) (read_so_far : lines_at k at (slice_split p rest) ≡ total) where
  abbrev ended : Option LoadCause → Result (List PlainSnapshot) Stop
  ended cause = at_stop k (unless cause (Ok at.done))

  pub ends : (cause : Option LoadCause) → cause ≡ first_cause (end_causes at rest) → total ≡ ended cause
  ends cause is = sym read_so_far ∙ with_rest p rest k at whole ∙ ap ended (sym is)

-- ---- a line

-- the causes one after the other
in_turn : (p : Place) (b1 b2 b3 b4 b5 : Bool) (words : List (List ℕ)) (item : Result Item LoadCause)
    → unless (first_cause (when Trailing b1 ∷ when BadHeader b2 ∷ when BadByte (not b3) ∷ when UnknownWord b4 ∷ when BadWords b5
    ∷ fault_of item ∷ item_causes p.at item)) (item >>= λ i. Ok (place_after p i))
    ≡ refuse Trailing b1 (refuse BadHeader b2 (refuse BadByte (not b3) (Ok words) >>= λ _. refuse UnknownWord b4 (refuse BadWords b5 (item_step p item))))
in_turn p true b2 b3 b4 b5 words item = refl
in_turn p false true b3 b4 b5 words item = refl
in_turn p false false false b4 b5 words item = refl
in_turn p false false true true b5 words item = refl
in_turn p false false true false true words item = refl
in_turn p false false true false false words (Err c) = refl
in_turn p false false true false false words (Ok i) = refl

pub line_is : (p : Place) (line : List ℕ) → line_at p line
    ≡ refuse Trailing (p.left == 0) (refuse BadHeader (is_no_header p.at line) (words_in line >>= words_step p))
unfolding line_at
line_is p line =
    let words = words_of line in
    in_turn p (p.left == 0) (is_no_header p.at line) (list_all (is_between 32 126) line) (not (begins p.at words))
    (list_any is_empty words || not (has_words p.at words)) words (item_at p.at words)
    ∙ ap (λ r. refuse Trailing (p.left == 0) (refuse BadHeader (is_no_header p.at line) r)) (by (list_all (is_between 32 126) line))
  where
    by : (b : Bool) → (refuse BadByte (not b) (Ok (words_of line)) >>= λ _. words_step p (words_of line))
        ≡ (refuse BadByte (not b) (Ok (words_of line)) >>= words_step p)
    by true = refl
    by false = refl

module _ (p : Place) (line : List ℕ) where
  abbrev printed : Result Place LoadCause
  printed = words_in line >>= words_step p

  pub is_trailing : (p.left == 0) ≡ true → line_at p line ≡ Err Trailing
  is_trailing none = line_is p line ∙ ap (λ (b : Bool). refuse Trailing b (refuse BadHeader (is_no_header p.at line) printed)) none

  module _ (due : (p.left == 0) ≡ false) where
    behind_due : line_at p line ≡ refuse BadHeader (is_no_header p.at line) printed
    behind_due = line_is p line ∙ ap (λ (b : Bool). refuse Trailing b (refuse BadHeader (is_no_header p.at line) printed)) due

    pub no_header : is_no_header p.at line ≡ true → line_at p line ≡ Err BadHeader
    no_header none = behind_due ∙ ap (λ (b : Bool). refuse BadHeader b printed) none

    pub by_words : is_no_header p.at line ≡ false → line_at p line ≡ (words_in line >>= words_step p)
    by_words fine = behind_due ∙ ap (λ (b : Bool). refuse BadHeader b printed) fine

    pub words_fail : is_no_header p.at line ≡ false → (e : LineError) → Fails e (words_in line) → Fails e (line_at p line)
    words_fail fine faults.OutOfMemory read = tt
    words_fail fine (faults.Wrong c) read = by_words fine ∙ ap (λ (r : Result (List (List ℕ)) LoadCause). r >>= words_step p) read

    pub words_read : is_no_header p.at line ≡ false → (ws : List (List ℕ)) → words_in line ≡ Ok ws → words_step p ws ≡ line_at p line
    words_read fine ws read = sym (by_words fine ∙ ap (λ (r : Result (List (List ℕ)) LoadCause). r >>= words_step p) read)

-- the header, where it is due
pub header_read : (done : List PlainSnapshot) (left : ℕ) → (left == 0) ≡ false
    → line_at (record { done = done; left = left; at = between }) header ≡ Ok (record { done = done; left = left; at = in_head })
header_read done left due = by_words (record { done = done; left = left; at = between }) header due refl

pub not_zero : (n : ℕ) → n ≢ 0 → (n == 0) ≡ false
not_zero n some = by (n == 0) (eqb-true n 0)
  where
    by : (b : Bool) → (b ≡ true → n ≡ 0) → b ≡ false
    by true zero = absurd (some (zero refl))
    by false zero = refl

-- what was read is one thing
abbrev were_read : List (List ℕ) → Result (List (List ℕ)) LoadCause
were_read x = Ok x

ok_is : (x y : List (List ℕ)) → were_read x ≡ were_read y → x ≡ y
ok_is x y e = cc

-- a line has one word more than it has blanks
pub few_words : {W : Type 0} (f : W → List ℕ) (line : List ℕ) (ws : List W) → words_in line ≡ Ok (map f ws) → length ws ≤ length line + 1
few_words f line ws read =
    let parts : slice_split (λ b. b == blank) line ≡ map f ws = by (list_all (is_between 32 126) line) read in
    omega (arith, ap length parts, length-map ws f, length-slice_split (λ b. b == blank) line, count_by-le-length (λ b. b == blank) line)
  where
    by : (b : Bool) → refuse BadByte (not b) (Ok (slice_split (λ b. b == blank) line)) ≡ Ok (map f ws) → slice_split (λ b. b == blank) line ≡ map f ws
    by true e = ok_is (slice_split (λ b. b == blank) line) (map f ws) e
    by false e = absurd cc

-- words that a test found the same, or another
pub same_by : (w x word : List ℕ) (r : Bool) → r ≡ not (bytes_eq w x) → r ≡ false → x ≡ word → w ≡ word
same_by w x word r is other there = (bytes_eq-Decides w x).0 (by (bytes_eq w x) (sym is ∙ other)) ∙ there
  where
    by : (b : Bool) → not b ≡ false → b ≡ true
    by true e = refl
    by false e = sym e
