-- The lines of a dump are read as what they spell.
use Rattle.std.proofs.Common.{◌≡◌, ℕ, ◌<◌, ◌≤◌, true, false, not, ◌||◌, List, [], ◌∷◌}
use Rattle.std.proofs.Common.{length, Result, Ok, refl, sym, ap, ◌∙◌, arith, lit<, true≢false, min}
use Rattle.std.specs.Prelude.{◌==◌, nat_le, nat_lt, decimal, codes}
use Rattle.std.specs.List.{AllByRecursion, list_all, list_any}
use Rattle.std.proofs.lemmas.Bool.{eq-eqb, lt-ltb, le-leb}
use Rattle.std.proofs.lemmas.List.{length-map}
use Rattle.mem_base.specs.declared.limits.TheConstants.{MAX_DUMP_ROWS, MAX_FRAME_LIMIT}
use Rattle.snapshot_model.specs.Snapshots.{PlainRow, PlainSnapshot}
use Rattle.trace_model.specs.Operands.{is_between}
use Rattle.trace_model.specs.Reading.{is_empty}
use Rattle.trace_model.proofs.CallerLemmas.{is_word, number_word, suc_not_zero, words_again, words_plain}
use Rattle.dump_model.specs.Operands.{◌>>=◌}
use Rattle.dump_model.specs.Spelling.{header, last_line, limit_line, row_line, frame_word, FitsRow}
use Rattle.dump_model.specs.Reading.{between, in_head, in_rows, a_header, a_limit, a_trace, an_end, words_of}
use Rattle.dump_model.specs.Reading.{item_at, when, first_cause, begins, has_words, is_after}
use Rattle.dump_model.specs.declared.cause.LoadCause.{LoadCause}
use Rattle.dump_model.specs.declared.cause.LoadCause.TheVariants.{BadFrames, OutOfOrder, TooMany}
use Rattle.dump_model.proofs.OperandLaws.{ranged_again, row_again, row_words, row_words_fit, IsTold, not_zero}
use Rattle.dump_model.proofs.LineLaws.{Reads, place, limit_parts, row_parts}

not_empty : (w : List ℕ) → is_word w ≡ true → is_empty w ≡ false
not_empty [] h = absurd (true≢false (sym h))
not_empty (b ∷ bs) h = suc_not_zero (length bs)

none_empty : (ws : List (List ℕ)) → AllByRecursion (λ w. is_word w ≡ true) ws → list_any is_empty ws ≡ false
none_empty [] are = refl
none_empty (w ∷ ws) are = (λ i. not_empty w are.0 i || none_empty ws are.1 i)

module _ (done : List PlainSnapshot) (left : ℕ) (some : 1 ≤ left) where
  pub header_reads : Reads (place done left between) header a_header
  header_reads = record {
    due = not_zero left some;
    heads = refl;
    plain = refl;
    begun = refl;
    full = refl;
    sized = refl;
    said = refl;
    fits = refl;
  }

  pub limit_reads : (n : ℕ) → 1 ≤ n → n ≤ MAX_FRAME_LIMIT → Reads (place done left in_head) (limit_line n) (a_limit n)
  limit_reads n least most =
      let ws = codes "limit" ∷ decimal n ∷ [] in
      let are : AllByRecursion (λ w. is_word w ≡ true) ws = (refl, (number_word n (omega (arith, most)), tt)) in
      let cut : words_of (limit_line n) ≡ ws =
      ap words_of (sym (limit_parts n)) ∙ words_again (codes "limit") (decimal n ∷ []) are in
      record {
        due = not_zero left some;
        heads = refl;
        plain = ap (list_all (is_between 32 126)) (sym (limit_parts n)) ∙ words_plain ws are;
        begun = ap (begins in_head) cut;
        full = ap (list_any is_empty) cut ∙ none_empty ws are;
        sized = ap (has_words in_head) cut;
        said = ap (item_at in_head) cut
            ∙ ap (λ (r : Result ℕ LoadCause). r >>= λ n. Ok (a_limit n))
            (ranged_again 1 MAX_FRAME_LIMIT n (lit< tt) least most);
        fits = refl;
      }

  module _ (limit : ℕ) (rows : List PlainRow) where
    pub trace_reads :
        (row : PlainRow) → FitsRow limit row → 1 ≤ length row.frames → is_after rows row.key ≡ true
        → length rows < MAX_DUMP_ROWS → Reads (place done left (in_rows limit rows)) (row_line row) (a_trace row)
    trace_reads row fits frames after few =
        let told : IsTold row = record {
          key = fits.key;
          size = fits.size;
          some = fits.some;
          few = fits.few;
          frames = fits.frames;
        } in
        let ws = codes "trace" ∷ row_words row in
        let are : AllByRecursion (λ w. is_word w ≡ true) ws = (refl, row_words_fit row told) in
        let cut : words_of (row_line row) ≡ ws =
        ap words_of (sym (row_parts row)) ∙ words_again (codes "trace") (row_words row) are in
        let many : nat_le 5 (length (row_words row)) ≡ true =
        le-leb _ _ (omega (arith, length-map row.frames frame_word, frames)) in
        let kept : (length row.frames == min limit row.total) ≡ true = eq-eqb _ _ fits.kept in
        let room : nat_lt (length rows) MAX_DUMP_ROWS ≡ true = lt-ltb _ _ few in
        record {
          due = not_zero left some;
          heads = refl;
          plain = ap (list_all (is_between 32 126)) (sym (row_parts row)) ∙ words_plain ws are;
          begun = ap (begins (in_rows limit rows)) cut;
          full = ap (list_any is_empty) cut ∙ none_empty ws are;
          sized = ap (has_words (in_rows limit rows)) cut ∙ many;
          said = ap (item_at (in_rows limit rows)) cut
              ∙ ap (λ (r : Result PlainRow LoadCause). r >>= λ x. Ok (a_trace x)) (row_again row told frames);
          fits = (λ i. first_cause (
              when BadFrames (not (kept i)) ∷ when OutOfOrder (not (after i)) ∷ when TooMany (not (room i)) ∷ []
              ));
        }

    pub end_reads : Reads (place done left (in_rows limit rows)) last_line an_end
    end_reads = record {
      due = not_zero left some;
      heads = refl;
      plain = refl;
      begun = refl;
      full = refl;
      sized = refl;
      said = refl;
      fits = refl;
    }
