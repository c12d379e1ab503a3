use Rattle.std.proofs.Common.{ℕ, length, map, Ok, sym, ap, ◌∙◌, arith}
use Rattle.std.specs.Prelude.{◌==◌}
use Rattle.dump_model.specs.Reading.{is_no_header}
use Rattle.snap_file.specs.Plain.{place_of, rows_of, stand_of}
use Rattle.snap_file.specs.declared.progress.Stand.{Stand}
use Rattle.snap_file.proofs.RowSteps.{fails_on, gives_as}
use Rattle.snap_file.proofs.Growth.{on_ok}
use Rattle.snap_file.proofs.LineSteps.{few_words, is_trailing, not_zero, words_fail, words_read}
use Rattle.snap_file.proofs.progress.Progress.line.Goals as goal

pub returns-then-self-eq0-clause-read : goal.returns-then-self-eq0-clause-read
returns-then-self-eq0-clause-read c = is_trailing (place_of c.args.self.now) c.args.line.now (ap (λ (n : ℕ). n == 0) c.if-self-eq0.true)

pub returns-in_err-cut-in-InHead-clause-read : goal.returns-in_err-cut-in-InHead-clause-read
returns-in_err-cut-in-InHead-clause-read c =
    let p = c.args.self.now in
    let line = c.args.line.now in
    fails_on _ c.from_residual.result c.in_err-cut-in-InHead.field-0.0 _ c.from_residual.ensures.1
    (words_fail (place_of p) line (not_zero p.left c.if-self-eq0.false)
    (ap (λ (s : Stand). is_no_header (stand_of (rows_of p) s) line) c.in-InHead.is)
    c.in_err-cut-in-InHead.field-0.0 c.in_err-cut-in-InHead.ensures)

pub returns-in_err-cut-in-InRows-clause-read : goal.returns-in_err-cut-in-InRows-clause-read
returns-in_err-cut-in-InRows-clause-read c =
    let p = c.args.self.now in
    let line = c.args.line.now in
    fails_on _ c.from_residual-in_err-cut-in-InRows.result c.in_err-cut-in-InRows.field-0.0 _ c.from_residual-in_err-cut-in-InRows.ensures.1
    (words_fail (place_of p) line (not_zero p.left c.if-self-eq0.false)
    (ap (λ (s : Stand). is_no_header (stand_of (rows_of p) s) line) c.in-InRows.is)
    c.in_err-cut-in-InRows.field-0.0 c.in_err-cut-in-InRows.ensures)

pub row_or_end-requires-clause-room : goal.row_or_end-requires-clause-room
row_or_end-requires-clause-room c =
    let few = few_words (λ w. w.now) c.args.line.now c.cut-in-InRows.new.words.items c.in_ok-cut-in-InRows.ensures in
    let size = ap length c.as_slice-in-InRows.ensures.value in
    record {
      texts = omega (arith, few, size, c.requires.room.texts);
      table = omega (arith, few, size, c.requires.room.table);
    }

pub returns-in_ok-cut-in-InHead-clause-read : goal.returns-in_ok-cut-in-InHead-clause-read
returns-in_ok-cut-in-InHead-clause-read c =
    let p = c.args.self.now in
    let line = c.args.line.now in
    gives_as _ c.limit.result _ _ (words_read (place_of p) line (not_zero p.left c.if-self-eq0.false)
    (ap (λ (s : Stand). is_no_header (stand_of (rows_of p) s) line) c.in-InHead.is)
    (map (λ w. w.now) c.as_slice.result.now)
    (c.in_ok-cut-in-InHead.ensures ∙ ap (λ ws. Ok (map (λ w. w.now) ws)) (sym c.as_slice.ensures.value))) c.limit.ensures.read

pub returns-in_ok-cut-in-InRows-clause-grew : goal.returns-in_ok-cut-in-InRows-clause-grew
returns-in_ok-cut-in-InRows-clause-grew c =
    let few = few_words (λ w. w.now) c.args.line.now c.cut-in-InRows.new.words.items c.in_ok-cut-in-InRows.ensures in
    let size = ap length c.as_slice-in-InRows.ensures.value in
    on_ok c.row_or_end.result c.row_or_end.ensures.grew (λ grew. record {
      texts = omega (arith, few, size, grew.texts);
      table = omega (arith, few, size, grew.table);
    })

pub returns-in_ok-cut-in-InRows-clause-read : goal.returns-in_ok-cut-in-InRows-clause-read
returns-in_ok-cut-in-InRows-clause-read c =
    let p = c.args.self.now in
    let line = c.args.line.now in
    gives_as _ c.row_or_end.result _ _ (words_read (place_of p) line (not_zero p.left c.if-self-eq0.false)
    (ap (λ (s : Stand). is_no_header (stand_of (rows_of p) s) line) c.in-InRows.is)
    (map (λ w. w.now) c.as_slice-in-InRows.result.now)
    (c.in_ok-cut-in-InRows.ensures ∙ ap (λ ws. Ok (map (λ w. w.now) ws)) (sym c.as_slice-in-InRows.ensures.value))) c.row_or_end.ensures.read
