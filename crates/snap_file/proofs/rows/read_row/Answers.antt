use Rattle.std.proofs.Common.{[], map, drop, sym, ap, ◌∙◌}
use Rattle.frame_model.specs.Frames.{frames_of}
use Rattle.dump_model.specs.Operands.{frames_in}
use Rattle.snap_file.specs.Plain.{plain_text}
use Rattle.snap_file.specs.declared.error.LineError.TheVariants.{Wrong}
use Rattle.snap_file.proofs.RowSteps.{all_read, behind_fails, fails_as, fails_on, front_fails, row_of_all}
use Rattle.snap_file.proofs.rows.read_row.Goals as goal

pub returns-in_err-row-clause-read : goal.returns-in_err-row-clause-read
returns-in_err-row-clause-read c =
    fails_on _ c.from_residual.result (Wrong c.in_err-row.field-0.0) _ c.from_residual.ensures.1
    (row_of_all (λ w. w.now) c.args.words.now _ c.requires.enough
    ∙ front_fails _ _ _ _ (map (λ w. w.now) (drop 4 c.args.words.now)) c.in_err-row.field-0.0 (sym c.in_err-row.ensures.value))

pub returns-in_err-read_frames-clause-read : goal.returns-in_err-read_frames-clause-read
returns-in_err-read_frames-clause-read c =
    let e = c.in_err-read_frames.field-0.0 in
    let behind = map (λ w. w.now) (drop 4 c.args.words.now) in
    fails_on _ c.from_residual-in_err-read_frames.result e _ c.from_residual-in_err-read_frames.ensures.1
    (fails_as e _ _ (sym (row_of_all (λ w. w.now) c.args.words.now _ c.requires.enough))
    (behind_fails _ _ _ _ behind (plain_text [] c.in_ok-row.row) (sym c.in_ok-row.ensures.value) e
    (fails_as e _ _ (ap (λ ws. frames_in (map (λ w. w.now) ws)) c.split_at.ensures.back) c.in_err-read_frames.ensures.read)))

pub returns-clause-read : goal.returns-clause-read
returns-clause-read c =
    let behind = map (λ w. w.now) (drop 4 c.args.words.now) in
    row_of_all (λ w. w.now) c.args.words.now _ c.requires.enough
    ∙ all_read _ _ _ _ behind (plain_text [] c.in_ok-row.row) (sym c.in_ok-row.ensures.value)
    (frames_of c.read_frames.new.texts c.read_frames.new.frames.items)
    (ap (λ ws. frames_in (map (λ w. w.now) ws)) (sym c.split_at.ensures.back) ∙ c.in_ok-read_frames.ensures.read)
