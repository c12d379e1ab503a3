use Rattle.std.proofs.Common.{List, ℕ, not, sym, ap, ◌∙◌}
use Rattle.std.specs.Str.{bytes_eq}
use Rattle.dump_model.specs.Reading.{is_no_header, line_at}
use Rattle.dump_model.specs.Spelling.{header}
use Rattle.snap_file.specs.Plain.{place_of, plain_loaded, rows_of, stand_of}
use Rattle.snap_file.specs.declared.progress.Stand.{Stand}
use Rattle.snap_file.proofs.LineSteps.{no_header, header_read, not_zero, same_by}
use Rattle.snap_file.proofs.progress.Progress.begin.Goals as goal

pub returns-then-ne-clause-read : goal.returns-then-ne-clause-read
returns-then-ne-clause-read c =
    let p = c.args.self.now in
    let line = c.args.line.now in
    no_header (place_of p) line (not_zero p.left c.requires.due)
    (ap (λ (s : Stand). is_no_header (stand_of (rows_of p) s) line) c.requires.at
    ∙ ap (λ (h : List ℕ). not (bytes_eq line h)) (sym c.as_slice.ensures) ∙ sym c.ne.ensures ∙ c.if-ne.true)

pub returns-clause-read : goal.returns-clause-read
returns-clause-read c =
    let p = c.args.self.now in
    let line = c.args.line.now in
    let same = same_by line c.as_slice.result.now header c.ne.result c.ne.ensures c.if-ne.false c.as_slice.ensures in
    (λ i. line_at (record { done = plain_loaded p.loaded; left = p.left; at = stand_of (rows_of p) (c.requires.at i) }) (same i))
    ∙ header_read (plain_loaded p.loaded) p.left (not_zero p.left c.requires.due)
