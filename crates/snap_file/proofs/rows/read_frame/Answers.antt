use Rattle.std.proofs.Common.{List, Ok, sym, ap, ◌∙◌}
use Rattle.frame_model.specs.Frames.{PlainFrame, frames_of}
use Rattle.snap_file.specs.Steps.{frame_behind}
use Rattle.snap_file.proofs.PushSteps.{frame_pushed, frame_among}
use Rattle.snap_file.proofs.rows.read_frame.Goals as goal

pub returns-clause-read : goal.returns-clause-read
returns-clause-read c =
    let texts = c.args.texts.now in
    let fs = c.args.frames.now.items in
    ap (frame_behind (frames_of texts fs)) (sym c.in_ok-found.ensures)
    ∙ ap (λ (l : List PlainFrame). Ok l)
    (sym (frame_pushed texts c.intern.new.texts c.in_ok-file.ensures.grows fs c.requires.among c.in_ok-found.found c.in_ok-file.file
    c.in_ok-file.ensures.text c.push.new.self.items c.in_ok-push.ensures.items))

pub returns-clause-among : goal.returns-clause-among
returns-clause-among c =
    frame_among c.args.texts.now c.intern.new.texts c.in_ok-file.ensures.grows c.args.frames.now.items c.requires.among
    c.in_ok-found.found c.in_ok-file.file c.in_ok-file.ensures.text c.push.new.self.items c.in_ok-push.ensures.items
