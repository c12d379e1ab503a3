-- Words of a dump, with the blank before each.
use Rattle.std.specs.Prelude.{ℕ, List, ◌∷◌, ◌++◌, decimal}
use Rattle.frame_model.specs.Frames.{PlainFrame}
use Rattle.tracing_model.specs.Traces.{Key as TraceKey}
use Rattle.snapshot_model.specs.Snapshots.{domain_of}
use Rattle.trace_model.specs.Spelling.{blank}
use Rattle.dump_model.specs.Spelling.{frame_word, key_word}

-- the domain of a key, and what it is there
abbrev pub key_words : TraceKey → List ℕ
key_words key = blank ∷ decimal (domain_of key) ++ blank ∷ key_word key

-- a frame
abbrev pub next_frame : PlainFrame → List ℕ
next_frame f = blank ∷ frame_word f
