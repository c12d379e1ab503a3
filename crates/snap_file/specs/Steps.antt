-- A line in steps: each refuses it, or leaves it to the next one.
use Rattle.std.specs.Prelude.{ℕ, Bool, not, ◌||◌, ◌==◌, if◌then◌else◌, List, [], ◌∷◌, ◌++◌, Result, Ok, Err}
use Rattle.std.specs.List.{list_all, list_any, slice_split}
use Rattle.frame_model.specs.Frames.{PlainFrame}
use Rattle.trace_model.specs.Operands.{is_between}
use Rattle.trace_model.specs.Reading.{is_empty}
use Rattle.trace_model.specs.Spelling.{blank}
use Rattle.dump_model.specs.Operands.{◌>>=◌, frames_in}
use Rattle.snapshot_model.specs.Snapshots.{PlainRow}
use Rattle.dump_model.specs.Reading.{Item, Place, a_trace, begins, first_cause, has_words, item_at, item_causes}
use Rattle.dump_model.specs.Reading.{place_after, row_causes, unless}
use Rattle.dump_model.specs.declared.cause.LoadCause.{LoadCause}
use Rattle.dump_model.specs.declared.cause.LoadCause.TheVariants.{BadByte, UnknownWord, BadWords}

-- the cause, where it holds, and else what follows
abbrev pub refuse : {X : Type 0} → LoadCause → Bool → Result X LoadCause → Result X LoadCause
refuse c holds read = if holds then Err c else read

-- the words of a line, where all its bytes print
abbrev pub words_in : List ℕ → Result (List (List ℕ)) LoadCause
words_in line = refuse BadByte (not (list_all (is_between 32 126) line)) (Ok (slice_split (λ b. b == blank) line))

-- what a line says, unless a cause holds
abbrev pub item_step : Place → Result Item LoadCause → Result Place LoadCause
item_step p (Err c) = Err c
item_step p (Ok item) = unless (first_cause (item_causes p.at (Ok item))) (Ok (place_after p item))

-- a trace of a dump with that limit, behind these
abbrev pub row_step : Place → ℕ → List PlainRow → Result PlainRow LoadCause → Result Place LoadCause
row_step p limit rows (Err c) = Err c
row_step p limit rows (Ok row) = unless (first_cause (row_causes limit rows row)) (Ok (place_after p (a_trace row)))

-- the words of a line
abbrev pub words_step : Place → List (List ℕ) → Result Place LoadCause
words_step p words =
    refuse UnknownWord (not (begins p.at words))
    (refuse BadWords (list_any is_empty words || not (has_words p.at words)) (item_step p (item_at p.at words)))

-- one more frame behind those that were read
abbrev pub frame_behind : List PlainFrame → Result PlainFrame LoadCause → Result (List PlainFrame) LoadCause
frame_behind front read = read >>= λ f. Ok (front ++ f ∷ [])

-- more frames behind those that were read
abbrev pub frames_behind : List PlainFrame → List (List ℕ) → Result (List PlainFrame) LoadCause
frames_behind front words = frames_in words >>= λ fs. Ok (front ++ fs)
