-- The names of the causes for which a trace is refused.
use Rattle.std.specs.Prelude.{ℕ, List, codes}
use Rattle.trace_model.specs.declared.cause.TraceCause.{TraceCause}
use Rattle.trace_model.specs.declared.cause.TraceCause.TheVariants.{BadEnd, BadHeader, BadByte, UnknownWord}
use Rattle.trace_model.specs.declared.cause.TraceCause.TheVariants.{Misplaced, BadWords, BadNumber, BadHex}
use Rattle.trace_model.specs.declared.cause.TraceCause.TheVariants.{BadName, BadRange, BadRule, ForgedLetter}
use Rattle.trace_model.specs.declared.cause.TraceCause.TheVariants.{NoFrame, SameTrack, NoTrack, TooMany}

-- a cause's name, as refusals print it
abbrev pub cause_word : TraceCause → List ℕ
cause_word BadEnd = codes "BadEnd"
cause_word BadHeader = codes "BadHeader"
cause_word BadByte = codes "BadByte"
cause_word UnknownWord = codes "UnknownWord"
cause_word Misplaced = codes "Misplaced"
cause_word BadWords = codes "BadWords"
cause_word BadNumber = codes "BadNumber"
cause_word BadHex = codes "BadHex"
cause_word BadName = codes "BadName"
cause_word BadRange = codes "BadRange"
cause_word BadRule = codes "BadRule"
cause_word ForgedLetter = codes "ForgedLetter"
cause_word NoFrame = codes "NoFrame"
cause_word SameTrack = codes "SameTrack"
cause_word NoTrack = codes "NoTrack"
cause_word TooMany = codes "TooMany"
