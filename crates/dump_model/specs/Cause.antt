-- The names of the causes for which dumps are refused.
use Rattle.std.specs.Prelude.{ℕ, List, codes}
use Rattle.dump_model.specs.declared.cause.LoadCause.{LoadCause}
use Rattle.dump_model.specs.declared.cause.LoadCause.TheVariants.{Short, BadEnd, Trailing, BadHeader, BadByte}
use Rattle.dump_model.specs.declared.cause.LoadCause.TheVariants.{UnknownWord, BadWords, BadNumber, BadRange}
use Rattle.dump_model.specs.declared.cause.LoadCause.TheVariants.{BadName, BadFrame, BadFrames, OutOfOrder, TooMany}

-- a cause's name, as refusals print it
abbrev pub cause_word : LoadCause → List ℕ
cause_word Short = codes "Short"
cause_word BadEnd = codes "BadEnd"
cause_word Trailing = codes "Trailing"
cause_word BadHeader = codes "BadHeader"
cause_word BadByte = codes "BadByte"
cause_word UnknownWord = codes "UnknownWord"
cause_word BadWords = codes "BadWords"
cause_word BadNumber = codes "BadNumber"
cause_word BadRange = codes "BadRange"
cause_word BadName = codes "BadName"
cause_word BadFrame = codes "BadFrame"
cause_word BadFrames = codes "BadFrames"
cause_word OutOfOrder = codes "OutOfOrder"
cause_word TooMany = codes "TooMany"
