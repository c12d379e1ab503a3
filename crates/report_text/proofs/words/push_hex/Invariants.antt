use Rattle.std.proofs.Common.{◌≡◌, ◌++◌, drop}
use Rattle.trace_model.specs.Operands.{hex_word}
use Rattle.line_text.specs.Texts.{StaysInFront}
use Rattle.report_text.proofs.words.push_hex.Given as goal

-- the digits so far, and those of the bytes left, are those of all, and the text before stands in front
abbrev pub invariant-loop-byte : goal.invariant-loop-byte
invariant-loop-byte l = record {
  digits : l.text.items ++ hex_word (drop l.byte-index l.bytes) ≡ l.fn.text.items ++ hex_word l.bytes;
  front : StaysInFront l.fn.text.items l.text.items;
}
