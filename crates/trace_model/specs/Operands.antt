-- The operands of a line: how each is spelt, which are in their ranges, and how a word is read as one.
use Rattle.std.specs.Prelude.{ℕ, zero, suc, ◌+◌, ◌-◌, ◌*◌, ◌/◌, ◌%◌, ◌^◌, ℤ, pos, negsuc, Bool, true, false, not, ◌&&◌}
use Rattle.std.specs.Prelude.{◌||◌, nat_le, nat_lt, ◌==◌, if◌then◌else◌, List, [], ◌∷◌, length, Option, Some}
use Rattle.std.specs.Prelude.{None, Result, Ok, Err, codes}
use Rattle.std.specs.List.{list_all}
use Rattle.std.specs.Str.{bytes_eq}
use Rattle.mem_base.specs.declared.limits.TheConstants.{MAX_FILE, MAX_FRAME_LIMIT, MAX_LINE, MAX_LINES, MAX_NAME}
use Rattle.mem_base.specs.declared.limits.TheConstants.{MAX_PICKS, MAX_REACH, MAX_REFUSAL}
use Rattle.mem_base.specs.declared.trace.KeyKind.{KeyKind}
use Rattle.mem_base.specs.declared.trace.KeyKind.TheVariants.{Filename, Lineno, Traceback}
use Rattle.mem_base.specs.declared.trace.Letter.{Letter}
use Rattle.mem_base.specs.declared.trace.Letter.TheVariants.{Raw, Mem, Obj}
use Rattle.mem_base.specs.declared.trace.Side.{Side}
use Rattle.mem_base.specs.declared.trace.Side.TheVariants as sides
use Rattle.mem_base.specs.Letter.{letter_byte}
use Rattle.trace_model.specs.declared.cause.TraceCause.{TraceCause}
use Rattle.trace_model.specs.declared.cause.TraceCause.TheVariants.{UnknownWord, BadNumber, BadHex, BadName, BadRange}

-- ---- spelling

-- the letter of a domain
abbrev pub letter_word : Letter → List ℕ
letter_word letter = letter_byte letter ∷ []

-- the word of a memory source
abbrev pub side_word : Side → List ℕ
side_word sides.Arena = codes "arena"
side_word sides.Raw = codes "raw"

-- by what statistics are grouped
abbrev pub key_word : KeyKind → List ℕ
key_word Filename = codes "filename"
key_word Lineno = codes "lineno"
key_word Traceback = codes "traceback"

-- whether each kept frame of a trace counts, or the most recent one alone
abbrev pub mode_word : Bool → List ℕ
mode_word true = codes "cumulative"
mode_word false = codes "plain"

-- a hexadecimal digit
abbrev pub glyph : ℕ → ℕ
glyph n = if nat_lt n 10 then 48 + n else 87 + n

-- bytes in hexadecimal, two digits for each
abbrev pub hex_word : List ℕ → List ℕ
hex_word [] = []
hex_word (b ∷ bs) = glyph (b / 16) ∷ glyph (b % 16) ∷ hex_word bs

-- ---- ranges

abbrev pub is_between : ℕ → ℕ → ℕ → Bool
is_between low high n = nat_le low n && nat_le n high

-- a digit, a letter or an underscore
abbrev pub is_name_byte : ℕ → Bool
is_name_byte b = is_between 48 57 b || is_between 65 90 b || is_between 97 122 b || b == 95

abbrev pub is_name : List ℕ → Bool
is_name word = is_between 1 MAX_NAME (length word) && list_all is_name_byte word

-- a printing ASCII character that is no blank
abbrev pub is_file_byte : ℕ → Bool
is_file_byte b = is_between 33 126 b

abbrev pub is_file : List ℕ → Bool
is_file word = is_between 1 MAX_FILE (length word) && list_all is_file_byte word

-- the greatest number of a domain: the greatest of 32 bits
abbrev pub max_domain : ℕ
max_domain = 2 ^ 32 - 1

-- whether each kept frame may count, with that key: a traceback counts as a whole
abbrev pub may_be : KeyKind → Bool → Bool
may_be Filename cumulative = true
may_be Lineno cumulative = true
may_be Traceback cumulative = not cumulative

abbrev pub is_letter_byte : ℕ → Bool
is_letter_byte b = b == letter_byte Raw || b == letter_byte Mem || b == letter_byte Obj

-- a poke at -8 that would write a domain's letter
abbrev pub is_forged : ℤ → List ℕ → Bool
is_forged (negsuc n) (b ∷ bs) = n == 7 && is_letter_byte b
is_forged (negsuc n) [] = false
is_forged (pos n) bytes = false

-- ---- reading

-- a step, and what follows where it did not fail
infixl 10 ◌>>=◌
abbrev pub ◌>>=◌ : {A B : Type 0} → Result A TraceCause → (A → Result B TraceCause) → Result B TraceCause
(Ok x) >>= f = f x
(Err c) >>= f = Err c

-- the number whose first digits are n, if it fits 64 bits
abbrev pub digits_from : ℕ → List ℕ → Result ℕ TraceCause
digits_from n [] = Ok n
digits_from n (c ∷ cs) =
    if is_between 48 57 c && nat_lt (n * 10 + (c - 48)) (2 ^ 64) then digits_from (n * 10 + (c - 48)) cs
    else Err BadNumber

-- digits with no zero in front
abbrev pub number_at : List ℕ → Result ℕ TraceCause
number_at [] = Err BadNumber
number_at (c ∷ []) = digits_from 0 (c ∷ [])
number_at (c ∷ d ∷ ds) = if c == 48 then Err BadNumber else digits_from 0 (c ∷ d ∷ ds)

abbrev pub forward_at : ℕ → Result ℤ TraceCause
forward_at n = if nat_lt n (2 ^ 63) then Ok (pos n) else Err BadRange

-- an offset below 0 reaches the eight bytes before a block's data
abbrev pub backward_at : ℕ → Result ℤ TraceCause
backward_at zero = Err BadNumber
backward_at (suc n) = if nat_lt n 8 then Ok (negsuc n) else Err BadRange

-- a number, or a minus sign and a number that is not 0
unfoldable pub offset_at : List ℕ → Result ℤ TraceCause
offset_at [] = Err BadNumber
offset_at (c ∷ cs) = if c == 45 then number_at cs >>= backward_at else number_at (c ∷ cs) >>= forward_at

-- a number from least to most
unfoldable pub number_in : ℕ → ℕ → List ℕ → Result ℕ TraceCause
number_in least most w = do
  n ← number_at w
  if is_between least most n then Ok n else Err BadRange

-- how many bytes are read
abbrev pub count_at : List ℕ → Result ℕ TraceCause
count_at w = number_in 1 MAX_REACH w

-- the number of the request that is refused, counted from the next one on
abbrev pub refusal_at : List ℕ → Result ℕ TraceCause
refusal_at w = number_in 1 MAX_REFUSAL w

-- how often a track is picked in a row
abbrev pub times_at : List ℕ → Result ℕ TraceCause
times_at w = number_in 1 MAX_PICKS w

-- the line of a file
abbrev pub line_number_at : List ℕ → Result ℕ TraceCause
line_number_at w = number_in 0 MAX_LINE w

-- how many frames a trace of a block keeps
abbrev pub limit_at : List ℕ → Result ℕ TraceCause
limit_at w = number_in 1 MAX_FRAME_LIMIT w

-- the domain of a marked number
abbrev pub domain_at : List ℕ → Result ℕ TraceCause
domain_at w = number_in 1 max_domain w

-- how many lines of statistics are printed at most
abbrev pub most_at : List ℕ → Result ℕ TraceCause
most_at w = number_in 1 MAX_LINES w

abbrev pub name_at : List ℕ → Result (Unit {0}) TraceCause
name_at w = if is_name w then Ok tt else Err BadName

abbrev pub file_at : List ℕ → Result (Unit {0}) TraceCause
file_at w = if is_file w then Ok tt else Err BadName

unfoldable pub letter_at : List ℕ → Result Letter TraceCause
letter_at w =
    if bytes_eq w (letter_word Raw) then Ok Raw
    else if bytes_eq w (letter_word Mem) then Ok Mem
    else if bytes_eq w (letter_word Obj) then Ok Obj
    else Err UnknownWord

-- the source that refuses
unfoldable pub side_at : List ℕ → Result Side TraceCause
side_at w =
    if bytes_eq w (side_word sides.Arena) then Ok sides.Arena
    else if bytes_eq w (side_word sides.Raw) then Ok sides.Raw
    else Err UnknownWord

-- by what statistics are grouped
unfoldable pub key_at : List ℕ → Result KeyKind TraceCause
key_at w =
    if bytes_eq w (key_word Filename) then Ok Filename
    else if bytes_eq w (key_word Lineno) then Ok Lineno
    else if bytes_eq w (key_word Traceback) then Ok Traceback
    else Err UnknownWord

-- whether each kept frame counts, where that may be with the key
abbrev pub mode_with : KeyKind → Bool → Result Bool TraceCause
mode_with key cumulative = if may_be key cumulative then Ok cumulative else Err BadRange

unfoldable pub mode_at : KeyKind → List ℕ → Result Bool TraceCause
mode_at key w =
    if bytes_eq w (mode_word true) then mode_with key true
    else if bytes_eq w (mode_word false) then mode_with key false
    else Err UnknownWord

-- the value of a hexadecimal digit
abbrev pub digit_of : ℕ → Option ℕ
digit_of c = if is_between 48 57 c then Some (c - 48) else (if is_between 97 102 c then Some (c - 87) else None)

-- a byte of two digits, in front of those that are read after it
abbrev pub with_byte : Option ℕ → Option ℕ → Result (List ℕ) TraceCause → Result (List ℕ) TraceCause
with_byte (Some a) (Some b) read = read >>= λ bytes. Ok ((16 * a + b) ∷ bytes)
with_byte (Some a) None read = Err BadHex
with_byte None y read = Err BadHex

abbrev pub hex_from : List ℕ → Result (List ℕ) TraceCause
hex_from [] = Ok []
hex_from (a ∷ []) = Err BadHex
hex_from (a ∷ b ∷ cs) = with_byte (digit_of a) (digit_of b) (hex_from cs)

-- the bytes that are written; there is one at least, since no word is empty
unfoldable pub hex_at : List ℕ → Result (List ℕ) TraceCause
hex_at w = do
  bytes ← hex_from w
  if is_between 1 MAX_REACH (length bytes) then Ok bytes else Err BadRange
