-- The operands of a dump's lines: how a word is read as one.
use Rattle.std.specs.Prelude.{ℕ, ◌==◌, if◌then◌else◌, List, [], ◌∷◌, Option, Some, None, Result, Ok, Err}
use Rattle.std.specs.Option.{option_and_then, option_map}
use Rattle.mem_base.specs.declared.limits.TheConstants.{MAX_FRAME_LIMIT, MAX_LINE}
use Rattle.frame_model.specs.Frames.{PlainFrame}
use Rattle.tracing_model.specs.Traces.{of_block, of_mark, Key as TraceKey}
use Rattle.snapshot_model.specs.Snapshots.{PlainRow}
use Rattle.trace_model.specs.Operands.{is_between, is_file, is_name, max_domain, number_at as digits_at}
use Rattle.trace_model.specs.Operands.{number_in as digits_in}
use Rattle.trace_model.specs.Rules.{Cut, after_byte, if_read}
use Rattle.dump_model.specs.declared.cause.LoadCause.{LoadCause}
use Rattle.dump_model.specs.declared.cause.LoadCause.TheVariants.{BadWords, BadNumber, BadRange, BadName, BadFrame}

-- a step, and what follows where it did not fail
infixl 10 ◌>>=◌
abbrev pub ◌>>=◌ : {A B : Type 0} → Result A LoadCause → (A → Result B LoadCause) → Result B LoadCause
(Ok x) >>= f = f x
(Err c) >>= f = Err c

-- what was read, or the cause why nothing was
abbrev pub or_cause : {X : Type 0} → LoadCause → Option X → Result X LoadCause
or_cause c None = Err c
or_cause c (Some x) = Ok x

-- digits with no zero in front, of a number that fits 64 bits
abbrev pub number_at : List ℕ → Result ℕ LoadCause
number_at w = or_cause BadNumber (if_read (digits_at w))

-- a number from least to most
unfoldable pub number_in : ℕ → ℕ → List ℕ → Result ℕ LoadCause
number_in least most w = do
  n ← number_at w
  if is_between least most n then Ok n else Err BadRange

-- how many frames are kept, or were there
abbrev pub frames_at : List ℕ → Result ℕ LoadCause
frames_at w = number_in 1 MAX_FRAME_LIMIT w

-- what a key is behind its domain: the name of a block in domain 0, and a number in any other
abbrev pub key_in : ℕ → List ℕ → Result TraceKey LoadCause
key_in domain w =
    if domain == 0 then (if is_name w then Ok (of_block w) else Err BadName)
    else number_at w >>= λ n. Ok (of_mark domain n)

-- what parts a frame's file from its line
abbrev pub colon : ℕ
colon = 58

-- the first that there is
abbrev pub or_else : {X : Type 0} → Option X → Option X → Option X
or_else None y = y
or_else (Some x) y = Some x

-- the word, cut at its last colon, if it has one
abbrev pub cut_last : List ℕ → Option Cut
cut_last [] = None
cut_last (b ∷ bs) =
    or_else (option_map (after_byte b) (cut_last bs))
    (if b == colon then Some (record { front = []; behind = bs }) else None)

-- the frame of a file and of the line that a word is
abbrev pub frame_on : List ℕ → List ℕ → Option PlainFrame
frame_on file w =
    if is_file file then option_map (λ n. record { file = file; line = n }) (if_read (digits_in 0 MAX_LINE w)) else None

-- a file, a colon and a line; the last colon is the one between them
unfoldable pub frame_at : List ℕ → Result PlainFrame LoadCause
frame_at w = or_cause BadFrame (option_and_then (λ cut. frame_on cut.front cut.behind) (cut_last w))

-- frames, from left to right
abbrev pub frames_in : List (List ℕ) → Result (List PlainFrame) LoadCause
frames_in [] = Ok []
frames_in (w ∷ ws) = frame_at w >>= λ f. frames_in ws >>= λ fs. Ok (f ∷ fs)

-- a trace, from its words behind the first, from left to right
unfoldable pub row_of_words : List ℕ → List ℕ → List ℕ → List ℕ → List (List ℕ) → Result PlainRow LoadCause
row_of_words domain key size total frames = do
  d ← number_in 0 max_domain domain
  k ← key_in d key
  n ← number_at size
  t ← frames_at total
  fs ← frames_in frames
  Ok (record { key = k; size = n; frames = fs; total = t })

abbrev pub row_at : List (List ℕ) → Result PlainRow LoadCause
row_at (domain ∷ key ∷ size ∷ total ∷ frame ∷ frames) = row_of_words domain key size total (frame ∷ frames)
row_at (domain ∷ key ∷ size ∷ total ∷ []) = Err BadWords
row_at (domain ∷ key ∷ size ∷ []) = Err BadWords
row_at (domain ∷ key ∷ []) = Err BadWords
row_at (domain ∷ []) = Err BadWords
row_at [] = Err BadWords
