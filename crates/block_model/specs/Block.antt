-- Blocks with their pads, and the damage that a check of one finds.
use Rattle.std.specs.Prelude.{ℕ, ◌+◌, ◌-◌, ℤ, pos, negsuc, Bool, not, ◌==◌, nat_le, if◌then◌else◌, List, ◌∷◌, ◌++◌, length, take, drop, replicate, slice_index, position, Option, Some, None}
use Rattle.std.specs.Int.{to_be_bytes, w64}
use Rattle.mem_base.specs.Letter.{letter_byte}
use Rattle.mem_base.specs.declared.trace.Letter.{Letter}
use Rattle.mem_base.specs.declared.reply.Fault.{Fault}
use Rattle.mem_base.specs.declared.reply.Fault.TheVariants.{BadId, BadLead, BadTail}
use Rattle.mem_base.specs.declared.reply.BlockReport.{BlockReport}

-- FD: what pads hold (PYMEM_FORBIDDENBYTE)
abbrev pub pad : ℕ
pad = 253

-- CD: what new data holds (PYMEM_CLEANBYTE)
abbrev pub new_byte : ℕ
new_byte = 205

-- DD: what a block holds once it is freed (PYMEM_DEADBYTE)
abbrev pub dead_byte : ℕ
dead_byte = 221

-- a block but for its size word: a head of eight bytes, its data, and a tail of eight bytes
abbrev pub Body : Type 0
Body = List ℕ

-- how many bytes of data a body has
abbrev pub size_of : Body → ℕ
size_of body = length body - 16

abbrev pub head_of : Body → List ℕ
head_of body = take 8 body

abbrev pub data_of : Body → List ℕ
data_of body = take (size_of body) (drop 8 body)

abbrev pub tail_of : Body → List ℕ
tail_of body = drop (size_of body + 8) body

-- the body of a block of letter v that nobody damaged
unfoldable pub body_of : Letter → List ℕ → Body
body_of v bytes = letter_byte v ∷ replicate 7 pad ++ bytes ++ replicate 8 pad

-- a new block: n bytes of data, each of them b
abbrev pub fresh : Letter → ℕ → ℕ → Body
fresh v n b = body_of v (replicate n b)

-- the body of letter v with n bytes of data: those that it has, as many as stay, and behind them bytes b
abbrev pub resized : Letter → ℕ → ℕ → Body → Body
resized v n b body = body_of v (take n (data_of body) ++ replicate (n - size_of body) b)

-- a body behind its size word, greatest byte first
abbrev pub image_of : Body → List ℕ
image_of body = to_be_bytes w64 (size_of body) ++ body

-- ---- what a check finds, as _PyMem_DebugCheckAddress does

-- the index of the first byte that is no pad
abbrev pub damage_in : List ℕ → Option ℕ
damage_in bytes = position (λ b. not (b == pad)) bytes

abbrev pub bad_tail : Option ℕ → Option Fault
bad_tail None = None
bad_tail (Some k) = Some (BadTail k)

-- damage behind the letter, or else behind the data
abbrev pub bad_pad : Option ℕ → List ℕ → Option Fault
bad_pad (Some k) tail = Some (BadLead (k + 1))
bad_pad None tail = bad_tail (damage_in tail)

-- the first damage that a check for letter v meets: the letter, the pads before the data, those behind it
abbrev pub finding : Letter → List ℕ → List ℕ → Option Fault
finding v head tail =
    if slice_index head 0 == letter_byte v then bad_pad (damage_in (drop 1 head)) tail
    else Some (BadId (slice_index head 0) (letter_byte v))

-- what a check of this body for letter v finds
abbrev pub finding_in : Letter → Body → Option Fault
finding_in v body = finding v (head_of body) (tail_of body)

-- what a fault report shows of a block
abbrev pub report_of : Body → BlockReport
report_of body = record { size = size_of body; head = head_of body; tail = tail_of body }

-- ---- what pokes and peeks reach

-- the index in the body of the byte at an offset from the data's start
abbrev pub index_of : ℤ → ℕ
index_of (pos n) = n + 8
index_of (negsuc n) = 7 - n

-- whether so many bytes from an offset on lie in the body
abbrev pub reaches : Body → ℤ → ℕ → Bool
reaches body offset count = nat_le (index_of offset + count) (length body)

-- so many bytes of the body from an offset on
abbrev pub peeked : Body → ℤ → ℕ → List ℕ
peeked body offset count = take count (drop (index_of offset) body)

-- the body with these bytes from an offset on
abbrev pub poked : Body → ℤ → List ℕ → Body
poked body offset bytes = take (index_of offset) body ++ bytes ++ drop (index_of offset + length bytes) body

-- the body with the data of another one over its own, as far as both go
abbrev pub carried : Body → Body → Body
carried other body = poked body (pos 0) (take (size_of body) (data_of other))
