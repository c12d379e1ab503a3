-- Faults of reading and writing, by their count.
use Rattle.std.specs.Prelude.{◌≡◌, ℕ, ◌+◌, ◌-◌, ◌^◌, min, Result, Ok, Err, MatchResult}
use Rattle.streams.specs.declared.all.ReadError.{ReadError}
use Rattle.streams.specs.declared.all.ReadError.TheVariants.{Failed, TooLong, OutOfMemory}

-- a count that goes on by one, and stands still at the end of its range
abbrev pub raised : ℕ → ℕ
raised count = min (count + 1) (2 ^ 64 - 1)

-- one fault was met
abbrev pub MetFault : ℕ → ℕ → Type 0
MetFault before now = now ≡ raised before

-- a call that failed met one fault, and any other call none
abbrev pub CountsFaults : {T E : Type 0} → ℕ → ℕ → Result T E → Type 0
CountsFaults before now result = MatchResult result (λ _. now ≡ before) (λ _. MetFault before now)

-- the count after reading all: a read that failed is the one fault, and nothing else is any
abbrev pub faults_after : {T : Type 0} → Result T ReadError → ℕ → ℕ
faults_after (Ok bytes) before = before
faults_after (Err Failed) before = raised before
faults_after (Err TooLong) before = before
faults_after (Err OutOfMemory) before = before
