-- Patterns of file names, as the filters of `Lib/tracemalloc.py` have them by `fnmatch`.
use Rattle.std.specs.Prelude.{ℕ, zero, suc, ◌-◌, Bool, true, false, not, ◌&&◌, ◌||◌, ◌==◌, nat_le}
use Rattle.std.specs.Prelude.{if◌then◌else◌, eqb, List, [], ◌∷◌, length, take, codes}
use Rattle.std.specs.Prelude.{Option, Some, None, option_map}
use Rattle.std.specs.List.{ends_with, list_any}
use Rattle.mem_base.specs.Name.{Name}

-- a text as it is compared: a `.pyc` at its end is read as `.py`
abbrev pub as_source : List ℕ → List ℕ
as_source text = if ends_with eqb text (codes ".pyc") then take (length text - 1) text else text

-- ---- sets of bytes and parts

-- bytes that follow each other: the least and the greatest of them
pub record Stretch : Type 0 where
  pub least : ℕ
  pub greatest : ℕ

abbrev pub is_within : Stretch → ℕ → Bool
is_within s b = nat_le s.least b && nat_le b s.greatest

-- the bytes of some stretches, or where it is negated all other bytes
pub record ByteSet : Type 0 where
  pub negated : Bool
  pub stretches : List Stretch

-- whether the byte is in one of the stretches
abbrev pub is_listed : List Stretch → ℕ → Bool
is_listed stretches b = list_any (λ s. is_within s b) stretches

-- whether the byte is in the set
abbrev pub has_byte : ByteSet → ℕ → Bool
has_byte set b = if set.negated then not (is_listed set.stretches b) else is_listed set.stretches b

-- a part of a pattern: any bytes, or one byte of a set
pub data Part : Type 0 where
  any : Part
  of_set : ByteSet → Part

-- the stretch from a byte to another one, without bytes where they are reversed
abbrev pub from_to : ℕ → ℕ → Stretch
from_to a c = record { least = a; greatest = c }

-- the stretch of one byte
abbrev pub one : ℕ → Stretch
one b = from_to b b

-- the byte itself
abbrev pub itself : ℕ → Part
itself b = of_set (record { negated = false; stretches = one b ∷ [] })

-- any one byte
abbrev pub any_byte : Part
any_byte = of_set (record { negated = true; stretches = [] })

-- ---- reading

-- the bytes `*`, `?`, `[`, `]`, `!` and `-`, which mean more than themselves
abbrev pub star : ℕ
star = 42

abbrev pub question : ℕ
question = 63

abbrev pub opening : ℕ
opening = 91

abbrev pub closing : ℕ
closing = 93

abbrev pub negation : ℕ
negation = 33

abbrev pub dash : ℕ
dash = 45

-- what stands in front of a bracket, and what stands behind it
pub record Cut : Type 0 where
  pub front : List ℕ
  pub behind : List ℕ

-- the same with one byte more in front
abbrev pub after_byte : ℕ → Cut → Cut
after_byte b cut = record cut { front = b ∷ cut.front }

-- the text, cut at its first `]`, if it has one
abbrev pub to_bracket : List ℕ → Option Cut
to_bracket [] = None
to_bracket (b ∷ bs) =
    if b == closing then Some (record { front = []; behind = bs })
    else option_map (after_byte b) (to_bracket bs)

-- the text of a set, cut at its end: a `]` that stands first does not end the set
abbrev pub to_set_end : List ℕ → Option Cut
to_set_end [] = None
to_set_end (b ∷ bs) = option_map (after_byte b) (to_bracket bs)

-- the members, from left to right: a byte, a `-` and a further byte are a range, any other byte is itself
abbrev pub stretches : List ℕ → List Stretch
stretches [] = []
stretches (a ∷ []) = one a ∷ []
stretches (a ∷ b ∷ []) = one a ∷ one b ∷ []
stretches (a ∷ b ∷ c ∷ rest) =
    if b == dash then from_to a c ∷ stretches rest
    else one a ∷ stretches (b ∷ c ∷ rest)

-- the set of a text, and what stands behind it
pub record SetRead : Type 0 where
  pub set : ByteSet
  pub behind : List ℕ

-- the set whose members stand in front of the cut
abbrev pub set_of : Bool → Cut → SetRead
set_of negated cut = record {
  set = record { negated = negated; stretches = stretches cut.front };
  behind = cut.behind;
}

-- the set that stands behind a `[`, if it ends: a `!` in front of its members negates it
abbrev pub set_after : List ℕ → Option SetRead
set_after [] = None
set_after (b ∷ bs) =
    if b == negation then option_map (set_of true) (to_set_end bs)
    else option_map (set_of false) (to_set_end (b ∷ bs))

-- a part of a pattern, and the text behind it
pub record PartRead : Type 0 where
  pub part : Part
  pub behind : List ℕ

-- the part that a `[` begins in front of the text: where no set ends, the `[` is itself
abbrev pub bracket_part : Option SetRead → List ℕ → PartRead
bracket_part None text = record { part = itself opening; behind = text }
bracket_part (Some read) text = record { part = of_set read.set; behind = read.behind }

-- the part that a byte begins in front of the text
abbrev pub first_part : ℕ → List ℕ → PartRead
first_part b text =
    if b == star then record { part = any; behind = text }
    else (if b == question then record { part = any_byte; behind = text }
    else (if b == opening then bracket_part (set_after text) text
    else record { part = itself b; behind = text }))

-- the parts of a text of at most n bytes
abbrev pub parts_in : ℕ → List ℕ → List Part
parts_in zero text = []
parts_in (suc n) [] = []
parts_in (suc n) (b ∷ bs) = (first_part b bs).part ∷ parts_in n (first_part b bs).behind

-- the parts of a text
abbrev pub parts_of : List ℕ → List Part
parts_of text = parts_in (length text) text

-- ---- matching

-- some end of the list, all of it and the empty one too, passes the test
abbrev pub at_some_end : (List ℕ → Bool) → List ℕ → Bool
at_some_end test [] = test []
at_some_end test (b ∷ bs) = test (b ∷ bs) || at_some_end test bs

-- the parts match the whole list: any bytes and then the rest of the parts match some end of it, and a set
-- takes the first byte, if it may
abbrev pub match_parts : List Part → List ℕ → Bool
match_parts [] [] = true
match_parts [] (b ∷ bs) = false
match_parts (any ∷ parts) name = at_some_end (match_parts parts) name
match_parts (of_set set ∷ parts) [] = false
match_parts (of_set set ∷ parts) (b ∷ bs) = has_byte set b && match_parts parts bs

-- whether the pattern matches the file name
abbrev pub matches : List ℕ → Name → Bool
matches pattern name = match_parts (parts_of (as_source pattern)) (as_source name)
