-- The rules of an operation that keeps traces: how each is spelt, which are in their ranges, and how a word is read
-- as one.
use Rattle.std.specs.Prelude.{ℕ, ◌≤◌, ◌==◌, Bool, true, false, if◌then◌else◌, List, [], ◌∷◌, Option, Some, None}
use Rattle.std.specs.Prelude.{Result, Ok, Err, codes, decimal, IsTrue}
use Rattle.std.specs.List.{join_with_byte}
use Rattle.std.specs.Option.{option_and_then, option_map}
use Rattle.std.specs.Str.{bytes_eq}
use Rattle.mem_base.specs.declared.limits.TheConstants.{MAX_LINE}
use Rattle.mem_base.specs.declared.trace.Rule.{Rule}
use Rattle.mem_base.specs.declared.trace.Rule.TheVariants.{File, Domain}
use Rattle.trace_model.specs.Operands.{◌>>=◌, is_file, max_domain, number_in}
use Rattle.trace_model.specs.declared.cause.TraceCause.{TraceCause}
use Rattle.trace_model.specs.declared.cause.TraceCause.TheVariants.{BadRule}

-- what parts a rule
abbrev pub comma : ℕ
comma = 44

-- ---- spelling

-- the first part of a rule that looks at files
abbrev pub file_word : Bool → List ℕ
file_word true = codes "in"
file_word false = codes "ex"

-- the first part of a rule that looks at domains
abbrev pub domain_word : Bool → List ℕ
domain_word true = codes "in-domain"
domain_word false = codes "ex-domain"

-- which frames a rule looks at: all that are kept, or the most recent one
abbrev pub scope_word : Bool → List ℕ
scope_word true = codes "all"
scope_word false = codes "top"

-- a number, or a star for any
abbrev pub or_star : Option ℕ → List ℕ
or_star None = codes "*"
or_star (Some n) = decimal n

abbrev pub rule_word : Rule → List ℕ
rule_word (File inclusive all_frames line domain pattern) =
    join_with_byte comma
    (file_word inclusive ∷ scope_word all_frames ∷ or_star line ∷ or_star domain ∷ pattern ∷ [])
rule_word (Domain inclusive domain) = join_with_byte comma (domain_word inclusive ∷ decimal domain ∷ [])

-- ---- ranges

-- a number, where there is one, is at most this
abbrev pub IsUpTo : ℕ → Option ℕ → Type 0
IsUpTo most None = Unit {0}
IsUpTo most (Some n) = n ≤ most

abbrev pub FitsRule : Rule → Type 0
FitsRule (File inclusive all_frames line domain pattern) =
    IsUpTo MAX_LINE line × IsUpTo max_domain domain × IsTrue (is_file pattern)
FitsRule (Domain inclusive domain) = domain ≤ max_domain

-- ---- reading

-- what stands before a comma, and what stands behind it
pub record Cut : Type 0 where
  pub front : List ℕ
  pub behind : List ℕ

-- the same with one byte more in front
abbrev pub after_byte : ℕ → Cut → Cut
after_byte b cut = record cut { front = b ∷ cut.front }

-- the text, cut at its first comma, if it has one
abbrev pub cut_at : List ℕ → Option Cut
cut_at [] = None
cut_at (b ∷ bs) = if b == comma then Some (record { front = []; behind = bs }) else option_map (after_byte b) (cut_at bs)

-- what was read, where nothing was wrong
abbrev pub if_read : {X : Type 0} → Result X TraceCause → Option X
if_read (Ok x) = Some x
if_read (Err c) = None

-- a number of at most this, or a star for any
abbrev pub star_or : ℕ → List ℕ → Option (Option ℕ)
star_or most w = if bytes_eq w (or_star None) then Some None else option_map Some (if_read (number_in 0 most w))

abbrev pub scope_in : List ℕ → Option Bool
scope_in w =
    if bytes_eq w (scope_word true) then Some true
    else (if bytes_eq w (scope_word false) then Some false else None)

-- a rule that looks at files: scope, line, domain, and the pattern, which may have commas
unfoldable pub file_rule_in : Bool → List ℕ → Option Rule
file_rule_in inclusive w =
    option_and_then (λ s. option_and_then (λ all_frames.
    option_and_then (λ l. option_and_then (λ line.
    option_and_then (λ d. option_and_then (λ domain.
    if is_file d.behind then Some (File inclusive all_frames line domain d.behind) else None)
    (star_or max_domain d.front)) (cut_at l.behind))
    (star_or MAX_LINE l.front)) (cut_at s.behind))
    (scope_in s.front)) (cut_at w)

-- a rule that looks at domains
unfoldable pub domain_rule_in : Bool → List ℕ → Option Rule
domain_rule_in inclusive w = option_map (Domain inclusive) (if_read (number_in 0 max_domain w))

-- the rule whose first part stands in front of the cut
unfoldable pub rule_behind : Cut → Option Rule
rule_behind cut =
    if bytes_eq cut.front (file_word true) then file_rule_in true cut.behind
    else (if bytes_eq cut.front (file_word false) then file_rule_in false cut.behind
    else (if bytes_eq cut.front (domain_word true) then domain_rule_in true cut.behind
    else (if bytes_eq cut.front (domain_word false) then domain_rule_in false cut.behind
    else None)))

-- a rule, or the cause why a word is none
abbrev pub or_bad : Option Rule → Result Rule TraceCause
or_bad None = Err BadRule
or_bad (Some rule) = Ok rule

unfoldable pub rule_at : List ℕ → Result Rule TraceCause
rule_at w = or_bad (option_and_then rule_behind (cut_at w))

-- the rules, read from left to right
abbrev pub rules_at : List (List ℕ) → Result (List Rule) TraceCause
rules_at [] = Ok []
rules_at (w ∷ ws) = rule_at w >>= λ r. rules_at ws >>= λ rs. Ok (r ∷ rs)
