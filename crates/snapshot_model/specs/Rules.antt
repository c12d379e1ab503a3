-- Rules that keep or drop the traces of a snapshot, as `Filter` and `DomainFilter` of `Lib/tracemalloc.py` do.
use Rattle.std.specs.Prelude.{ℕ, Bool, true, false, not, ◌&&◌, ◌||◌, ◌==◌, List, Option, Some, None, filter}
use Rattle.std.specs.List.{list_any}
use Rattle.mem_base.specs.declared.trace.Rule.{Rule}
use Rattle.mem_base.specs.declared.trace.Rule.TheVariants.{File, Domain}
use Rattle.frame_model.specs.Frames.{PlainFrame, latest}
use Rattle.pattern_model.specs.Patterns.{matches}
use Rattle.snapshot_model.specs.Snapshots.{PlainRow, PlainSnapshot, domain_of}

-- whether it is the number that is asked for, or none is asked for
abbrev pub is_or_none : Option ℕ → ℕ → Bool
is_or_none None n = true
is_or_none (Some asked) n = asked == n

-- whether the frame's file matches the pattern and its line is that of the rule, where it has one
abbrev pub frame_fits : Option ℕ → List ℕ → PlainFrame → Bool
frame_fits line pattern frame = matches pattern frame.file && is_or_none line frame.line

-- the frames that a rule looks at: all that are kept, or the most recent one
abbrev pub frames_seen : {F : Type 0} → Bool → List F → List F
frames_seen true frames = frames
frames_seen false frames = latest 1 frames

-- whether the rule is for traces to keep, and not for traces to drop
abbrev pub is_inclusive : Rule → Bool
is_inclusive (File inclusive all_frames line domain pattern) = inclusive
is_inclusive (Domain inclusive domain) = inclusive

-- whether the rule is about the trace: it is of the rule's domain, and a frame that is looked at fits
abbrev pub is_about : Rule → PlainRow → Bool
is_about (File inclusive all_frames line domain pattern) row =
    list_any (frame_fits line pattern) (frames_seen all_frames row.frames) && is_or_none domain (domain_of row.key)
is_about (Domain inclusive domain) row = domain == domain_of row.key

-- whether an inclusive rule is about the trace, and whether an exclusive one is
abbrev pub is_wanted : List Rule → PlainRow → Bool
is_wanted rules row = list_any (λ rule. is_inclusive rule && is_about rule row) rules

abbrev pub is_rejected : List Rule → PlainRow → Bool
is_rejected rules row = list_any (λ rule. not (is_inclusive rule) && is_about rule row) rules

-- whether the trace stays: it is wanted, or no rule is inclusive, and it is not rejected
abbrev pub stays : List Rule → PlainRow → Bool
stays rules row = (is_wanted rules row || not (list_any is_inclusive rules)) && not (is_rejected rules row)

-- the snapshot with the traces that stay
abbrev pub kept_by : List Rule → PlainSnapshot → PlainSnapshot
kept_by rules s = record s { rows = filter (stays rules) s.rows }
