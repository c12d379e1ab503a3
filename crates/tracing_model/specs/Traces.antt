-- What is traced: sizes, frames and totals by keys.
use Rattle.std.specs.Prelude.{◌≡◌, ℕ, Bool, false, ◌&&◌, ◌==◌, if◌then◌else◌, List, [], ◌∷◌, Option, Some, None, sum_by}
use Rattle.std.specs.Str.{bytes_eq}
use Rattle.mem_base.specs.Name.{Name}
use Rattle.frame_model.specs.Frames.{PlainFrame}

-- what a trace stands under: a block's name, or a number in a domain from 1 on
pub data Key : Type 0 where
  of_block : Name → Key
  of_mark : (domain number : ℕ) → Key

abbrev pub same_key : Key → Key → Bool
same_key (of_block a) (of_block b) = bytes_eq a b
same_key (of_block a) (of_mark e n) = false
same_key (of_mark d m) (of_block b) = false
same_key (of_mark d m) (of_mark e n) = (d == e) && (m == n)

-- how many bytes, the frames that are kept, and how many frames there were
pub record TraceOf : Type 0 where
  pub size : ℕ
  pub frames : List PlainFrame
  pub total : ℕ

abbrev pub Traces : Type 0
Traces = List (Key × TraceOf)

-- the trace under a key
abbrev pub trace_at : Traces → Key → Option TraceOf
trace_at [] key = None
trace_at (e ∷ ts) key = if same_key e.0 key then Some e.1 else trace_at ts key

-- the traces without that key's
abbrev pub traces_without : Traces → Key → Traces
traces_without [] key = []
traces_without (e ∷ ts) key = if same_key e.0 key then traces_without ts key else e ∷ traces_without ts key

-- the traces, where the key has this one
abbrev pub traces_with : Traces → Key → TraceOf → Traces
traces_with ts key t = (key, t) ∷ traces_without ts key

-- no key has two traces
abbrev pub AreDistinct : Traces → Type 0
AreDistinct [] = Unit {0}
AreDistinct (e ∷ ts) = (trace_at ts e.0 ≡ None) × AreDistinct ts

-- the bytes of all traces
abbrev pub traced_bytes : Traces → ℕ
traced_bytes ts = sum_by (λ e. e.1.size) ts

-- the bytes of a trace, or none
abbrev pub size_in : Option TraceOf → ℕ
size_in None = 0
size_in (Some t) = t.size
