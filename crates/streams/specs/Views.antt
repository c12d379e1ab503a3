-- How contracts see the sources and sinks of this crate.
use Rattle.std.specs.Prelude.{ℕ, ◌-◌, ◌==◌, List, Option, None, Some, if◌then◌else◌}

-- a source in memory: the bytes left, at which of the calls to come it fails, and how often it failed
pub record MemSourceView : Type 0 where
  pub left : List ℕ
  pub fails_in : Option ℕ
  pub faults : ℕ

-- a sink in memory: the bytes written, how many it takes in all, and how often it failed
pub record MemSinkView : Type 0 where
  pub written : List ℕ
  pub limit : ℕ
  pub faults : ℕ

-- a reader or a writer, and how often it failed
pub record CountedView (T : Type 0) : Type 0 where
  pub inner : T
  pub faults : ℕ

-- at which of the calls to come a source fails once it was called again
abbrev pub fails_after_call : Option ℕ → Option ℕ
fails_after_call None = None
fails_after_call (Some calls) = if calls == 1 then None else Some (calls - 1)
