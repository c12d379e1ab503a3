-- What a reader's answer says of the bytes, and what a machine knows of the trace.
use Rattle.std.proofs.Common.{◌≡◌, ℕ, zero, suc, ◌<◌, ◌≤◌, List, [], ◌∷◌, length, Some, Result, Ok}
use Rattle.std.proofs.Common.{Err, refl, subst, arith}
use Rattle.std.specs.Prelude.{IfOk}
use Rattle.std.specs.List.{AllByRecursion}
use Rattle.std.proofs.lemmas.Option.{slice_get_within}
use Rattle.std.proofs.lemmas.List.{length-map}
use Rattle.std.proofs.lemmas.List.Sums.{sum_by-cons}
use Rattle.mem_base.specs.declared.limits.TheConstants.{MAX_OPS}
use Rattle.mem_base.specs.declared.trace.Op.{Op}
use Rattle.mem_base.specs.declared.trace.Track.{Track}
use Rattle.mem_base.specs.declared.trace.Trace.{Trace}
use Rattle.mem_base.specs.Name.{Name}
use Rattle.trace_model.specs.Plain.{PlainTrack, PlainTrace, plain, action_of, track_of, tracks_of}
use Rattle.trace_model.specs.Spelling.{action_count, spelling, IsWellFormed}
use Rattle.trace_model.specs.Known.{IsKnownOp, IsKnownTrace, op_at, op_count}
use Rattle.trace_model.specs.Reading.{trace_at}
use Rattle.trace_model.proofs.CallerLemmas.{trace_takes, read_back}
use Rattle.trace_reader.specs.declared.error.TraceError.{TraceError}
use Rattle.trace_reader.specs.Answers.{Reads}
use Rattle.trace_reader.specs.Progress.{IsKnownTrack, IsKnownSoFar}
use Rattle.trace_reader.specs.declared.progress.Progress.{Progress}
use Rattle.trace_reader.proofs.TrackSteps.{all_at, name_is_known}

pub is_found : (bytes : List ℕ) (r : Result Trace TraceError) → Reads plain r (trace_at bytes) → IfOk r (λ t. IsWellFormed (plain t) × (bytes ≡ spelling (plain t)))
is_found bytes (Ok t) read = trace_takes bytes (plain t) read
is_found bytes (Err e) read = tt

pub is_read : (bytes : List ℕ) (r : Result Trace TraceError) → Reads plain r (trace_at bytes) → (t : PlainTrace) → IsWellFormed t → bytes ≡ spelling t → Reads plain r (Ok t)
is_read bytes r read t well is = subst (Reads plain r) (read_back bytes t well is) read

-- ---- the tracks of a trace that was read

-- an operation of a track is known, and its place is below the number of all operations
op_known_at : (texts : List Name) (ts : List Track) → AllByRecursion (IsKnownTrack texts) ts → (t at : ℕ) (op : Op) → op_at ts t at ≡ Some op → IsKnownOp texts op × (at < op_count ts)
op_known_at texts [] known t at op is = absurd cc
op_known_at texts (u ∷ us) known zero at op is = (
  all_at (IsKnownOp texts) u.ops at op known.0.ops is,
  omega (arith, slice_get_within u.ops at op is, sum_by-cons (λ (x : Track). length x.ops) u us),
)
op_known_at texts (u ∷ us) known (suc t) at op is =
    let rest = op_known_at texts us known.1 t at op is in
    (rest.0, omega (arith, rest.1, sum_by-cons (λ (x : Track). length x.ops) u us))

ops_counted : (texts : List Name) (ts : List Track) → action_count (tracks_of texts ts) ≡ op_count ts
ops_counted texts [] = refl
ops_counted texts (t ∷ ts) =
    omega (arith, ops_counted texts ts, sum_by-cons (λ (x : PlainTrack). length x.actions) (track_of texts t) (tracks_of texts ts), sum_by-cons (λ (x : Track). length x.ops) t ts, length-map t.ops (action_of texts))

pub trace_known : (p : Progress) → IsKnownSoFar p → IsKnownTrace p.trace
trace_known p known =
    let few : op_count p.trace.tracks ≤ MAX_OPS = omega (arith, ops_counted p.trace.texts p.trace.tracks, known.counts.ops, known.few_ops) in
    record {
      few = known.few;
      names = λ t found e. name_is_known p.trace.texts p.trace.tracks t found known.tracks e;
      ops = λ t place op e.
          let one = op_known_at p.trace.texts p.trace.tracks known.tracks t place op e in
          (one.0, omega (arith, one.1, few));
      count = few;
    }
