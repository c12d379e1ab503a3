-- What writing a text comes to.
use Rattle.std.proofs.Common.{◌≡◌, ℕ, List, [], Option, Result, Err, subst, ap, ◌∙◌}
use Rattle.std.specs.Prelude.{IsErrAnd}
use Rattle.std.specs.Io.KnownBytes.{Appends}
use Rattle.std.proofs.lemmas.Result.{err_from_is_err_and}
use Rattle.streams.specs.Faults.{MetFault}
use Rattle.streams.specs.Moves.{WroteFront}
use Rattle.replay_tool.specs.declared.status.Halt.{Halt}
use Rattle.replay_tool.specs.Streams.{stream, Wrote, BrokeWithin}

-- the error that a halt was made from is that halt
pub halt_is : {T : Type 0} (r : Result T Halt) (h : Halt) → IsErrAnd r (λ (e : Halt). e ≡ h) → r ≡ Err h
halt_is r h is =
    let p = err_from_is_err_and r is in
    p.1 ∙ ap (λ (e : Halt). Err e) p.2

-- a text was written that is this one
pub wrote_is : (before after : Option (List ℕ)) (faults faults_then : ℕ) (text piece : List ℕ) → piece ≡ text → Appends before after piece → faults_then ≡ faults
    → Wrote (stream before faults) (stream after faults_then) text
wrote_is before after faults faults_then text piece is whole calm = record { bytes = subst (Appends before after) is whole; calm = calm }

-- a front was written of a text that is this one
pub broke_is : (before after : Option (List ℕ)) (faults faults_then : ℕ) (text piece : List ℕ) → piece ≡ text → WroteFront before after piece → MetFault faults faults_then
    → BrokeWithin (stream before faults) (stream after faults_then) [] text
broke_is before after faults faults_then text piece is front broke =
    subst (λ (t : List ℕ). BrokeWithin (stream before faults) (stream after faults_then) [] t) is
    (record { count = front.count; short = front.short; bytes = front.front; broke = broke })
