-- Operations and what they come to.
use Rattle.std.proofs.Common.{◌≡◌, ℕ, true, List, Option, refl, sym, subst}
use Rattle.mem_base.specs.Name.{Name}
use Rattle.mem_base.specs.declared.texts.TextId.{TextId}
use Rattle.mem_base.specs.declared.trace.Op.{Op}
use Rattle.mem_base.specs.declared.trace.Op.TheVariants as ops
use Rattle.event_model.specs.Effects.{is_quiet as is_quiet_deed, may_do_next}
use Rattle.event_model.specs.Memory.{SizedCall}
use Rattle.machine_core.specs.Deeds.{IsCallFor, deed_for, is_quiet}

-- whatever its names are, the operation asks a source or does not
pub still_quiet : (op : Op) (texts : List Name) → is_quiet_deed (deed_for texts op) ≡ is_quiet op
still_quiet ops.Acquire texts = refl
still_quiet ops.Release texts = refl
still_quiet (ops.Malloc letter name size) texts = refl
still_quiet (ops.Calloc letter name count size) texts = refl
still_quiet (ops.Realloc letter name size) texts = refl
still_quiet (ops.Free letter name) texts = refl
still_quiet (ops.Poke name offset bytes) texts = refl
still_quiet (ops.Peek name offset count) texts = refl
still_quiet (ops.Enter file line) texts = refl
still_quiet (ops.Line line) texts = refl
still_quiet ops.Leave texts = refl
still_quiet (ops.Start limit) texts = refl
still_quiet ops.Stop texts = refl
still_quiet ops.Clear texts = refl
still_quiet ops.ResetPeak texts = refl
still_quiet ops.Traced texts = refl
still_quiet (ops.Mark domain number size) texts = refl
still_quiet (ops.Unmark domain number) texts = refl
still_quiet (ops.Origin name) texts = refl
still_quiet (ops.Snapshot name) texts = refl
still_quiet (ops.Keep new old rules) texts = refl
still_quiet (ops.Stats name key cumulative most) texts = refl
still_quiet (ops.Compare new old key cumulative most) texts = refl
still_quiet (ops.Dump name) texts = refl
still_quiet ops.Heap texts = refl
still_quiet (ops.Refuse side number) texts = refl

-- only the lock is waited for
pub others_go_on : (op : Op) (owner : Option ℕ) (t : ℕ) (texts : List Name) → (op ≡ ops.Acquire → ⊥)
    → may_do_next owner t (deed_for texts op) ≡ true
others_go_on ops.Acquire owner t texts other = absurd (other refl)
others_go_on ops.Release owner t texts other = refl
others_go_on (ops.Malloc letter name size) owner t texts other = refl
others_go_on (ops.Calloc letter name count size) owner t texts other = refl
others_go_on (ops.Realloc letter name size) owner t texts other = refl
others_go_on (ops.Free letter name) owner t texts other = refl
others_go_on (ops.Poke name offset bytes) owner t texts other = refl
others_go_on (ops.Peek name offset count) owner t texts other = refl
others_go_on (ops.Enter file line) owner t texts other = refl
others_go_on (ops.Line line) owner t texts other = refl
others_go_on ops.Leave owner t texts other = refl
others_go_on (ops.Start limit) owner t texts other = refl
others_go_on ops.Stop owner t texts other = refl
others_go_on ops.Clear owner t texts other = refl
others_go_on ops.ResetPeak owner t texts other = refl
others_go_on ops.Traced owner t texts other = refl
others_go_on (ops.Mark domain number size) owner t texts other = refl
others_go_on (ops.Unmark domain number) owner t texts other = refl
others_go_on (ops.Origin name) owner t texts other = refl
others_go_on (ops.Snapshot name) owner t texts other = refl
others_go_on (ops.Keep new old rules) owner t texts other = refl
others_go_on (ops.Stats name key cumulative most) owner t texts other = refl
others_go_on (ops.Compare new old key cumulative most) owner t texts other = refl
others_go_on (ops.Dump name) owner t texts other = refl
others_go_on ops.Heap owner t texts other = refl
others_go_on (ops.Refuse side number) owner t texts other = refl

-- an operation that is such a call
pub called : (op o : Op) (name : TextId) (call : SizedCall) → op ≡ o → IsCallFor o name call → IsCallFor op name call
called op o name call is of = subst (λ (p : Op). IsCallFor p name call) (sym is) of
