-- The parts of a body that nobody damaged.
use Rattle.std.proofs.Common.{◌≡◌, ℕ, ◌+◌, ◌≤◌, ℤ, true, List, ◌∷◌, ◌++◌, length, take, drop, replicate, refl, ap, ◌∙◌, arith, append_assoc, length-append, None}
use Rattle.std.proofs.lemmas.List.{drop_at, take_at}
use Rattle.std.proofs.lemmas.Grind.{common_steps}
use Rattle.mem_base.specs.Letter.{letter_byte}
use Rattle.mem_base.specs.declared.trace.Letter.{Letter}
use Rattle.mem_base.specs.declared.trace.Letter.TheVariants.{Raw, Mem, Obj}
use Rattle.block_model.specs.Block.{body_of, Body, head_of, index_of, reaches, peeked, poked, tail_of, pad, finding, finding_in}
use Rattle.std.proofs.lemmas.Bool.{leb-true}

pub head_of-body_of : (v : Letter) (bytes : List ℕ) → head_of (body_of v bytes) ≡ letter_byte v ∷ replicate 7 pad
unfolding body_of
head_of-body_of v bytes = refl

pub tail_of-body_of : (v : Letter) (bytes : List ℕ) → tail_of (body_of v bytes) ≡ replicate 8 pad
unfolding body_of
tail_of-body_of v bytes = drop_at ((letter_byte v ∷ replicate 7 pad) ++ bytes) (replicate 8 pad) _ (grind (arith, length-append {A = ℕ}))

pub finding_in-body_of : (v : Letter) (bytes : List ℕ) → finding_in v (body_of v bytes) ≡ None
finding_in-body_of v bytes =
    rw (head_of-body_of v bytes, tail_of-body_of v bytes)
    (elim v as (λ w. finding w (letter_byte w ∷ replicate 7 pad) (replicate 8 pad) ≡ None) [ Raw ↦ refl | Mem ↦ refl | Obj ↦ refl ])

-- what was written at an index stands there
pub written_there : (body bytes rest : List ℕ) (at : ℕ) → at ≤ length body → take (length bytes) (drop at (take at body ++ bytes ++ rest)) ≡ bytes
written_there body bytes rest at within =
    let front : length (take at body) ≡ at = grind (arith, common_steps) in
    rw append_assoc (ap (take (length bytes)) (drop_at (take at body) (bytes ++ rest) at front) ∙ take_at bytes rest (length bytes) refl)

pub peeked-poked : (body : Body) (off : ℤ) (bytes : List ℕ) → reaches body off (length bytes) ≡ true → peeked (poked body off bytes) off (length bytes) ≡ bytes
peeked-poked body off bytes reach =
    let within : index_of off + length bytes ≤ length body = leb-true _ _ reach in
    written_there body bytes _ (index_of off) (omega arith)
