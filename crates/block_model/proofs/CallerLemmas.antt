-- What proofs of other crates may cite: what another size leaves of a body.
use Rattle.std.proofs.Common.{◌≡◌, ℕ, ◌+◌, ◌-◌, ◌≤◌, min, pos, List, ◌++◌, length, take, drop, replicate, sym, ap, ◌∙◌, arith, append_assoc, length-append}
use Rattle.std.proofs.lemmas.List.{drop-append-le, drop-drop, length-take, drop-replicate}
use Rattle.std.proofs.lemmas.Grind.{common_steps}
use Rattle.mem_base.specs.declared.trace.Letter.{Letter}
use Rattle.block_model.specs.Block.{body_of, Body, carried, data_of, fresh, pad, poked, resized, size_of}

pub size-body_of : (v : Letter) (bytes : List ℕ) → size_of (body_of v bytes) ≡ length bytes
unfolding body_of
size-body_of v bytes = grind (arith, length-append {A = ℕ})

-- the data of a body has the body's size
pub length-data_of : (body : Body) → 16 ≤ length body → length (data_of body) ≡ size_of body
length-data_of body long = grind (arith, common_steps)

pub size-resized : (v : Letter) (n b : ℕ) (body : Body) → 16 ≤ length body → size_of (resized v n b body) ≡ n
size-resized v n b body long =
    let kept = length-data_of body long in
    size-body_of v (take n (data_of body) ++ replicate (n - size_of body) b) ∙ grind (arith, common_steps)

-- bytes at the data's start of a body that nobody damaged
front_written : (v : Letter) (bytes new : List ℕ) → length new ≤ length bytes
    → poked (body_of v bytes) (pos 0) new ≡ body_of v (new ++ drop (length new) bytes)
unfolding body_of
front_written v bytes new fits =
    let whole = body_of v bytes in let tail = replicate 8 pad in
    let back : drop (8 + length new) whole ≡ drop (length new) bytes ++ tail = sym (drop-drop (length new) 8 whole) ∙ drop-append-le (length new) bytes tail fits in
    ap (λ (l : List ℕ). take 8 whole ++ (new ++ l)) back ∙ ap (λ (l : List ℕ). take 8 whole ++ l) (sym (append_assoc new (drop (length new) bytes) tail))

pub carried-fresh : (v : Letter) (n b : ℕ) (body : Body) → 16 ≤ length body → carried body (fresh v n b) ≡ resized v n b body
carried-fresh v n b body long =
    let whole = fresh v n b in let size = size_of body in let held = data_of body in
    let same : size_of whole ≡ n = size-body_of v (replicate n b) ∙ grind (arith, common_steps) in
    let kept : length (take n held) ≡ min n size = length-take n held ∙ ap (min n) (length-data_of body long) in
    let fits : length (take n held) ≤ length (replicate n b) = grind (arith, common_steps) in
    let behind : drop (length (take n held)) (replicate n b) ≡ replicate (n - size) b = ap (λ k. drop k (replicate n b)) kept ∙ drop-replicate (min n size) n b ∙ ap (λ k. replicate k b) (omega arith) in
    ap (λ k. poked whole (pos 0) (take k held)) same ∙ front_written v (replicate n b) (take n held) fits ∙ ap (λ (l : List ℕ). body_of v (take n held ++ l)) behind
