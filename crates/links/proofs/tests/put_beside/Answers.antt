use Rattle.std.proofs.Common.{◌≡◌, ◌∙◌, [], ◌∷◌, ap, refl, arith}
use Rattle.links.proofs.NodeLemmas.{Contains-times, not_Contains-times}
use Rattle.links.proofs.tests.put_beside.Goals as goal

pub insert_after-requires-clause-at : goal.insert_after-requires-clause-at
insert_after-requires-clause-at g c =
    let one : c.push_front.new.self.nodes ≡ 1 ∷ [] = c.push_front.ensures.nodes ∙ ap (λ xs. 1 ∷ xs) c.in_ok-chain.ensures.empty in
    let two = c.insert_before.ensures.nodes [] [] one in
    Contains-times _ _ 1 two (omega arith)

pub insert_after-requires-clause-out : goal.insert_after-requires-clause-out
insert_after-requires-clause-out g c =
    let one : c.push_front.new.self.nodes ≡ 1 ∷ [] = c.push_front.ensures.nodes ∙ ap (λ xs. 1 ∷ xs) c.in_ok-chain.ensures.empty in
    let two = c.insert_before.ensures.nodes [] [] one in
    not_Contains-times _ _ 3 two refl

pub prev-first-requires : goal.prev-first-requires
prev-first-requires g c =
    let one : c.push_front.new.self.nodes ≡ 1 ∷ [] = c.push_front.ensures.nodes ∙ ap (λ xs. 1 ∷ xs) c.in_ok-chain.ensures.empty in
    let two = c.insert_before.ensures.nodes [] [] one in
    let three = c.insert_after.ensures.nodes (0 ∷ []) [] two in
    Contains-times _ _ 1 three (omega arith)

pub next-last-requires : goal.next-last-requires
next-last-requires g c =
    let one : c.push_front.new.self.nodes ≡ 1 ∷ [] = c.push_front.ensures.nodes ∙ ap (λ xs. 1 ∷ xs) c.in_ok-chain.ensures.empty in
    let two = c.insert_before.ensures.nodes [] [] one in
    let three = c.insert_after.ensures.nodes (0 ∷ []) [] two in
    Contains-times _ _ 1 three (omega arith)
