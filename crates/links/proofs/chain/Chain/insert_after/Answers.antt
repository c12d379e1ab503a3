use Rattle.std.proofs.Common.{[], ◌∷◌, ◌++◌, Some, None, refl, sym, ◌∙◌, arith, append_assoc}
use Rattle.links.proofs.NodeLemmas.{split, last_or-append}
use Rattle.links.proofs.Calls.{opened, inside_of, gap_after, after_inside, next_told, put_links, put_counts, seen, chain_of}
use Rattle.links.proofs.LinkLemmas.{nodes_of-linked}
use Rattle.links.proofs.Puts.{put_after_is}
use Rattle.links.proofs.chain.Chain.insert_after.Goals as goal

pub put_after-requires-clause-at : goal.put_after-requires-clause-at
put_after-requires-clause-at g c = let o = opened _ _ _ c.self.view_is c.self.invariant in inside_of _ _ _ _ o.linked c.requires.at

pub put_after-requires-clause-after : goal.put_after-requires-clause-after
put_after-requires-clause-after g c = let o = opened _ _ _ c.self.view_is c.self.invariant in after_inside _ _ _ _ _ o.linked (gap_after _ _ _ _ o.linked c.requires.at)

pub invariant_of-self : goal.invariant_of-self
invariant_of-self g c =
    let o = opened _ _ _ c.self.view_is c.self.invariant in
    let h = rw o.room at c.requires.below in
    let after = c.put_after.ensures.after in
    let e = c.put_after.ensures.links ∙ put_after_is _ _ _ c.args.node o.linked c.requires.out c.args.at c.requires.at _ after in
    let p = split _ _ c.requires.at in
    let all = p.all ∙ sym (append_assoc p.before (c.args.at ∷ []) p.after) in
    seen _ _ _ (put_links _ _ _ (Some c.args.at) _ c.args.node o.linked h c.requires.out _ _ e refl (p.before ++ c.args.at ∷ []) p.after all (sym (last_or-append p.before c.args.at [] None)) (after ∙ next_told _ _ _ _ o.linked p.before p.after p.all))

pub returns-clause-nodes : goal.returns-clause-nodes
returns-clause-nodes g c =
    let o = opened _ _ _ c.self.view_is c.self.invariant in
    let h = rw o.room at c.requires.below in
    let after = c.put_after.ensures.after in
    let e = c.put_after.ensures.links ∙ put_after_is _ _ _ c.args.node o.linked c.requires.out c.args.at c.requires.at _ after in
    λ front rest all. nodes_of-linked _ _ _ (put_links _ _ _ (Some c.args.at) _ c.args.node o.linked h c.requires.out _ _ e refl (front ++ c.args.at ∷ []) rest (all ∙ sym (append_assoc front (c.args.at ∷ []) rest)) (sym (last_or-append front c.args.at [] None)) (after ∙ next_told _ _ _ _ o.linked front rest all))
    ∙ append_assoc front (c.args.at ∷ []) (c.args.node ∷ rest)

pub returns-clause-chain : goal.returns-clause-chain
returns-clause-chain g c =
    let o = opened _ _ _ c.self.view_is c.self.invariant in
    let h = rw o.room at c.requires.below in
    let after = c.put_after.ensures.after in
    let e = c.put_after.ensures.links ∙ put_after_is _ _ _ c.args.node o.linked c.requires.out c.args.at c.requires.at _ after in
    let p = split _ _ c.requires.at in
    let all = p.all ∙ sym (append_assoc p.before (c.args.at ∷ []) p.after) in
    chain_of _ _ _ (seen _ _ _ (put_links _ _ _ (Some c.args.at) _ c.args.node o.linked h c.requires.out _ _ e refl (p.before ++ c.args.at ∷ []) p.after all (sym (last_or-append p.before c.args.at [] None)) (after ∙ next_told _ _ _ _ o.linked p.before p.after p.all)))

pub returns-clause-steps : goal.returns-clause-steps
returns-clause-steps g c =
    let o = opened _ _ _ c.self.view_is c.self.invariant in
    let h = rw o.room at c.requires.below in
    let after = c.put_after.ensures.after in
    let e = c.put_after.ensures.links ∙ put_after_is _ _ _ c.args.node o.linked c.requires.out c.args.at c.requires.at _ after in
    let p = split _ _ c.requires.at in
    let all = p.all ∙ sym (append_assoc p.before (c.args.at ∷ []) p.after) in
    let last = sym (last_or-append p.before c.args.at [] None) in
    let first = after ∙ next_told _ _ _ _ o.linked p.before p.after p.all in
    let s = c.put_after.ensures.steps in
    put_counts _ _ (p.before ++ c.args.at ∷ []) p.after _ _ _ (Some c.args.at) _ (put_links _ _ _ (Some c.args.at) _ c.args.node o.linked h c.requires.out _ _ e refl (p.before ++ c.args.at ∷ []) p.after all last first) last first (omega arith)
