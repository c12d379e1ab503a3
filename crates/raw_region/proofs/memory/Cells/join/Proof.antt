-- `join` puts what the part owns in place of what the cells owned there. Assumes `Logic`.
use Rattle.raw_region.proofs.Walks.{◌≡◌, ◌+◌, ◌≤◌, [], ◌∷◌, length, take, refl, sym, ◌∙◌, w64, proved, never, id⊢, ftrue, flft, named, vunit, fact, ‵, raw, ◌⊛◌, ◌$◌, ◌∵◌, !, qed, done, move, keep, use2, split, join, fsplit, fsplit3, fjoin, feq_i, rewrite, suffices, frame, group, enter, of_opd, unit_lit, returns, alloc_all, pass_all, free_all, look_at, sets, usize, yes, uint_vals, uint_Tells, Ptr, in_a_block, mut_vals, mut_Tells, plain, types_at, nothing, opens, closes, heard, Stays, walk_of, says, stay_dropped, Goes-dropped, stay_ref, Goes-ref, ends_at, bare}
use lib.ListN.{drop}
use denote.RattleType.{owns}
use Rattle.core.proofs.alloc.Calls.{Goes-blank}
use Rattle.raw_region.specs.Cells.{with_run}
use Rattle.raw_region.specs.Ownership.{row_owns, cells_own}
use Rattle.raw_region.specs.declared.memory.Cells.{Cells}
use Rattle.raw_region.proofs.Rows.{replace_run}
use Rattle.raw_region.proofs.memory.Cells.TheLaws.{lowers}
use Rattle.raw_region.specs.contracts.memory.Cells.{the_row as R}
use Rattle.raw_region.specs.contracts.memory.Cells.join as f
use Rattle.raw_region.proofs.memory.Cells.join.Statement.{statement}
use Rattle.raw_region.proofs.memory.Cells.join.Code as code

abbrev stayed : Stays f.ended.signature.params f.ended.kept
stayed = (stay_ref (0 ∷ []) tt (plain (λ _. R)), (stay_dropped _ yes, (stay_dropped _ yes, (stay_dropped _ yes, tt))))

pub join_spec : {M : Type 1} → statement M
join_spec 𝓤 𝓛 𝓜 𝓡 wired =
    let c = f.clauses 𝓛 𝓜.mem 𝓡.returns in let W = walk_of 𝓛 f.ended stayed c in
    proved 𝓛 f.ended stayed c 𝓜 𝓡
    (Goes-ref 𝓛 1 0 tt (plain (λ _. R)), (Goes-blank 𝓛 1 (plain (λ _. R)) yes (λ κs x w. tt), (Goes-dropped 𝓛 1 (plain (λ _. usize)) yes (λ κs x w. refl), (Goes-dropped 𝓛 1 (plain (λ _. usize)) yes (λ κs x w. refl), tt))))
    f.Key.name code.function (code.unfolded 𝓤 𝓛.H 𝓜 𝓡 wired)
    (λ κs. (mut_vals, ((λ _. bare ∷ []), (uint_vals w64, (uint_vals w64, tt))))) (λ κs. (mut_Tells (named 0) κs.0 R, (lowers.val_is, (uint_Tells w64, (uint_Tells w64, tt))))) (λ κs qs bounds a _ are.
    let d = a.0.now in let at = a.0.ref_ptr in let part = a.1.0 in let off = a.1.1.0 in let len = a.1.1.1.0 in
    let y : W.Ghost = ((κs, qs, bounds, a, (mut_vals a.0, (bare ∷ [], (uint_vals w64 off, (uint_vals w64 len, tt))))), tt) in
    let Asked = (part.at ≡ d.at) × (off + len ≤ length d.cells) × (off + len ≤ length part.cells) in
    qed 𝓛 (((‵ (flft κs.0 qs.0) ⊛ ‵ ftrue) ⊛ ‵ (owns (types_at f.signature.params κs) a y.0.4)) ∷ raw (fact 𝓤 Asked) ∷ []) ∵ move ! (1 ∷ []) $ heard ! Asked (λ asked.
    let new : Cells = record { at = d.at; cells = with_run d.cells off len (take len (drop off part.cells)) } in
    split ! $ split ! $ move ! (2 ∷ []) $ fsplit ! $ move ! (1 ∷ []) $ fsplit ! $ fsplit ! $ keep ! (3 ∷ 4 ∷ 1 ∷ []) $
    -- [self; the token; the part's cells]
    enter ! _ _ _ _ _ $ alloc_all ! (λ l. pass_all ! refl ((tt, tt), ((tt, tt), ((tt, record { fits = are.1.1.0.1 }), ((tt, record { fits = are.1.1.1.0.1 }), tt)))) $
    fsplit3 ! $ move ! (1 ∷ 2 ∷ 3 ∷ []) $ opens ! tt R at.0 at.1 (λ us. move ! (1 ∷ []) $ fsplit ! $ move ! (1 ∷ []) $
    in_a_block ! d.at (λ p. cells_own p d.cells) (id⊢ 𝓤 (never 𝓤)) (λ b o e.
    sets ! (of_opd ! (unit_lit !)) refl (tt, tt) $
    move ! (7 ∷ []) $ rewrite ! 0 (λ (p : Ptr). ‵ (cells_own p part.cells)) (asked.0 ∙ e) refl $ move ! (1 ∷ 0 ∷ []) $
    use2 𝓛 (‵ (row_owns b o new.cells)) (replace_run 𝓛 b o d.cells off len part.cells asked.1 asked.2) $
    rewrite ! 0 (λ (p : Ptr). ‵ (cells_own p new.cells)) (sym e) refl $ move ! (1 ∷ 0 ∷ []) $ fjoin ! $ move ! (1 ∷ 0 ∷ []) $ closes ! tt R new us at.0 at.1 $
    returns ! (look_at ! 0 refl) $ free_all ! refl $ move ! (3 ∷ []) $
    suffices ! _ (ends_at 𝓛 f.ended stayed c y vunit tt (new, (tt, (tt, (tt, tt)))) (tt, (tt, (tt, (tt, tt))))) $ says ! (refl, refl) $
    group ! 3 $ nothing ! $ nothing ! $ join ! $ nothing ! $ join ! $ nothing ! $ join ! $ move ! (1 ∷ 0 ∷ []) $ join ! $ nothing ! $ move ! (2 ∷ 0 ∷ []) $ join ! $ frame ! $ frame ! $
    feq_i ! _ (vunit ∷ []) _ refl $ done !)))))
