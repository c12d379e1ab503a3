-- `cut` parts what the cells own. Assumes `Logic`.
use Rattle.raw_region.proofs.Walks.{◌≡◌, ◌+◌, ◌≤◌, [], ◌∷◌, length, refl, sym, w64, proved, never, id⊢, ftrue, flft, named, fact, fact_i, emp, ‵, raw, ◌⊛◌, ◌$◌, ◌∵◌, !, qed, done, move, keep, use0, use1, split, join, fsplit, fsplit3, fjoin, rewrite, suffices, frame, group, enter, agg, no_more, returns, alloc_all, pass_all, free_all, look_at, sets, usize, yes, uint_vals, uint_Tells, Ptr, in_a_block, mut_vals, mut_Tells, plain, types_at, nothing, opens, closes, heard, Stays, walk_of, stay_dropped, Goes-dropped, stay_ref, Goes-ref, ends_at, bare, made_bare}
use denote.RattleType.{owns}
use Rattle.raw_region.specs.Cells.{away, only}
use Rattle.raw_region.specs.Ownership.{row_owns, cells_own}
use Rattle.raw_region.specs.declared.memory.Cells.{Cells}
use Rattle.raw_region.proofs.Rows.{part_row}
use Rattle.raw_region.specs.contracts.memory.Cells.{the_row as R}
use Rattle.raw_region.specs.contracts.memory.Cells.cut as f
use Rattle.raw_region.proofs.memory.Cells.cut.Statement.{statement}
use Rattle.raw_region.proofs.memory.Cells.cut.Code as code

abbrev stayed : Stays f.ended.signature.params f.ended.kept
stayed = (stay_ref (0 ∷ []) tt (plain (λ _. R)), (stay_dropped _ yes, (stay_dropped _ yes, tt)))

pub cut_spec : {M : Type 1} → statement M
cut_spec 𝓤 𝓛 𝓜 𝓡 wired =
    let c = f.clauses 𝓛 𝓜.mem 𝓡.returns in let W = walk_of 𝓛 f.ended stayed c in
    proved 𝓛 f.ended stayed c 𝓜 𝓡 (Goes-ref 𝓛 1 0 tt (plain (λ _. R)), (Goes-dropped 𝓛 1 (plain (λ _. usize)) yes (λ κs x w. refl), (Goes-dropped 𝓛 1 (plain (λ _. usize)) yes (λ κs x w. refl), tt)))
    f.Key.name code.function (code.unfolded 𝓤 𝓛.H 𝓜 𝓡 wired)
    (λ κs. (mut_vals, (uint_vals w64, (uint_vals w64, tt)))) (λ κs. (mut_Tells (named 0) κs.0 R, (uint_Tells w64, (uint_Tells w64, tt)))) (λ κs qs bounds a _ are.
    let d = a.0.now in let at = a.0.ref_ptr in let off = a.1.0 in let len = a.1.1.0 in
    let y : W.Ghost = ((κs, qs, bounds, a, (mut_vals a.0, (uint_vals w64 off, (uint_vals w64 len, tt)))), tt) in let Asked = off + len ≤ length d.cells in
    qed 𝓛 (((‵ (flft κs.0 qs.0) ⊛ ‵ ftrue) ⊛ ‵ (owns (types_at f.signature.params κs) a y.0.4)) ∷ raw (fact 𝓤 Asked) ∷ []) ∵ move ! (1 ∷ []) $ heard ! Asked (λ inside.
    let left : Cells = record { at = d.at; cells = away d.cells off len } in let out : Cells = record { at = d.at; cells = only d.cells off len } in
    let Left : Type 0 = (left.at ≡ d.at) × (left.cells ≡ away d.cells off len) in let Cut : Type 0 = (out.at ≡ d.at) × (out.cells ≡ only d.cells off len) in
    split ! $ split ! $ move ! (2 ∷ []) $ fsplit ! $ keep ! (0 ∷ 2 ∷ []) $
    -- [self; the token]
    enter ! _ _ _ _ _ $ alloc_all ! (λ l. pass_all ! refl ((tt, tt), ((tt, record { fits = are.1.0.1 }), ((tt, record { fits = are.1.1.0.1 }), tt))) $
    fsplit3 ! $ move ! (1 ∷ 2 ∷ 3 ∷ []) $ opens ! tt R at.0 at.1 (λ us. move ! (1 ∷ []) $ fsplit ! $ move ! (1 ∷ []) $
    in_a_block ! d.at (λ p. cells_own p d.cells) (id⊢ 𝓤 (never 𝓤)) (λ b o e.
    sets ! (agg ! (no_more !)) refl (tt, tt) $
    use1 𝓛 (‵ (row_owns b o left.cells) ⊛ ‵ (row_owns b o out.cells)) (part_row 𝓛 b o d.cells off len inside) $ split ! $
    rewrite ! 0 (λ (p : Ptr). ‵ (cells_own p left.cells)) (sym e) refl $ rewrite ! 1 (λ (p : Ptr). ‵ (cells_own p out.cells)) (sym e) refl $ move ! (1 ∷ []) $
    made_bare ! $ fjoin ! $ move ! (2 ∷ 1 ∷ []) $ fjoin ! $ move ! (2 ∷ 0 ∷ 3 ∷ 4 ∷ 5 ∷ []) $ closes ! tt R left us at.0 at.1 $
    returns ! (look_at ! 0 refl) $ free_all ! refl $ move ! (4 ∷ 0 ∷ 1 ∷ 2 ∷ 3 ∷ []) $
    suffices ! _ (ends_at 𝓛 f.ended stayed c y bare out (left, (tt, (tt, tt))) (tt, (tt, (tt, tt)))) $
    group ! 3 $ nothing ! $ nothing ! $ join ! $ nothing ! $ join ! $ move ! (1 ∷ 0 ∷ []) $ join ! $ nothing ! $ move ! (2 ∷ 0 ∷ []) $ join ! $ move ! (0 ∷ 1 ∷ 2 ∷ []) $ group ! 3 $ frame ! $
    use0 𝓛 (raw (fact 𝓤 Cut)) (fact_i 𝓤 Cut (emp 𝓤) (refl, refl)) $ use0 𝓛 (raw (fact 𝓤 Left)) (fact_i 𝓤 Left (emp 𝓤) (refl, refl)) $ done !)))))
