-- `write` opens the cells, and stores one byte. Assumes `Logic`.
use Rattle.raw_region.proofs.Walks.{◌≡◌, ℕ, ◌+◌, List, [], ◌∷◌, set, take, Option, Some, refl, sym, ◌∙◌, w8, w64, arith, proved, full_share, never, id⊢, ftrue, fat, flft, ty_int, named, vunit, vint, fact, tables, ‵, raw, ◌⊛◌, at_ret, ◌$◌, ◌∵◌, !, qed, done, move, keep, use1, use2, split, join, fsplit, fsplit3, fjoin, feq_i, rewrite, suffices, frame, group, enter, of_opd, unit_lit, bin, stop, store, assigns_last, first, blocks, exec, returns, alloc_all, pass_all, free_all, look_at, get, through, sets, env, u8, usize, yes, uint_in, uint_out, uint_vals, uint_Tells, Ptr, RawPtr, in_a_block, rawptr_vals, rawptr_Tells, mut_vals, mut_Tells, plain, types_at, nothing, opens, closes, heard, Stays, walk_of, says, stay_dropped, Goes-dropped, stay_ref, Goes-ref, ends_at}
use types.ByLocal.{take_at, give_at}
use denote.Memory.{part_at, lone}
use denote.RattleType.{owns}
use denote.RawPtr.{ptr_val, rawptr_Lawful}
use Rattle.raw_region.specs.Cells.{IsHome, with_run}
use Rattle.raw_region.specs.Ownership.{row_owns, cells_own}
use Rattle.raw_region.proofs.Rows.{Others, lift_run, lay_run}
use Rattle.raw_region.proofs.Runs.{run_of_one, run_of_set, home_within}
use Rattle.raw_region.specs.contracts.memory.Cells.{the_row as R}
use Rattle.raw_region.specs.contracts.memory.Cells.write as f
use Rattle.raw_region.proofs.memory.Cells.write.Statement.{statement}
use Rattle.raw_region.proofs.memory.Cells.write.Code as code

abbrev stayed : Stays f.ended.signature.params f.ended.kept
stayed = (stay_ref (0 ∷ []) tt (plain (λ _. R)), (stay_dropped _ yes, (stay_dropped _ yes, (stay_dropped _ yes, tt))))

pub write_spec : {M : Type 1} → statement M
write_spec 𝓤 𝓛 𝓜 𝓡 wired =
    let c = f.clauses 𝓛 𝓜.mem 𝓡.returns in let W = walk_of 𝓛 f.ended stayed c in let 𝓣 = tables 𝓤 𝓛.H 𝓜 𝓡 𝓡.env in
    proved 𝓛 f.ended stayed c 𝓜 𝓡
    (Goes-ref 𝓛 1 0 tt (plain (λ _. R)), (Goes-dropped 𝓛 1 (plain (λ _. RawPtr)) yes (λ κs x w. refl), (Goes-dropped 𝓛 1 (plain (λ _. usize)) yes (λ κs x w. refl), (Goes-dropped 𝓛 1 (plain (λ _. u8)) yes (λ κs x w. refl), tt))))
    f.Key.name code.function (code.unfolded 𝓤 𝓛.H 𝓜 𝓡 wired)
    (λ κs. (mut_vals, (rawptr_vals, (uint_vals w64, (uint_vals w8, tt))))) (λ κs. (mut_Tells (named 0) κs.0 R, (rawptr_Tells, (uint_Tells w64, (uint_Tells w8, tt))))) (λ κs qs bounds a _ are.
    let d = a.0.now in let at = a.0.ref_ptr in let ptr = a.1.0 in let off = a.1.1.0 in let byte = a.1.1.1.0 in
    let y : W.Ghost = ((κs, qs, bounds, a, (mut_vals a.0, (rawptr_vals ptr, (uint_vals w64 off, (uint_vals w8 byte, tt))))), tt) in let Asked = (ptr ≡ d.at) × IsHome d.cells off in
    qed 𝓛 (((‵ (flft κs.0 qs.0) ⊛ ‵ ftrue) ⊛ ‵ (owns (types_at f.signature.params κs) a y.0.4)) ∷ raw (fact 𝓤 Asked) ∷ []) ∵ move ! (1 ∷ []) $ heard ! Asked (λ asked.
    let x = asked.1.0 in let within = home_within d.cells off asked.1 in let new = set d.cells off (Some byte) in
    split ! $ split ! $ move ! (2 ∷ []) $ fsplit ! $ keep ! (0 ∷ 2 ∷ []) $
    -- [self; the token]
    enter ! _ _ _ _ _ $
    alloc_all ! (λ l. pass_all ! refl ((tt, tt), (((rawptr_Lawful 𝓛).typed ptr (ptr_val ptr ∷ []) refl).0, ((tt, record { fits = are.1.1.0.1 }), ((tt, record { fits = are.1.1.1.0.1 }), tt)))) $
    fsplit3 ! $ move ! (1 ∷ 2 ∷ 3 ∷ []) $ opens ! tt R at.0 at.1 (λ us. move ! (1 ∷ []) $ fsplit ! $ move ! (1 ∷ []) $
    in_a_block ! d.at (λ p. cells_own p d.cells) (id⊢ 𝓤 (never 𝓤)) (λ b o e.
    use1 𝓛 (‵ (row_owns b (off + o) (take 1 (lib.ListN.drop off d.cells))) ⊛ ‵ (Others 𝓛 b o d.cells off 1 (omega arith))) (lift_run 𝓛 b o d.cells off 1 (omega arith)) $ split ! $
    rewrite ! 0 (λ (l : List (Option ℕ)). ‵ (row_owns b (off + o) l)) (run_of_one d.cells off x asked.1.1) refl $ fsplit ! $
    use1 𝓛 (‵ (fat full_share (ty_int w8) b (off + o) (vint w8 x))) (uint_out 𝓛 full_share w8 x b (off + o)) $
    take_at ! 2 $ rewrite ! 0 (λ (p : Ptr). ‵ (fat full_share (lone RawPtr.mir) (l 2) 0 (ptr_val p))) (asked.0 ∙ e) refl $ give_at ! 2 $
    -- [the byte; nothing; the other cells; the fields; the cells' place; the open borrow, in three entries; self's first part; the locals]
    first ! $ blocks ! $ sets ! (bin ! (get ! refl) (get ! refl) tt) refl (tt, tt) $
    assigns_last ! (of_opd ! (get ! refl)) (through ! refl (stop !)) (store ! 0 refl (tt, record { fits = are.1.1.1.0.1 })) $
    exec ! 𝓣.C 𝓣.Λ (env (code.function).locals l) code.Mir.t-2 (at_ret _ (W.post y)) $ sets ! (of_opd ! (unit_lit !)) refl (tt, tt) $
    use1 𝓛 (‵ (part_at u8 full_share byte b (off + o))) (uint_in 𝓛 full_share w8 byte b (off + o)) $ fjoin ! $
    use2 𝓛 (‵ (row_owns b o (with_run d.cells off 1 (Some byte ∷ [])))) (lay_run 𝓛 b o d.cells off 1 (omega arith) (Some byte ∷ []) refl) $
    rewrite ! 0 (λ (l : List (Option ℕ)). ‵ (row_owns b o l)) (run_of_set d.cells off (Some byte) within) refl $
    rewrite ! 0 (λ (p : Ptr). ‵ (cells_own p new)) (sym e) refl $ move ! (1 ∷ 0 ∷ []) $ fjoin ! $ move ! (1 ∷ 0 ∷ []) $ closes ! tt R (record d { cells = new }) us at.0 at.1 $
    returns ! (look_at ! 0 refl) $ free_all ! refl $ move ! (3 ∷ []) $
    suffices ! _ (ends_at 𝓛 f.ended stayed c y vunit tt (record d { cells = new }, (tt, (tt, (tt, tt)))) (tt, (tt, (tt, (tt, tt))))) $ says ! (refl, refl) $
    group ! 3 $ nothing ! $ nothing ! $ join ! $ nothing ! $ join ! $ nothing ! $ join ! $ move ! (1 ∷ 0 ∷ []) $ join ! $ nothing ! $ move ! (2 ∷ 0 ∷ []) $ join ! $ frame ! $ frame ! $
    feq_i ! _ (vunit ∷ []) _ refl $ done !)))))
