-- `read` looks at one byte. Assumes `Logic`.
use Rattle.raw_region.proofs.Walks.{◌≡◌, ◌+◌, ◌^◌, [], ◌∷◌, refl, ◌∙◌, w8, w64, proved, never, id⊢, ftrue, flft, vint, vptr, fact, tables, ‵, raw, ◌⊛◌, named, prop, at_ret, ◌$◌, ◌∵◌, !, qed, done, move, keep, skip, use1, split, join, fsplit, fjoin, regoal, suffices, frame, flt_l, flt_i, WpFn, enter, of_opd, bin, load, look, stop, first, blocks, exec, returns, alloc_all, pass_all, free_all, look_at, get, through, sets, sets_last, env, u8, usize, yes, uint_vals, uint_Tells, uint_Copied, uint_Makes, RawPtr, in_a_block, rawptr_vals, rawptr_Tells, shr_vals, shr_Tells, plain, types_at, nothing, looks, shuts, tied, ties, heard, Stays, walk_of, says, stay_dropped, Goes-dropped, ends_at}
use denote.Builtin.{RefOf}
use denote.Steps.{owned}
use denote.RattleType.{owns}
use denote.Opens.{hide, unhide}
use denote.Slice.{elements_shared}
use denote.RawPtr.{ptr_val}
use Rattle.raw_region.specs.Cells.{IsHome}
use Rattle.raw_region.specs.Ownership.{cells_lend}
use Rattle.raw_region.proofs.Rows.{view_run}
use Rattle.raw_region.proofs.Runs.{run_of_one}
use Rattle.raw_region.specs.contracts.memory.Cells.{the_row as R}
use Rattle.raw_region.specs.contracts.memory.Cells.read as f
use Rattle.raw_region.proofs.memory.Cells.read.Statement.{statement}
use Rattle.raw_region.proofs.memory.Cells.read.Code as code

abbrev stayed : Stays f.ended.signature.params f.ended.kept
stayed = (stay_dropped (RefOf (0 ∷ []) tt (plain (λ _. R)) (λ _. tt)) yes, (stay_dropped _ yes, (stay_dropped _ yes, tt)))

pub read_spec : {M : Type 1} → statement M
read_spec 𝓤 𝓛 𝓜 𝓡 wired =
    let c = f.clauses 𝓛 𝓜.mem 𝓡.returns in let W = walk_of 𝓛 f.ended stayed c in let 𝓣 = tables 𝓤 𝓛.H 𝓜 𝓡 𝓡.env in
    proved 𝓛 f.ended stayed c 𝓜 𝓡 (Goes-dropped 𝓛 1 (RefOf (0 ∷ []) tt (plain (λ _. R)) (λ _. tt)) yes (λ κs x w. refl), (Goes-dropped 𝓛 1 (plain (λ _. RawPtr)) yes (λ κs x w. refl), (Goes-dropped 𝓛 1 (plain (λ _. usize)) yes (λ κs x w. refl), tt)))
    f.Key.name code.function (code.unfolded 𝓤 𝓛.H 𝓜 𝓡 wired)
    (λ κs. (shr_vals, (rawptr_vals, (uint_vals w64, tt)))) (λ κs. (shr_Tells (named 0) κs.0 R, (rawptr_Tells, (uint_Tells w64, tt)))) (λ κs qs bounds a _ are.
    let κ = κs.0 in let d = a.0.now in let at = a.0.ref_ptr in let ptr = a.1.0 in let off = a.1.1.0 in
    let y : W.Ghost = ((κs, qs, bounds, a, (shr_vals a.0, (rawptr_vals ptr, (uint_vals w64 off, tt)))), tt) in let Asked = (ptr ≡ d.at) × IsHome d.cells off in
    qed 𝓛 (((‵ (flft κ qs.0) ⊛ ‵ ftrue) ⊛ ‵ (owns (types_at f.signature.params κs) a y.0.4)) ∷ raw (fact 𝓤 Asked) ∷ []) ∵ move ! (1 ∷ []) $ heard ! Asked (λ asked.
    let x = asked.1.0 in
    split ! $ split ! $ move ! (2 ∷ []) $ fsplit ! $ fsplit ! $ skip ! $ keep ! (0 ∷ 2 ∷ []) $
    -- [what the `&` has; the token]
    unhide ! $ fsplit ! $ skip ! $ in_a_block ! d.at (λ p. cells_lend p d.cells κ) (id⊢ 𝓤 (never 𝓤)) (λ b o e.
    use1 𝓛 (‵ (elements_shared u8 (x ∷ []) b (off + o) κ)) (view_run 𝓛 b κ o d.cells off 1 (x ∷ []) (run_of_one d.cells off x asked.1.1)) $ fsplit ! $ keep ! (0 ∷ 2 ∷ []) $ hide ! $
    regoal ! (λ p. prop (WpFn 𝓤 𝓛.H 𝓣.C 𝓣.Λ code.function (vptr at.0 at.1 ∷ ptr_val p ∷ vint w64 off ∷ []) (W.post y))) (asked.0 ∙ e) refl $
    enter ! _ _ _ _ _ $ alloc_all ! (λ l. pass_all ! refl ((tt, tt), ((tt, tt), ((tt, record { fits = are.1.1.0.1 }), tt))) $
    -- [a `&` to the byte; the token; the locals]
    first ! $ blocks ! $ sets ! (bin ! (get ! refl) (get ! refl) tt) refl (tt, tt) $
    looks ! tt u8 (uint_Copied 𝓛 w8).opens x b (off + o) (λ q us. tied ! q u8.mir us b (off + o) $ move ! (1 ∷ []) $ flt_l ! (λ small.
    sets_last ! (of_opd ! (load ! (through ! refl (stop !)) (look ! 0 refl))) refl (tt, record { fits = small }) $
    exec ! 𝓣.C 𝓣.Λ (env (code.function).locals l) code.Mir.t-2 (at_ret _ (W.post y)) $ sets ! (of_opd ! (get ! refl)) refl (tt, record { fits = small }) $
    flt_i ! x (2 ^ 8) small $ move ! (1 ∷ 0 ∷ []) $ ties ! q u8.mir (vint w8 x ∷ []) b (off + o) $ shuts ! tt u8 q x (vint w8 x ∷ []) b (off + o) $
    returns ! (look_at ! 0 refl) $ free_all ! refl $ keep ! (0 ∷ []) $
    suffices ! _ (ends_at 𝓛 f.ended stayed c y (vint w8 x) x (tt, (tt, (tt, tt))) (tt, (tt, (tt, tt)))) $ says ! asked.1.1 $
    nothing ! $ move ! (1 ∷ 0 ∷ []) $ join ! $ frame ! $ owned ! u8 _ (uint_Makes 𝓛 w8) x (vint w8 x ∷ []) (refl, small) $
    nothing ! $ nothing ! $ fjoin ! $ nothing ! $ fjoin ! $ nothing ! $ fjoin ! $ done !))))))
