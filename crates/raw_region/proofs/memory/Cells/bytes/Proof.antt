-- `bytes` shows a run of bytes as a slice. Assumes `Logic`.
use Rattle.raw_region.proofs.Walks.{◌≡◌, ◌+◌, ◌*◌, ◌^◌, ◌<◌, List, [], ◌∷◌, length, Some, refl, sym, ap, ◌∙◌, w64, arith, proved, never, id⊢, ftrue, flft, named, Val, vint, vptr, fact, tables, ‵, raw, ◌⊛◌, prop, at_ret, ◌$◌, ◌∵◌, !, qed, done, move, keep, skip, use1, split, join, fsplit, fjoin, feq_i, flt_i, regoal, suffices, frame, WpFn, enter, of_opd, bin, agg, and_then, no_more, first, blocks, exec, returns, alloc_all, pass_all, free_all, look_at, get, sets, sets_last, env, u8, usize, yes, uint_vals, uint_Tells, RawPtr, in_a_block, rawptr_vals, rawptr_Tells, shr_vals, shr_Tells, plain, types_at, nothing, heard, Stays, walk_of, says, stay_dropped, Goes-dropped, ends_at}
use lib.ListN.{drop, length-take, length-drop}
use Rattle.std.proofs.lemmas.List.{length-map}
use denote.Builtin.{RefOf}
use denote.Opens.{hide, unhide}
use denote.RattleType.{owns}
use denote.RawPtr.{ptr_val}
use denote.Slice.{elements_shared, slice_val}
use Rattle.raw_region.specs.Cells.{IsHomeRun}
use Rattle.raw_region.specs.Ownership.{cells_lend}
use Rattle.raw_region.proofs.Rows.{view_run}
use Rattle.raw_region.specs.contracts.memory.Cells.{the_row as R}
use Rattle.raw_region.specs.contracts.memory.Cells.bytes as f
use Rattle.raw_region.proofs.memory.Cells.bytes.Statement.{statement}
use Rattle.raw_region.proofs.memory.Cells.bytes.Code as code

abbrev stayed : Stays f.ended.signature.params f.ended.kept
stayed = (stay_dropped (RefOf (0 ∷ []) tt (plain (λ _. R)) (λ _. tt)) yes, (stay_dropped _ yes, (stay_dropped _ yes, (stay_dropped _ yes, tt))))

pub bytes_spec : {M : Type 1} → statement M
bytes_spec 𝓤 𝓛 𝓜 𝓡 wired =
    let c = f.clauses 𝓛 𝓜.mem 𝓡.returns in let W = walk_of 𝓛 f.ended stayed c in let 𝓣 = tables 𝓤 𝓛.H 𝓜 𝓡 𝓡.env in
    proved 𝓛 f.ended stayed c 𝓜 𝓡
    (Goes-dropped 𝓛 1 (RefOf (0 ∷ []) tt (plain (λ _. R)) (λ _. tt)) yes (λ κs x w. refl), (Goes-dropped 𝓛 1 (plain (λ _. RawPtr)) yes (λ κs x w. refl), (Goes-dropped 𝓛 1 (plain (λ _. usize)) yes (λ κs x w. refl), (Goes-dropped 𝓛 1 (plain (λ _. usize)) yes (λ κs x w. refl), tt))))
    f.Key.name code.function (code.unfolded 𝓤 𝓛.H 𝓜 𝓡 wired)
    (λ κs. (shr_vals, (rawptr_vals, (uint_vals w64, (uint_vals w64, tt))))) (λ κs. (shr_Tells (named 0) κs.0 R, (rawptr_Tells, (uint_Tells w64, (uint_Tells w64, tt))))) (λ κs qs bounds a _ are.
    let κ = κs.0 in let d = a.0.now in let at = a.0.ref_ptr in let ptr = a.1.0 in let off = a.1.1.0 in let len = a.1.1.1.0 in
    let y : W.Ghost = ((κs, qs, bounds, a, (shr_vals a.0, (rawptr_vals ptr, (uint_vals w64 off, (uint_vals w64 len, tt))))), tt) in
    let Asked = (ptr ≡ d.at) × IsHomeRun d.cells off len × (len < 2 ^ 63) in
    qed 𝓛 (((‵ (flft κ qs.0) ⊛ ‵ ftrue) ⊛ ‵ (owns (types_at f.signature.params κs) a y.0.4)) ∷ raw (fact 𝓤 Asked) ∷ []) ∵ move ! (1 ∷ []) $ heard ! Asked (λ asked.
    let xs = asked.1.1.0 in let is = asked.1.1.1 in let fits = are.1.1.1.0.1 in
    let long : length xs ≡ len = omega (arith, asked.1.0, ap length is, length-map xs Some, length-take len (drop off d.cells), length-drop off d.cells) in
    split ! $ split ! $ move ! (2 ∷ []) $ fsplit ! $ fsplit ! $ skip ! $ keep ! (0 ∷ 2 ∷ []) $
    -- [what the `&` has; the token]
    unhide ! $ fsplit ! $ skip ! $ in_a_block ! d.at (λ p. cells_lend p d.cells κ) (id⊢ 𝓤 (never 𝓤)) (λ b o e.
    use1 𝓛 (‵ (elements_shared u8 xs b (off + o) κ)) (view_run 𝓛 b κ o d.cells off len xs is) $ hide ! $
    regoal ! (λ p. prop (WpFn 𝓤 𝓛.H 𝓣.C 𝓣.Λ code.function (vptr at.0 at.1 ∷ ptr_val p ∷ vint w64 off ∷ vint w64 len ∷ []) (W.post y))) (asked.0 ∙ e) refl $
    enter ! _ _ _ _ _ $ alloc_all ! (λ l. pass_all ! refl ((tt, tt), ((tt, tt), ((tt, record { fits = are.1.1.0.1 }), ((tt, record { fits = fits }), tt)))) $
    -- [a `&` to the bytes; the token; the locals]
    first ! $ blocks ! $ sets ! (bin ! (get ! refl) (get ! refl) tt) refl (tt, tt) $
    sets_last ! (agg ! (and_then ! (get ! refl) (and_then ! (get ! refl) (no_more !)))) refl (tt, (tt, (record { fits = fits }, tt))) $
    exec ! 𝓣.C 𝓣.Λ (env (code.function).locals l) code.Mir.t-2 (at_ret _ (W.post y)) $ sets ! (of_opd ! (get ! refl)) refl (tt, (tt, (record { fits = fits }, tt))) $
    let slice = slice_val (b, off + o) in
    flt_i ! (length xs * 1) (2 ^ 63) (omega arith) $ flt_i ! (length xs) (2 ^ 64) (omega arith) $ fjoin ! $
    feq_i ! (List Val) (slice len ∷ []) (slice (length xs) ∷ []) (ap (λ k. slice k ∷ []) (sym long)) $ fjoin ! $ fjoin ! $
    returns ! (look_at ! 0 refl) $ free_all ! refl $
    suffices ! _ (ends_at 𝓛 f.ended stayed c y (slice len) (record { ref_ptr = (b, off + o); now = xs }) (tt, (tt, (tt, (tt, tt)))) (tt, (tt, (tt, (tt, tt))))) $ says ! is $
    nothing ! $ move ! (2 ∷ 0 ∷ []) $ join ! $ frame ! $ nothing ! $ nothing ! $ fjoin ! $ nothing ! $ fjoin ! $ nothing ! $ fjoin ! $ nothing ! $ fjoin ! $ done !))))
