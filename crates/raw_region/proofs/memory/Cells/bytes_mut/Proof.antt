-- `bytes_mut` lends a run of bytes, and the cells end as what is left in it. Assumes `Logic`.
use Rattle.raw_region.proofs.Walks.{◌≡◌, ℕ, ◌+◌, ◌*◌, ◌^◌, ◌<◌, ◌≤◌, List, [], ◌∷◌, length, map, take, Option, Some, refl, sym, ap, ◌∙◌, w64, MutBor, arith, Ura, proved, full_share, ent, sep, never, id⊢, Fml, ftrue, fsep, fat, flft, named, Val, fact, tables, Logic, sem, ‵, raw, ◌⊛◌, some, later, at_ret, ◌$◌, ◌∵◌, !, qed, done, move, keep, skip, use1, use2, split, join, fsplit, fsplit3, fjoin, fpack, pick, await, rewrite, suffices, frame, group, enter, of_opd, bin, agg, and_then, no_more, first, blocks, exec, returns, alloc_all, pass_all, free_all, look_at, get, sets, sets_last, env, u8, usize, no, yes, uint_vals, uint_Tells, Ptr, RawPtr, block_ptr, in_a_block, rawptr_vals, rawptr_Tells, mut_vals, mut_Tells, plain, types_at, nothing, opens, heard, Stays, walk_of, says, stay_dropped, Goes-dropped, Goes-spent_ref, ends_at}
use lib.ListN.{drop, length-take, length-drop}
use lib.Seq.{take_at as take_front}
use Rattle.std.proofs.lemmas.List.{length-map}
use Rattle.std.specs.List.{refill}
use base.Fml.{GName}
use types.ByLocal.{take_at, give_at}
use types.Kit.{fjoin3, split3}
use types.SemTy.{cells}
use denote.Array.{Array}
use denote.Follow.{follows}
use denote.FollowSlice.{lends_Elements}
use denote.Memory.{mem, cell_at, part_of, lone}
use denote.RattleType.{owns}
use denote.RawPtr.{ptr_val, rawptr_Lawful}
use denote.Signature.{mut_ref_to}
use denote.Slice.{MutSlice, slice_val}
use denote.Struct.Owning.{shape}
use denote.Struct.Struct.{Struct}
use Rattle.raw_region.specs.Cells.{IsHomeRun, bytes_of, with_run}
use Rattle.raw_region.specs.Lending.{rewritten}
use Rattle.raw_region.specs.Ownership.{row_owns, cells_own}
use Rattle.raw_region.specs.declared.memory.Cells.{Cells}
use Rattle.raw_region.proofs.Rows.{Others, lift_run, lay_run, to_bytes, of_bytes}
use Rattle.raw_region.specs.contracts.memory.Cells.{the_row as R, the_type}
use Rattle.raw_region.specs.contracts.memory.Cells.bytes_mut as f
use Rattle.raw_region.proofs.memory.Cells.bytes_mut.Statement.{statement}
use Rattle.raw_region.proofs.memory.Cells.bytes_mut.Code as code

abbrev stayed : Stays f.ended.signature.params f.ended.kept
stayed = (stay_dropped (mut_ref_to (0 ∷ []) tt (plain (λ _. R))) no, (stay_dropped _ yes, (stay_dropped _ yes, (stay_dropped _ yes, tt))))

module _ {M : Type 1} {𝓤 : Ura M} (𝓛 : Logic 𝓤) (d : Cells) (off len b o : ℕ) (inside : off + len ≤ length d.cells) (us : List Val) (at : ℕ × ℕ) where
  -- all that the cells own, but for the bytes of the run
  abbrev Unlent : Fml
  Unlent = fsep (Others 𝓛 b o d.cells off len inside) (fsep ((Struct (shape the_type)).own_val tt us) (cell_at full_share R.mir us at.0 at.1))

  all_again : d.at ≡ block_ptr b o → (xs : List ℕ) → length xs ≡ len → (ws : List ℕ) → length ws ≡ length xs
      → ent 𝓤 (sep 𝓤 (sem 𝓛 (cells (mem u8) ws b (off + o))) (sem 𝓛 Unlent)) (sem 𝓛 ((mem R).own_at (rewritten d off len ws) at.0 at.1))
  unfolding part_of
  all_again e xs long ws same =
      let new = rewritten d off len ws in
      let all : refill len (bytes_of d.cells off len) ws ≡ ws = take_front ws (drop (length ws) (bytes_of d.cells off len)) len (same ∙ long) in
      qed 𝓛 (‵ (cells (mem u8) ws b (off + o)) ∷ ‵ Unlent ∷ []) ∵ use1 𝓛 (‵ (row_owns b (off + o) (map Some ws))) (of_bytes 𝓛 b ws (off + o)) $ move ! (1 ∷ []) $ fsplit3 ! $ move ! (3 ∷ 0 ∷ []) $
      use2 𝓛 (‵ (row_owns b o (with_run d.cells off len (map Some ws)))) (lay_run 𝓛 b o d.cells off len inside (map Some ws) (length-map ws Some ∙ same ∙ long)) $
      rewrite ! 0 (λ (l : List ℕ). ‵ (row_owns b o (with_run d.cells off len (map Some l)))) (sym all) refl $ rewrite ! 0 (λ (p : Ptr). ‵ (cells_own p new.cells)) (sym e) refl $
      move ! (1 ∷ 0 ∷ []) $ fjoin ! $ move ! (1 ∷ 0 ∷ []) $ fjoin ! $ fpack ! (List Val) (λ vs. fsep (cell_at full_share R.mir vs at.0 at.1) (R.own_val new vs)) us $ done !

pub bytes_mut_spec : {M : Type 1} → statement M
bytes_mut_spec 𝓤 𝓛 𝓜 𝓡 wired =
    let c = f.clauses 𝓛 𝓜.mem 𝓡.returns in let W = walk_of 𝓛 f.ended stayed c in let 𝓣 = tables 𝓤 𝓛.H 𝓜 𝓡 𝓡.env in
    proved 𝓛 f.ended stayed c 𝓜 𝓡
    (Goes-spent_ref 𝓛 1 (0 ∷ []) tt (plain (λ _. R)), (Goes-dropped 𝓛 1 (plain (λ _. RawPtr)) yes (λ κs x w. refl), (Goes-dropped 𝓛 1 (plain (λ _. usize)) yes (λ κs x w. refl), (Goes-dropped 𝓛 1 (plain (λ _. usize)) yes (λ κs x w. refl), tt))))
    f.Key.name code.function (code.unfolded 𝓤 𝓛.H 𝓜 𝓡 wired)
    (λ κs. (mut_vals, (rawptr_vals, (uint_vals w64, (uint_vals w64, tt))))) (λ κs. (mut_Tells (named 0) κs.0 R, (rawptr_Tells, (uint_Tells w64, (uint_Tells w64, tt))))) (λ κs qs bounds a _ are.
    let κ = κs.0 in let q = qs.0 in let γ = a.0.ghost_name in let d = a.0.now in let at = a.0.ref_ptr in let ptr = a.1.0 in let off = a.1.1.0 in let len = a.1.1.1.0 in
    let y : W.Ghost = ((κs, qs, bounds, a, (mut_vals a.0, (rawptr_vals ptr, (uint_vals w64 off, (uint_vals w64 len, tt))))), tt) in
    let Asked = (ptr ≡ d.at) × IsHomeRun d.cells off len × (len < 2 ^ 63) in let new = rewritten d off len in
    qed 𝓛 (((‵ (flft κ q) ⊛ ‵ ftrue) ⊛ ‵ (owns (types_at f.signature.params κs) a y.0.4)) ∷ raw (fact 𝓤 Asked) ∷ []) ∵ move ! (1 ∷ []) $ heard ! Asked (λ asked.
    let inside = asked.1.0 in let xs = asked.1.1.0 in let is = asked.1.1.1 in let fits = are.1.1.1.0.1 in
    let long : length xs ≡ len = omega (arith, inside, ap length is, length-map xs Some, length-take len (drop off d.cells), length-drop off d.cells) in
    split ! $ split ! $ move ! (2 ∷ []) $ fsplit ! $ keep ! (0 ∷ 2 ∷ []) $
    -- [self; the token]
    enter ! _ _ _ _ _ $
    alloc_all ! (λ l. pass_all ! refl ((tt, tt), (((rawptr_Lawful 𝓛).typed ptr (ptr_val ptr ∷ []) refl).0, ((tt, record { fits = are.1.1.0.1 }), ((tt, record { fits = fits }), tt)))) $
    fsplit3 ! $ skip ! $ opens ! tt R {h = d} at.0 at.1 (λ us. move ! (1 ∷ []) $ fsplit ! $ move ! (1 ∷ []) $
    in_a_block ! d.at (λ p. cells_own p d.cells) (id⊢ 𝓤 (never 𝓤)) (λ b o e.
    let lies = off + o in let unlent = Unlent 𝓛 d off len b o inside us at in let room : (length xs < 2 ^ 64) × (length xs * 1 < 2 ^ 63) = (omega arith, omega arith) in
    let slice : GName → MutBor (List ℕ) = λ δ. record { ref_ptr = (b, lies); ghost_name = δ; now = xs } in
    take_at ! 2 $ rewrite ! 0 (λ (p : Ptr). ‵ (fat full_share (lone RawPtr.mir) (l 2) 0 (ptr_val p))) (asked.0 ∙ e) refl $ give_at ! 2 $
    first ! $ blocks ! $ sets ! (bin ! (get ! refl) (get ! refl) tt) refl (tt, tt) $
    sets_last ! (agg ! (and_then ! (get ! refl) (and_then ! (get ! refl) (no_more !)))) refl (tt, (tt, (record { fits = fits }, tt))) $
    exec ! 𝓣.C 𝓣.Λ (env (code.function).locals l) code.Mir.t-2 (at_ret _ (W.post y)) $ sets ! (of_opd ! (get ! refl)) refl (tt, (tt, (record { fits = fits }, tt))) $
    use1 𝓛 (‵ (row_owns b lies (take len (drop off d.cells))) ⊛ ‵ (Others 𝓛 b o d.cells off len inside)) (lift_run 𝓛 b o d.cells off len inside) $ split ! $
    rewrite ! 0 (λ (cs : List (Option ℕ)). ‵ (row_owns b lies cs)) is refl $ use1 𝓛 (‵ (cells (mem u8) xs b lies)) (to_bytes 𝓛 b xs lies) $
    move ! (1 ∷ 2 ∷ 3 ∷ []) $ fjoin3 ! $ move ! (2 ∷ 3 ∷ 4 ∷ 1 ∷ 0 ∷ []) $ group ! 5 $
    -- [the borrow of self, its name's two halves, the bytes, and all else that self owns, as one; the locals]
    use1 𝓛 (later (some (λ (δ : GName). ‵ ((MutSlice (named 0) κ u8).own_val (slice δ) (slice_val (b, lies) (length xs) ∷ [])) ⊛ ‵ (flft κ q) ⊛ ‵ (follows R (Array u8 0) γ δ new))))
    (lends_Elements 𝓛 R u8 new (named 0) κ q at.0 at.1 b lies γ xs room (sem 𝓛 unlent) (all_again 𝓛 d off len b o inside us at e xs long) (R.coded.code d) (R.coded.code d)) $ await ! tt $ pick ! (λ δ. split3 ! $
    rewrite ! 0 (λ (k : ℕ). ‵ ((MutSlice (named 0) κ u8).own_val (slice δ) (slice_val (b, lies) k ∷ []))) long refl $
    returns ! (look_at ! 0 refl) $ free_all ! refl $
    suffices ! _ (ends_at 𝓛 f.ended stayed c y (slice_val (b, lies) len) (slice δ) (tt, (tt, (tt, (tt, tt)))) (tt, (tt, (tt, (tt, tt))))) $
    nothing ! $ nothing ! $ join ! $ nothing ! $ join ! $ nothing ! $ join ! $ nothing ! $ join ! $ join ! $ nothing ! $ move ! (2 ∷ 0 ∷ []) $ join ! $ join ! $ frame ! $ says ! is $ done !))))))
