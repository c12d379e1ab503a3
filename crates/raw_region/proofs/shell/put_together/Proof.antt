-- `put_together` gives the shell the bytes that it waits for. Assumes `Logic`.
use Rattle.raw_region.proofs.Walks.{◌≡◌, ℕ, List, [], ◌∷◌, ◌++◌, length, map, Some, refl, sym, ap, subst, ◌∙◌, fsep, sem, Val, fact, tables, ‵, raw, ◌⊛◌, prop, ◌$◌, ◌∵◌, !, qed, done, move, skip, use1, use2, split, fsplit, fjoin, fpick, feq_i, feq_l, rewrite, regoal, suffices, WpFn, enter, of_opd, returns, alloc_all, pass_all, free_all, look_at, get, sets, Ptr, yes, plain, types_at, nothing, heard, alive, Stays, walk_of, says, stay_dropped, ends_at, Struct, one_field, had_bare, had_wrapped}
use Rattle.std.proofs.lemmas.List.{with_items_is, length-map}
use Rattle.std.specs.Vec.{with_items}
use base.Logic.{all_e, apply∗}
use base.Fml.{feq, fwand}
use types.Part.{sub, whole}
use types.Run.{fld, stop}
use types.ByLocal.{get_in}
use denote.Laws.{Typed}
use denote.RattleType.{owns}
use Rattle.core.proofs.alloc.Calls.{Goes-blank}
use Rattle.std.proofs.raw_atomic.Walks.{proved_at}
use Rattle.raw_region.specs.Cells.{AllHome, at_home}
use Rattle.raw_region.specs.Ownership.{cells_own}
use Rattle.raw_region.proofs.Shells.{Bytes, bytes_laws}
use Rattle.raw_region.specs.contracts.memory.Cells as Cells
use Rattle.raw_region.specs.contracts.shell.Shell as Shell
use Rattle.raw_region.specs.contracts.shell.put_together as f
use Rattle.raw_region.proofs.shell.put_together.Statement.{statement}
use Rattle.raw_region.proofs.shell.put_together.Code as code

abbrev stayed : Stays f.ended.signature.params f.ended.kept
stayed = (stay_dropped (plain (λ _. Cells.the_row)) yes, (stay_dropped (plain (λ _. Shell.the_row)) yes, tt))

pub put_together_spec : {M : Type 1} → statement M
put_together_spec 𝓤 𝓛 𝓜 𝓡 wired =
    let c = f.clauses 𝓛 𝓜.mem 𝓡.returns in let W = walk_of 𝓛 f.ended stayed c in let 𝓣 = tables 𝓤 𝓛.H 𝓜 𝓡 𝓡.env in
    proved_at 𝓛 f.ended stayed c 𝓜 𝓡 (Goes-blank 𝓛 0 (plain (λ _. Cells.the_row)) yes (λ κs x w. tt), (Goes-blank 𝓛 0 (plain (λ _. Shell.the_row)) yes (λ κs x w. tt), tt))
    f.Key.name code.function (code.unfolded 𝓤 𝓛.H 𝓜 𝓡 wired) (λ y are.
    let cells = y.0.3.0 in let shell = y.0.3.1.0 in let vss = y.0.4 in let xs = at_home cells.cells in
    let Asked = (cells.at ≡ shell.first) × AllHome cells.cells × (length cells.cells ≡ shell.len) in
    qed 𝓛 ((raw (alive 𝓛 f.signature y.0.0 y.0.1) ⊛ ‵ (owns (types_at f.signature.params y.0.0) y.0.3 vss)) ∷ raw (fact 𝓤 Asked) ∷ []) ∵
    move ! (1 ∷ []) $ heard ! Asked (λ asked. split ! $ move ! (1 ∷ []) $ fsplit ! $ fsplit ! $ had_bare ! vss.0 (λ is₀. move ! (1 ∷ []) $ fsplit ! $ fsplit ! $ fpick ! (λ typed. skip ! $ fpick ! (λ inside. fsplit ! $ feq_l ! (λ len.
    let long : length xs ≡ shell.len = sym (length-map xs Some) ∙ sym (ap length asked.1) ∙ asked.2 in
    let Given = λ (ys : List ℕ). fsep (feq ℕ (length ys) shell.len) (cells_own shell.first (map Some ys)) in
    let Whole = λ (ys : List ℕ). (Struct (one_field Bytes)).own_val (with_items inside.vec ys, tt) vss.1.0 in
    -- [what makes a `Vec` of bytes; the end of the parameters; the cells; the tokens]
    use1 𝓛 (‵ (fwand (Given xs) (Whole xs))) (all_e 𝓤 (λ ys. sem 𝓛 (fwand (Given ys) (Whole ys))) xs) $ move ! (2 ∷ []) $
    rewrite ! 0 (λ (p : Ptr). ‵ (cells_own p cells.cells)) asked.0 refl $ rewrite ! 0 (λ l. ‵ (cells_own shell.first l)) asked.1 refl $ feq_i ! ℕ (length xs) shell.len long $ fjoin ! $
    use2 𝓛 (‵ (Whole xs)) (apply∗ 𝓤 (sem 𝓛 (Given xs)) (sem 𝓛 (Whole xs))) $ had_wrapped ! Bytes bytes_laws (with_items inside.vec xs) vss.1.0 (λ u is₁ good. move ! (1 ∷ []) $ skip ! $
    -- [the `Vec`; the tokens]
    regoal ! (λ (us : List Val × List Val). prop (WpFn 𝓤 𝓛.H 𝓣.C 𝓣.Λ code.function (us.0 ++ (us.1 ++ [])) (W.post y))) (λ i. (is₀ i, is₁ i)) refl $
    enter ! _ _ _ _ _ $ alloc_all ! (λ l. pass_all ! refl ((tt, tt), ((subst (Typed (Shell.the_row).mir) is₁ typed).0, tt)) $
    sets ! (of_opd ! (get_in ! (fld ! refl (stop !)) (sub ! 0 refl (whole !)))) refl good $ sets ! (of_opd ! (get ! refl)) refl good $
    returns ! (look_at ! 0 refl) $ free_all ! refl $
    suffices ! _ (ends_at 𝓛 f.ended stayed c y u (with_items inside.vec xs) (tt, (tt, tt)) (tt, (tt, tt))) $ says ! (with_items_is inside.vec xs (long ∙ sym len)) $
    nothing ! $ nothing ! $ fjoin ! $ nothing ! $ fjoin ! $ move ! (2 ∷ 0 ∷ 1 ∷ []) $ done !))))))))
