-- `take_apart` makes cells of the bytes of a `Vec`. Assumes `Logic`.
use Rattle.raw_region.proofs.Walks.{◌<◌, List, [], ◌∷◌, ◌++◌, map, Some, refl, ftrue, Val, fact, tables, ‵, raw, ◌⊛◌, prop, ◌$◌, ◌∵◌, !, qed, done, move, skip, use1, use2, split, fsplit, fjoin, fpack, rewrite, regoal, suffices, WpFn, enter, of_opd, agg, and_then, no_more, returns, alloc_all, pass_all, free_all, look_at, get, sets, yes, plain, types_at, nothing, heard, alive, Stays, walk_of, says, stay_dropped, ends_at, bare, made_bare, wrapped, one_of}
use denote.Laws.{Typed}
use denote.Param.{layout}
use denote.RattleType.{owns}
use denote.Struct.Struct.{as_fields}
use denote.Struct.Tuple.{Tuple}
use Rattle.core.proofs.alloc.Calls.{Goes-blank}
use Rattle.std_alloc.proofs.Pairs.{pair_of, pair_val}
use Rattle.std.proofs.raw_atomic.Walks.{proved_at}
use Rattle.raw_region.specs.Ownership.{cells_own}
use Rattle.raw_region.proofs.Shells.{Bytes, bytes_laws, shell_left}
use Rattle.raw_region.specs.contracts.memory.Cells as Cells
use Rattle.raw_region.specs.contracts.shell.Shell as Shell
use Rattle.raw_region.specs.contracts.shell.take_apart as f
use Rattle.raw_region.proofs.shell.take_apart.Statement.{statement}
use Rattle.raw_region.proofs.shell.take_apart.Code as code

abbrev stayed : Stays f.ended.signature.params f.ended.kept
stayed = (stay_dropped (plain (λ _. Bytes)) yes, tt)

pub take_apart_spec : {M : Type 1} → statement M
take_apart_spec 𝓤 𝓛 𝓜 𝓡 wired =
    let c = f.clauses 𝓛 𝓜.mem 𝓡.returns in let W = walk_of 𝓛 f.ended stayed c in let 𝓣 = tables 𝓤 𝓛.H 𝓜 𝓡 𝓡.env in
    proved_at 𝓛 f.ended stayed c 𝓜 𝓡 (Goes-blank 𝓛 0 (plain (λ _. Bytes)) yes (λ κs x w. tt), tt) f.Key.name code.function (code.unfolded 𝓤 𝓛.H 𝓜 𝓡 wired) (λ y are.
    let v = y.0.3.0 in let vss = y.0.4 in let Asked = 0 < v.len in
    let one = one_of (layout Bytes) vss.0 ((bytes_laws.lawful 𝓛).typed v vss.0 are.0) in let u = one.0 in let is = one.1.0 in let good = one.1.1 in
    let inner = as_fields (layout Bytes ∷ []) (u ∷ []) (good, tt) in
    let cells : (Cells.the_row).Denot = record { at = v.ptr; cells = map Some v.items } in let shell : (Shell.the_row).Denot = record { first = v.ptr; len = v.len } in
    qed 𝓛 ((raw (alive 𝓛 f.signature y.0.0 y.0.1) ⊛ ‵ (owns (types_at f.signature.params y.0.0) y.0.3 vss)) ∷ raw (fact 𝓤 Asked) ∷ []) ∵
    move ! (1 ∷ []) $ heard ! Asked (λ some. split ! $ move ! (1 ∷ []) $ fsplit ! $ move ! (1 ∷ []) $ skip ! $
    rewrite ! 0 (λ (us : List Val). ‵ ((Bytes).own_val v us)) is refl $
    use1 𝓛 (‵ (cells_own v.ptr (map Some v.items)) ⊛ ‵ (Shell.the_own shell (wrapped u ∷ []))) (shell_left 𝓛 v u some) $ split ! $
    made_bare ! $ fjoin ! $ move ! (1 ∷ []) $ nothing ! $ fpack ! (Typed (Shell.the_row).mir (wrapped u ∷ [])) (λ _. ftrue) (inner, tt) $ fjoin ! $ move ! (1 ∷ 0 ∷ []) $
    use2 𝓛 (‵ ((Tuple (Cells.the_row ∷ Shell.the_row ∷ [])).own_val (cells, shell) (pair_val bare (wrapped u) ∷ []))) (pair_of 𝓛 Cells.the_row Shell.the_row cells shell bare (wrapped u)) $
    -- [the pair; the tokens]
    regoal ! (λ (us : List Val). prop (WpFn 𝓤 𝓛.H 𝓣.C 𝓣.Λ code.function (us ++ []) (W.post y))) is refl $
    enter ! _ _ _ _ _ $ alloc_all ! (λ l. pass_all ! refl (good, tt) $
    sets ! (agg ! (no_more !)) refl (tt, tt) $ sets ! (of_opd ! (get ! refl)) refl good $ sets ! (agg ! (and_then ! (get ! refl) (no_more !))) refl inner $
    sets ! (agg ! (and_then ! (get ! refl) (and_then ! (get ! refl) (no_more !)))) refl (as_fields (layout Cells.the_row ∷ layout Shell.the_row ∷ []) (bare ∷ wrapped u ∷ []) ((tt, tt), (inner, tt))) $
    returns ! (look_at ! 0 refl) $ free_all ! refl $
    suffices ! _ (ends_at 𝓛 f.ended stayed c y (pair_val bare (wrapped u)) (cells, shell) (tt, tt) (tt, tt)) $ says ! (refl, refl, refl, refl) $
    nothing ! $ nothing ! $ fjoin ! $ move ! (2 ∷ 0 ∷ 1 ∷ []) $ done !)))
