-- Rows of cells: a run is lifted out of one and laid back, a row is parted, and a run is viewed. Assumes `Logic`.
use Rattle.raw_region.proofs.Walks.{◌≡◌, ℕ, zero, suc, ◌+◌, ◌≤◌, List, [], ◌∷◌, ◌++◌, length, map, take, replicate, Option, Some, None, refl, sym, ap, subst, ◌∙◌, arith, Ura, full_share, ent, sep, emp, id⊢, Lft, Fml, ftrue, fsep, Logic, sem, ‵, ◌⊛◌, ◌$◌, ◌∵◌, !, qed, by, done, move, keep, skip, use0, use1, use2, split, fsplit, fjoin, rewrite, u8, nothing}
use lib.ListN.{drop, take-append-drop, length-take, length-drop, length-replicate}
use lib.Seq.{drop-drop}
use base.Logic.{via, snd∗, mono_r}
use types.SemTy.{cells}
use denote.Memory.{mem, part_at, shared_of}
use denote.Slice.{elements_shared}
use Rattle.raw_region.specs.Cells.{away, only, with_run}
use Rattle.raw_region.specs.Ownership.{row_owns, cell_lends, row_lends}

module _ {M : Type 1} {𝓤 : Ura M} (𝓛 : Logic 𝓤) (b : ℕ) where
  abbrev Row : ℕ → List (Option ℕ) → Fml
  Row = row_owns b

  apart : (xs ys : List (Option ℕ)) (o at : ℕ) → at ≡ length xs + o → ent 𝓤 (sem 𝓛 (Row o (xs ++ ys))) (sep 𝓤 (sem 𝓛 (Row o xs)) (sem 𝓛 (Row at ys)))
  apart [] ys o at e = qed 𝓛 (‵ (Row o ys) ∷ []) ∵ rewrite ! 0 (λ (k : ℕ). ‵ (Row k ys)) {x = at} (omega arith) refl $ nothing ! $ done !
  apart (x ∷ xs) ys o at e = qed 𝓛 (‵ (Row o (x ∷ xs ++ ys)) ∷ []) ∵ fsplit ! $ move ! (1 ∷ []) $
      use1 𝓛 (‵ (Row (o + 1) xs) ⊛ ‵ (Row at ys)) (apart xs ys (o + 1) at (omega arith)) $ split ! $ move ! (2 ∷ 0 ∷ []) $ fjoin ! $ done !

  together : (xs ys : List (Option ℕ)) (o at : ℕ) → at ≡ length xs + o → ent 𝓤 (sep 𝓤 (sem 𝓛 (Row o xs)) (sem 𝓛 (Row at ys))) (sem 𝓛 (Row o (xs ++ ys)))
  together [] ys o at e = qed 𝓛 (‵ ftrue ∷ ‵ (Row at ys) ∷ []) ∵ skip ! $ rewrite ! 0 (λ (k : ℕ). ‵ (Row k ys)) {x = o} (omega arith) refl $ done !
  together (x ∷ xs) ys o at e = qed 𝓛 (‵ (Row o (x ∷ xs)) ∷ ‵ (Row at ys) ∷ []) ∵ fsplit ! $ move ! (1 ∷ 2 ∷ []) $
      use2 𝓛 (‵ (Row (o + 1) (xs ++ ys))) (together xs ys (o + 1) at (omega arith)) $ move ! (1 ∷ 0 ∷ []) $ fjoin ! $ done !

  -- lent cells own nothing
  pub row_of_none : (n o : ℕ) → ent 𝓤 (emp 𝓤) (sem 𝓛 (Row o (replicate n None)))
  row_of_none zero o = id⊢ 𝓤 (emp 𝓤)
  row_of_none (suc n) o = qed 𝓛 [] ∵ use0 𝓛 (‵ (Row (o + 1) (replicate n None))) (row_of_none n (o + 1)) $ nothing ! $ fjoin ! $ done !

  module _ (o : ℕ) (row : List (Option ℕ)) (off len : ℕ) (inside : off + len ≤ length row) where
    -- what is left of the row
    abbrev pub Others : Fml
    Others = fsep (Row o (take off row)) (Row (len + (off + o)) (drop (off + len) row))

    abbrev run : List (Option ℕ)
    run = take len (drop off row)

    start_at : off + o ≡ length (take off row) + o
    start_at = omega (arith, length-take off row)

    pub lift_run : ent 𝓤 (sem 𝓛 (Row o row)) (sep 𝓤 (sem 𝓛 (Row (off + o) run)) (sem 𝓛 Others))
    lift_run =
        let rest = drop (off + len) row in
        let split_is : row ≡ take off row ++ (run ++ rest) = sym (take-append-drop off row) ∙ ap (λ l. take off row ++ l) (sym (take-append-drop len (drop off row)) ∙ ap (λ l. run ++ l) (drop-drop len off row)) in
        qed 𝓛 (‵ (Row o row) ∷ []) ∵ rewrite ! 0 (λ (l : List (Option ℕ)). ‵ (Row o l)) split_is refl $
        use1 𝓛 (‵ (Row o (take off row)) ⊛ ‵ (Row (off + o) (run ++ rest))) (apart (take off row) (run ++ rest) o (off + o) start_at) $ split ! $ move ! (1 ∷ []) $
        use1 𝓛 (‵ (Row (off + o) run) ⊛ ‵ (Row (len + (off + o)) rest)) (apart run rest (off + o) (len + (off + o)) (omega (arith, length-take len (drop off row), length-drop off row))) $
        split ! $ move ! (2 ∷ 1 ∷ []) $ fjoin ! $ move ! (1 ∷ []) $ done !

    pub lay_run : (new : List (Option ℕ)) → length new ≡ len → ent 𝓤 (sep 𝓤 (sem 𝓛 (Row (off + o) new)) (sem 𝓛 Others)) (sem 𝓛 (Row o (with_run row off len new)))
    lay_run new long =
        let rest = drop (off + len) row in
        qed 𝓛 (‵ (Row (off + o) new) ∷ ‵ Others ∷ []) ∵ move ! (1 ∷ []) $ fsplit ! $ move ! (2 ∷ 1 ∷ []) $
        use2 𝓛 (‵ (Row (off + o) (new ++ rest))) (together new rest (off + o) (len + (off + o)) (omega arith)) $ move ! (1 ∷ 0 ∷ []) $
        by ! (together (take off row) (new ++ rest) o (off + o) start_at)

  module _ (o : ℕ) (row : List (Option ℕ)) (off len : ℕ) where
    -- a run leaves the row
    pub part_row : off + len ≤ length row → ent 𝓤 (sem 𝓛 (Row o row)) (sep 𝓤 (sem 𝓛 (Row o (away row off len))) (sem 𝓛 (Row o (only row off len))))
    part_row inside =
        let run = take len (drop off row) in let none : Option ℕ = None in
        qed 𝓛 (‵ (Row o row) ∷ []) ∵ use1 𝓛 (‵ (Row (off + o) run) ⊛ ‵ (Others o row off len inside)) (lift_run o row off len inside) $ split ! $
        use0 𝓛 (‵ (Row o (replicate off None))) (row_of_none off o) $ move ! (0 ∷ 1 ∷ []) $
        use2 𝓛 (‵ (Row o (only row off len))) (together (replicate off None) run o (off + o) (omega (arith, length-replicate off none))) $ move ! (1 ∷ []) $
        use0 𝓛 (‵ (Row (off + o) (replicate len None))) (row_of_none len (off + o)) $ move ! (0 ∷ 1 ∷ []) $
        use2 𝓛 (‵ (Row o (away row off len))) (lay_run o row off len inside (replicate len None) (length-replicate len none)) $ done !

    -- a run of another row takes its place
    pub replace_run : (part : List (Option ℕ)) → off + len ≤ length row → off + len ≤ length part
        → ent 𝓤 (sep 𝓤 (sem 𝓛 (Row o row)) (sem 𝓛 (Row o part))) (sem 𝓛 (Row o (with_run row off len (take len (drop off part)))))
    replace_run part inside within =
        let run = take len (drop off part) in
        qed 𝓛 (‵ (Row o row) ∷ ‵ (Row o part) ∷ []) ∵ use1 𝓛 (‵ (Row (off + o) (take len (drop off row))) ⊛ ‵ (Others o row off len inside)) (lift_run o row off len inside) $ split ! $ skip ! $ move ! (1 ∷ []) $
        use1 𝓛 (‵ (Row (off + o) run) ⊛ ‵ (Others o part off len within)) (lift_run o part off len within) $ split ! $ move ! (0 ∷ 2 ∷ []) $
        use2 𝓛 (‵ (Row o (with_run row off len run))) (lay_run o row off len inside run (omega (arith, length-take len (drop off part), length-drop off part))) $ keep ! (0 ∷ []) $ done !

  -- a run of bytes at home is those bytes in memory
  pub to_bytes : (xs : List ℕ) (o : ℕ) → ent 𝓤 (sem 𝓛 (Row o (map Some xs))) (sem 𝓛 (cells (mem u8) xs b o))
  to_bytes [] o = id⊢ 𝓤 (emp 𝓤)
  to_bytes (x ∷ xs) o = mono_r 𝓤 (sem 𝓛 (part_at u8 full_share x b o)) (to_bytes xs (o + 1))

  pub of_bytes : (xs : List ℕ) (o : ℕ) → ent 𝓤 (sem 𝓛 (cells (mem u8) xs b o)) (sem 𝓛 (Row o (map Some xs)))
  of_bytes [] o = id⊢ 𝓤 (emp 𝓤)
  of_bytes (x ∷ xs) o = mono_r 𝓤 (sem 𝓛 (part_at u8 full_share x b o)) (of_bytes xs (o + 1))

  module _ (κ : Lft) where
    abbrev Seen : ℕ → List (Option ℕ) → Fml
    Seen o row = row_lends b o row κ

    seen_from : (row : List (Option ℕ)) (off o at : ℕ) → at ≡ off + o → ent 𝓤 (sem 𝓛 (Seen o row)) (sem 𝓛 (Seen at (drop off row)))
    seen_from row zero o at e = let same : o ≡ at = omega arith in subst (λ k. ent 𝓤 (sem 𝓛 (Seen o row)) (sem 𝓛 (Seen k row))) same (id⊢ 𝓤 _)
    seen_from [] (suc off) o at e = qed 𝓛 (‵ (Seen o []) ∷ []) ∵ keep ! [] $ done !
    seen_from (x ∷ row) (suc off) o at e = via 𝓤 (sem 𝓛 (Seen (o + 1) row)) (snd∗ 𝓤 (sem 𝓛 (cell_lends b o x κ)) (sem 𝓛 (Seen (o + 1) row))) (seen_from row off (o + 1) at (omega arith))

    seen_front : (xs : List ℕ) (rest : List (Option ℕ)) (o : ℕ) → ent 𝓤 (sem 𝓛 (Seen o (map Some xs ++ rest))) (sem 𝓛 (elements_shared u8 xs b o κ))
    seen_front [] rest o = qed 𝓛 (‵ (Seen o rest) ∷ []) ∵ keep ! [] $ done !
    seen_front (x ∷ xs) rest o = mono_r 𝓤 (sem 𝓛 (shared_of u8 x b o κ)) (seen_front xs rest (o + 1))

    pub view_run : (o : ℕ) (row : List (Option ℕ)) (off len : ℕ) (xs : List ℕ) → take len (drop off row) ≡ map Some xs
        → ent 𝓤 (sem 𝓛 (Seen o row)) (sem 𝓛 (elements_shared u8 xs b (off + o) κ))
    view_run o row off len xs e = qed 𝓛 (‵ (Seen o row) ∷ []) ∵ use1 𝓛 (‵ (Seen (off + o) (drop off row))) (seen_from row off o (off + o) refl) $
        rewrite ! 0 (λ (l : List (Option ℕ)). ‵ (Seen (off + o) l)) (sym (take-append-drop len (drop off row)) ∙ ap (λ l. l ++ drop len (drop off row)) e) refl $ by ! (seen_front xs (drop len (drop off row)) (off + o))
