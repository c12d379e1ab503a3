-- What a `Vec` of bytes owns is parted into cells at home and a shell. Assumes `Logic`.
use Rattle.raw_region.proofs.Walks.{◌≡◌, ℕ, ◌+◌, ◌<◌, List, [], ◌∷◌, length, map, Some, refl, sym, arith, Ura, full_share, ent, sep, never, id⊢, fsep, Logic, sem, ‵, ◌$◌, ◌∵◌, !, qed, done, move, skip, use1, fsplit, fjoin, feq_i, feq_l, rewrite, frame, in_a_block, Ptr, block_ptr, RattleType, u8, Val, Struct, one_field, wrapped, made_wrapped}
use Rattle.std.proofs.Common.{true}
use Rattle.std.proofs.lemmas.Bool.{ne_eqb, not_from_false}
use Rattle.std.proofs.lemmas.List.{with_items_is}
use base.Logic.{wand, mono_r}
use base.Fml.{feq, fall, fwand}
use types.Kit.{each, assume, show}
use denote.Array.{Array}
use denote.Memory.{part_at}
use denote.Param.Laws.{Laws}
use denote.RawPtr.{in_block}
use denote.RawPtr.Bytes.{bytes, bytes_apart, bytes_whole}
use Rattle.std.specs.Allocator.{block_with_items}
use Rattle.std.specs.Vec.{with_items}
use Rattle.std.specs.contracts.alloc.Global as Global
use Rattle.std.specs.contracts.impls.GlobalAllocator.TheImpl.{ghosts}
use Rattle.std_alloc.specs.Vec.Ownership.{owns_if, has_block}
use Rattle.std_alloc.specs.contracts.vec.Vec as V
use Rattle.std_alloc.proofs.vec.Vec.TheLaws as vec_laws
use Rattle.std.proofs.alloc.Global.TheLaws as global_laws
use Rattle.raw_region.specs.Ownership.{row_owns, cells_own}
use Rattle.raw_region.specs.contracts.shell.Shell as Shell
use Rattle.raw_region.proofs.Sharing.{byte_laws}

abbrev pub Bytes : RattleType
Bytes = V.the_row u8 Global.the_row ghosts

pub bytes_laws : Laws Bytes
bytes_laws = vec_laws.the_row_laws u8 Global.the_row ghosts byte_laws global_laws.the_row_laws

module _ {M : Type 1} {𝓤 : Ura M} (𝓛 : Logic 𝓤) (b : ℕ) where
  to_row : (xs : List ℕ) (o : ℕ) → ent 𝓤 (sem 𝓛 (bytes full_share xs b o)) (sem 𝓛 (row_owns b o (map Some xs)))
  to_row [] o = id⊢ 𝓤 _
  to_row (x ∷ xs) o = mono_r 𝓤 (sem 𝓛 (part_at u8 full_share x b o)) (to_row xs (o + 1))

  of_row : (xs : List ℕ) (o : ℕ) → ent 𝓤 (sem 𝓛 (row_owns b o (map Some xs))) (sem 𝓛 (bytes full_share xs b o))
  of_row [] o = id⊢ 𝓤 _
  of_row (x ∷ xs) o = mono_r 𝓤 (sem 𝓛 (part_at u8 full_share x b o)) (of_row xs (o + 1))

module _ {M : Type 1} {𝓤 : Ura M} (𝓛 : Logic 𝓤) (v : (Bytes).Denot) (u : Val) where
  pub shell_left : 0 < v.len → ent 𝓤 (sem 𝓛 ((Bytes).own_val v (u ∷ []))) (sep 𝓤 (sem 𝓛 (cells_own v.ptr (map Some v.items))) (sem 𝓛 (Shell.the_own (record { first = v.ptr; len = v.len }) (wrapped u ∷ []))))
  shell_left some =
      let live : has_block v.cap ≡ true = not_from_false _ (ne_eqb v.cap 0 (λ e. omega (arith, v.ok.1))) in
      let Block = λ (p : Ptr) (xs : List ℕ). block_with_items (ghosts.dealloc_token v.alloc) u8 p v.len v.cap xs in
      let Given = λ (xs : List ℕ). fsep (feq ℕ (length xs) v.len) (cells_own v.ptr (map Some xs)) in
      let Whole = λ (xs : List ℕ). (Struct (one_field Bytes)).own_val (with_items v xs, tt) (wrapped u ∷ []) in
      qed 𝓛 (‵ ((Bytes).own_val v (u ∷ [])) ∷ []) ∵ fsplit ! $ move ! (1 ∷ []) $ fsplit ! $ move ! (1 ∷ []) $
      in_a_block ! v.ptr (λ p. in_block p (owns_if (has_block v.cap) (Block p v.items))) (id⊢ 𝓤 (never 𝓤)) (λ b o at.
      rewrite ! 0 (λ y. ‵ (owns_if y (Block (block_ptr b o) v.items))) live refl $ fsplit ! $
      use1 𝓛 (‵ (fsep (feq ℕ (length v.items) v.len) (bytes full_share v.items b o))) (bytes_apart 𝓛 full_share v.len v.items b o) $ fsplit ! $ move ! (1 ∷ []) $
      use1 𝓛 (‵ (row_owns b o (map Some v.items))) (to_row 𝓛 b v.items o) $ rewrite ! 0 (λ (p : Ptr). ‵ (cells_own p (map Some v.items))) (sym at) refl $ frame ! $ skip ! $
      -- [the room past the bytes, with the token; that the block is small; the fields]
      show ! (λ i. sem 𝓛 (fsep (feq ℕ i.vec.len v.len) (fall (List ℕ) (λ xs. fwand (Given xs) ((Struct (one_field Bytes)).own_val (with_items i.vec xs, tt) (wrapped u ∷ [])))))) (record { vec = v }) $
      feq_i ! ℕ v.len v.len refl $ frame ! $ each ! (λ xs. wand 𝓤 (sem 𝓛 (Given xs)) (sem 𝓛 (Whole xs))) (λ xs. assume ! (‵ (Given xs)) $ fsplit ! $ feq_l ! (λ long.
      -- [new bytes; then these three again]
      let ys = (with_items v xs).items in
      rewrite ! 0 (λ (p : Ptr). ‵ (cells_own p (map Some xs))) at refl $ use1 𝓛 (‵ (bytes full_share xs b o)) (of_row 𝓛 b xs o) $ feq_i ! ℕ (length xs) v.len long $ fjoin ! $
      use1 𝓛 (‵ (part_at (Array u8 v.len) full_share xs b o)) (bytes_whole 𝓛 full_share v.len xs b o) $ fjoin ! $
      rewrite ! 0 (λ (l : List ℕ). ‵ (Block (block_ptr b o) l)) (sym (with_items_is v xs long)) refl $ rewrite ! 0 (λ y. ‵ (owns_if y (Block (block_ptr b o) ys))) (sym live) refl $
      rewrite ! 0 (λ (p : Ptr). ‵ (in_block p (owns_if (has_block v.cap) (Block p ys)))) (sym at) refl $
      move ! (1 ∷ 0 ∷ []) $ fjoin ! $ move ! (1 ∷ 0 ∷ []) $ fjoin ! $ made_wrapped ! Bytes (with_items v xs) u $ done !)))
