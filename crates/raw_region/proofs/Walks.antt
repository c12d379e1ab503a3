-- The names that the walks cite.
pub use Rattle.std.proofs.Common.{◌≡◌, ℕ, zero, suc, ◌+◌, ◌-◌, ◌*◌, ◌^◌, ◌<◌, ◌≤◌, List, [], ◌∷◌, ◌++◌, length, map, get_or, set, take, replicate, Some, None, refl, sym, ap, subst, ◌∙◌, lit<, w8, w64, MutBor, arith}
pub use Rattle.std.specs.Prelude.{Option}
pub use Rattle.std.proofs.raw_atomic.Walks.{proved, leaves}
pub use seplogic.Ra.Ura.{Ura}
pub use base.Fraction.{full_share}
pub use base.Logic.{SProp, ent, sep, emp, never, id⊢}
pub use base.Fml.{Lft, Fml, ftrue, fsep, fat, flft, fobs, fbor}
pub use mir.Syntax.{ty_int, named}
pub use mir.Val.{Val, vunit, vint, vptr}
pub use contract.Monad.{fact, fact_i}
pub use contract.Running.{tables}
pub use prog.Wp.{WpFn}
pub use types.Logic.{Logic, sem}
pub use types.Kit.{‵, raw, ◌⊛◌, some, later, prop, at_ret, ◌$◌, ◌∵◌, !, qed, by, done, move, keep, use0, use1, use2, split, join, fsplit, fsplit3, fjoin, fpick, fpack, feq_i, feq_l, flt_i, flt_l, pick, await, rewrite, regoal, suffices, frame, group}
pub use types.Kit.{drop as skip}
pub use types.Part.{agg}
pub use types.Run.{enter, of_opd, unit_lit, bin, addr, load, look, store, stop, no_more, and_then, assigns_last, first, blocks, exec, returns, well_typed}
pub use types.ByLocal.{alloc_all, pass_all, free_all, look_at, get, through, sets, sets_last, env}
pub use denote.Builtin.{u8, usize}
pub use denote.Copied.{uint_Copied}
pub use denote.Exit.{yes, no}
pub use denote.Plain.{uint_in, uint_out, uint_Makes, uint_vals, uint_Tells}
pub use denote.RawPtr.{Ptr, RawPtr, block_ptr, in_a_block, rawptr_vals, rawptr_Tells}
pub use denote.Ref.{MutRef, ShrRef, mut_vals, mut_Tells, shr_vals, shr_Tells}
pub use denote.RattleType.{RattleType}
pub use denote.Signature.{plain, types_at}
pub use denote.Struct.Struct.{Struct}
pub use denote.Steps.{nothing, opens, closes, looks, shuts, tied, ties, heard}
pub use denote.Triple.Entry.{on_entry, alive}
pub use denote.Triple.Walked.{Stays, walk_of, says, stay_dropped, Goes-dropped, stay_ref, Goes-ref, Goes-spent_ref, ends_at}
pub use Rattle.std_alloc.proofs.VecSteps.Shapes.{after}
use denote.RattleType.{Valss}
use denote.Laws.{Typed, Is, shows}
use denote.Param.{param, layout}
use denote.Param.Laws.{Laws, param_laws}
use denote.Steps.{peeks}
use lib.Dec.{T}
use mir.Syntax.{Ty}
use denote.Struct.Struct.{Shape, within}
use mir.Val.{vstruct, vcons, vnil, has_ty, WT}
use types.Kit.{Goal, Item, Seq, Step, step}

-- the machine value of a struct with no fields
abbrev pub bare : Val
bare = vstruct vnil

module _ {M : Type 1} {𝓤 : Ura M} {𝓛 : Logic 𝓤} {K : Type 0} {Γ : List (Item 𝓤)} {G : Goal 𝓤 𝓛.H} where
  -- what such a struct's fields own
  pub made_bare : K → Step K 𝓛 (‵ ((Struct (record { name = []; args = []; types = []; fields = [] })).own_val tt (bare ∷ [])) ∷ Γ) G Γ G
  made_bare t = step (λ s. nothing t $ feq_i t (List Val) (bare ∷ []) (bare ∷ []) refl $ fjoin t $ fpack t (Valss []) (within (record { name = []; args = []; types = []; fields = [] }) tt (bare ∷ [])) tt $ s)

abbrev pub one_field : RattleType → Shape
one_field R = record { name = []; args = []; types = []; fields = R ∷ [] }

-- the machine value of a struct with one field
abbrev pub wrapped : Val → Val
wrapped u = vstruct (vcons u vnil)

module _ {M : Type 1} {𝓤 : Ura M} {𝓛 : Logic 𝓤} {K : Type 0} {Γ : List (Item 𝓤)} {G : Goal 𝓤 𝓛.H} where
  pub made_wrapped : K → (R : RattleType) (x : R.Denot) (u : Val) → Step K 𝓛 (‵ ((Struct (one_field R)).own_val (x, tt) (wrapped u ∷ [])) ∷ Γ) G (‵ (R.own_val x (u ∷ [])) ∷ Γ) G
  made_wrapped t R x u = step (λ s. nothing t $ move t (1 ∷ 0 ∷ []) $ fjoin t $ feq_i t (List Val) (wrapped u ∷ []) (wrapped u ∷ []) refl $ fjoin t $
      fpack t (Valss (R ∷ [])) (within (one_field R) (x, tt) (wrapped u ∷ [])) (u ∷ [], tt) $ s)

-- a value of one machine word, or of one struct, is one machine value of that type
pub one_of : (τ : Ty) (vs : List Val) → Typed (τ ∷ []) vs → (u : Val) × ((vs ≡ u ∷ []) × (T (has_ty τ u) × WT u))
one_of τ [] t = absurd t
one_of τ (u ∷ []) t = (u, (refl, t.0))
one_of τ (u ∷ v ∷ vs) t = absurd t.1

module _ {M : Type 1} {𝓤 : Ura M} {𝓛 : Logic 𝓤} {K : Type 0} {Γ : List (Item 𝓤)} {G : Goal 𝓤 𝓛.H} where
  -- such values, taken apart
  pub had_bare : K → (vs : List Val) → (vs ≡ bare ∷ [] → Seq K 𝓛 Γ G) → Seq K 𝓛 (‵ ((Struct (record { name = []; args = []; types = []; fields = [] })).own_val tt vs) ∷ Γ) G
  had_bare t vs k = fpick t (λ vss. fsplit t $ feq_l t (λ e. skip t $ k e))

  pub had_wrapped : K → (R : RattleType) → Laws R → (x : R.Denot) (vs : List Val)
      → ((u : Val) → vs ≡ wrapped u ∷ [] → T (has_ty (layout R) u) × WT u → Seq K 𝓛 (‵ (R.own_val x (u ∷ [])) ∷ Γ) G)
      → Seq K 𝓛 (‵ ((Struct (one_field R)).own_val (x, tt) vs) ∷ Γ) G
  had_wrapped t R L x vs k = fpick t (λ vss. fsplit t $ feq_l t (λ e. fsplit t $ move t (1 ∷ []) $ skip t $ peeks t (param 0 R) (Is (param 0 R)) (shows 𝓛 (param 0 R)) x vss.0 (λ is.
      let one = one_of (layout R) vss.0 (((param_laws 0 R L).lawful 𝓛).typed x vss.0 is) in
      rewrite t 0 (λ (us : List Val). ‵ (R.own_val x us)) one.1.0 refl $ k one.0 (rw one.1.0 at e) one.1.1)))
