-- How many pools the arenas of a heap have, as their bases tell.
use Rattle.std.proofs.Common.{◌≡◌, ℕ, zero, suc, ◌+◌, ◌-◌, ◌≤◌, inl, inr, cond, eqb, List, [], ◌∷◌, map, length, get_or, Option, Some, None, refl, sym, ap, subst, ◌∙◌, arith}
use Rattle.std.proofs.lemmas.Bool.Decides.{eqb_tells}
use Rattle.extents.specs.Sums.{tally, Has}
use Rattle.extents.proofs.CallerLemmas.{tally_has}
use Rattle.layout_model.specs.Geometry.{total_at}
use Rattle.layout_model.specs.Layout.{Usable}
use Rattle.layout_model.specs.Sound.{is_arena}
use Rattle.arena_set.specs.Arena.{ArenaView}
use Rattle.arena_set.specs.Set.{dry_entry, line_of, nth_arena, region_in, usable_times}
use Rattle.py_heap.specs.Heap.{TotalIsTold, TotalsAreTold}
use Rattle.py_heap.specs.Kept.{State, heap_of, IsKeptState}
use Rattle.py_heap.proofs.Arenas.{region_at}

-- an arena that is in the list is counted there
is_listed : (u : Usable) (us : List Usable) → Has u us → 1 ≤ tally (is_arena u.arena) us
is_listed u us h =
    let here : is_arena u.arena u ≡ 1 = elim (eqb_tells u.arena u.arena) [ inl w ↦ rw w.0 refl | inr w ↦ absurd (w.1 refl) ] in
    omega (arith, tally_has (is_arena u.arena) u us h, here)

dry_at : (n : ℕ) (arenas : List (Option ArenaView)) → get_or (map dry_entry arenas) n None ≡ dry_entry (get_or arenas n None)
dry_at n [] = refl
dry_at zero (o ∷ arenas) = refl
dry_at (suc n) (o ∷ arenas) = dry_at n arenas

dry_total : (a : ArenaView) (total : ℕ) → dry_entry (Some a) ≡ Some total → total ≡ total_at a.region.base
dry_total a total is =
    (elim (eqb_tells (length a.free) 0) as (λ _. cond (eqb (length a.free) 0) (Some (total_at a.region.base)) None ≡ Some total → total ≡ total_at a.region.base) [
      | inl w ↦ rw w.0 (λ e. cc)
      | inr w ↦ rw w.0 (λ e. absurd (cc))
    ]) is

module _ (s : State) (k : IsKeptState s) where
  told : (n i total : ℕ) (a : ArenaView) → n ≡ i + 1 → get_or s.set.arenas i None ≡ Some a → total ≡ total_at a.region.base → TotalIsTold (heap_of s) n total
  told n i total a number there is =
      let back : n - 1 ≡ i = omega arith in
      record { region = a.region; some = omega arith; there = ap (λ j. get_or (heap_of s).arenas j None) back ∙ (region_at i s.set.arenas ∙ ap region_in there); is = is }

  usable_told : (n : ℕ) (o : Option ArenaView) → nth_arena s.set.arenas n ≡ o → 1 ≤ usable_times o → TotalIsTold (heap_of s) n (line_of n o).total
  usable_told n None there one = absurd (omega arith)
  usable_told zero (Some a) there one = absurd (cc)
  usable_told (suc i) (Some a) there one = told (suc i) i (total_at a.region.base) a (omega arith) there refl

  dry_told : (i total : ℕ) (o : Option ArenaView) → get_or s.set.arenas i None ≡ o → dry_entry o ≡ Some total → TotalIsTold (heap_of s) (suc i) total
  dry_told i total None there is = absurd (cc)
  dry_told i total (Some a) there is = told (suc i) i total a (omega arith) there (dry_total a total is)

  of_dry : (n total : ℕ) → get_or (heap_of s).layout.dry n None ≡ Some total → TotalIsTold (heap_of s) n total
  of_dry zero total is = absurd (cc)
  of_dry (suc i) total is = dry_told i total (get_or s.set.arenas i None) refl (sym (dry_at i s.set.arenas) ∙ is)

  pub totals_are_told : TotalsAreTold (heap_of s)
  totals_are_told = record {
    usable = λ u h.
        let line = ap (λ (v : Usable). v.total) (k.sound_set.lines u h) in
        let l = k.sound_set.listed u.arena in
        let some : 1 ≤ tally (is_arena u.arena) s.set.usable = is_listed u s.set.usable h in
        subst (TotalIsTold (heap_of s) u.arena) (sym line) (usable_told u.arena (nth_arena s.set.arenas u.arena) refl (omega arith));
    dry = of_dry;
  }
