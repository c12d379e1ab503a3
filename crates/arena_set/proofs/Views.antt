-- What is seen of a set.
use Rattle.std.proofs.Common.{◌≡◌, ℕ, zero, suc, ◌+◌, inl, inr, List, [], ◌∷◌, get_or, Option, None, refl, sym, ap, subst, ◌∙◌, arith, add-one}
use Rattle.std.proofs.lemmas.Bool.Decides.{eqb_tells}
use Rattle.extents.specs.Sums.{tally, Has}
use Rattle.layout_model.specs.Layout.{Usable}
use Rattle.layout_model.specs.Sound.{is_arena}
use Rattle.links.specs.Nodes.{times}
use Rattle.arena_set.specs.Arena.{ArenaView}
use Rattle.arena_set.specs.Set.{line_of, nth_arena, usable_times, IsSet}
use Rattle.arena_set.specs.Kept.{PlacedSet, lines_of, view_of, IsPlaced}
use Rattle.arena_set.proofs.Lines.{line_number, number_tells}

-- an arena's line is as often in the lines as its place in the places
line_times : (arenas : List (Option ArenaView)) (i : ℕ) (is : List ℕ) → tally (is_arena (i + 1)) (lines_of arenas is) ≡ times i is
line_times arenas i [] = refl
line_times arenas i (j ∷ js) =
    let number = line_number (j + 1) (get_or arenas j None) in
    let rest = line_times arenas i js in
    rw number (elim (number_tells j i) [ inl w ↦ rw (w.0, w.1) (omega arith) | inr w ↦ rw (w.0, w.1) (omega arith) ])

-- no line has the number 0
no_line : (arenas : List (Option ArenaView)) (is : List ℕ) → tally (is_arena 0) (lines_of arenas is) ≡ 0
no_line arenas [] = refl
no_line arenas (j ∷ js) =
    let number = line_number (j + 1) (get_or arenas j None) in
    rw number (elim (eqb_tells (j + 1) 0) [ inl w ↦ absurd (omega arith) | inr w ↦ rw w.0 (let rest = no_line arenas js in omega arith) ])

-- arena n by its place
nth_at : (arenas : List (Option ArenaView)) (i : ℕ) → nth_arena arenas (i + 1) ≡ get_or arenas i None
nth_at arenas i = ap (λ n. get_or (None ∷ arenas) n None) (add-one i)

line_is : (arenas : List (Option ArenaView)) (is : List ℕ) (u : Usable) → Has u (lines_of arenas is) → u ≡ line_of u.arena (nth_arena arenas u.arena)
line_is arenas [] u h = absurd h
line_is arenas (j ∷ js) u (inl e) =
    let number : u.arena ≡ j + 1 = ap (λ (x : Usable). x.arena) (sym e) ∙ line_number (j + 1) (get_or arenas j None) in
    sym e ∙ (ap (line_of (j + 1)) (sym (nth_at arenas j)) ∙ ap (λ n. line_of n (nth_arena arenas n)) (sym number))
line_is arenas (j ∷ js) u (inr h) = line_is arenas js u h

listed_by : (p : PlacedSet) → IsPlaced p → (n : ℕ) → tally (is_arena n) (view_of p).usable ≡ usable_times (nth_arena p.arenas n)
listed_by p sound zero = no_line p.arenas p.usable
listed_by p sound (suc i) =
    let next = add-one i in
    subst (λ n. tally (is_arena n) (view_of p).usable ≡ usable_times (nth_arena p.arenas n)) next
    (line_times p.arenas i p.usable ∙ (sound.listed i ∙ ap usable_times (sym (nth_at p.arenas i))))

-- what is kept of a set is seen of it
pub seen_is_set : (p : PlacedSet) → IsPlaced p → IsSet (view_of p)
seen_is_set p sound = record { lines = line_is p.arenas p.usable; listed = listed_by p sound; arenas = sound.arenas; apart = sound.apart; named = sound.named }
