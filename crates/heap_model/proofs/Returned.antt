-- A block that was its pool's last is unplaced, and the pool comes back to its arena.
use Rattle.std.proofs.Common.{◌≡◌, ◌≢◌, ◌⊎◌, ℕ, ◌+◌, inl, inr, Bool, true, false, ◌&&◌, not, cond, eqb, List, ◌∷◌, ◌++◌, map, get_or, set, Option, Some, None, refl, sym, ap, subst, ◌∙◌, arith}
use Rattle.std.proofs.lemmas.Bool.Decides.{eqb_tells}
use Rattle.std.proofs.lemmas.List.{map-append}
use Rattle.extents.specs.Sums.{Has}
use Rattle.extents.proofs.CallerLemmas.{has_new, has_either}
use Rattle.layout_model.specs.Layout.{Layout, Usable, Used}
use Rattle.layout_model.specs.Sizes.{capacity}
use Rattle.layout_model.specs.Sound.{is_arena}
use Rattle.layout_model.specs.Place.{pools_of_class}
use Rattle.layout_model.specs.Unplace.{without_pool, find_arena, without_arena, is_last, put_arena, pool_back, arena_back_by, arena_back, unplace}
use Rattle.layout_model.proofs.CallerLemmas.{many}
use Rattle.layout_model.proofs.CallerLemmas.{found_arena, tally_apart}
use Rattle.layout_model.proofs.CallerLemmas.{only_none_total, one_if_same}
use Rattle.layout_model.specs.Geometry.{PoolLine}
use Rattle.heap_model.specs.Tables.{Spot, Tables, spot_of}
use Rattle.heap_model.specs.View.{used_at, used_pool, used_of, full_pool, full_of, layout_of}
use Rattle.heap_model.specs.Kept.{AreOrderly, IsKept}
use Rattle.heap_model.specs.Changes.{FreedLast, WentFirst, WasPut, WentBack, CameBack}
use Rattle.heap_model.specs.Laws.{OthersStay, IsUnplaced}
use Rattle.heap_model.proofs.Picks.{map_same}
use Rattle.heap_model.proofs.Orderly.{pool_goes}
use Rattle.heap_model.proofs.Useds.{used_gone, used_set}
use Rattle.heap_model.proofs.Places.{places_go}
use Rattle.heap_model.proofs.Numbered.{numbered_left}
use Rattle.heap_model.proofs.Placed.{not_full}
use Rattle.heap_model.proofs.Unplaced.{listed, unplaced, without_past}

-- the layout without a pool
abbrev without : Layout → ℕ → ℕ → Layout
without l k c = record l { used = set l.used c (without_pool k (pools_of_class l c)) }

-- what a pool that goes changes, whatever becomes of its arena
record Left (x : PoolLine) (old new : Tables) : Type 0 where
  orderly : AreOrderly new.started new.lists new.taken
  here : Has x old.started
  others : OthersStay x.number old new
  used : used_of new.started new.lists ≡ (without (layout_of old) x.number x.class).used
  full : full_of new.taken new.started ≡ full_of old.taken old.started
  unplaced : unplace (layout_of old) x.number ≡ arena_back (without (layout_of old) x.number x.class) x.arena

leaves : (x : PoolLine) (rest : List Spot) (old new : Tables) → IsKept old → FreedLast x rest old new → Left x old new
leaves x rest old new kept ch =
    let c : ℕ = x.class in
    let o = kept.orderly in
    let r = ch.started in
    let here = has_new x new.started old.started r in
    let half : x.live ≢ capacity c = λ e. let room = many c (o.pools x here).small in let one = ch.last in absurd (omega arith) in
    let before : List Spot = ch.left.before in
    let after : List Spot = ch.left.after in
    let li = listed x before after old kept here half ch.left.with in
    let orderly2 : AreOrderly new.started (set old.lists c rest) old.taken = pool_goes x old.started new.started old.lists rest old.taken o r half ch.left in
    let f : Spot → Used = used_at old.started in
    let g : Spot → Used = used_at new.started in
    let stays = used_gone x old.started new.started r in
    let l : Layout = layout_of old in
    let out : without_pool x.number (pools_of_class l c) ≡ map f before ++ map f after = ap (without_pool x.number) li.pools ∙ without_past f x.number before (used_pool x) (map f after) li.other_before refl in
    let absent : (s : Spot) → Has s (before ++ after) → spot_of x ≢ s = λ s h. elim (has_either s before after h) [ inl a ↦ li.absent_before s a | inr b ↦ li.absent_after s b ] in
    let now : map g rest ≡ without_pool x.number (pools_of_class l c) =
    ap (map g) ch.left.without ∙ (map_same g f (before ++ after) (λ s h. stays s (absent s h)) ∙ (map-append f before after ∙ sym out)) in
    let test : eqb x.live 1 ≡ true = elim (eqb_tells x.live 1) [ inl w ↦ w.0 | inr w ↦ absurd (w.1 ch.last) ] in
    record {
      orderly = rw (ch.lists, ch.taken) orderly2;
      here = here;
      others = places_go x old new o r ch.taken;
      used = ap (used_of new.started) ch.lists ∙ (used_set old.started new.started old.lists c rest li.inside (λ d s n h. stays s (li.absent_else d s n h)) ∙ ap (set (used_of old.started old.lists) c) now);
      full = ap (λ n. full_of n new.started) ch.taken ∙ numbered_left full_pool None old.taken x old.started new.started r li.known (o.numbers x.number) (not_full x half);
      unplaced = li.unplaced ∙ rw test refl;
    }

pub dry_arena_gets_pool : (x : PoolLine) (rest : List Spot) (total : ℕ) (old new : Tables) → IsKept old → FreedLast x rest old new → WentFirst x.arena total old new → IsUnplaced x old new
dry_arena_gets_pool x rest total old new kept ch arena =
    let f = leaves x rest old new kept ch in
    let l : Layout = without (layout_of old) x.number x.class in
    let after : Layout = record l { usable = record { arena = x.arena; total = total; free = 1 } ∷ l.usable; dry = set l.dry x.arena None } in
    let law : unplace (layout_of old) x.number ≡ after = f.unplaced ∙ ap (λ o. arena_back_by l x.arena o (find_arena x.arena l.usable)) arena.was in
    let same : layout_of new ≡ after = λ i. record { usable = arena.usable i; dry = arena.dry i; used = f.used i; full = f.full i; given = ch.given i; back = arena.back i; most = ch.most i } in
    unplaced x old new kept f.orderly f.here f.others (same ∙ sym law)

-- a usable arena is not dry
usable_arena : (t : Tables) (a : ℕ) (u : Usable) → IsKept t → find_arena a t.usable ≡ Some u → (u.arena ≡ a) × (get_or t.dry a None ≡ None)
usable_arena t a u kept e =
    let is = found_arena a t.usable u e in
    let sum = tally_apart (is_arena a) a t.usable u e in
    let one : is_arena a u ≡ 1 = subst (λ b. is_arena b u ≡ 1) is (one_if_same u.arena) in
    let once = kept.sound.arenas_once a in
    (is, only_none_total (get_or t.dry a None) (omega arith))

-- the pool comes back to a usable arena
usable_back : (x : PoolLine) (u : Usable) (old new : Tables) → IsKept old → Left x old new → find_arena x.arena old.usable ≡ Some u → (u.arena ≡ x.arena) × (unplace (layout_of old) x.number ≡ pool_back (without (layout_of old) x.number x.class) u)
usable_back x u old new kept f was =
    let l : Layout = without (layout_of old) x.number x.class in
    let wet = usable_arena old x.arena u kept was in
    (wet.0, f.unplaced ∙ (ap (λ o. arena_back_by l x.arena o (find_arena x.arena l.usable)) wet.1 ∙ ap (arena_back_by l x.arena None) was))

and_not : (a b : Bool) → (a ≡ false) ⊎ (b ≡ true) → (a && not b) ≡ false
and_not false b h = refl
and_not true b (inl e) = cc
and_not true b (inr e) = rw e refl

pub usable_arena_is_put : (x : PoolLine) (rest : List Spot) (u : Usable) (old new : Tables) → IsKept old → FreedLast x rest old new → WasPut x.arena u old new → IsUnplaced x old new
usable_arena_is_put x rest u old new kept ch arena =
    let f = leaves x rest old new kept ch in
    let b = usable_back x u old new kept f arena.was in
    let l : Layout = without (layout_of old) x.number x.class in
    let after : Layout = record l { usable = put_arena (record u { free = u.free + 1 }) (without_arena x.arena l.usable) } in
    let test : (eqb (u.free + 1) u.total && not (is_last x.arena l.usable)) ≡ false =
    and_not _ _ (elim arena.stays [ inl n ↦ inl (elim (eqb_tells (u.free + 1) u.total) [ inl w ↦ absurd (n w.1) | inr w ↦ w.0 ]) | inr e ↦ inr e ]) in
    let law : unplace (layout_of old) x.number ≡ after = b.1 ∙ rw (b.0, test) refl in
    let same : layout_of new ≡ after = λ i. record { usable = arena.usable i; dry = arena.dry i; used = f.used i; full = f.full i; given = ch.given i; back = arena.back i; most = ch.most i } in
    unplaced x old new kept f.orderly f.here f.others (same ∙ sym law)

pub whole_arena_goes_back : (x : PoolLine) (rest : List Spot) (u : Usable) (old new : Tables) → IsKept old → FreedLast x rest old new → WentBack x.arena u old new → IsUnplaced x old new
whole_arena_goes_back x rest u old new kept ch arena =
    let f = leaves x rest old new kept ch in
    let b = usable_back x u old new kept f arena.was in
    let l : Layout = without (layout_of old) x.number x.class in
    let after : Layout = record l { usable = without_arena x.arena l.usable; back = l.back + 1 } in
    let all : eqb (u.free + 1) u.total ≡ true = elim (eqb_tells (u.free + 1) u.total) [ inl w ↦ w.0 | inr w ↦ absurd (w.1 arena.all) ] in
    let law : unplace (layout_of old) x.number ≡ after = b.1 ∙ rw (b.0, all, arena.other) refl in
    let same : layout_of new ≡ after = λ i. record { usable = arena.usable i; dry = arena.dry i; used = f.used i; full = f.full i; given = ch.given i; back = arena.back i; most = ch.most i } in
    unplaced x old new kept f.orderly f.here f.others (same ∙ sym law)

-- ---- all three cases at once

-- the arenas after a pool came back do not depend on the lists of the classes
abbrev b_back : Bool → Layout → Usable → Layout
b_back b l u = cond b (record l { usable = without_arena u.arena l.usable; back = l.back + 1 }) (record l { usable = put_arena (record u { free = u.free + 1 }) (without_arena u.arena l.usable) })

arenas_alone : (l : Layout) (us : List (List Used)) (a : ℕ) (o : Option ℕ) (v : Option Usable) →
    arena_back_by (record l { used = us }) a o v ≡ record l { usable = (arena_back_by l a o v).usable; dry = (arena_back_by l a o v).dry; used = us; back = (arena_back_by l a o v).back }
arenas_alone l us a (Some total) v = refl
arenas_alone l us a None None = refl
arenas_alone l us a None (Some u) = elim (eqb (u.free + 1) u.total && not (is_last u.arena l.usable)) as (λ b. b_back b (record l { used = us }) u ≡ record l { usable = (b_back b l u).usable; dry = (b_back b l u).dry; used = us; back = (b_back b l u).back }) [ true ↦ refl | false ↦ refl ]

pub pool_comes_back : (x : PoolLine) (rest : List Spot) (old new : Tables) → IsKept old → FreedLast x rest old new → CameBack x.arena old new → IsUnplaced x old new
pool_comes_back x rest old new kept ch arena =
    let f = leaves x rest old new kept ch in
    let l : Layout = layout_of old in
    let us : List (List Used) = (without l x.number x.class).used in
    let after : Layout = record l { usable = (arena_back l x.arena).usable; dry = (arena_back l x.arena).dry; used = us; back = (arena_back l x.arena).back } in
    let law : unplace l x.number ≡ after = f.unplaced ∙ arenas_alone l us x.arena (get_or l.dry x.arena None) (find_arena x.arena l.usable) in
    let same : layout_of new ≡ after = λ i. record { usable = arena.usable i; dry = arena.dry i; used = f.used i; full = f.full i; given = ch.given i; back = arena.back i; most = ch.most i } in
    unplaced x old new kept f.orderly f.here f.others (same ∙ sym law)
