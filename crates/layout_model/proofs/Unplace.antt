-- A freed block keeps a layout sound.
use Rattle.std.proofs.Common.{◌≡◌, ℕ, zero, suc, ◌+◌, ◌-◌, ◌<◌, ◌≤◌, ◌≢◌, not, inl, inr, Bool, true, false, cond, eqb, List, [], ◌∷◌, length, get_or, set, Option, Some, None, refl, sym, subst, arith}
use Rattle.std.proofs.lemmas.List.{get_or-set_other, length-set}
use Rattle.std.proofs.lemmas.Bool.Decides.{eqb_tells}
use Rattle.extents.specs.Sums.{tally}
use Rattle.extents.proofs.CallerLemmas.{tally-set, tally_length}
use Rattle.layout_model.specs.Layout.{Layout, Usable, Used, Full}
use Rattle.layout_model.specs.Sizes.{capacity}
use Rattle.layout_model.specs.Sound.{one_if, dry_times, is_pool, has_arena, full_arena, full_times, is_arena, free_in, total_in, total_or, pool_times, pools_of, StartsAt, AreUsable, Lives, HasSomeClass, HasTotal, IsSound}
use Rattle.layout_model.specs.Unplace.{find_pool, find_arena, find_class, lowered, without_pool, without_arena, put_arena, is_last, pool_back, arena_back_by, unplace_full, unplace_used, unplace_by, unplace}
use Rattle.layout_model.proofs.Tallies.{swapped, lives_set, one_if_same, held_set, held_less}
use Rattle.layout_model.proofs.Place.{many}
use Rattle.layout_model.proofs.Lists.{tally_without, tally_lowered, lives_without, lives_lowered, found_arena, tally_apart, none_there, usable_without, tally_put, usable_put, usable_found}

full_inside : (xs : List (Option Full)) (k : ℕ) (f : Full) → get_or xs k None ≡ Some f → k < length xs
full_inside [] k f e = cc
full_inside (x ∷ xs) zero f e = omega arith
full_inside (x ∷ xs) (suc n) f e = let i = full_inside xs n f e in omega arith

total_inside : (xs : List (Option ℕ)) (k : ℕ) (f : ℕ) → get_or xs k None ≡ Some f → k < length xs
total_inside [] k f e = cc
total_inside (x ∷ xs) zero f e = omega arith
total_inside (x ∷ xs) (suc n) f e = let i = total_inside xs n f e in omega arith

-- a block of a full pool
unplace_full_keeps : (l : Layout) (k : ℕ) (f : Full) → IsSound l → get_or l.full k None ≡ Some f → IsSound (unplace_full l k f)
unplace_full_keeps l k f s e =
    let small : f.class < 32 = subst HasSomeClass e (s.full k) in
    let inside : f.class < length l.used = omega (arith, s.classes) in
    let within = full_inside l.full k f e in
    let ps : List Used = get_or l.used f.class [] in
    let q : Used = record { pool = k; arena = f.arena; live = capacity f.class - 1 } in
    let room = many f.class small in
    let times : (j : ℕ) → pool_times j (set l.used f.class (q ∷ ps)) ≡ pool_times j l.used + one_if (eqb k j) = λ j. let w = swapped (is_pool j) l.used f.class ps (q ∷ ps) inside refl in omega arith in
    let arenas : (a : ℕ) → tally (tally (has_arena a)) (set l.used f.class (q ∷ ps)) ≡ tally (tally (has_arena a)) l.used + one_if (eqb f.arena a) = λ a. let w = swapped (has_arena a) l.used f.class ps (q ∷ ps) inside refl in omega arith in
    let fulls : (a : ℕ) → tally (full_arena a) (set l.full k None) + one_if (eqb f.arena a) ≡ tally (full_arena a) l.full = λ a. let w = rw e at (tally-set (full_arena a) l.full k None None within) in omega arith in
    let held : (j : ℕ) → full_times (get_or (set l.full k None) j None) + cond (eqb k j) 1 0 ≡ full_times (get_or l.full j None) = held_less full_times l.full k None (Some f) within e refl in
    record {
      classes = rw length-set s.classes;
      lives = lives_set l.used f.class (q ∷ ps) inside s.lives (omega arith, omega arith, s.lives f.class small);
      usable = s.usable;
      full = held_set HasSomeClass l.full k None s.full tt within;
      dry = s.dry;
      pools_once = λ j. let w = s.pools_once j in let t = times j in let h = held j in omega arith;
      pools_known = λ j h. let h2 : length l.full ≤ j = rw length-set at h in let w = s.pools_known j h2 in let t = times j in elim (eqb_tells k j) [ inl y ↦ absurd (omega arith) | inr y ↦ let t2 = rw y.0 at t in omega arith ];
      arenas_once = s.arenas_once;
      arenas_known = s.arenas_known;
      arenas_numbered = s.arenas_numbered;
      adds_up = λ a. let w = s.adds_up a in let t = arenas a in let v = fulls a in omega arith;
      out = s.out;
      most = s.most;
    }

-- one block fewer in a pool that keeps some
unplace_one : (l : Layout) (k c : ℕ) (p : Used) → c < 32 → IsSound l → find_pool k (get_or l.used c []) ≡ Some p → p.live ≢ 1 → IsSound (record l { used = set l.used c (lowered k (get_or l.used c [])) })
unplace_one l k c p small s e more =
    let inside : c < length l.used = omega (arith, s.classes) in
    let ps : List Used = get_or l.used c [] in
    let times : (j : ℕ) → pool_times j (set l.used c (lowered k ps)) ≡ pool_times j l.used = λ j. let w = swapped (is_pool j) l.used c ps (lowered k ps) inside refl in let v = tally_lowered (is_pool j) (λ _ _. refl) k ps in omega arith in
    let arenas : (a : ℕ) → tally (tally (has_arena a)) (set l.used c (lowered k ps)) ≡ tally (tally (has_arena a)) l.used = λ a. let w = swapped (has_arena a) l.used c ps (lowered k ps) inside refl in let v = tally_lowered (has_arena a) (λ _ _. refl) k ps in omega arith in
    record {
      classes = rw length-set s.classes;
      lives = lives_set l.used c (lowered k ps) inside s.lives (lives_lowered (capacity c) k ps p e more (s.lives c small));
      usable = s.usable;
      full = s.full;
      dry = s.dry;
      pools_once = λ j. let w = s.pools_once j in let t = times j in omega arith;
      pools_known = λ j h. let w = s.pools_known j h in let t = times j in omega arith;
      arenas_once = s.arenas_once;
      arenas_known = s.arenas_known;
      arenas_numbered = s.arenas_numbered;
      adds_up = λ a. let w = s.adds_up a in let t = arenas a in omega arith;
      out = s.out;
      most = s.most;
    }

-- a layout that lacks one pool of the arena `n`
record Lacks (n : ℕ) (l : Layout) : Type 0 where
  classes : length l.used ≡ 32
  lives : (c : ℕ) → c < 32 → Lives (capacity c) (get_or l.used c [])
  usable : AreUsable l.usable
  full : (k : ℕ) → HasSomeClass (get_or l.full k None)
  dry : (a : ℕ) → HasTotal (get_or l.dry a None)
  pools_once : (k : ℕ) → pool_times k l.used + full_times (get_or l.full k None) ≤ 1
  pools_known : (k : ℕ) → length l.full ≤ k → pool_times k l.used ≡ 0
  arenas_once : (a : ℕ) → tally (is_arena a) l.usable + dry_times (get_or l.dry a None) ≤ 1
  arenas_known : (a : ℕ) → l.given < a → tally (is_arena a) l.usable ≡ 0
  arenas_numbered : (length l.dry ≡ l.given + 1) × (get_or l.dry 0 None ≡ None) × (tally (is_arena 0) l.usable ≡ 0)
  adds_up : (a : ℕ) → tally (free_in a) l.usable + pools_of a l + one_if (eqb n a) ≡ tally (total_in a) l.usable + total_or (get_or l.dry a None)
  out : length l.usable + tally dry_times l.dry + l.back ≡ l.given
  most : length l.usable + tally dry_times l.dry ≤ l.most

unplace_last : (l : Layout) (k c : ℕ) (p : Used) → c < 32 → IsSound l → find_pool k (get_or l.used c []) ≡ Some p → Lacks p.arena (record l { used = set l.used c (without_pool k (get_or l.used c [])) })
unplace_last l k c p small s e =
    let inside : c < length l.used = omega (arith, s.classes) in
    let ps : List Used = get_or l.used c [] in
    let qs : List Used = without_pool k ps in
    let times : (j : ℕ) → pool_times j (set l.used c qs) ≤ pool_times j l.used = λ j. let w = swapped (is_pool j) l.used c ps qs inside refl in let v = tally_without (is_pool j) k ps p e in omega arith in
    let arenas : (a : ℕ) → tally (tally (has_arena a)) (set l.used c qs) + one_if (eqb p.arena a) ≡ tally (tally (has_arena a)) l.used = λ a. let w = swapped (has_arena a) l.used c ps qs inside refl in let v = tally_without (has_arena a) k ps p e in omega arith in
    record {
      classes = rw length-set s.classes;
      lives = lives_set l.used c qs inside s.lives (lives_without (capacity c) k ps (s.lives c small));
      usable = s.usable;
      full = s.full;
      dry = s.dry;
      pools_once = λ j. let w = s.pools_once j in let t = times j in omega arith;
      pools_known = λ j h. let w = s.pools_known j h in let t = times j in omega arith;
      arenas_once = s.arenas_once;
      arenas_known = s.arenas_known;
      arenas_numbered = s.arenas_numbered;
      adds_up = λ a. let w = s.adds_up a in let t = arenas a in omega arith;
      out = s.out;
      most = s.most;
    }

starts_one : (us : List Usable) → AreUsable us → StartsAt 1 us
starts_one [] r = tt
starts_one (u ∷ us) r = r.2

-- an arena that had no free pool
back_dry : (l : Layout) (a t : ℕ) → Lacks a l → get_or l.dry a None ≡ Some t → IsSound (record l { usable = record { arena = a; total = t; free = 1 } ∷ l.usable; dry = set l.dry a None })
back_dry l a t s e =
    let within = total_inside l.dry a t e in
    let total : (63 ≤ t) × (t ≤ 64) = subst HasTotal e (s.dry a) in
    let times : (b : ℕ) → dry_times (get_or (set l.dry a None) b None) + cond (eqb a b) 1 0 ≡ dry_times (get_or l.dry b None) = held_less dry_times l.dry a None (Some t) within e refl in
    let totals : (b : ℕ) → total_or (get_or (set l.dry a None) b None) + cond (eqb a b) t 0 ≡ total_or (get_or l.dry b None) = held_less total_or l.dry a None (Some t) within e refl in
    let dries : tally dry_times (set l.dry a None) + 1 ≡ tally dry_times l.dry = let w = rw e at (tally-set dry_times l.dry a None None within) in omega arith in
    let above : a ≢ 0 = λ z. let w : get_or l.dry 0 None ≡ Some t = subst (λ x. get_or l.dry x None ≡ Some t) z e in let v = s.arenas_numbered.1 in absurd (cc) in
    record {
      classes = s.classes;
      lives = s.lives;
      usable = (total.0, total.1, omega arith, omega arith, starts_one l.usable s.usable, s.usable);
      full = s.full;
      dry = held_set HasTotal l.dry a None s.dry tt within;
      pools_once = s.pools_once;
      pools_known = s.pools_known;
      arenas_once = λ b. let w = s.arenas_once b in let t2 = times b in omega arith;
      arenas_known = λ b h. let w = s.arenas_known b h in elim (eqb_tells a b) [ inl y ↦ absurd (let v = s.arenas_numbered.0 in omega arith) | inr y ↦ rw y.0 (omega arith) ];
      arenas_numbered = (rw length-set s.arenas_numbered.0, rw (get_or-set_other l.dry a 0 None None (λ z. above (sym z))) s.arenas_numbered.1, elim (eqb_tells a 0) [ inl y ↦ absurd (above y.1) | inr y ↦ rw y.0 (let w = s.arenas_numbered.2 in omega arith) ]);
      adds_up = λ b. let w = s.adds_up b in let v = totals b in elim (eqb_tells a b) [
        | inl y ↦ let w2 = rw y.0 at w in let v2 = rw y.0 at v in rw y.0 (omega arith)
        | inr y ↦ let w2 = rw y.0 at w in let v2 = rw y.0 at v in rw y.0 (omega arith)
      ];
      out = let w = s.out in omega arith;
      most = let w = s.most in omega arith;
    }

none_free : (a : ℕ) (us : List Usable) → tally (is_arena a) us ≡ 0 → tally (free_in a) us ≡ 0
none_free a [] h = refl
none_free a (u ∷ us) h = elim (eqb_tells u.arena a) [
  | inl w ↦ let h2 = rw w.0 at h in absurd (omega arith)
  | inr w ↦ let h2 = rw w.0 at h in rw w.0 (let i = none_free a us (omega arith) in omega arith)
]

none_total : (a : ℕ) (us : List Usable) → tally (is_arena a) us ≡ 0 → tally (total_in a) us ≡ 0
none_total a [] h = refl
none_total a (u ∷ us) h = elim (eqb_tells u.arena a) [
  | inl w ↦ let h2 = rw w.0 at h in absurd (omega arith)
  | inr w ↦ let h2 = rw w.0 at h in rw w.0 (let i = none_total a us (omega arith) in omega arith)
]

same_cond : (k n : ℕ) → cond (eqb k k) n 0 ≡ n
same_cond k n = elim (eqb_tells k k) [ inl w ↦ rw w.0 refl | inr w ↦ absurd (w.1 refl) ]

either : {l m : Layout} (b : Bool) → IsSound l → IsSound m → IsSound (cond b l m)
either true x y = x
either false x y = y

-- a usable arena
back_open : (l : Layout) (a : ℕ) (u : Usable) → Lacks a l → get_or l.dry a None ≡ None → find_arena a l.usable ≡ Some u → IsSound (pool_back l u)
back_open l a u s dry e =
    let is : u.arena ≡ a = found_arena a l.usable u e in
    let e2 : find_arena u.arena l.usable ≡ Some u = subst (λ x. find_arena x l.usable ≡ Some u) (sym is) e in
    let us : List Usable = without_arena u.arena l.usable in
    let fit = usable_found u.arena l.usable u e2 s.usable in
    let apart : (f : Usable → ℕ) → tally f us + f u ≡ tally f l.usable = λ f. tally_apart f u.arena l.usable u e2 in
    let fewer : length us + 1 ≡ length l.usable = let w = apart (λ _. 1) in let x = tally_length us in let y = tally_length l.usable in omega arith in
    let adds : (b : ℕ) → tally (free_in b) us + free_in b u + pools_of b l + one_if (eqb u.arena b) ≡ tally (total_in b) us + total_in b u + total_or (get_or l.dry b None) =
    λ b. let w : tally (free_in b) l.usable + pools_of b l + one_if (eqb u.arena b) ≡ tally (total_in b) l.usable + total_or (get_or l.dry b None) = rw is (s.adds_up b) in let x = apart (free_in b) in let y = apart (total_in b) in omega arith in
    let same = one_if_same u.arena in
    let here = adds u.arena in
    let dry2 : get_or l.dry u.arena None ≡ None = subst (λ x. get_or l.dry x None ≡ None) (sym is) dry in
    let once : (b : ℕ) → tally (is_arena b) us + is_arena b u + dry_times (get_or l.dry b None) ≤ 1 = λ b. let w = s.arenas_once b in let x = apart (is_arena b) in omega arith in
    let known : (b : ℕ) → l.given < b → tally (is_arena b) us + is_arena b u ≡ 0 = λ b h. let w = s.arenas_known b h in let x = apart (is_arena b) in omega arith in
    let zeroth : tally (is_arena 0) us + is_arena 0 u ≡ 0 = let w = s.arenas_numbered.2 in let x = apart (is_arena 0) in omega arith in
    let gone_free : tally (free_in u.arena) us ≡ 0 = none_free u.arena us (let w = once u.arena in omega arith) in
    let gone_total : tally (total_in u.arena) us ≡ 0 = none_total u.arena us (let w = once u.arena in omega arith) in
    let here2 : u.free + pools_of u.arena l + 1 ≡ u.total = let f : free_in u.arena u ≡ u.free = same_cond u.arena u.free in let t : total_in u.arena u ≡ u.total = same_cond u.arena u.total in let w = rw dry2 at here in omega arith in
    let gone : u.free + 1 ≡ u.total → IsSound (record l { usable = us; back = l.back + 1 }) = λ all. record {
      classes = s.classes;
      lives = s.lives;
      usable = usable_without u.arena l.usable s.usable;
      full = s.full;
      dry = s.dry;
      pools_once = s.pools_once;
      pools_known = s.pools_known;
      arenas_once = λ b. let w = once b in omega arith;
      arenas_known = λ b h. let w = known b h in omega arith;
      arenas_numbered = (s.arenas_numbered.0, s.arenas_numbered.1, omega arith);
      adds_up = λ b. let w = adds b in elim (eqb_tells u.arena b) [
        | inl y ↦ let w2 = rw y.0 at w in omega arith
        | inr y ↦ let w2 = rw y.0 at w in omega arith
      ];
      out = let w = s.out in omega arith;
      most = let w = s.most in omega arith;
    } in
    let v : Usable = record u { free = u.free + 1 } in
    let put : (f : Usable → ℕ) → tally f (put_arena v us) ≡ f v + tally f us = λ f. tally_put f v us in
    let long : length (put_arena v us) ≡ length us + 1 = let w = put (λ _. 1) in let x = tally_length us in let y = tally_length (put_arena v us) in omega arith in
    let kept : IsSound (record l { usable = put_arena v us }) = record {
      classes = s.classes;
      lives = s.lives;
      usable = usable_put v us fit.0 fit.1 (omega arith) (omega arith) (usable_without u.arena l.usable s.usable);
      full = s.full;
      dry = s.dry;
      pools_once = s.pools_once;
      pools_known = s.pools_known;
      arenas_once = λ b. let w = once b in let x = put (is_arena b) in omega arith;
      arenas_known = λ b h. let w = known b h in let x = put (is_arena b) in omega arith;
      arenas_numbered = (s.arenas_numbered.0, s.arenas_numbered.1, let x = put (is_arena 0) in omega arith);
      adds_up = λ b. let w = adds b in let x = put (free_in b) in let y = put (total_in b) in elim (eqb_tells u.arena b) [
        | inl z ↦ let w2 = rw z.0 at w in let x2 = rw z.0 at x in let y2 = rw z.0 at y in omega arith
        | inr z ↦ let w2 = rw z.0 at w in let x2 = rw z.0 at x in let y2 = rw z.0 at y in omega arith
      ];
      out = let w = s.out in omega arith;
      most = let w = s.most in omega arith;
    } in
    elim (eqb_tells (u.free + 1) u.total) [
      | inl w ↦ rw w.0 (either (not (is_last u.arena l.usable)) (gone w.1) kept)
      | inr w ↦ rw w.0 kept
    ]

none_back : (l : Layout) (a : ℕ) → Lacks a l → get_or l.dry a None ≡ None → find_arena a l.usable ≡ None → ⊥
none_back l a s dry e =
    let t : tally (total_in a) l.usable ≡ 0 = none_there (total_in a) a (λ u n. elim (eqb_tells u.arena a) [ inl y ↦ absurd (n y.1) | inr y ↦ rw y.0 refl ]) l.usable e in
    let w = rw dry at (s.adds_up a) in
    let same = one_if_same a in
    absurd (omega arith)

arena_back_by_keeps : (l : Layout) (a : ℕ) (t : Option ℕ) (v : Option Usable) → Lacks a l → get_or l.dry a None ≡ t → find_arena a l.usable ≡ v → IsSound (arena_back_by l a t v)
arena_back_by_keeps l a (Some t) v s e f = back_dry l a t s e
arena_back_by_keeps l a None (Some u) s e f = back_open l a u s e f
arena_back_by_keeps l a None None s e f = absurd (none_back l a s e f)

class_inside : (pss : List (List Used)) (c k : ℕ) (p : Used) → find_pool k (get_or pss c []) ≡ Some p → c < length pss
class_inside [] c k p e = cc
class_inside (ps ∷ pss) zero k p e = omega arith
class_inside (ps ∷ pss) (suc n) k p e = let i = class_inside pss n k p e in omega arith

unplace_used_keeps : (l : Layout) (k c : ℕ) (o : Option Used) → IsSound l → find_pool k (get_or l.used c []) ≡ o → IsSound (unplace_used l k c o)
unplace_used_keeps l k c None s e = s
unplace_used_keeps l k c (Some p) s e =
    let small : c < 32 = let w = class_inside l.used c k p e in omega (arith, s.classes) in
    elim (eqb_tells p.live 1) [
      | inl w ↦ rw w.0 (arena_back_by_keeps _ p.arena _ _ (unplace_last l k c p small s e) refl refl)
      | inr w ↦ rw w.0 (unplace_one l k c p small s e w.1)
    ]

unplace_by_keeps : (l : Layout) (k : ℕ) (o : Option Full) → IsSound l → get_or l.full k None ≡ o → IsSound (unplace_by l k o)
unplace_by_keeps l k (Some f) s e = unplace_full_keeps l k f s e
unplace_by_keeps l k None s e = unplace_used_keeps l k (find_class k l.used) _ s refl

pub unplace_keeps : (l : Layout) (k : ℕ) → IsSound l → IsSound (unplace l k)
unplace_keeps l k s = unplace_by_keeps l k _ s refl
