-- A block that is freed is unplaced.
use Rattle.std.proofs.Common.{◌≡◌, ◌≢◌, ℕ, zero, suc, ◌-◌, ◌<◌, ◌≤◌, inl, inr, false, eqb, List, [], ◌∷◌, ◌++◌, map, length, get_or, set, Some, None, refl, sym, ap, subst, ◌∙◌, arith}
use Rattle.std.proofs.lemmas.Bool.Decides.{eqb_tells}
use Rattle.std.proofs.lemmas.List.{set-get_or, map-append}
use Rattle.extents.specs.Sums.{tally, Has}
use Rattle.extents.proofs.CallerLemmas.{tally-append, tally_replaced, has_left, removed_has}
use Rattle.layout_model.specs.Layout.{Layout, Used, Full}
use Rattle.layout_model.specs.Sizes.{capacity}
use Rattle.layout_model.specs.Sound.{IsSound}
use Rattle.layout_model.specs.Place.{pools_of_class}
use Rattle.layout_model.specs.Unplace.{lowered, without_pool, find_pool, find_class, unplace_used, unplace_by, unplace}
use Rattle.layout_model.proofs.CallerLemmas.{many}
use Rattle.layout_model.proofs.CallerLemmas.{unplace_keeps}
use Rattle.layout_model.specs.Geometry.{PoolLine}
use Rattle.heap_model.specs.Tables.{Spot, Tables, spot_of, with_one_less}
use Rattle.heap_model.specs.View.{used_at, used_pool, used_of, full_pool, full_of, layout_of}
use Rattle.heap_model.specs.Kept.{is_spot, open_at, AreOrderly, IsKept}
use Rattle.heap_model.specs.Changes.{FreedFull, FreedOne}
use Rattle.heap_model.specs.Laws.{OthersStay, IsUnplaced}
use Rattle.heap_model.proofs.Picks.{map_same}
use Rattle.heap_model.proofs.Pools.{tally_some, spot_absent, is_spot_self, is_spot_same, open_value, open_full, used_here, full_here, listed_pool, pool_listed, pool_unlisted, number_once}
use Rattle.heap_model.proofs.Orderly.{has_before, has_after, pool_changed}
use Rattle.heap_model.proofs.Useds.{used_replaced, used_class, used_set, used_kept}
use Rattle.heap_model.proofs.Places.{place_there, places_kept}
use Rattle.heap_model.proofs.Numbered.{numbered_at, numbered_changed, numbered_stays}
use Rattle.heap_model.proofs.Placed.{not_full, is_full}

-- ---- a pool among those of its class, at the spots of a list

module _ (f : Spot → Used) (k : ℕ) where
  find_past : (l : List Spot) (qs : List Used) → ((s : Spot) → Has s l → (f s).pool ≢ k) → find_pool k (map f l ++ qs) ≡ find_pool k qs
  find_past [] qs others = refl
  find_past (s ∷ l) qs others = elim (eqb_tells (f s).pool k) [ inl w ↦ absurd (others s (inl refl) w.1) | inr w ↦ rw w.0 (find_past l qs (λ a h. others a (inr h))) ]

  find_none : (l : List Spot) → ((s : Spot) → Has s l → (f s).pool ≢ k) → find_pool k (map f l) ≡ None
  find_none [] others = refl
  find_none (s ∷ l) others = elim (eqb_tells (f s).pool k) [ inl w ↦ absurd (others s (inl refl) w.1) | inr w ↦ rw w.0 (find_none l (λ a h. others a (inr h))) ]

  find_first : (p : Used) (qs : List Used) → p.pool ≡ k → find_pool k (p ∷ qs) ≡ Some p
  find_first p qs e = elim (eqb_tells p.pool k) [ inl w ↦ rw w.0 refl | inr w ↦ absurd (w.1 e) ]

  lower_past : (l : List Spot) (p : Used) (qs : List Used) → ((s : Spot) → Has s l → (f s).pool ≢ k) → p.pool ≡ k → lowered k (map f l ++ p ∷ qs) ≡ map f l ++ record p { live = p.live - 1 } ∷ qs
  lower_past [] p qs others e = elim (eqb_tells p.pool k) [ inl w ↦ rw w.0 refl | inr w ↦ absurd (w.1 e) ]
  lower_past (s ∷ l) p qs others e = elim (eqb_tells (f s).pool k) [ inl w ↦ absurd (others s (inl refl) w.1) | inr w ↦ rw w.0 (ap (λ ps. f s ∷ ps) (lower_past l p qs (λ a h. others a (inr h)) e)) ]

  pub without_past : (l : List Spot) (p : Used) (qs : List Used) → ((s : Spot) → Has s l → (f s).pool ≢ k) → p.pool ≡ k → without_pool k (map f l ++ p ∷ qs) ≡ map f l ++ qs
  without_past [] p qs others e = elim (eqb_tells p.pool k) [ inl w ↦ rw w.0 refl | inr w ↦ absurd (w.1 e) ]
  without_past (s ∷ l) p qs others e = elim (eqb_tells (f s).pool k) [ inl w ↦ absurd (others s (inl refl) w.1) | inr w ↦ rw w.0 (ap (λ ps. f s ∷ ps) (without_past l p qs (λ a h. others a (inr h)) e)) ]

-- the class that has a pool, where no class before it does
class_found : (k c : ℕ) (pss : List (List Used)) (p : Used) → find_pool k (get_or pss c []) ≡ Some p → ((d : ℕ) → d ≢ c → find_pool k (get_or pss d []) ≡ None) → find_class k pss ≡ c
class_found k c [] p e others = absurd (cc)
class_found k zero (ps ∷ pss) p e others = rw (e, find_class) refl
class_found k (suc c) (ps ∷ pss) p e others =
    let first : find_pool k ps ≡ None = others 0 (λ z. absurd (omega arith)) in
    let rest : find_class k pss ≡ c = class_found k c pss p e (λ d n. others (suc d) (λ z. n (omega arith))) in
    rw (first, find_class) (omega arith)

-- ---- a pool with a free block

-- a pool with a free block, among those of its class
pub record Listed (x : PoolLine) (before after : List Spot) (t : Tables) : Type 0 where
  pub here : Has x t.started
  pub small : x.class < 32
  pub known : x.number < t.taken
  pub some : 1 ≤ x.live
  pub most : x.live ≤ capacity x.class
  pub inside : x.class < length t.lists
  pub absent_before : (s : Spot) → Has s before → spot_of x ≢ s
  pub absent_after : (s : Spot) → Has s after → spot_of x ≢ s
  pub absent_else : (d : ℕ) (s : Spot) → d ≢ x.class → Has s (get_or t.lists d []) → spot_of x ≢ s
  pub other_before : (s : Spot) → Has s before → (used_at t.started s).pool ≢ x.number
  pub pools : pools_of_class (layout_of t) x.class ≡ map (used_at t.started) before ++ used_pool x ∷ map (used_at t.started) after
  pub unplaced : unplace (layout_of t) x.number ≡ unplace_used (layout_of t) x.number x.class (Some (used_pool x))

-- another spot in a list is one of a pool with another number
other_number : (t : Tables) → IsKept t → (x : PoolLine) → Has x t.started → (d : ℕ) (s : Spot) → Has s (get_or t.lists d []) → spot_of x ≢ s → (used_at t.started s).pool ≢ x.number
other_number t kept x here d s h n e =
    let z = listed_pool t.started t.lists t.taken kept.orderly d s h in
    let is : used_at t.started s ≡ used_pool z.0 = ap (used_at t.started) (sym z.1.1) ∙ used_here t.started t.lists t.taken kept.orderly z.0 z.1.0 in
    let same : z.0 ≡ x = number_once t.started t.lists t.taken kept.orderly z.0 x z.1.0 here (sym (ap (λ (u : Used). u.pool) is) ∙ e) in
    n (ap spot_of (sym same) ∙ z.1.1)

pub listed : (x : PoolLine) (before after : List Spot) (t : Tables) → IsKept t → Has x t.started → x.live ≢ capacity x.class → get_or t.lists x.class [] ≡ before ++ spot_of x ∷ after → Listed x before after t
listed x before after t kept here half split =
    let o = kept.orderly in
    let p = o.pools x here in
    let l : Layout = layout_of t in
    let f : Spot → Used = used_at t.started in
    let k : ℕ = x.number in
    let once : tally (is_spot (spot_of x)) (before ++ spot_of x ∷ after) ≡ 1 = subst (λ w. tally (is_spot (spot_of x)) w ≡ 1) split (pool_listed t.started t.lists t.taken o x here half) in
    let sum = tally-append (is_spot (spot_of x)) before (spot_of x ∷ after) in
    let one = is_spot_self (spot_of x) in
    let absent_before : (s : Spot) → Has s before → spot_of x ≢ s = λ s h e. spot_absent (spot_of x) before (omega arith) s h (sym e) in
    let absent_after : (s : Spot) → Has s after → spot_of x ≢ s = λ s h e. spot_absent (spot_of x) after (omega arith) s h (sym e) in
    let absent_else : (d : ℕ) (s : Spot) → d ≢ x.class → Has s (get_or t.lists d []) → spot_of x ≢ s =
    λ d s n h e. spot_absent (spot_of x) (get_or t.lists d []) (pool_unlisted t.started t.lists t.taken o x here d (λ c _. n (sym c))) s h (sym e) in
    let at : (s : Spot) → Has s before → Has s (get_or t.lists x.class []) = λ s h. subst (Has s) (sym split) (has_left s before (spot_of x ∷ after) h) in
    let other_before : (s : Spot) → Has s before → (f s).pool ≢ k = λ s h. other_number t kept x here x.class s (at s h) (absent_before s h) in
    let pools : pools_of_class l x.class ≡ map f before ++ used_pool x ∷ map f after =
    used_class t.started t.lists x.class ∙ (ap (map f) split ∙ (map-append f before (spot_of x ∷ after) ∙ ap (λ u. map f before ++ u ∷ map f after) (used_here t.started t.lists t.taken o x here))) in
    let found : find_pool k (pools_of_class l x.class) ≡ Some (used_pool x) = ap (find_pool k) pools ∙ (find_past f k before (used_pool x ∷ map f after) other_before ∙ find_first f k (used_pool x) (map f after) refl) in
    let class : find_class k l.used ≡ x.class = class_found k x.class l.used (used_pool x) found (λ d n. ap (find_pool k) (used_class t.started t.lists d) ∙ find_none f k (get_or t.lists d []) (λ s h. other_number t kept x here d s h (absent_else d s n h))) in
    let open_full : get_or l.full k None ≡ None = numbered_at full_pool None t.taken k t.started p.known ∙ (full_here t.started t.lists t.taken o x here ∙ not_full x half) in
    record {
      here = here;
      small = p.small;
      known = p.known;
      some = p.some;
      most = p.most;
      inside = let c = o.classes in let s = p.small in omega arith;
      absent_before = absent_before;
      absent_after = absent_after;
      absent_else = absent_else;
      other_before = other_before;
      pools = pools;
      unplaced = ap (unplace_by l k) open_full ∙ (ap (λ c. unplace_used l k c (find_pool k (pools_of_class l c))) class ∙ ap (unplace_used l k x.class) found);
    }

-- a freed block leaves the tables kept, where they are orderly and stand for the layout that is meant
pub unplaced : (x : PoolLine) (old new : Tables) → IsKept old → AreOrderly new.started new.lists new.taken → Has x old.started → OthersStay x.number old new → layout_of new ≡ unplace (layout_of old) x.number → IsUnplaced x old new
unplaced x old new kept orderly here others same = record {
  kept = record { orderly = orderly; sound = subst IsSound (sym same) (unplace_keeps (layout_of old) x.number kept.sound) };
  layout = same;
  place = place_there old kept.orderly x here;
  others = others;
}

-- where a pool with a free block stands in the list of its class
pub open_split : (x : PoolLine) (t : Tables) → IsKept t → Has x t.started → x.live ≢ capacity x.class → (before : List Spot) × (after : List Spot) × (get_or t.lists x.class [] ≡ before ++ spot_of x ∷ after)
open_split x t kept here half =
    let was : List Spot = get_or t.lists x.class [] in
    let there = tally_some (is_spot (spot_of x)) was (let one = pool_listed t.started t.lists t.taken kept.orderly x here half in omega arith) in
    let at : Has (spot_of x) was = subst (λ s. Has s was) (is_spot_same (spot_of x) there.0 there.1.1) there.1.0 in
    let i = (removed_has (spot_of x) was at).1 in
    (i.before, i.after, i.with)

-- two functions that differ at one spot of a list
one_differs : (f g : Spot → Used) (before after : List Spot) (s : Spot) (q : Used) → ((a : Spot) → Has a before → g a ≡ f a) → ((a : Spot) → Has a after → g a ≡ f a) → g s ≡ q → map g (before ++ s ∷ after) ≡ map f before ++ q ∷ map f after
one_differs f g before after s q early late here = map-append g before (s ∷ after) ∙ (λ i. map_same g f before early i ++ here i ∷ map_same g f after late i)

-- ---- a block of a full pool

pub freed_full_is_unplaced : (x : PoolLine) (old new : Tables) → IsKept old → FreedFull x old new → IsUnplaced x old new
freed_full_is_unplaced x old new kept ch =
    let c : ℕ = x.class in
    let y : PoolLine = with_one_less x in
    let o = kept.orderly in
    let r = ch.started in
    let here = has_before x y old.started new.started r in
    let p = o.pools x here in
    let room = many c p.small in
    let inside : c < length old.lists = let e = o.classes in let s = p.small in omega arith in
    let was : List Spot = get_or old.lists c [] in
    let half : y.live ≢ capacity c = λ e. let f = ch.full in absurd (omega arith) in
    let some : 1 ≤ y.live = let f = ch.full in omega arith in
    let most : y.live ≤ capacity c = let f = ch.full in omega arith in
    let stays = used_replaced x y old.started new.started r refl in
    let absent : (d : ℕ) (s : Spot) → Has s (get_or old.lists d []) → spot_of x ≢ s =
    λ d s h e. spot_absent (spot_of x) (get_or old.lists d []) (pool_unlisted old.started old.lists old.taken o x here d (λ e2 n. n (ch.full ∙ ap capacity e2))) s h (sym e) in
    let orderly2 : AreOrderly new.started (set old.lists c (spot_of x ∷ was)) old.taken =
    pool_changed x y old.started new.started old.lists (spot_of x ∷ was) old.taken o r refl refl refl some most (λ s.
    let sum = tally_replaced (open_at c s) x y old.started new.started r in
    let a = open_full c s x ch.full in let b = open_value c s y refl half in let before = o.listed c s in omega arith) in
    let orderly3 : AreOrderly new.started new.lists new.taken = rw (ch.lists, ch.taken) orderly2 in
    let q : Used = record { pool = x.number; arena = x.arena; live = capacity c - 1 } in
    let is : used_at new.started (spot_of x) ≡ q = used_here new.started new.lists new.taken orderly3 y (has_after x y old.started new.started r) ∙ (λ i. record { pool = x.number; arena = x.arena; live = ch.full i - 1 }) in
    let l : Layout = layout_of old in
    let there : map (used_at new.started) (spot_of x ∷ was) ≡ q ∷ pools_of_class l c =
    λ i. is i ∷ (map_same (used_at new.started) (used_at old.started) was (λ s h. stays s (absent c s h)) ∙ sym (used_class old.started old.lists c)) i in
    let used : used_of new.started new.lists ≡ set (used_of old.started old.lists) c (q ∷ pools_of_class l c) =
    ap (used_of new.started) ch.lists ∙ (used_set old.started new.started old.lists c (spot_of x ∷ was) inside (λ d s n h. stays s (absent d s h)) ∙ ap (set (used_of old.started old.lists) c) there) in
    let full : full_of new.taken new.started ≡ set (full_of old.taken old.started) x.number None =
    ap (λ n. full_of n new.started) ch.taken ∙ (numbered_changed full_pool None old.taken x y old.started new.started r refl p.known (orderly3.numbers x.number) ∙ ap (set (full_of old.taken old.started) x.number) (not_full y half)) in
    let f : Full = record { class = c; arena = x.arena } in
    let found : get_or l.full x.number None ≡ Some f = numbered_at full_pool None old.taken x.number old.started p.known ∙ (full_here old.started old.lists old.taken o x here ∙ is_full x ch.full) in
    let after : Layout = record l { used = set l.used c (q ∷ pools_of_class l c); full = set l.full x.number None } in
    let law : unplace l x.number ≡ after = ap (unplace_by l x.number) found in
    let same : layout_of new ≡ after = λ i. record { usable = ch.arenas.usable i; dry = ch.arenas.dry i; used = used i; full = full i; given = ch.arenas.given i; back = ch.arenas.back i; most = ch.arenas.most i } in
    unplaced x old new kept orderly3 here (places_kept x y old new o orderly3 r refl refl ch.taken) (same ∙ sym law)

-- ---- a block of a pool that keeps others

-- the list of its class, by the spots before and after it
freed_one_at : (x : PoolLine) (before after : List Spot) (old new : Tables) → IsKept old → FreedOne x old new → get_or old.lists x.class [] ≡ before ++ spot_of x ∷ after → IsUnplaced x old new
freed_one_at x before after old new kept ch split =
    let c : ℕ = x.class in
    let y : PoolLine = with_one_less x in
    let o = kept.orderly in
    let r = ch.started in
    let here = has_before x y old.started new.started r in
    let was : List Spot = get_or old.lists c [] in
    let li = listed x before after old kept here ch.room split in
    let half : y.live ≢ capacity c = λ e. let m = li.most in let s = li.some in absurd (omega arith) in
    let some : 1 ≤ y.live = let n = ch.more in let s = li.some in omega arith in
    let most : y.live ≤ capacity c = let m = li.most in omega arith in
    let orderly2 : AreOrderly new.started (set old.lists c was) old.taken =
    pool_changed x y old.started new.started old.lists was old.taken o r refl refl refl some most (λ s.
    let sum = tally_replaced (open_at c s) x y old.started new.started r in
    let a = open_value c s x refl ch.room in let b = open_value c s y refl half in let w = o.listed c s in omega arith) in
    let orderly3 : AreOrderly new.started old.lists old.taken = subst (λ w. AreOrderly new.started w old.taken) (set-get_or old.lists c []) orderly2 in
    let orderly4 : AreOrderly new.started new.lists new.taken = rw (ch.lists, ch.taken) orderly3 in
    let f : Spot → Used = used_at old.started in
    let g : Spot → Used = used_at new.started in
    let stays = used_replaced x y old.started new.started r refl in
    let l : Layout = layout_of old in
    let low : lowered x.number (pools_of_class l c) ≡ map f before ++ used_pool y ∷ map f after = ap (lowered x.number) li.pools ∙ lower_past f x.number before (used_pool x) (map f after) li.other_before refl in
    let now : map g was ≡ lowered x.number (pools_of_class l c) =
    ap (map g) split ∙ (one_differs f g before after (spot_of x) (used_pool y) (λ s h. stays s (li.absent_before s h)) (λ s h. stays s (li.absent_after s h))
    (used_here new.started old.lists old.taken orderly3 y (has_after x y old.started new.started r)) ∙ sym low) in
    let used : used_of new.started new.lists ≡ set (used_of old.started old.lists) c (lowered x.number (pools_of_class l c)) =
    ap (used_of new.started) ch.lists ∙ (used_kept old.started new.started old.lists c li.inside (λ d s n h. stays s (li.absent_else d s n h)) ∙ ap (set (used_of old.started old.lists) c) now) in
    let full : full_of new.taken new.started ≡ full_of old.taken old.started =
    ap (λ n. full_of n new.started) ch.taken ∙ numbered_stays full_pool None old.taken x y old.started new.started r refl li.known (o.numbers x.number) (orderly3.numbers x.number) (not_full y half ∙ sym (not_full x ch.room)) in
    let next : Layout = record l { used = set l.used c (lowered x.number (pools_of_class l c)) } in
    let test : eqb x.live 1 ≡ false = elim (eqb_tells x.live 1) [ inl w ↦ absurd (ch.more w.1) | inr w ↦ w.0 ] in
    let law : unplace l x.number ≡ next = li.unplaced ∙ rw test refl in
    let same : layout_of new ≡ next = λ i. record { usable = ch.arenas.usable i; dry = ch.arenas.dry i; used = used i; full = full i; given = ch.arenas.given i; back = ch.arenas.back i; most = ch.arenas.most i } in
    unplaced x old new kept orderly4 here (places_kept x y old new o orderly4 r refl refl ch.taken) (same ∙ sym law)

pub freed_one_is_unplaced : (x : PoolLine) (old new : Tables) → IsKept old → FreedOne x old new → IsUnplaced x old new
freed_one_is_unplaced x old new kept ch =
    let here = has_before x (with_one_less x) old.started new.started ch.started in
    let split = open_split x old kept here ch.room in
    freed_one_at x split.0 split.1 old new kept ch split.2
