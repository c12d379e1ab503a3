-- A block that is taken is placed.
use Rattle.std.proofs.Common.{◌≡◌, ◌≢◌, ℕ, ◌+◌, ◌-◌, ◌<◌, ◌≤◌, inl, inr, true, false, max, eqb, List, [], ◌∷◌, ◌++◌, map, length, get_or, set, Some, None, refl, sym, ap, subst, ◌∙◌, arith}
use Rattle.std.proofs.lemmas.Bool.Decides.{eqb_tells}
use Rattle.std.proofs.lemmas.List.{set-get_or}
use Rattle.mem_base.specs.declared.history.Grant.{Grant}
use Rattle.mem_base.specs.declared.history.Grant.TheVariants.{NotAsked, Refused, Granted}
use Rattle.extents.specs.Sums.{tally, Has, Replaced}
use Rattle.layout_model.specs.Layout.{Layout, Usable, Used}
use Rattle.layout_model.specs.Sizes.{capacity}
use Rattle.layout_model.specs.Sound.{IsSound}
use Rattle.layout_model.specs.Place.{Placed, place, place_by, place_used, place_new, pools_of_class}
use Rattle.layout_model.specs.Asks.{FitsClass}
use Rattle.layout_model.proofs.CallerLemmas.{many, place_keeps}
use Rattle.layout_model.specs.Geometry.{PoolLine}
use Rattle.heap_model.specs.Tables.{Spot, Tables, spot_of, with_one_more}
use Rattle.heap_model.specs.View.{used_at, used_pool, used_of, full_pool, full_in, full_of, layout_of}
use Rattle.heap_model.specs.Kept.{is_spot, open_at, AreOrderly, IsKept}
use Rattle.heap_model.specs.Changes.{OneMore, LastOne, NewPool, GavePool, GrantedArena}
use Rattle.heap_model.specs.Laws.{OthersStay, IsPlaced}
use Rattle.heap_model.proofs.Picks.{map_same}
use Rattle.heap_model.proofs.Pools.{spot_absent, is_spot_self, open_value, open_full, used_here, listed_pool, pool_listed, pool_unlisted, spot_once}
use Rattle.heap_model.proofs.Orderly.{has_before, has_after, pool_changed, pool_comes}
use Rattle.heap_model.proofs.Useds.{used_replaced, used_come, used_class, used_set, used_kept}
use Rattle.heap_model.proofs.Places.{place_there, places_kept, places_come}
use Rattle.heap_model.proofs.Numbered.{numbered_changed, numbered_stays, numbered_comes}
use Rattle.extents.proofs.CallerLemmas.{tally_replaced, has_new}
use Rattle.std.proofs.lemmas.List.FromFn.{length-map-range_with_len}

-- ---- what `place` makes of a list

place_some : (l : Layout) (c : ℕ) (g : Grant) (p : Used) (ps : List Used) → pools_of_class l c ≡ p ∷ ps → place l c g ≡ record { pool = Some p.pool; layout = place_used l c p ps }
place_some l c g p ps e = ap (λ w. place_by l c g w l.usable) e

some_fits : (l : Layout) (c : ℕ) (p : Used) (ps : List Used) → pools_of_class l c ≡ p ∷ ps → FitsClass l c NotAsked
some_fits l c p ps e = record { asked = rw e refl; pools = tt }

-- ---- a block of the first pool of a class

-- the first pool of a class is of that class, and has a free block
pub first_open : (c : ℕ) (x : PoolLine) (rest : List Spot) (t : Tables) → IsKept t → Has x t.started → get_or t.lists c [] ≡ spot_of x ∷ rest → (x.class ≡ c) × (x.live ≢ capacity c)
first_open c x rest t kept h e =
    let r = listed_pool t.started t.lists t.taken kept.orderly c (spot_of x) (subst (Has (spot_of x)) (sym e) (inl refl)) in
    let same : r.0 ≡ x = spot_once t.started t.lists t.taken kept.orderly r.0 x r.1.0 h r.1.1 in
    subst (λ (z : PoolLine). (z.class ≡ c) × (z.live ≢ capacity c)) same (r.1.2, r.1.3)

-- what a change of the first pool keeps, whatever list its class has after it
record Changed (x y : PoolLine) (rest : List Spot) (old new : Tables) : Type 0 where
  here : Has x old.started
  small : x.class < 32
  known : x.number < old.taken
  inside : x.class < length old.lists
  half : x.live ≢ capacity x.class
  live : x.live < capacity x.class
  listed : pools_of_class (layout_of old) x.class ≡ used_pool x ∷ map (used_at old.started) rest
  same : map (used_at new.started) rest ≡ map (used_at old.started) rest
  others : (d : ℕ) (s : Spot) → d ≢ x.class → Has s (get_or old.lists d []) → used_at new.started s ≡ used_at old.started s

changed : (x y : PoolLine) (rest : List Spot) (old new : Tables) → IsKept old → Replaced x y old.started new.started → spot_of y ≡ spot_of x → get_or old.lists x.class [] ≡ spot_of x ∷ rest → Changed x y rest old new
changed x y rest old new kept r spot first =
    let o = kept.orderly in
    let at = has_before x y old.started new.started r in
    let p = o.pools x at in
    let first_is = first_open x.class x rest old kept at first in
    let once : tally (is_spot (spot_of x)) (spot_of x ∷ rest) ≡ 1 = subst (λ l. tally (is_spot (spot_of x)) l ≡ 1) first (pool_listed old.started old.lists old.taken o x at first_is.1) in
    let one = is_spot_self (spot_of x) in
    let stays = used_replaced x y old.started new.started r spot in
    record {
      here = at;
      small = p.small;
      known = p.known;
      inside = let c = o.classes in let s = p.small in omega arith;
      half = first_is.1;
      live = let n = first_is.1 in let m = p.most in omega arith;
      listed = used_class old.started old.lists x.class ∙ (ap (map (used_at old.started)) first ∙ ap (λ u. u ∷ map (used_at old.started) rest) (used_here old.started old.lists old.taken o x at));
      same = map_same (used_at new.started) (used_at old.started) rest (λ s h. stays s (λ e. spot_absent (spot_of x) rest (omega arith) s h (sym e)));
      others = λ d s n h. stays s (λ e. spot_absent (spot_of x) (get_or old.lists d []) (pool_unlisted old.started old.lists old.taken o x at d (λ e2 _. n (sym e2))) s h (sym e));
    }

-- a placed block leaves the tables kept, where they are orderly and stand for the layout that is meant
placed : (c : ℕ) (g : Grant) (x : PoolLine) (old new : Tables) → c < 32 → IsKept old → AreOrderly new.started new.lists new.taken → Has x new.started → OthersStay x.number old new → FitsClass (layout_of old) c g →
    (p : Placed) → place (layout_of old) c g ≡ p → p.pool ≡ Some x.number → layout_of new ≡ p.layout → IsPlaced c g x old new
placed c g x old new small kept orderly here others fits p is pool same =
    let layout : layout_of new ≡ (place (layout_of old) c g).layout = same ∙ ap (λ (q : Placed). q.layout) (sym is) in
    record {
      kept = record { orderly = orderly; sound = subst IsSound (sym layout) (place_keeps (layout_of old) c g small fits kept.sound) };
      fits = fits;
      layout = layout;
      pool = ap (λ (q : Placed). q.pool) is ∙ pool;
      place = place_there new orderly x here;
      others = others;
    }

-- the pool as it is after a block more
lent : (c : ℕ) (g : Grant) (x : PoolLine) (old new : Tables) → IsPlaced c g (with_one_more x) old new → IsPlaced c g x old new
lent c g x old new p = record { kept = p.kept; fits = p.fits; layout = p.layout; pool = p.pool; place = p.place; others = p.others }

pub not_full : (x : PoolLine) → x.live ≢ capacity x.class → full_pool x ≡ None
not_full x n = elim (eqb_tells x.live (capacity x.class)) [ inl w ↦ absurd (n w.1) | inr w ↦ rw w.0 refl ]

pub is_full : (x : PoolLine) → x.live ≡ capacity x.class → full_pool x ≡ Some (record { class = x.class; arena = x.arena })
is_full x e = elim (eqb_tells x.live (capacity x.class)) [ inl w ↦ rw w.0 refl | inr w ↦ absurd (w.1 e) ]

-- one more block of a pool that has a free block after it
one_more_here : (x : PoolLine) (rest : List Spot) (old new : Tables) → IsKept old → OneMore x.class x rest old new → IsPlaced x.class NotAsked x old new
one_more_here x rest old new kept ch =
    let c : ℕ = x.class in
    let y : PoolLine = with_one_more x in
    let o = kept.orderly in
    let r = ch.started in
    let f = changed x y rest old new kept r refl ch.first in
    let more : 1 ≤ y.live = omega arith in
    let most : y.live ≤ capacity c = let l = f.live in omega arith in
    let orderly2 : AreOrderly new.started (set old.lists c (get_or old.lists c [])) old.taken =
    pool_changed x y old.started new.started old.lists (get_or old.lists c []) old.taken o r refl refl refl more most (λ s.
    let sum = tally_replaced (open_at c s) x y old.started new.started r in
    let a = open_value c s x refl f.half in let b = open_value c s y refl ch.room in let was = o.listed c s in omega arith) in
    let orderly3 : AreOrderly new.started old.lists old.taken = subst (λ l. AreOrderly new.started l old.taken) (set-get_or old.lists c []) orderly2 in
    let orderly4 : AreOrderly new.started new.lists new.taken = rw (ch.lists, ch.taken) orderly3 in
    let ps : List Used = map (used_at old.started) rest in
    let there : map (used_at new.started) (get_or old.lists c []) ≡ used_pool y ∷ ps =
    ap (map (used_at new.started)) ch.first ∙ (λ i. used_here new.started old.lists old.taken orderly3 y (has_after x y old.started new.started r) i ∷ f.same i) in
    let used : used_of new.started new.lists ≡ set (used_of old.started old.lists) c (used_pool y ∷ ps) =
    ap (used_of new.started) ch.lists ∙ (used_kept old.started new.started old.lists c f.inside f.others ∙ ap (set (used_of old.started old.lists) c) there) in
    let full : full_of new.taken new.started ≡ full_of old.taken old.started =
    ap (λ n. full_of n new.started) ch.taken ∙ numbered_stays full_pool None old.taken x y old.started new.started r refl f.known (o.numbers x.number) (orderly3.numbers x.number) (not_full y ch.room ∙ sym (not_full x f.half)) in
    let l : Layout = layout_of old in
    let after : Layout = record l { used = set l.used c (used_pool y ∷ ps) } in
    let test : eqb (x.live + 1) (capacity c) ≡ false = elim (eqb_tells (x.live + 1) (capacity c)) [ inl w ↦ absurd (ch.room w.1) | inr w ↦ w.0 ] in
    let is : place l c NotAsked ≡ record { pool = Some x.number; layout = after } = place_some l c NotAsked (used_pool x) ps f.listed ∙ rw test refl in
    lent c NotAsked x old new (placed c NotAsked y old new f.small kept orderly4 (has_after x y old.started new.started r)
    (places_kept x y old new o orderly4 r refl refl ch.taken) (some_fits l c (used_pool x) ps f.listed) (record { pool = Some x.number; layout = after }) is refl
    (λ i. record { usable = ch.arenas.usable i; dry = ch.arenas.dry i; used = used i; full = full i; given = ch.arenas.given i; back = ch.arenas.back i; most = ch.arenas.most i }))

pub one_more_is_placed : (c : ℕ) (x : PoolLine) (rest : List Spot) (old new : Tables) → IsKept old → OneMore c x rest old new → IsPlaced c NotAsked x old new
one_more_is_placed c x rest old new kept ch =
    let f = first_open c x rest old kept (has_before x (with_one_more x) old.started new.started ch.started) ch.first in
    subst (λ d. OneMore d x rest old new → IsPlaced d NotAsked x old new) f.0 (one_more_here x rest old new kept) ch

-- the last free block of a pool
last_one_here : (x : PoolLine) (rest : List Spot) (old new : Tables) → IsKept old → LastOne x.class x rest old new → IsPlaced x.class NotAsked x old new
last_one_here x rest old new kept ch =
    let c : ℕ = x.class in
    let y : PoolLine = with_one_more x in
    let o = kept.orderly in
    let r = ch.started in
    let f = changed x y rest old new kept r refl ch.first in
    let more : 1 ≤ y.live = omega arith in
    let most : y.live ≤ capacity c = let l = f.live in omega arith in
    let orderly2 : AreOrderly new.started (set old.lists c rest) old.taken =
    pool_changed x y old.started new.started old.lists rest old.taken o r refl refl refl more most (λ s.
    let sum = tally_replaced (open_at c s) x y old.started new.started r in
    let was : is_spot s (spot_of x) + tally (is_spot s) rest ≡ tally (open_at c s) old.started = subst (λ l. tally (is_spot s) l ≡ tally (open_at c s) old.started) ch.first (o.listed c s) in
    let a = open_value c s x refl f.half in let b = open_full c s y ch.last in omega arith) in
    let orderly3 : AreOrderly new.started new.lists new.taken = rw (ch.lists, ch.taken) orderly2 in
    let ps : List Used = map (used_at old.started) rest in
    let used : used_of new.started new.lists ≡ set (used_of old.started old.lists) c ps =
    ap (used_of new.started) ch.lists ∙ (used_set old.started new.started old.lists c rest f.inside f.others ∙ ap (set (used_of old.started old.lists) c) f.same) in
    let full : full_of new.taken new.started ≡ set (full_of old.taken old.started) x.number (Some (record { class = c; arena = x.arena })) =
    ap (λ n. full_of n new.started) ch.taken ∙ (numbered_changed full_pool None old.taken x y old.started new.started r refl f.known (orderly3.numbers x.number) ∙ ap (set (full_of old.taken old.started) x.number) (is_full y ch.last)) in
    let l : Layout = layout_of old in
    let after : Layout = record l { used = set l.used c ps; full = set l.full x.number (Some (record { class = c; arena = x.arena })) } in
    let test : eqb (x.live + 1) (capacity c) ≡ true = elim (eqb_tells (x.live + 1) (capacity c)) [ inl w ↦ w.0 | inr w ↦ absurd (w.1 ch.last) ] in
    let is : place l c NotAsked ≡ record { pool = Some x.number; layout = after } = place_some l c NotAsked (used_pool x) ps f.listed ∙ rw test refl in
    lent c NotAsked x old new (placed c NotAsked y old new f.small kept orderly3 (has_after x y old.started new.started r)
    (places_kept x y old new o orderly3 r refl refl ch.taken) (some_fits l c (used_pool x) ps f.listed) (record { pool = Some x.number; layout = after }) is refl
    (λ i. record { usable = ch.arenas.usable i; dry = ch.arenas.dry i; used = used i; full = full i; given = ch.arenas.given i; back = ch.arenas.back i; most = ch.arenas.most i }))

pub last_one_is_placed : (c : ℕ) (x : PoolLine) (rest : List Spot) (old new : Tables) → IsKept old → LastOne c x rest old new → IsPlaced c NotAsked x old new
last_one_is_placed c x rest old new kept ch =
    let f = first_open c x rest old kept (has_before x (with_one_more x) old.started new.started ch.started) ch.first in
    subst (λ d. LastOne d x rest old new → IsPlaced d NotAsked x old new) f.0 (last_one_here x rest old new kept) ch

-- ---- a new pool

-- a new pool of arena n, in the list of its class
abbrev opened : ℕ → ℕ → Used
opened k n = record { pool = k; arena = n; live = 1 }

-- what a new pool changes
record Opened (c : ℕ) (y : PoolLine) (n : ℕ) (old new : Tables) : Type 0 where
  orderly : AreOrderly new.started new.lists new.taken
  here : Has y new.started
  others : OthersStay y.number old new
  none : pools_of_class (layout_of old) c ≡ []
  used : used_of new.started new.lists ≡ set (used_of old.started old.lists) c (opened (length (full_of old.taken old.started)) n ∷ [])
  full : full_of new.taken new.started ≡ full_of old.taken old.started ++ None ∷ []
  number : length (full_of old.taken old.started) ≡ y.number

opens_here : (y : PoolLine) (n : ℕ) (old new : Tables) → y.class < 32 → IsKept old → NewPool y.class y n old new → Opened y.class y n old new
opens_here y n old new small kept ch =
    let c : ℕ = y.class in
    let o = kept.orderly in
    let p = ch.pool in
    let long : length (full_of old.taken old.started) ≡ old.taken = length-map-range_with_len (full_in old.started) 0 old.taken in
    let orderly2 : AreOrderly new.started (set old.lists c (spot_of y ∷ [])) (old.taken + 1) = pool_comes y old.started new.started old.lists old.taken o ch.started p.0 small p.3 ch.free ch.none in
    let orderly3 : AreOrderly new.started new.lists new.taken = rw (ch.lists, ch.taken) orderly2 in
    let inside : c < length old.lists = let e = o.classes in omega arith in
    let others : (d : ℕ) (s : Spot) → d ≢ c → Has s (get_or old.lists d []) → used_at new.started s ≡ used_at old.started s =
    λ d s m h. let z = listed_pool old.started old.lists old.taken o d s h in used_come y old.started new.started ch.started s (λ e. ch.free z.0 z.1.0 (z.1.1 ∙ sym e)) in
    let is : used_at new.started (spot_of y) ≡ opened (length (full_of old.taken old.started)) n =
    used_here new.started new.lists new.taken orderly3 y (has_new y old.started new.started ch.started) ∙ (λ i. record { pool = (p.0 ∙ sym long) i; arena = p.2 i; live = p.3 i }) in
    let room = many c small in
    record {
      orderly = orderly3;
      here = has_new y old.started new.started ch.started;
      others = places_come y old new o orderly3 ch.started p.0 ch.taken;
      none = used_class old.started old.lists c ∙ ap (map (used_at old.started)) ch.none;
      used = ap (used_of new.started) ch.lists ∙ (used_set old.started new.started old.lists c (spot_of y ∷ []) inside others ∙ ap (λ u. set (used_of old.started old.lists) c (u ∷ [])) is);
      full = ap (λ k. full_of k new.started) ch.taken ∙ (numbered_comes full_pool None old.taken y old.started new.started ch.started p.0 (orderly3.numbers old.taken)
          ∙ ap (λ o. full_of old.taken old.started ++ o ∷ []) (not_full y (λ e. let one = p.3 in absurd (omega arith))));
      number = long ∙ sym p.0;
    }

opens : (c : ℕ) (y : PoolLine) (n : ℕ) (old new : Tables) → c < 32 → IsKept old → NewPool c y n old new → Opened c y n old new
opens c y n old new small kept ch = subst (λ d. d < 32 → NewPool d y n old new → Opened d y n old new) ch.pool.1 (λ s. opens_here y n old new s kept) small ch

pub new_pool_is_placed : (c : ℕ) (y : PoolLine) (u : Usable) (us : List Usable) (old new : Tables) → c < 32 → IsKept old → NewPool c y u.arena old new → GavePool u us old new → IsPlaced c NotAsked y old new
new_pool_is_placed c y u us old new small kept ch gave =
    let f = opens c y u.arena old new small kept ch in
    let l : Layout = layout_of old in
    let is : place l c NotAsked ≡ record { pool = Some (length l.full); layout = place_new l c u us } =
    ap (λ w. place_by l c NotAsked w l.usable) f.none ∙ ap (place_by l c NotAsked []) gave.first in
    let fits : FitsClass l c NotAsked = record { asked = rw (f.none, gave.first) refl; pools = tt } in
    placed c NotAsked y old new small kept f.orderly f.here f.others fits (record { pool = Some (length l.full); layout = place_new l c u us }) is (ap Some f.number)
    (λ i. record { usable = gave.usable i; dry = gave.dry i; used = f.used i; full = f.full i; given = gave.given i; back = gave.back i; most = gave.most i })

pub new_arena_is_placed : (c : ℕ) (y : PoolLine) (total : ℕ) (old new : Tables) → c < 32 → IsKept old → NewPool c y (old.given + 1) old new → GrantedArena total old new → IsPlaced c (Granted total) y old new
new_arena_is_placed c y total old new small kept ch gave =
    let f = opens c y (old.given + 1) old new small kept ch in
    let l : Layout = layout_of old in
    let after : Layout = record {
      usable = record { arena = old.given + 1; total = total; free = total - 1 } ∷ [];
      dry = old.dry ++ None ∷ [];
      used = set l.used c (opened (length l.full) (old.given + 1) ∷ []);
      full = l.full ++ None ∷ [];
      given = old.given + 1;
      back = old.back;
      most = max old.most (old.given + 1 - old.back);
    } in
    let some : eqb total 1 ≡ false = elim (eqb_tells total 1) [ inl w ↦ absurd (let low = gave.pools.0 in omega arith) | inr w ↦ w.0 ] in
    let is : place l c (Granted total) ≡ record { pool = Some (length l.full); layout = after } =
    ap (λ w. place_by l c (Granted total) w l.usable) f.none ∙ (ap (place_by l c (Granted total) []) gave.none ∙ rw some refl) in
    let fits : FitsClass l c (Granted total) = record { asked = rw (f.none, gave.none) refl; pools = gave.pools } in
    placed c (Granted total) y old new small kept f.orderly f.here f.others fits (record { pool = Some (length l.full); layout = after }) is (ap Some f.number)
    (λ i. record { usable = gave.usable i; dry = gave.dry i; used = f.used i; full = f.full i; given = gave.given i; back = gave.back i; most = gave.most i })

-- ---- no pool

pub refused_is_not_placed : (c : ℕ) (t : Tables) → get_or t.lists c [] ≡ [] → t.usable ≡ [] →
    FitsClass (layout_of t) c Refused × ((place (layout_of t) c Refused).layout ≡ layout_of t) × ((place (layout_of t) c Refused).pool ≡ None)
refused_is_not_placed c t none dry =
    let l : Layout = layout_of t in
    let empty : pools_of_class l c ≡ [] = used_class t.started t.lists c ∙ ap (map (used_at t.started)) none in
    let is : place l c Refused ≡ record { pool = None; layout = l } = ap (λ w. place_by l c Refused w l.usable) empty ∙ ap (place_by l c Refused []) dry in
    let fits : FitsClass l c Refused = record { asked = rw (empty, dry) refl; pools = tt } in
    (fits, ap (λ (p : Placed). p.layout) is, ap (λ (p : Placed). p.pool) is)
