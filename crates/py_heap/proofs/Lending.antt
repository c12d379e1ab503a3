-- A block of the first pool of a class.
use Rattle.std.proofs.Common.{◌≡◌, ◌≢◌, ℕ, ◌+◌, ◌-◌, ◌%◌, ◌^◌, ◌<◌, ◌↔◌, ◌⊎◌, ◌≤◌, cond, eqb, Option, IsTrue, Bool, true, false, inl, inr, List, [], ◌∷◌, map, length, get_or, set, Some, refl, sym, ap, subst, ◌∙◌, arith}
use Rattle.std.proofs.lemmas.Bool.Decides.{eqb_tells}
use Rattle.std.proofs.lemmas.List.{get_or-map, map-set, length-map, length-set, get_or-set_same, get_or-set_other}
use Rattle.mem_base.specs.declared.history.Grant.TheVariants.{NotAsked}
use Rattle.raw_region.specs.Region.{PieceView}
use Rattle.extents.specs.Sums.{tally, Has, Inserted, Replaced}
use Rattle.extents.specs.Extent.{Extent, region_extent, piece_extent, AreApart}
use Rattle.extents.proofs.CallerLemmas.{tally_replaced, length_inserted}
use Rattle.layout_model.specs.Sizes.{size_of_class, capacity}
use Rattle.layout_model.specs.Pool.{HasRoom, IsPool}
use Rattle.pool_core.proofs.CallerLemmas.{took}
use Rattle.layout_model.specs.Geometry.{PoolLine}
use Rattle.heap_model.specs.Tables.{Spot, spot_of, with_one_more}
use Rattle.heap_model.specs.Kept.{IsKept, is_open}
use Rattle.heap_model.specs.Laws.{IsPlaced}
use Rattle.heap_model.proofs.CallerLemmas.{first_has_room, lists_have_open_pools, one_more_is_placed, last_one_is_placed, place_there}
use Rattle.arena_set.specs.declared.pool_id.PoolId.{PoolId}
use Rattle.arena_set.specs.Started.{Started}
use Rattle.arena_set.specs.Arena.{ArenaView, IsSound, after_lending}
use Rattle.arena_set.specs.Set.{SetView, regions_of, loans_of, dry_of, IsSet}
use Rattle.arena_set.specs.Calls.{IsStarted, CanLend, Lends}
use Rattle.arena_set.proofs.CallerLemmas.{all_at, inside}
use Rattle.py_heap.specs.Heap.{PoolInRegion, InPool, Serves}
use Rattle.py_heap.specs.Kept.{ClassView, State, no_pools, spot, spots_of, lines_of, sites_of, tables_of, heap_of, class_at, full_in, IsKeptState}
use Rattle.py_heap.specs.Links.{class_view, AreLinked}
use Rattle.py_heap.specs.Relinks.{OnlyLinks}
use Rattle.py_heap.specs.State.{state_of}
use Rattle.py_heap.specs.declared.pools.Pools.{Pools}
use Rattle.py_heap.specs.declared.classes.ClassPools.{ClassPools}
use Rattle.py_heap.proofs.Linked.{classes_told, head_of}
use Rattle.py_heap.proofs.Relinking.{changed_linked, only_none}
use Rattle.py_heap.proofs.Arenas.{loans_few, lines_few, line_at, line_there, started_there, started_once, region_there, arena_at, pool_ground, sites_same}

-- ---- what a set lends

-- the pool of the line x lends the piece
pub record LentOf (x : PoolLine) (piece : PieceView) (full : Bool) (old new : SetView) : Type 0 where
  pub lines : Replaced x (with_one_more x) (lines_of old.arenas) (lines_of new.arenas)
  pub fills : IsTrue full ↔ (x.live + 1 ≡ capacity x.class)
  pub region : Extent
  pub held : Has region (regions_of old.arenas)
  pub ground : PoolInRegion x.place region
  pub inside : InPool (piece_extent piece) x.place
  pub maker : piece.maker ≡ region.maker
  pub len : length piece.bytes ≡ size_of_class x.class
  pub aligned : piece.place % 16 ≡ 0
  pub sites : sites_of new.arenas ≡ sites_of old.arenas
  pub count : length new.arenas ≡ length old.arenas

pub pool_inside : (v : SetView) (id : PoolId) (a : ArenaView) (s : Started) → IsStarted v id a s → id.pool < length a.pools
pool_inside v id a s st = inside a.pools id.pool s st.there

pub pool_sound : (v : SetView) (id : PoolId) (a : ArenaView) (s : Started) → IsSet v → IsStarted v id a s → IsPool s.pool
pool_sound v id a s sound st = all_at IsSound a.pools id.pool s (arena_at v id.arena a sound st.at).sound st.there

pub lent_of : (old new : SetView) (id : PoolId) (piece : PieceView) (full : Bool) (a : ArenaView) (s : Started) → IsSet old → IsStarted old id a s → HasRoom s.pool → Lends old new id piece full → LentOf (line_at id a s) piece full old new
lent_of old new id piece full a s sound st room l =
    let once = started_once old id l.a a l.s s l.started st in
    let t = took l.s.pool (pool_sound old id l.a l.s sound l.started) (subst (λ (z : Started). HasRoom z.pool) (sym once.1) room) in
    let live = t.live in
    let made : LentOf (line_at id l.a l.s) piece full old new = record {
      lines = l.pools;
      fills = (λ h. sym live ∙ l.now_full.0 h, λ e. l.now_full.1 (live ∙ e));
      region = region_extent l.a.region;
      held = region_there old id.arena l.a l.started.at;
      ground = pool_ground old id l.a sound l.started.at (pool_inside old id l.a l.s l.started);
      inside = l.inside;
      maker = l.maker;
      len = l.len;
      aligned = l.aligned;
      sites = ap sites_of l.arena.arenas ∙ sites_same old.arenas id.arena l.a l.b l.started.at.some l.started.at.there l.change.base;
      count = ap length l.arena.arenas ∙ length-set old.arenas (id.arena - 1) _;
    } in
    subst (λ (z : Started). LentOf (line_at id a z) piece full old new) once.1 (subst (λ (z : ArenaView). LentOf (line_at id z l.s) piece full old new) once.0 made)

-- ---- full pools

pub full_tells : (d : ℕ) (x : PoolLine) → ((x.class ≡ d) × (x.live ≡ capacity d) × (full_in d x ≡ 1)) ⊎ (((x.class ≡ d → x.live ≢ capacity d)) × (full_in d x ≡ 0))
full_tells d x = elim (eqb_tells x.class d) [
  | inl w ↦ rw w.0 (elim (eqb_tells x.live (capacity d)) [ inl v ↦ rw v.0 (inl (w.1, v.1, refl)) | inr v ↦ rw v.0 (inr (λ e. v.1, refl)) ])
  | inr w ↦ rw w.0 (inr (λ e. absurd (w.1 e), refl))
]

pub not_full_in : (d : ℕ) (x : PoolLine) → x.live ≢ capacity x.class → full_in d x ≡ 0
not_full_in d x half = elim (full_tells d x) [ inl p ↦ absurd (half (p.1 ∙ ap capacity (sym p.0))) | inr p ↦ p.1 ]

-- ---- classes

pub lists_at : (s : State) (c : ℕ) → IsKept (tables_of s) → c < 32 → (c < length s.classes) × (get_or (map spots_of s.classes) c [] ≡ (class_at s c).spots)
lists_at s c kept small =
    let classes = kept.orderly.classes in let long = length-map s.classes spots_of in
    let lt : c < length s.classes = omega arith in
    (lt, get_or-map spots_of s.classes c no_pools [] lt)

-- ---- the call

module _ (old : State) (k : IsKeptState old) (c : ℕ) (small : c < 32) (id : PoolId) (rest : List Spot) (first : (class_at old c).spots ≡ spot id ∷ rest) where
  listed : get_or (map spots_of old.classes) c [] ≡ spot id ∷ rest
  listed = (lists_at old c k.kept small).1 ∙ first

  found : (x : PoolLine) × (Has x (lines_of old.set.arenas) × (spot_of x ≡ spot id) × (x.class ≡ c) × (x.live < capacity x.class))
  found = first_has_room (tables_of old) c (spot id) rest k.kept listed

  pub record First : Type 0 where
    pub a : ArenaView
    pub s : Started
    pub started : IsStarted old.set id a s
    pub class : s.pool.class ≡ c
    pub room : HasRoom s.pool

  pub the_first : First
  the_first =
      let l = line_there old.set (found).0 (found).1.0 in
      let same : l.id ≡ id = λ i. record { arena = ((ap spot_of l.is ∙ (found).1.1) i).arena; pool = ((ap spot_of l.is ∙ (found).1.1) i).slot } in
      record {
        a = l.a;
        s = l.s;
        started = subst (λ (p : PoolId). IsStarted old.set p l.a l.s) same l.started;
        class = ap (λ (y : PoolLine). y.class) l.is ∙ (found).1.2;
        room = subst (λ (y : PoolLine). y.live < capacity y.class) (sym l.is) (found).1.3;
      }

  pub can_lend : CanLend old.set id
  can_lend = let f = the_first in record { a = f.a; s = f.s; started = f.started; room = f.room }

  module _ (new_set : SetView) (piece : PieceView) (full : Bool) (lends : Lends old.set new_set id piece full) (loans : Inserted (piece_extent piece) (loans_of old.set.arenas) (loans_of new_set.arenas))
      (apart : AreApart (loans_of new_set.arenas)) (regions : regions_of new_set.arenas ≡ regions_of old.set.arenas) (same : (new_set.usable ≡ old.set.usable) × (dry_of new_set ≡ dry_of old.set)) (sound : IsSet new_set) where
    abbrev x : PoolLine
    x = line_at id (the_first).a (the_first).s

    pub gave : LentOf x piece full old.set new_set
    gave = lent_of old.set new_set id piece full (the_first).a (the_first).s k.sound_set (the_first).started (the_first).room lends

    here : Has x (lines_of old.set.arenas)
    here = started_there old.set id (the_first).a (the_first).s (the_first).started

    half : x.live ≢ capacity x.class
    half = let room = (the_first).room in λ e. absurd (omega arith)

    pub lent_linked : AreLinked new_set.arenas old.classes
    lent_linked = changed_linked old.set new_set id lends.a lends.b lends.s (after_lending lends.s) lends.started lends.change lends.arena refl refl refl old.classes k.linked

    -- the heap before and after, whatever its classes are
    module _ (new : State) (only : OnlyLinks new_set new.set) (given_is : new.given ≡ old.given) (back_is : new.back ≡ old.back) (marks_are : new.marks ≡ old.marks) (pooled_is : new.pooled ≡ old.pooled + 1)
        (full_is : (d : ℕ) → (class_at new d).full ≡ (class_at old d).full + full_in d (with_one_more x)) (placed : IsPlaced c NotAsked x (tables_of old) (tables_of new))
        (linked : AreLinked new.set.arenas new.classes) where
      regions_are : regions_of new.set.arenas ≡ regions_of old.set.arenas
      regions_are = only.regions ∙ regions

      lent_kept : IsKeptState new
      lent_kept = record {
        kept = placed.kept;
        sound_set = only.set;
        apart = subst AreApart (sym only.loans) apart;
        numbered = given_is ∙ k.numbered ∙ sym (gave).count ∙ sym only.count;
        few = let e = given_is in let f = k.few in omega arith;
        out = let e = given_is in let b = back_is in let r = ap length regions_are in let o = k.out in omega arith;
        lent = let p = pooled_is in let l = k.lent in let i = length_inserted (piece_extent piece) (loans_of old.set.arenas) (loans_of new_set.arenas) loans in let n = ap length only.loans in omega arith;
        marked = λ f. let m = k.marked f in ap (tally f) marks_are ∙ m ∙ ap (tally f) (sym (gave).sites) ∙ ap (tally f) (sym only.sites);
        full = λ d. let t = tally_replaced (full_in d) x (with_one_more x) (lines_of old.set.arenas) (lines_of new_set.arenas) (gave).lines in let z = not_full_in d x half in let o = k.full d in let n = full_is d in
            let e = ap (tally (full_in d)) only.lines in omega arith;
        linked = linked;
      }

      lent_serves : Serves c NotAsked (Some piece) (heap_of old) (heap_of new)
      lent_serves = record {
        fits = placed.fits;
        layout = placed.layout;
        got = (
          (λ e. cc),
          record {
            pool = x.number;
            begins = x.place;
            region = (gave).region;
            placed = placed.pool;
            is = placed.place;
            was = inr (place_there (tables_of old) k.kept.orderly x here);
            others = placed.others;
            held = subst (Has (gave).region) (sym regions_are) (gave).held;
            ground = (gave).ground;
            inside = (gave).inside;
            maker = (gave).maker;
            len = (gave).len ∙ ap size_of_class (the_first).class;
            aligned = (gave).aligned;
            lent = subst (Inserted (piece_extent piece) (loans_of old.set.arenas)) (sym only.loans) loans;
          },
        );
      }

    -- the pool has another free block
    pub one : full ≡ false → AreLinked new_set.arenas old.classes → let new = record old { set = new_set; pooled = old.pooled + 1 } in IsKeptState new × Serves c NotAsked (Some piece) (heap_of old) (heap_of new) × (regions_of new.set.arenas ≡ regions_of old.set.arenas)
    one half_full linked =
        let new : State = record old { set = new_set; pooled = old.pooled + 1 } in
        let more : x.live + 1 ≢ capacity x.class = λ e. let t = (gave).fills.1 e in absurd (cc) in
        let placed = one_more_is_placed c x rest (tables_of old) (tables_of new) k.kept (record {
          first = listed;
          room = more;
          started = (gave).lines;
          lists = refl;
          taken = refl;
          arenas = record { usable = same.0; dry = same.1; given = refl; back = refl; most = refl };
        }) in
        let fulls : (d : ℕ) → (class_at new d).full ≡ (class_at old d).full + full_in d (with_one_more x) = λ d. let z = not_full_in d (with_one_more x) more in omega arith in
        let only = only_none new_set sound in
        (lent_kept new only refl refl refl refl fulls placed linked, lent_serves new only refl refl refl refl fulls placed linked, regions)

    -- it was the pool's last free block
    pub last : (set2 : SetView) → OnlyLinks new_set set2 → (v : ClassView) → v.spots ≡ rest → v.full ≡ (class_at old c).full + 1 → AreLinked set2.arenas (set old.classes c v) → full ≡ true →
        let new = record old { set = set2; classes = set old.classes c v; pooled = old.pooled + 1 } in IsKeptState new × Serves c NotAsked (Some piece) (heap_of old) (heap_of new) × (regions_of new.set.arenas ≡ regions_of old.set.arenas)
    last set2 only v spots more linked all_full =
        let new : State = record old { set = set2; classes = set old.classes c v; pooled = old.pooled + 1 } in
        let all : x.live + 1 ≡ capacity x.class = (gave).fills.0 all_full in
        let placed = last_one_is_placed c x rest (tables_of old) (tables_of new) k.kept (record {
          first = listed;
          last = all;
          started = subst (Replaced x (with_one_more x) (lines_of old.set.arenas)) (sym only.lines) (gave).lines;
          lists = map-set spots_of old.classes c v ∙ ap (set (map spots_of old.classes) c) spots;
          taken = refl;
          arenas = record { usable = only.usable ∙ same.0; dry = only.dry ∙ same.1; given = refl; back = refl; most = refl };
        }) in
        let fulls : (d : ℕ) → (class_at new d).full ≡ (class_at old d).full + full_in d (with_one_more x) = λ d. class_full d v more all in
        (lent_kept new only refl refl refl refl fulls placed linked, lent_serves new only refl refl refl refl fulls placed linked, only.regions ∙ regions) where
          class_full : (d : ℕ) (v : ClassView) → v.full ≡ (class_at old c).full + 1 → x.live + 1 ≡ capacity x.class → (get_or (set old.classes c v) d no_pools).full ≡ (class_at old d).full + full_in d (with_one_more x)
          class_full d v more all = elim (full_tells d (with_one_more x)) [
            | inl p ↦ let e : c ≡ d = sym (the_first).class ∙ p.0 in
                let at : get_or (set old.classes c v) d no_pools ≡ v = ap (λ j. get_or (set old.classes c v) j no_pools) (sym e) ∙ get_or-set_same old.classes c v no_pools (lists_at old c k.kept small).0 in
                let f = ap (λ (w : ClassView). w.full) at in let o = ap (λ j. (class_at old j).full) e in let one = p.2 in omega arith
            | inr p ↦ let other : d ≢ c = λ e. p.0 ((the_first).class ∙ sym e) (all ∙ ap capacity ((the_first).class ∙ sym e)) in
                let f = ap (λ (w : ClassView). w.full) (get_or-set_other old.classes c d v no_pools other) in let zero = p.1 in omega arith
          ]

-- ---- what the code reads

-- the pools of a class, by what is kept of their list
pub read_head : (arenas : List (Option ArenaView)) (heads : List ClassPools) (c : ℕ) (h : ClassPools) → c < length heads → h ≡ get_or heads c h → get_or (map (class_view arenas) heads) c no_pools ≡ class_view arenas h
read_head arenas heads c h lt is = get_or-map (class_view arenas) heads c h no_pools lt ∙ ap (class_view arenas) (sym is)

-- each class has a place in the table
pub heads_long : (p : Pools) (c : ℕ) → IsKeptState (state_of p) → c < 32 → c < length p.classes.items
heads_long p c k small = let long = length-map p.classes.items (class_view p.set.arenas) in let lt = (lists_at (state_of p) c k.kept small).0 in omega arith

pub read_class : (p : Pools) (c : ℕ) (h : ClassPools) → IsKeptState (state_of p) → c < 32 → h ≡ get_or p.classes.items c h → class_at (state_of p) c ≡ class_view p.set.arenas h
read_class p c h k small is = read_head p.set.arenas p.classes.items c h (heads_long p c k small) is

few_of : (f : PoolLine → ℕ) (xs : List PoolLine) → ((x : PoolLine) → f x ≤ 1) → tally f xs ≤ length xs
few_of f [] le = omega arith
few_of f (x ∷ xs) le = let i = few_of f xs le in let one = le x in omega arith

-- full pools, and those of a list, are so few that they can be counted
pub full_fits : (s : State) (c : ℕ) → IsKeptState s → (class_at s c).full + 1 < 2 ^ 64
full_fits s c k =
    let e = k.full c in let n = k.numbered in let f = k.few in let m = lines_few s.set k.sound_set in
    let le = few_of (full_in c) (lines_of s.set.arenas) (λ x. elim (full_tells c x) [ inl p ↦ let o = p.2 in omega arith | inr p ↦ let o = p.1 in omega arith ]) in omega arith

pub count_fits : (s : State) (c : ℕ) → IsKeptState s → c < 32 → (class_at s c).count + 1 < 2 ^ 64
count_fits s c k small =
    let h = (k.linked.headed c).count in let l = ap length (lists_at s c k.kept small).1 in let o = lists_have_open_pools (tables_of s) c k.kept in
    let n = k.numbered in let f = k.few in let m = lines_few s.set k.sound_set in
    let le = few_of (is_open c) (lines_of s.set.arenas) (λ x. open_one c x) in omega arith where
      open_one : (c : ℕ) (x : PoolLine) → is_open c x ≤ 1
      open_one c x = elim (eqb x.class c) as (λ b. cond b (cond (eqb x.live (capacity c)) 0 1) 0 ≤ 1) [
        | true ↦ elim (eqb x.live (capacity c)) as (λ b. cond b 0 1 ≤ 1) [ true ↦ omega arith | false ↦ omega arith ]
        | false ↦ omega arith
      ]

-- the state is told by its set and by what is kept of its lists
pub told : (p : Pools) (classes : List ClassView) → IsSet p.set → AreLinked p.set.arenas classes → p.classes.items ≡ map head_of classes → state_of p ≡ record (state_of p) { classes = classes }
told p classes sound l heads = let e = ap (map (class_view p.set.arenas)) heads ∙ classes_told p.set classes sound l in λ i. record (state_of p) { classes = e i }

-- one more block can be counted
pub pooled_fits : (s : State) → IsKeptState s → s.pooled + 1 < 2 ^ 64
pooled_fits s k = let l = k.lent in let n = k.numbered in let f = k.few in let m = loans_few s.set k.sound_set in omega arith
