-- A block is freed.
use Rattle.std.proofs.Common.{◌≡◌, ◌≢◌, ℕ, ◌+◌, ◌-◌, ◌<◌, ◌≤◌, ◌↔◌, IsTrue, Bool, true, false, inl, inr, ◌∷◌, map, length, get_or, set, Option, IfSome, IsSome, Some, None, refl, sym, ap, subst, ◌∙◌, arith}
use Rattle.std.proofs.lemmas.List.{map-set, length-set, get_or-set_same, get_or-set_other}
use Rattle.raw_region.specs.Cells.{AllHome}
use Rattle.raw_region.specs.Region.{RegionView, PieceView}
use Rattle.extents.specs.Sums.{tally, Has, Removed, Replaced}
use Rattle.extents.specs.Extent.{Extent, covers, piece_extent, AreApart, region_extent}
use Rattle.extents.proofs.CallerLemmas.{tally_has, tally_replaced, length_inserted}
use Rattle.layout_model.specs.Sizes.{capacity}
use Rattle.layout_model.proofs.CallerLemmas.{many}
use Rattle.layout_model.specs.Pool.{live_of, blocks_of, size_of, after_give}
use Rattle.pool_core.proofs.CallerLemmas.{gave, block_inside}
use Rattle.heap_model.specs.Tables.{with_one_less}
use Rattle.heap_model.specs.Laws.{IsUnplaced}
use Rattle.heap_model.specs.Ground.{AreStanding}
use Rattle.heap_model.proofs.CallerLemmas.{spot_once as line_once, listed_pool, has_after, place_there, freed_full_is_unplaced, freed_one_is_unplaced}
use Rattle.arena_set.specs.declared.pool_id.PoolId.{PoolId}
use Rattle.arena_set.specs.Started.{Started}
use Rattle.layout_model.specs.Geometry.{pool_offset, PoolLine}
use Rattle.arena_set.specs.Arena.{ArenaView, arena_loans, pool_loans, block_extent, piece_offset, after_mending}
use Rattle.arena_set.specs.Set.{SetView, regions_of, loans_of, dry_of, IsSet, region_in}
use Rattle.arena_set.specs.Calls.{IsStarted, CanMend, Mends, GivesPool}
use Rattle.arena_set.proofs.CallerLemmas.{PieceOf, piece_of}
use Rattle.py_heap.specs.Heap.{AreHome, InPool}
use Rattle.py_heap.specs.Kept.{ClassView, State, no_pools, spot, spots_of, lines_of, sites_of, tables_of, heap_of, class_at, full_in, IsKeptState}
use Rattle.py_heap.specs.Frees.{TakesBack}
use Rattle.py_heap.proofs.Arenas.{at_number, in_flat, region_at, line_at, started_there, started_once, sites_same}
use Rattle.py_heap.specs.Links.{pool_at, class_of, list_of, AreLinked}
use Rattle.py_heap.specs.Relinks.{HasPoolOf, IsPoolOf, OnlyLinks, SameBody}
use Rattle.py_heap.proofs.Ground.{pool_once, standing_of}
use Rattle.py_heap.proofs.Linked.{class_is}
use Rattle.py_heap.proofs.Relinking.{changed_linked, only_none}
use Rattle.py_heap.proofs.Lending.{pool_sound, full_tells, not_full_in, lists_at}

-- ---- arenas and pools by address

pub standing : (s : State) → IsKeptState s → AreStanding (sites_of s.set.arenas) (tables_of s)
standing s k = standing_of s.set (tables_of s) k.sound_set refl

-- where a block stands in its pool
pub record BlockAt (v : SetView) (e : Extent) : Type 0 where
  pub id : PoolId
  pub a : ArenaView
  pub s : Started
  pub started : IsStarted v id a s
  pub lent : Has e (pool_loans a.region.base a.region.maker id.pool s)
  pub off : ℕ
  pub held : Has off (blocks_of s.pool)
  pub is : e ≡ block_extent a.region.base a.region.maker (pool_offset a.region.base id.pool) (size_of s.pool) off
  pub inside : InPool e (line_at id a s).place
  pub some : 1 ≤ e.len

pub block_at : (v : SetView) (e : Extent) → IsSet v → Has e (loans_of v.arenas) → BlockAt v e
block_at v e sound h =
    let o = in_flat (λ n a. arena_loans a) 1 v.arenas e h in
    let q = in_flat (pool_loans o.x.region.base o.x.region.maker) 0 o.x.pools e o.here in
    let same : q.i ≡ q.m = let d = q.at in omega arith in
    let id : PoolId = record { arena = o.m; pool = q.m } in
    let there = subst (λ k. get_or o.x.pools k None ≡ Some q.x) same q.there in
    let started : IsStarted v id o.x q.x = record { at = at_number v o.i o.m o.x o.at o.there; there = there } in
    let p = piece_of o.x q.m q.x e q.here in
    let g = gave q.x.pool p.off (pool_sound v id o.x q.x sound started) p.held in
    let b = block_inside q.x.pool.class p.off g.0.inside in
    let place = ap (λ (x : Extent). x.place) p.is in let len = ap (λ (x : Extent). x.len) p.is in
    record {
      id = id;
      a = o.x;
      s = q.x;
      started = started;
      lent = q.here;
      off = p.off;
      held = p.held;
      is = p.is;
      inside = (omega arith, omega arith);
      some = omega arith;
    }

-- the pool of a block has its address
block_address : (v : SetView) (e : Extent) (b : BlockAt v e) → IsPoolOf v b.id e.place
block_address v e b = record { a = b.a; s = b.s; started = b.started; has = (let i = b.inside in let one = b.some in (omega arith, omega arith)) }

pub pool_of_block : (v : SetView) (e : Extent) → IsSet v → Has e (loans_of v.arenas) → HasPoolOf v e.place
pool_of_block v e sound loan = let b = block_at v e sound loan in record { id = b.id; is = block_address v e b }

-- and the pool that has its address is the block's
pub mendable : (v : SetView) (piece : PieceView) (id : PoolId) → IsSet v → Has (piece_extent piece) (loans_of v.arenas) → IsPoolOf v id piece.place → CanMend v id piece
mendable v piece id sound loan is =
    let b = block_at v (piece_extent piece) sound loan in
    subst (λ (q : PoolId). CanMend v q piece) (pool_once v b.id id piece.place sound (block_address v (piece_extent piece) b) is) (record { a = b.a; s = b.s; started = b.started; lent = b.lent })

pub all_mendable : (v : SetView) (piece : PieceView) (o : Option PoolId) → IsSet v → (tally (covers piece.place) (regions_of v.arenas) ≡ 1 → Has (piece_extent piece) (loans_of v.arenas)) → (IsSome o → tally (covers piece.place) (regions_of v.arenas) ≡ 1)
    → IfSome o (λ id. IsPoolOf v id piece.place) → IfSome o (λ id. CanMend v id piece)
all_mendable v piece None sound loan own is = tt
all_mendable v piece (Some id) sound loan own is = mendable v piece id sound (loan (own refl)) is

-- ---- what a set takes back

-- the region of an arena that goes
pub region_back : (old new : SetView) (id : PoolId) (r : RegionView) (g : GivesPool old new id (Some r)) → (region_extent r ≡ region_extent g.a.region) × AllHome r.cells
region_back old new id r g = g.region r refl

-- the piece comes home to the pool of the line x
pub record MendOf (x : PoolLine) (full empty : Bool) (old new : SetView) : Type 0 where
  pub lines : Replaced x (with_one_less x) (lines_of old.arenas) (lines_of new.arenas)
  pub was_full : IsTrue full ↔ (x.live ≡ capacity x.class)
  pub now_empty : IsTrue empty ↔ (x.live ≡ 1)
  pub some : 1 ≤ x.live
  pub sites : sites_of new.arenas ≡ sites_of old.arenas
  pub count : length new.arenas ≡ length old.arenas

-- the pool after that
pub record After (v : SetView) (id : PoolId) (x : PoolLine) : Type 0 where
  pub a : ArenaView
  pub s : Started
  pub started : IsStarted v id a s
  pub is : with_one_less x ≡ line_at id a s

module _ (old new : SetView) (id : PoolId) (piece : PieceView) (full empty : Bool) (sound : IsSet old) (can : CanMend old id piece) (m : Mends old new id piece full empty) where
  abbrev y : PoolLine
  y = line_at id m.a m.s

  lent : Has (piece_extent piece) (pool_loans m.a.region.base m.a.region.maker id.pool m.s)
  lent =
      let same = started_once old id can.a m.a can.s m.s can.started m.started in
      subst (λ (z : Started). Has (piece_extent piece) (pool_loans m.a.region.base m.a.region.maker id.pool z)) same.1
      (subst (λ (z : ArenaView). Has (piece_extent piece) (pool_loans z.region.base z.region.maker id.pool can.s)) same.0 can.lent)

  piece_is : PieceOf m.a id.pool m.s (piece_extent piece)
  piece_is = piece_of m.a id.pool m.s (piece_extent piece) lent

  fewer : live_of m.s.pool ≡ live_of (after_give m.s.pool (piece_offset m.a id.pool piece)) + 1
  fewer =
      let place = ap (λ (e : Extent). e.place) (piece_is).is in
      let at : piece_offset m.a id.pool piece ≡ (piece_is).off = omega arith in
      subst (λ o. live_of m.s.pool ≡ live_of (after_give m.s.pool o) + 1) (sym at) (gave m.s.pool (piece_is).off (pool_sound old id m.a m.s sound m.started) (piece_is).held).0.live

  base_back : m.a.region.base ≡ m.b.region.base
  base_back = sym m.change.base

  pub mend_of : MendOf y full empty old new
  mend_of = record {
    lines = m.pools;
    was_full = m.was_full;
    now_empty = (λ h. let z = m.now_empty.0 h in let f = fewer in omega arith, λ e. m.now_empty.1 (let f = fewer in omega arith));
    some = let f = fewer in omega arith;
    sites = ap sites_of m.arena.arenas ∙ sites_same old.arenas id.arena m.a m.b m.started.at.some m.started.at.there m.change.base;
    count = ap length m.arena.arenas ∙ length-set old.arenas (id.arena - 1) _;
  }

  pub after : After new id y
  after =
      let f = fewer in
      let live : y.live - 1 ≡ live_of (after_give m.s.pool (piece_offset m.a id.pool piece)) = omega arith in
      record {
        a = m.b;
        s = after_mending m.s (piece_offset m.a id.pool piece);
        started = m.now;
        is = λ i. record { number = y.number; class = y.class; arena = y.arena; slot = y.slot; place = base_back i + pool_offset (base_back i) id.pool; live = live i };
      }

-- ---- the call

module _ (old : State) (k : IsKeptState old) (piece : PieceView) (loan : Has (piece_extent piece) (loans_of old.set.arenas)) (id : PoolId) (can : CanMend old.set id piece)
    (set1 : SetView) (full empty : Bool) (mends : Mends old.set set1 id piece full empty) (loans : Removed (piece_extent piece) (loans_of old.set.arenas) (loans_of set1.arenas))
    (apart : AreApart (loans_of set1.arenas)) (regions : regions_of set1.arenas ≡ regions_of old.set.arenas) (same : (set1.usable ≡ old.set.usable) × (dry_of set1 ≡ dry_of old.set)) (sound : IsSet set1) where
  abbrev pool : PoolLine
  pool = line_at id mends.a mends.s

  pub back : MendOf pool full empty old.set set1
  back = mend_of old.set set1 id piece full empty k.sound_set can mends

  pool_here : Has pool (lines_of old.set.arenas)
  pool_here = started_there old.set id mends.a mends.s mends.started

  small : pool.class < 32
  small = (k.kept.orderly.pools pool pool_here).small

  -- the pool's class has a place among the classes
  pub class_inside : pool.class < length old.classes
  class_inside = (lists_at old pool.class k.kept small).0

  -- the lists are as before
  pub mended_linked : AreLinked set1.arenas old.classes
  mended_linked = changed_linked old.set set1 id mends.a mends.b mends.s (after_mending mends.s (piece_offset mends.a id.pool piece)) mends.started mends.change mends.arena refl refl refl old.classes k.linked

  pub class_there : class_of (pool_at set1.arenas (spot id)) ≡ Some pool.class
  class_there = class_is set1 id mends.b (after_mending mends.s (piece_offset mends.a id.pool piece)) mends.now

  -- a full pool is in none of them
  pub not_listed : full ≡ true → (c : ℕ) → Has (spot id) (list_of old.classes c) → ⊥
  not_listed was_full c h =
      let listed = k.linked.listed c (spot id) h in
      let mine = class_is old.set id mends.a mends.s mends.started in
      let class : pool.class ≡ c = (let e : Some pool.class ≡ Some c = sym mine ∙ listed in cc) in
      let x = listed_pool (lines_of old.set.arenas) (map spots_of old.classes) old.taken k.kept.orderly pool.class (spot id)
      (subst (Has (spot id)) (sym (lists_at old pool.class k.kept small).1) (subst (λ d. Has (spot id) (list_of old.classes d)) (sym class) h)) in
      let same : x.0 ≡ pool = line_once (lines_of old.set.arenas) (map spots_of old.classes) old.taken k.kept.orderly x.0 pool x.1.0 pool_here x.1.1 in
      x.1.3 (ap (λ (y : PoolLine). y.live) same ∙ (back).was_full.0 was_full)

  -- the piece lies in the pool
  pub piece_inside : InPool (piece_extent piece) pool.place
  piece_inside =
      let p = piece_is old.set set1 id piece full empty k.sound_set can mends in
      let g = gave mends.s.pool p.off (pool_sound old.set id mends.a mends.s k.sound_set mends.started) p.held in
      let b = block_inside mends.s.pool.class p.off g.0.inside in
      let place = ap (λ (x : Extent). x.place) p.is in let len = ap (λ (x : Extent). x.len) p.is in
      (omega arith, omega arith)

  -- behind its header
  piece_body : (p : PieceOf mends.a id.pool mends.s (piece_extent piece)) → (48 ≤ p.off) × (p.off + length piece.bytes ≤ 16384)
  piece_body p =
      let g = gave mends.s.pool p.off (pool_sound old.set id mends.a mends.s k.sound_set mends.started) p.held in
      let b = block_inside mends.s.pool.class p.off g.0.inside in
      let len = ap (λ (x : Extent). x.len) p.is in (omega arith, omega arith)

  -- it is at home in its arena, where the arena's cells behind headers are as the mending left them
  pub home_by : (new : State) → SameBody (Some mends.b) (get_or new.set.arenas (id.arena - 1) None) → AreHome piece (heap_of new)
  home_by new body =
      let p = piece_is old.set set1 id piece full empty k.sound_set can mends in
      let place = ap (λ (e : Extent). e.place) p.is in
      let base = mends.change.base in
      let lies = piece_body p in
      record {
        arena = id.arena - 1;
        region = body.0.region;
        there = region_at (id.arena - 1) new.set.arenas ∙ ap region_in body.1.0;
        inside = (let e = body.1.1 in omega arith);
        bytes = λ i low lt.
            let off : ℕ = (p.off + i) in
            let e : pool_offset mends.b.region.base id.pool + off ≡ piece.place - mends.a.region.base + i = ap (λ n. pool_offset n id.pool + off) base ∙ omega arith in
            let same = body.1.2 id.pool off (omega arith) (omega arith) in
            ap (λ n. get_or body.0.region.cells n None) (let x = body.1.1 in let here : piece.place - body.0.region.base + i ≡ pool_offset mends.b.region.base id.pool + off = (let y = e in omega arith) in here) ∙ (same ∙ (ap (λ n. get_or mends.b.region.cells n None) e ∙ mends.bytes i low lt));
      }

  pooled_less : (n : ℕ) → n ≡ old.pooled - 1 → n ≡ length (loans_of set1.arenas)
  pooled_less n is = let l = k.lent in let i = length_inserted (piece_extent piece) (loans_of set1.arenas) (loans_of old.set.arenas) loans in omega arith

  module _ (new : State) (only : OnlyLinks set1 new.set) (given_is : new.given ≡ old.given) (back_is : new.back ≡ old.back) (marks_are : new.marks ≡ old.marks) (pooled_is : new.pooled ≡ old.pooled - 1)
      (full_is : (d : ℕ) → (class_at new d).full + full_in d pool ≡ (class_at old d).full + full_in d (with_one_less pool)) (unplaced : IsUnplaced pool (tables_of old) (tables_of new))
      (linked : AreLinked new.set.arenas new.classes) where
    regions_are : regions_of new.set.arenas ≡ regions_of old.set.arenas
    regions_are = only.regions ∙ regions

    stays_kept : IsKeptState new
    stays_kept = record {
      kept = unplaced.kept;
      sound_set = only.set;
      apart = subst AreApart (sym only.loans) apart;
      numbered = given_is ∙ k.numbered ∙ sym (back).count ∙ sym only.count;
      few = let e = given_is in let f = k.few in omega arith;
      out = let e = given_is in let b = back_is in let r = ap length regions_are in let o = k.out in omega arith;
      lent = pooled_less new.pooled pooled_is ∙ ap length (sym only.loans);
      marked = λ f. let m = k.marked f in ap (tally f) marks_are ∙ m ∙ ap (tally f) (sym (back).sites) ∙ ap (tally f) (sym only.sites);
      full = λ d. let t = tally_replaced (full_in d) pool (with_one_less pool) (lines_of old.set.arenas) (lines_of set1.arenas) (back).lines in let o = k.full d in let n = full_is d in
          let e = ap (tally (full_in d)) only.lines in omega arith;
      linked = linked;
    }

    home_again : AreHome piece (heap_of new)
    home_again = home_by new (subst (λ o. SameBody o (get_or new.set.arenas (id.arena - 1) None)) mends.now.at.there (only.bodies (id.arena - 1)))

    stays_back : TakesBack piece None (heap_of old) (heap_of new)
    stays_back = record {
      freed = record {
        pool = pool.number;
        begins = pool.place;
        was = unplaced.place;
        inside = piece_inside;
        layout = unplaced.layout;
        is = inr (place_there (tables_of new) unplaced.kept.orderly (with_one_less pool) (subst (Has (with_one_less pool)) (sym only.lines) (has_after pool (with_one_less pool) (lines_of old.set.arenas) (lines_of set1.arenas) (back).lines)));
        others = unplaced.others;
        regions = inl (back_is, regions_are);
        back = subst (Removed (piece_extent piece) (loans_of old.set.arenas)) (sym only.loans) loans;
        bytes = λ stays. home_again;
      };
      regions = regions_are;
    }

  -- the pool was full
  pub full_counted : full ≡ true → 1 ≤ (class_at old pool.class).full
  full_counted was_full = let o = k.full pool.class in let le = tally_has (full_in pool.class) pool (lines_of old.set.arenas) pool_here in
      elim (full_tells pool.class pool) [ inl p ↦ let one = p.2 in omega arith | inr p ↦ absurd (p.0 refl ((back).was_full.0 was_full)) ]

  pub reopened : (set2 : SetView) → OnlyLinks set1 set2 → (v : ClassView) → v.spots ≡ spot id ∷ (class_at old pool.class).spots → v.full + 1 ≡ (class_at old pool.class).full → AreLinked set2.arenas (set old.classes pool.class v) → full ≡ true →
      let new = record old { set = set2; classes = set old.classes pool.class v; pooled = old.pooled - 1 } in IsKeptState new × TakesBack piece None (heap_of old) (heap_of new)
  reopened set2 only v spots fulls linked was_full =
      let new : State = record old { set = set2; classes = set old.classes pool.class v; pooled = old.pooled - 1 } in
      let all : pool.live ≡ capacity pool.class = (back).was_full.0 was_full in
      let unplaced = freed_full_is_unplaced pool (tables_of old) (tables_of new) k.kept (record {
        full = all;
        started = subst (Replaced pool (with_one_less pool) (lines_of old.set.arenas)) (sym only.lines) (back).lines;
        lists = map-set spots_of old.classes pool.class v ∙ ap (set (map spots_of old.classes) pool.class) (spots ∙ ap (λ l. spot id ∷ l) (sym (lists_at old pool.class k.kept small).1));
        taken = refl;
        arenas = record { usable = only.usable ∙ same.0; dry = only.dry ∙ same.1; given = refl; back = refl; most = refl };
      }) in
      let counts : (d : ℕ) → (class_at new d).full + full_in d pool ≡ (class_at old d).full + full_in d (with_one_less pool) = λ d. class_less d v fulls all in
      (stays_kept new only refl refl refl refl counts unplaced linked, stays_back new only refl refl refl refl counts unplaced linked) where
        class_less : (d : ℕ) (v : ClassView) → v.full + 1 ≡ (class_at old pool.class).full → pool.live ≡ capacity pool.class → (get_or (set old.classes pool.class v) d no_pools).full + full_in d pool ≡ (class_at old d).full + full_in d (with_one_less pool)
        class_less d v fulls all =
            let least = many pool.class small in
            let half : (with_one_less pool).live ≢ capacity (with_one_less pool).class = λ e. absurd (omega arith) in
            let none = not_full_in d (with_one_less pool) half in
            elim (full_tells d pool) [
              | inl p ↦ let e : pool.class ≡ d = p.0 in
                  let at : get_or (set old.classes pool.class v) d no_pools ≡ v = ap (λ j. get_or (set old.classes pool.class v) j no_pools) (sym e) ∙ get_or-set_same old.classes pool.class v no_pools (lists_at old pool.class k.kept small).0 in
                  let f = ap (λ (w : ClassView). w.full) at in let o = ap (λ j. (class_at old j).full) e in let one = p.2 in omega arith
              | inr p ↦ let other : d ≢ pool.class = λ e. p.0 (sym e) (all ∙ ap capacity (sym e)) in
                  let f = ap (λ (w : ClassView). w.full) (get_or-set_other old.classes pool.class d v no_pools other) in let zero = p.1 in omega arith
            ]

  -- it had a free block and keeps others in use
  pub lessened : AreLinked set1.arenas old.classes → full ≡ false → empty ≡ false → let new = record old { set = set1; pooled = old.pooled - 1 } in IsKeptState new × TakesBack piece None (heap_of old) (heap_of new)
  lessened linked half more =
      let new : State = record old { set = set1; pooled = old.pooled - 1 } in
      let room : pool.live ≢ capacity pool.class = λ e. let t = (back).was_full.1 e in absurd (cc) in
      let others : pool.live ≢ 1 = λ e. let t = (back).now_empty.1 e in absurd (cc) in
      let unplaced = freed_one_is_unplaced pool (tables_of old) (tables_of new) k.kept (record {
        room = room;
        more = others;
        started = (back).lines;
        lists = refl;
        taken = refl;
        arenas = record { usable = same.0; dry = same.1; given = refl; back = refl; most = refl };
      }) in
      let low = (k.kept.orderly.pools pool pool_here).most in
      let less : (with_one_less pool).live ≢ capacity (with_one_less pool).class = λ e. let r = room in absurd (let s = (back).some in omega arith) in
      let counts : (d : ℕ) → (class_at new d).full + full_in d pool ≡ (class_at old d).full + full_in d (with_one_less pool) = λ d. let a = not_full_in d pool room in let b = not_full_in d (with_one_less pool) less in omega arith in
      let only = only_none set1 sound in
      (stays_kept new only refl refl refl refl counts unplaced linked, stays_back new only refl refl refl refl counts unplaced linked)
