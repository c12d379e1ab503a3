-- A pool of an arena that lends a block, or has one back.
use Rattle.std.proofs.Common.{◌≡◌, ◌≢◌, ℕ, ◌+◌, ◌-◌, ◌%◌, ◌<◌, ◌≤◌, inl, inr, ◌↔◌, Bool, IsTrue, List, [], ◌∷◌, map, length, get_or, set, replicate, Option, Some, None, refl, sym, ap, subst, ◌∙◌, arith, add_assoc, length-set}
use Rattle.std.proofs.lemmas.List.{get_or-set_same, set-set, set-get_or, get_or-map, length-map, length-replicate}
use Rattle.std.proofs.lemmas.Bool.Decides.{leb_tells}
use Rattle.raw_region.specs.declared.maker.Maker.{Maker}
use Rattle.raw_region.specs.Region.{RegionView, PieceView}
use Rattle.raw_region.proofs.CallerLemmas.{length-with_run, length-away, run_has, run_keeps}
use Rattle.extents.specs.Sums.{tally, Has, Inserted, Removed}
use Rattle.extents.specs.Extent.{Extent, covers, piece_extent}
use Rattle.extents.proofs.CallerLemmas.{inserted-map, has_new, same_extent}
use Rattle.layout_model.specs.Sizes.{size_of_class}
use Rattle.links.specs.Nodes.{times}
use Rattle.layout_model.proofs.CallerLemmas.{pools_inside}
use Rattle.layout_model.specs.Pool.{PoolView, size_of, blocks_of, live_of, next_block, after_take, after_give, HasRoom, IsPool, IsBlock, IsEmpty}
use Rattle.pool_core.specs.Calls.{home, InRun}
use Rattle.pool_core.proofs.CallerLemmas.{block_inside, Took, took, gave}
use Rattle.arena_set.specs.Started.{Started, plain_of, started_from}
use Rattle.arena_set.specs.Flat.{AllSome, flat}
use Rattle.layout_model.specs.Geometry.{first_pool, pool_offset}
use Rattle.arena_set.specs.Arena.{ArenaView, block_extent, pool_loans, arena_loans, piece_offset, after_lending, after_mending, started_times, AccountsFor, IsSound, IsArena, PoolChange}
use Rattle.arena_set.specs.ArenaCalls.{AreHomeAgain, ArenaLends, ArenaMends, IsLentAt, LentAt, MendedAt}
use Rattle.arena_set.proofs.Flats.{inside, all_set, part_inserted}
use Rattle.arena_set.proofs.Geometry.{pools_once}
use Rattle.arena_set.proofs.Accounts.{lent_before, lent_after, home_after}
use Rattle.arena_set.proofs.Starteds.{accounts_only, arena_changes, arena_stands, pools_are}

-- a pool lies in its arena
pub pool_fits : (a : ArenaView) (k : ℕ) → IsArena a → k < length a.pools → pool_offset a.region.base k + 16384 ≤ length a.region.cells
pool_fits a k s lt = let f = pools_inside a.region.base in let c = s.count in let l = s.region.len in omega arith

-- two states of pool k, of which the second one has the block at o too
module _ (a : ArenaView) (k o : ℕ) (few many : PoolView) (number next prev : ℕ) (kept : AllSome IsSound a.pools)
    (class : many.class ≡ few.class) (comes : Inserted o (blocks_of few) (blocks_of many)) where
  abbrev b : ℕ
  b = a.region.base

  abbrev maker : Maker
  maker = a.region.maker

  abbrev lender : PoolView → Started
  lender p = record { number = number; pool = p; next = next; prev = prev }

  abbrev block : Extent
  block = block_extent b maker (pool_offset b k) (size_of few) o

  one_pool : Inserted block (pool_loans b maker k (lender few)) (pool_loans b maker k (lender many))
  one_pool =
      subst (λ c. Inserted block (pool_loans b maker k (lender few)) (map (block_extent b maker (pool_offset b k) (size_of_class c)) (blocks_of many))) (sym class)
      (inserted-map (block_extent b maker (pool_offset b k) (size_of few)) o (blocks_of few) (blocks_of many) comes)

  pub loans_more : get_or a.pools k None ≡ Some (lender few) → Inserted block (arena_loans a) (flat (pool_loans b maker) 0 (set a.pools k (Some (lender many))))
  loans_more was = part_inserted (pool_loans b maker) 0 k k a.pools (Some (lender few)) (Some (lender many)) (omega arith) (inside a.pools k (lender few) was) was block one_pool

  -- the same, where it was the second one
  pub loans_fewer : get_or a.pools k None ≡ Some (lender many) → Removed block (arena_loans a) (flat (pool_loans b maker) 0 (set a.pools k (Some (lender few))))
  loans_fewer was =
      let lt = inside a.pools k (lender many) was in
      let back : set (set a.pools k (Some (lender few))) k (Some (lender many)) ≡ a.pools = set-set a.pools k (Some (lender few)) (Some (lender many)) ∙ subst (λ x. set a.pools k x ≡ a.pools) was (set-get_or a.pools k None) in
      let there : k < length (set a.pools k (Some (lender few))) = subst (λ n. k < n) (sym (length-set a.pools k (Some (lender few)))) lt in
      subst (λ ps. Inserted block (flat (pool_loans b maker) 0 (set a.pools k (Some (lender few)))) (flat (pool_loans b maker) 0 ps)) back
      (part_inserted (pool_loans b maker) 0 k k (set a.pools k (Some (lender few))) (Some (lender few)) (Some (lender many)) (omega arith) there (get_or-set_same a.pools k (Some (lender few)) None lt) block one_pool)

-- pools and their blocks stand at multiples of 16
pub aligned : (base k class off : ℕ) → base % 4096 ≡ 0 → IsBlock class off → (base + (pool_offset base k + off)) % 16 ≡ 0
aligned base k class off page block = let is = block.is in omega arith

-- a started pool is none of the free ones
pub started_taken : (a : ArenaView) (k : ℕ) (s : Started) → IsArena a → get_or a.pools k None ≡ Some s → times k a.free ≡ 0
started_taken a k s sound was = let f = sound.free k in let e = ap started_times was in omega arith

-- ---- a block that is lent

module _ (a : ArenaView) (k : ℕ) (s : Started) (sound : IsArena a) (was : get_or a.pools k None ≡ Some s) where
  abbrev at : ℕ
  at = pool_offset a.region.base k

  abbrev was_lent : ℕ → Extent
  was_lent off = block_extent a.region.base a.region.maker at (size_of s.pool) off

  within : k < length a.pools
  within = inside a.pools k s was

  -- the cells that a change within the pool leaves
  abbrev region_of : List (Option ℕ) → RegionView
  region_of cells = record { base = a.region.base; maker = a.region.maker; cells = cells }

  region_is : (r : RegionView) → r.base ≡ a.region.base → r.maker ≡ a.region.maker → region_of r.cells ≡ r
  region_is r base maker = λ i. record { base = sym base i; maker = sym maker i; cells = r.cells }

  module _ (room : HasRoom s.pool) where
    abbrev off : ℕ
    off = next_block s.pool

    abbrev lent_pools : List (Option Started)
    lent_pools = set a.pools k (Some (after_lending s))

    abbrev lent_now : List Extent
    lent_now = flat (pool_loans a.region.base a.region.maker) 0 lent_pools

    taken : Took s.pool (after_take s.pool) off
    taken = took s.pool (sound.stands k s was).pool room

    fits : at + off + size_of s.pool ≤ length a.region.cells
    fits = let f = pool_fits a k sound within in let i = block_inside s.pool.class off (taken).inside in omega arith

    more : Inserted (was_lent off) (arena_loans a) lent_now
    more = loans_more a k off s.pool (after_take s.pool) s.number s.next s.prev sound.sound refl (taken).block was

    once : (x : ℕ) → tally (covers x) lent_now ≤ 1
    once x = (pools_once a.region.base a.region.maker 0 x lent_pools (all_set IsSound a.pools k (after_lending s) sound.sound (taken).pool)).0

    where_is : a.region.base + at + off ≡ a.region.base + (at + off)
    where_is = add_assoc a.region.base at off

    module _ (r : RegionView) (piece : PieceView) (full : Bool) (l : LentAt a.region r at (plain_of s) piece full) where
      mid_accounts : AccountsFor (region_of l.mid) (arena_loans a)
      mid_accounts = accounts_only a.region (region_of l.mid) (arena_loans a) refl l.only sound.accounts

      mid_fits : at + off + size_of s.pool ≤ length l.mid
      mid_fits = let f = fits in let e = l.only.length in omega arith

      long : length r.cells ≡ length a.region.cells
      long = ap length l.away ∙ (length-away l.mid (at + off) (size_of s.pool) mid_fits ∙ l.only.length)

      accounts : AccountsFor (region_of r.cells) lent_now
      accounts i lt =
          let j = lent_after (region_of l.mid) (at + off) (size_of s.pool) (was_lent off) where_is refl (arena_loans a) lent_now more once mid_fits mid_accounts i (let e = long in let f = l.only.length in omega arith) in
          subst (λ cells. home (get_or cells i None) + tally (covers (a.region.base + i)) lent_now ≡ 1) (sym l.away) j

      beside : (i : ℕ) → (InRun at 16384 i → ⊥) → get_or r.cells i None ≡ get_or a.region.cells i None
      beside i out =
          let none : Option ℕ = None in let b = block_inside s.pool.class off (taken).inside in
          ap (λ cells. get_or cells i None) l.away
          ∙ (run_keeps l.mid (at + off) (size_of s.pool) (replicate (size_of s.pool) None) mid_fits (length-replicate (size_of s.pool) none) i (elim (leb_tells at i) [ inl low ↦ inr (elim (leb_tells (at + 16384) i) [ inl high ↦ omega arith | inr h ↦ absurd (out (low.1, omega arith)) ]) | inr h ↦ inl (omega arith) ])
          ∙ l.only.kept i (λ q. out (q.0, (let h = q.1 in omega arith))))

      abbrev lent_arena : ArenaView
      lent_arena = record { region = r; free = a.free; pools = lent_pools }

      abbrev told : ArenaView
      told = record { region = region_of r.cells; free = a.free; pools = lent_pools }

      same_arena : told ≡ lent_arena
      same_arena = ap (λ (x : RegionView). let y : ArenaView = record { region = x; free = a.free; pools = lent_pools } in y) (region_is r l.base l.maker)

      pub lend_sound : IsArena lent_arena
      lend_sound = subst IsArena same_arena (arena_stands a k (after_lending s) r.cells sound within long beside l.stands (started_taken a k s sound was) accounts)

      pub lend_view : (os now : List (Option ℕ)) → a.pools ≡ started_from a.region.cells (first_pool a.region.base) os → length now ≡ length os → get_or now k None ≡ Some s.number → ((j : ℕ) → j ≢ k → get_or now j None ≡ get_or os j None) → started_from r.cells (first_pool r.base) now ≡ lent_pools
      lend_view os now seen size named others = ap (λ b. started_from r.cells (first_pool b) now) l.base ∙ pools_are a k (after_lending s) r.cells sound within long beside l.stands os now seen size named others

      same_piece : piece_extent piece ≡ was_lent off
      same_piece = same_extent (piece_extent piece) (was_lent off) (l.place ∙ sym where_is) l.len l.of

      pub lend_tells : ArenaLends a lent_arena k piece full
      lend_tells =
          let page = sound.region.aligned in let b = block_inside s.pool.class off (taken).inside in
          record {
            s = s;
            there = was;
            change = subst (λ x. PoolChange a x k (after_lending s)) same_arena (arena_changes a k (after_lending s) r.cells sound within long beside l.stands);
            place = l.place;
            aligned = subst (λ x. x % 16 ≡ 0) (sym l.place) (aligned a.region.base k s.pool.class off page (taken).inside);
            inside = (let p = l.place in let n = l.len in (omega arith, omega arith));
            maker = l.of;
            len = l.len;
            bytes = l.bytes;
            now_full = l.now_full;
            live = (taken).live;
            lent = subst (λ e. Has e (pool_loans a.region.base a.region.maker k (after_lending s))) (sym same_piece) (has_new (was_lent off) (pool_loans a.region.base a.region.maker k s) (pool_loans a.region.base a.region.maker k (after_lending s))
                (inserted-map (block_extent a.region.base a.region.maker at (size_of s.pool)) off (blocks_of s.pool) (blocks_of (after_take s.pool)) (taken).block));
            loans = subst (λ (x : ArenaView). Inserted (piece_extent piece) (arena_loans a) (arena_loans x)) same_arena (subst (λ e. Inserted e (arena_loans a) lent_now) (sym same_piece) more);
          }

-- ---- a block that comes home

-- which block of pool k the piece is
pub record PieceOf (a : ArenaView) (k : ℕ) (s : Started) (e : Extent) : Type 0 where
  pub off : ℕ
  pub held : Has off (blocks_of s.pool)
  pub is : e ≡ block_extent a.region.base a.region.maker (pool_offset a.region.base k) (size_of s.pool) off

mapped_has : {X : Type 0} (g : ℕ → X) (e : X) (os : List ℕ) → Has e (map g os) → (o : ℕ) × (Has o os × (e ≡ g o))
mapped_has g e [] h = absurd h
mapped_has g e (x ∷ os) (inl s) = (x, (inl refl, sym s))
mapped_has g e (x ∷ os) (inr h) = let i = mapped_has g e os h in (i.0, (inr i.1.0, i.1.1))

pub piece_of : (a : ArenaView) (k : ℕ) (s : Started) (e : Extent) → Has e (pool_loans a.region.base a.region.maker k s) → PieceOf a k s e
piece_of a k s e h = let m = mapped_has (block_extent a.region.base a.region.maker (pool_offset a.region.base k) (size_of s.pool)) e (blocks_of s.pool) h in record { off = m.0; held = m.1.0; is = m.1.1 }

module _ (a : ArenaView) (k : ℕ) (s : Started) (sound : IsArena a) (was : get_or a.pools k None ≡ Some s) (piece : PieceView) (p : PieceOf a k s (piece_extent piece)) where
  abbrev there : ℕ
  there = pool_offset a.region.base k

  abbrev came : Extent
  came = block_extent a.region.base a.region.maker there (size_of s.pool) p.off

  abbrev mended_pools : List (Option Started)
  mended_pools = set a.pools k (Some (after_mending s p.off))

  abbrev lent_still : List Extent
  lent_still = flat (pool_loans a.region.base a.region.maker) 0 mended_pools

  given : Took (after_give s.pool p.off) s.pool p.off × IsPool (after_give s.pool p.off)
  given = gave s.pool p.off (sound.stands k s was).pool p.held

  fewer : Removed came (arena_loans a) lent_still
  fewer = loans_fewer a k p.off (after_give s.pool p.off) s.pool s.number s.next s.prev sound.sound refl (given).0.block was

  once_before : (x : ℕ) → tally (covers x) (arena_loans a) ≤ 1
  once_before x = (pools_once a.region.base a.region.maker 0 x a.pools sound.sound).0

  fits_there : there + p.off + size_of s.pool ≤ length a.region.cells
  fits_there = let f = pool_fits a k sound (inside a.pools k s was) in let i = block_inside s.pool.class p.off (given).0.inside in omega arith

  place_is : piece.place ≡ a.region.base + (there + p.off)
  place_is = ap (λ (e : Extent). e.place) p.is ∙ add_assoc a.region.base there p.off

  len_is : length piece.bytes ≡ size_of s.pool
  len_is = ap (λ (e : Extent). e.len) p.is

  came_place : came.place ≡ a.region.base + (there + p.off)
  came_place = add_assoc a.region.base there p.off

  pub lent_at : IsLentAt a.region there (plain_of s) p.off piece
  lent_at = record {
    stands = sound.stands k s was;
    used = p.held;
    place = place_is;
    maker = ap (λ (e : Extent). e.maker) p.is;
    len = len_is;
    lent = lent_before a.region (there + p.off) (size_of s.pool) came came_place refl lent_still (arena_loans a) fewer once_before fits_there sound.accounts;
  }

  module _ (r : RegionView) (full empty : Bool) (m : MendedAt a.region r there (plain_of s) p.off piece full empty) where
    abbrev region_with : List (Option ℕ) → RegionView
    region_with cells = record { base = a.region.base; maker = a.region.maker; cells = cells }

    bytes_long : length (map Some piece.bytes) ≡ size_of s.pool
    bytes_long = length-map piece.bytes Some ∙ len_is

    home_long : length m.mid ≡ length a.region.cells
    home_long = ap length m.home ∙ length-with_run a.region.cells (there + p.off) (size_of s.pool) fits_there (map Some piece.bytes) bytes_long

    back_long : length r.cells ≡ length a.region.cells
    back_long = m.only.length ∙ home_long

    home_accounts : AccountsFor (region_with m.mid) lent_still
    home_accounts i lt =
        let j = home_after a.region (there + p.off) (size_of s.pool) came came_place refl lent_still (arena_loans a) fewer once_before fits_there piece.bytes len_is sound.accounts i (let e = home_long in omega arith) in
        subst (λ cells. home (get_or cells i None) + tally (covers (a.region.base + i)) lent_still ≡ 1) (sym m.home) j

    back_accounts : AccountsFor (region_with r.cells) lent_still
    back_accounts = accounts_only (region_with m.mid) (region_with r.cells) lent_still refl m.only home_accounts

    back_beside : (i : ℕ) → (InRun there 16384 i → ⊥) → get_or r.cells i None ≡ get_or a.region.cells i None
    back_beside i out =
        let b = block_inside s.pool.class p.off (given).0.inside in
        m.only.kept i (λ q. elim q [ inl h ↦ out (h.0, (let top = h.1 in omega arith)) | inr h ↦ out ((let low = h.0 in omega arith), (let top = h.1 in omega arith)) ])
        ∙ (ap (λ cells. get_or cells i None) m.home
        ∙ run_keeps a.region.cells (there + p.off) (size_of s.pool) (map Some piece.bytes) fits_there bytes_long i (elim (leb_tells there i) [ inl low ↦ inr (elim (leb_tells (there + 16384) i) [ inl high ↦ omega arith | inr h ↦ absurd (out (low.1, omega arith)) ]) | inr h ↦ inl (omega arith) ]))

    abbrev mended_arena : ArenaView
    mended_arena = record { region = r; free = a.free; pools = mended_pools }

    abbrev told_back : ArenaView
    told_back = record { region = region_with r.cells; free = a.free; pools = mended_pools }

    same_back : told_back ≡ mended_arena
    same_back = ap (λ (x : RegionView). let y : ArenaView = record { region = x; free = a.free; pools = mended_pools } in y) (λ i. record { base = sym m.base i; maker = sym m.maker i; cells = r.cells })

    pub mend_sound : IsArena mended_arena
    mend_sound = subst IsArena same_back (arena_stands a k (after_mending s p.off) r.cells sound (inside a.pools k s was) back_long back_beside m.stands (started_taken a k s sound was) back_accounts)

    pub mend_view : (os now : List (Option ℕ)) → a.pools ≡ started_from a.region.cells (first_pool a.region.base) os → length now ≡ length os → get_or now k None ≡ Some s.number → ((j : ℕ) → j ≢ k → get_or now j None ≡ get_or os j None) → started_from r.cells (first_pool r.base) now ≡ mended_pools
    mend_view os now seen size named others = ap (λ b. started_from r.cells (first_pool b) now) m.base ∙ pools_are a k (after_mending s p.off) r.cells sound (inside a.pools k s was) back_long back_beside m.stands os now seen size named others

    off_is : p.off ≡ piece_offset a k piece
    off_is = let e = place_is in omega arith

    -- the bytes behind the first eight are those of the piece
    back_bytes : AreHomeAgain r (piece.place - a.region.base) piece.bytes
    back_bytes i low lt =
        let e : there + p.off ≡ piece.place - a.region.base = let q = place_is in omega arith in
        let b = block_inside s.pool.class p.off (given).0.inside in
        let long = len_is in
        let back : there + p.off + i - (there + p.off) ≡ i = omega arith in
        subst (λ n. get_or r.cells (n + i) None ≡ Some (get_or piece.bytes i 0)) e
        (m.only.kept (there + p.off + i) (λ q. elim q [ inl h ↦ (let top = h.1 in absurd (omega arith)) | inr h ↦ (let top = h.1 in absurd (omega arith)) ])
        ∙ (ap (λ cells. get_or cells (there + p.off + i) None) m.home
        ∙ (run_has a.region.cells (there + p.off) (size_of s.pool) (map Some piece.bytes) fits_there bytes_long (there + p.off + i) (omega arith) (omega arith)
        ∙ (ap (λ j. get_or (map Some piece.bytes) j None) back ∙ get_or-map Some piece.bytes i 0 None lt))))

    pub mend_tells : ArenaMends a mended_arena k piece full empty
    mend_tells = record {
      s = s;
      there = was;
      change = subst (λ o. PoolChange a mended_arena k (after_mending s o)) off_is (subst (λ x. PoolChange a x k (after_mending s p.off)) same_back (arena_changes a k (after_mending s p.off) r.cells sound (inside a.pools k s was) back_long back_beside m.stands));
      was_full = m.was_full;
      now_empty = subst (λ o. IsTrue empty ↔ IsEmpty (after_give s.pool o)) off_is m.now_empty;
      live = subst (λ o. live_of s.pool ≡ live_of (after_give s.pool o) + 1) off_is (given).0.live;
      bytes = back_bytes;
      loans = subst (λ (x : ArenaView). Removed (piece_extent piece) (arena_loans a) (arena_loans x)) same_back (subst (λ e. Removed e (arena_loans a) lent_still) (sym p.is) fewer);
    }
