-- The blocks of a heap, after one has come or gone.
use Rattle.std.proofs.Common.{◌≡◌, ℕ, ◌+◌, ◌-◌, ◌≤◌, inl, inr, List, ◌∷◌, ◌++◌, [], length, map, refl, sym, ap, subst, ◌∙◌, arith, Option, Some, None}
use Rattle.std.proofs.lemmas.List.{append-nil, drop_all, length-map}
use Rattle.std.specs.Ordering.{nat_cmp}
use Rattle.std.specs.BTreeMap.{insert_entry, is_at}
use Rattle.std.specs.Map.{lookup, remove_entry}
use Rattle.raw_region.specs.Cells.{AllHome, AreLent, away, with_run}
use Rattle.raw_region.specs.Region.{RegionView, PieceView}
use Rattle.raw_region.proofs.CallerLemmas.{at_home-map, lent_away, length-away}
use Rattle.extents.specs.Extent.{Extent, MeetsNone, piece_extent, region_extent}
use Rattle.extents.specs.Sums.{Has, Inserted}
use Rattle.extents.proofs.CallerLemmas.{apart_more, apart_fewer, begins_once, meets_begins, same_extent, Found, tree_none, tree_inserted, tree_found, inserted_entry, removed_entry}
use Rattle.raw_heap.specs.Kept.{block_at, blocks, IsLentWhole, AreKept}

-- a block is that of an entry
block_of : (es : List (ℕ × RegionView)) (d : Extent) → Has d (blocks es) → (e : ℕ × RegionView) × Has e es × (block_at e ≡ d)
block_of [] d has = absurd has
block_of (e ∷ es) d (inl same) = (e, inl refl, same)
block_of (e ∷ es) d (inr has) = let b = block_of es d has in (b.0, inr b.1, b.2)

-- and has a byte
pub some_bytes : (es : List (ℕ × RegionView)) → AreKept es → (d : Extent) → Has d (blocks es) → 1 ≤ d.len
some_bytes es kept d has = let b = block_of es d has in subst (λ x. 1 ≤ x.len) b.2 (kept.whole b.0 b.1).some

-- a block comes: its place is a new one, at which its region is kept
pub record IsLent (es : List (ℕ × RegionView)) (block : Extent) (place : ℕ) (region : RegionView) : Type 0 where
  pub free : lookup (is_at (nat_cmp place)) es ≡ None
  pub added : Inserted block (blocks es) (blocks (insert_entry nat_cmp es place region))
  pub kept : AreKept (insert_entry nat_cmp es place region)

module _ (es : List (ℕ × RegionView)) (kept : AreKept es) where
  -- an entry comes whose block meets none
  block_comes : (place : ℕ) (region : RegionView) → IsLentWhole place region → MeetsNone (block_at (place, region)) (blocks es) → IsLent es (block_at (place, region)) place region
  block_comes place region whole meets =
      let none = meets_begins (block_at (place, region)) (blocks es) (some_bytes es kept) whole.some meets in
      let added = tree_inserted block_at (λ e. refl) es place region none in
      record {
        free = tree_none block_at (λ e. refl) es place none;
        added = added;
        kept = record {
          whole = λ e has. elim (inserted_entry es place region e has) [ inl new ↦ subst (λ (d : ℕ × RegionView). IsLentWhole d.0 d.1) (sym new) whole | inr there ↦ kept.whole e there ];
          apart = apart_more (block_at (place, region)) (blocks es) (blocks (insert_entry nat_cmp es place region)) kept.apart meets added;
        };
      }

  -- a region that meets none was carved as a whole
  pub region_comes : (old new : RegionView) (place len : ℕ) → MeetsNone (region_extent old) (blocks es) → len ≡ length old.cells → 1 ≤ len → place ≡ new.base → (new.base ≡ old.base) × (new.maker ≡ old.maker) → new.cells ≡ away old.cells 0 len → IsLent es (region_extent old) place new
  region_comes old new place len meets long some base same cells =
      let inside : 0 + len ≤ length old.cells = omega arith in
      let size : length new.cells ≡ length old.cells = ap length cells ∙ length-away old.cells 0 len inside in
      let all : AreLent new.cells 0 (length new.cells) = subst (λ l. AreLent new.cells 0 l) (long ∙ sym size) (subst (λ l. AreLent l 0 len) (sym cells) (lent_away old.cells 0 len inside)) in
      let is : block_at (place, new) ≡ region_extent old = same_extent (block_at (place, new)) (region_extent old) (base ∙ same.0) size same.1 in
      let whole : IsLentWhole place new = record { base = base; some = omega arith; lent = all } in
      subst (λ e. IsLent es e place new) is (block_comes place new whole (subst (λ e. MeetsNone e (blocks es)) (sym is) meets))

  -- a block goes
  module _ (piece : PieceView) (has : Has (piece_extent piece) (blocks es)) where
    pub entry : Found block_at (λ e. refl) (piece_extent piece) piece.place es
    entry = tree_found block_at (λ e. refl) es (piece_extent piece) piece.place refl has (begins_once (blocks es) (some_bytes es kept) kept.apart piece.place)

    pub kept_fewer : AreKept (remove_entry (is_at (nat_cmp piece.place)) es)
    kept_fewer = record {
      whole = λ e there. kept.whole e (removed_entry (is_at (nat_cmp piece.place)) es e there);
      apart = apart_fewer (piece_extent piece) (blocks es) (blocks (remove_entry (is_at (nat_cmp piece.place)) es)) kept.apart entry.removed;
    }

    -- the region of the block is lent as a whole, and named by its piece
    pub record IsRegionOf (region : RegionView) : Type 0 where
      pub maker : piece.maker ≡ region.maker
      pub base : region.base ≡ piece.place
      pub len : length piece.bytes ≡ length region.cells
      pub lent : AreLent region.cells 0 (length region.cells)

    -- what the map answers for the block's place
    module _ (place : ℕ) (answer : Option RegionView) (at : place ≡ piece.place) (told : answer ≡ lookup (is_at (nat_cmp place)) es) where
      answer_is : answer ≡ Some entry.value
      answer_is = told ∙ ap (λ k. lookup (is_at (nat_cmp k)) es) at ∙ entry.found

      pub not_none : answer ≡ None → ⊥
      not_none is = let f = answer_is in cc

      pub region_of : (region : RegionView) → answer ≡ Some region → IsRegionOf region
      region_of region is =
          let f = answer_is in let same : entry.value ≡ region = cc in let whole = kept.whole (piece.place, entry.value) entry.here in
          subst IsRegionOf same (record { maker = sym (ap (λ d. d.maker) entry.is); base = sym whole.base; len = sym (ap (λ d. d.len) entry.is); lent = whole.lent })

-- a piece that is the whole region may come home
pub may_mend : (es : List (ℕ × RegionView)) (kept : AreKept es) (piece : PieceView) (has : Has (piece_extent piece) (blocks es)) (region : RegionView) → IsRegionOf es kept piece has region →
    (piece.maker ≡ region.maker) × (region.base ≤ piece.place) × AreLent region.cells (piece.place - region.base) (length piece.bytes)
may_mend es kept piece has region is =
    let off : 0 ≡ piece.place - region.base = omega (arith, is.base) in
    (is.maker, omega (arith, is.base), subst (λ n. AreLent region.cells (piece.place - region.base) n) (sym is.len) (subst (λ o. AreLent region.cells o (length region.cells)) off is.lent))

-- and then every byte is at home
pub mends_whole : (piece : PieceView) (cells new : List (Option ℕ)) (off : ℕ) → off ≡ 0 → length piece.bytes ≡ length cells → new ≡ with_run cells off (length piece.bytes) (map Some piece.bytes) → AllHome new × (length new ≡ length piece.bytes)
mends_whole piece cells new off start len is =
    let bytes : new ≡ map Some piece.bytes =
    is ∙ ap (λ o. with_run cells o (length piece.bytes) (map Some piece.bytes)) start ∙ ap (λ l. map Some piece.bytes ++ l) (drop_all (0 + length piece.bytes) cells (omega arith)) ∙ append-nil (map Some piece.bytes) in
    (subst AllHome (sym bytes) (ap (λ l. map Some l) (sym (at_home-map piece.bytes))), ap length bytes ∙ length-map piece.bytes Some)

-- where no block is lent, no region is kept
pub no_blocks : (es : List (ℕ × RegionView)) → blocks es ≡ [] → es ≡ []
no_blocks [] none = refl
no_blocks (e ∷ es) none = cc
