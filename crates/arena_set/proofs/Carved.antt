-- A block that goes from the cells of its pool, and comes home to them.
use Rattle.std.proofs.Common.{◌≡◌, ◌↔◌, ℕ, ◌+◌, ◌-◌, ◌≤◌, inl, inr, Bool, IsTrue, List, map, length, replicate, Option, Some, None, sym, ap, subst, ◌∙◌, arith}
use Rattle.std.proofs.lemmas.List.{length-map, length-replicate}
use Rattle.raw_region.specs.Region.{RegionView, PieceView}
use Rattle.raw_region.specs.Cells.{AtHome, AreLent, away, with_run, bytes_of}
use Rattle.raw_region.proofs.CallerLemmas.{home_written, length-away, length-with_run, run_keeps}
use Rattle.extents.specs.Sums.{Has}
use Rattle.extents.proofs.CallerLemmas.{has_new}
use Rattle.layout_model.specs.Pool.{blocks_of, next_block, size_of, after_take, after_give, IsEmpty}
use Rattle.layout_model.specs.Plain.{PlainView, StandsFor, after_giving, after_taking}
use Rattle.pool_core.specs.Calls.{CanGive, GivenOf, InHeaderOrBlock, InRun, OnlyAt, TakenOf}
use Rattle.pool_core.proofs.CallerLemmas.{bytes_same, next_within, small_size, stands_block, used_at}
use Rattle.arena_set.specs.ArenaCalls.{IsLentAt, LentAt, MendedAt}

-- where a block in use ends
block_high : (p : PlainView) (at off : ℕ) (cells : List (Option ℕ)) → StandsFor cells at p → Has off (blocks_of p.pool) → at + off + size_of p.pool ≤ length cells
block_high p at off cells s used = let b = used_at p.pool off s.pool used in let h = b.high in let n = next_within p.pool s.pool in let i = s.inside in omega arith

-- ---- lending

module _ (old new : RegionView) (mid : List (Option ℕ)) (at off size : ℕ) (p : PlainView) (s : StandsFor old.cells at p) (full : Bool) (t : TakenOf mid at p off full) (only : OnlyAt (InRun at 48) old.cells mid) (long : size ≡ size_of p.pool) where
  now_used : Has off (blocks_of (after_take p.pool))
  now_used = has_new off (blocks_of p.pool) (blocks_of (after_take p.pool)) t.block

  pub carved_home : (1 ≤ size) × AtHome mid (at + off) size
  carved_home = let z = small_size p.pool.class s.pool.class in (omega arith, subst (λ n. AtHome mid (at + off) n) (sym long) t.home)

  pub lent_done : (piece : PieceView) → new.base ≡ old.base → new.maker ≡ old.maker → new.cells ≡ away mid (at + off) size → piece.place ≡ old.base + (at + off) → piece.maker ≡ old.maker → piece.bytes ≡ bytes_of mid (at + off) size → length piece.bytes ≡ size → LentAt old new at p piece full
  lent_done piece base maker cells place of bytes len =
      let at_off : at + off ≡ at + next_block p.pool = ap (λ o. at + o) t.next in
      let gone : new.cells ≡ away mid (at + off) (size_of p.pool) = cells ∙ ap (away mid (at + off)) long in
      let high = block_high (after_taking p) at off mid t.stands now_used in
      let block = used_at (after_take p.pool) off t.stands.pool now_used in let low = block.is in
      let top = block.high in let inside = s.inside in let n = next_within (after_take p.pool) t.stands.pool in
      let none : Option ℕ = None in
      record {
        mid = mid;
        only = only;
        away = gone ∙ ap (λ o. away mid o (size_of p.pool)) at_off;
        base = base;
        maker = maker;
        stands = subst (λ cs. StandsFor cs at (after_taking p)) (sym gone) (stands_block mid (away mid (at + off) (size_of p.pool)) at (after_taking p) off t.stands now_used (length-away mid (at + off) (size_of p.pool) high)
            (λ i out. run_keeps mid (at + off) (size_of p.pool) (replicate (size_of p.pool) None) high (length-replicate (size_of p.pool) none) i out));
        place = place ∙ ap (λ o. old.base + o) at_off;
        of = of;
        bytes = bytes ∙ ((λ i. bytes_of mid (at_off i) (long i)) ∙ bytes_same old.cells mid (at + next_block p.pool) (size_of p.pool) only.length (omega arith) (λ i lt. only.kept (at + next_block p.pool + i) (λ r. absurd (let h = r.1 in let e = t.next in omega arith))));
        len = len ∙ long;
        now_full = t.now_full;
      }

-- ---- mending

module _ (r : RegionView) (at : ℕ) (p : PlainView) (off : ℕ) (piece : PieceView) (l : IsLentAt r at p off piece) where
  pub mend_off : (x y : ℕ) → x ≡ piece.place → y ≡ r.base → (x - y - at ≡ off) × (y ≤ x) × (at ≤ x - y)
  mend_off x y e f = let place = l.place in (omega arith, omega arith, omega arith)

  mend_at : piece.place - r.base ≡ at + off
  mend_at = let place = l.place in omega arith

  pub mend_ready : (piece.maker ≡ r.maker) × (r.base ≤ piece.place) × AreLent r.cells (piece.place - r.base) (length piece.bytes)
  mend_ready = (l.maker, (let place = l.place in omega arith), subst (λ n. AreLent r.cells n (length piece.bytes)) (sym mend_at) (subst (AreLent r.cells (at + off)) (sym l.len) l.lent))

  module _ (mid : List (Option ℕ)) (cells : mid ≡ with_run r.cells (piece.place - r.base) (length piece.bytes) (map Some piece.bytes)) where
    pub mid_is : mid ≡ with_run r.cells (at + off) (size_of p.pool) (map Some piece.bytes)
    mid_is = cells ∙ (λ i. with_run r.cells (mend_at i) (l.len i) (map Some piece.bytes))

    long : length (map Some piece.bytes) ≡ size_of p.pool
    long = length-map piece.bytes Some ∙ l.len

    high : at + off + size_of p.pool ≤ length r.cells
    high = block_high p at off r.cells l.stands l.used

    pub mid_stands : StandsFor mid at p
    mid_stands = subst (λ cs. StandsFor cs at p) (sym mid_is) (stands_block r.cells (with_run r.cells (at + off) (size_of p.pool) (map Some piece.bytes)) at p off l.stands l.used (length-with_run r.cells (at + off) (size_of p.pool) high (map Some piece.bytes) long)
        (λ i out. run_keeps r.cells (at + off) (size_of p.pool) (map Some piece.bytes) high long i out))

    mid_home : AtHome mid (at + off) (size_of p.pool)
    mid_home = subst (λ cs. AtHome cs (at + off) (size_of p.pool)) (sym mid_is) (home_written r.cells (at + off) (size_of p.pool) high piece.bytes l.len (at + off) (size_of p.pool) (λ i lt out. absurd (elim out [ inl x ↦ omega arith | inr x ↦ omega arith ])))

    pub can_give : (o : ℕ) → o ≡ off → CanGive mid at o
    can_give o e = subst (CanGive mid at) (sym e) (record { p = p; stands = mid_stands; used = l.used; home = mid_home })

    pub mended_done : (new : RegionView) (o : ℕ) (full empty : Bool) → o ≡ off → new.base ≡ r.base → new.maker ≡ r.maker → OnlyAt (InHeaderOrBlock at o) mid new.cells → (StandsFor mid at p → Has o (blocks_of p.pool) → GivenOf new.cells at p o full empty) → MendedAt r new at p off piece full empty
    mended_done new o full empty e base maker only given =
        let g = given mid_stands (subst (λ x. Has x (blocks_of p.pool)) (sym e) l.used) in
        record {
          mid = mid;
          home = mid_is;
          only = subst (λ x. OnlyAt (InHeaderOrBlock at x) mid new.cells) e only;
          base = base;
          maker = maker;
          stands = subst (λ x. StandsFor new.cells at (after_giving p x)) e g.stands;
          was_full = g.was_full;
          now_empty = subst (λ x. IsTrue empty ↔ IsEmpty (after_give p.pool x)) e g.now_empty;
        }
