-- Where blocks lie, as pools and raw regions come and go.
use Rattle.std.proofs.Common.{◌≡◌, ℕ, zero, suc, ◌+◌, ◌≤◌, Bool, true, false, cond, List, [], ◌∷◌, length}
use Rattle.std.proofs.Common.{get_or, Option, Some, None, refl, sym, ap, ◌∙◌, arith, inl, inr, true≢false}
use Rattle.std.specs.Prelude.{◌&&◌, nat_le, nat_lt}
use Rattle.std.proofs.lemmas.Bool.{le-leb, leb-true, lt-ltb, ltb-true}
use Rattle.std.proofs.lemmas.Bool.Decides.{eqb_tells}
use Rattle.extents.specs.Extent.{Extent, Window, AreApart, covers, spans}
use Rattle.extents.specs.Sums.{tally, Has}
use Rattle.extents.proofs.CallerLemmas.{covers_in, covers_most, lies_spans, spans_tells, tally-append, tally_zero}
use Rattle.raw_region.specs.Region.{PieceView}
use Rattle.mem_base.specs.declared.history.Grant.{Grant}
use Rattle.sources.specs.Source.{ArenaShape, SourceView}
use Rattle.py_heap.specs.Heap.{HeapView, PoolHas, PoolsAreApart, IsHeap, IsBlock, IsFreed, regions_of}
use Rattle.debug_guard.specs.Guard.{Guard, piece_of}
use Rattle.domain_api.specs.Held.{AllWithin, AreHeld, AreSound, DomainsView}
use Rattle.event_model.specs.Blocks.{Home, in_pool, in_raw, Block}
use Rattle.block_store.specs.Homes.{Places, pool_has, home_from, home_at}
use Rattle.block_store.specs.Slots.{block_in, blocks_of, loans_of}

-- ---- the search

has_tells : (x p : ℕ) → pool_has x (Some p) ≡ true → PoolHas p x
has_tells x p h = by (nat_le p x) (nat_lt x (p + 16384)) refl refl h
  where
    by : (a b : Bool) → nat_le p x ≡ a → nat_lt x (p + 16384) ≡ b → (a && b) ≡ true → PoolHas p x
    by true true e f h = (leb-true p x e, ltb-true x (p + 16384) f)
    by true false e f h = absurd (true≢false (sym h))
    by false b e f h = absurd (true≢false (sym h))

has_is : (x p : ℕ) → PoolHas p x → pool_has x (Some p) ≡ true
has_is x p has = λ i. le-leb p x has.0 i && lt-ltb x (p + 16384) has.1 i

-- a pool that has the address
which : (x : ℕ) (o : Option ℕ) → pool_has x o ≡ true → (p : ℕ) × (o ≡ Some p) × PoolHas p x
which x None h = absurd (true≢false (sym h))
which x (Some p) h = (p, refl, has_tells x p h)

found_from : (k : ℕ) (places : Places) (x j p : ℕ) → get_or places j None ≡ Some p → PoolHas p x → ((i q : ℕ) → get_or places i None ≡ Some q → PoolHas q x → i ≡ j)
    → home_from k places x ≡ in_pool (k + j)
found_from k [] x j p is has only = absurd cc
found_from k (o ∷ ps) x zero p is has only =
    let here : pool_has x o ≡ true = ap (pool_has x) is ∙ has_is x p has in
    let same : k ≡ k + 0 = omega arith in
    ap (λ (b : Bool). cond b (in_pool k) (home_from (k + 1) ps x)) here ∙ ap in_pool same
found_from k (o ∷ ps) x (suc j) p is has only =
    by (pool_has x o) refl (found_from (k + 1) ps x j p is has (λ i q is' has'. omega (arith, only (suc i) q is' has')))
  where
    by : (b : Bool) → pool_has x o ≡ b → home_from (k + 1) ps x ≡ in_pool ((k + 1) + j) → cond b (in_pool k) (home_from (k + 1) ps x) ≡ in_pool (k + suc j)
    by true e rest =
        let w = which x o e in
        absurd (omega (arith, only 0 w.0 w.1 w.2))
    by false e rest =
        let later : (k + 1) + j ≡ k + suc j = omega arith in
        rest ∙ ap in_pool later

none_from : (k : ℕ) (places : Places) (x : ℕ) → ((i q : ℕ) → get_or places i None ≡ Some q → PoolHas q x → ⊥) → home_from k places x ≡ in_raw
none_from k [] x none = refl
none_from k (o ∷ ps) x none = by (pool_has x o) refl (none_from (k + 1) ps x (λ i q is has. none (suc i) q is has))
  where
    by : (b : Bool) → pool_has x o ≡ b → home_from (k + 1) ps x ≡ in_raw → cond b (in_pool k) (home_from (k + 1) ps x) ≡ in_raw
    by true e rest =
        let w = which x o e in
        absurd (none 0 w.0 w.1 w.2)
    by false e rest = rest

-- the pool that has the address
pub home_found : (places : Places) (x k p : ℕ) → PoolsAreApart places → get_or places k None ≡ Some p → PoolHas p x → home_at places x ≡ in_pool k
home_found places x k p apart is has =
    let same : 0 + k ≡ k = omega arith in
    found_from 0 places x k p is has (λ i q is' has'. apart x i k q p is' is has' has) ∙ ap in_pool same

-- ---- blocks of the heap

-- the pool of a loan
pub record InItsPool (e : Extent) (places : Places) : Type 0 where
  pub pool : ℕ
  pub begins : ℕ
  pub is : get_or places pool None ≡ Some begins
  pub has : PoolHas begins e.place
  pub home : home_at places e.place ≡ in_pool pool

pub its_pool : (h : HeapView) (e : Extent) → IsHeap h → Has e h.loans → 1 ≤ e.len → InItsPool e h.places
its_pool h e heap has some =
    let l = heap.loans_in_pools e has in
    let inside : PoolHas l.1 e.place = (l.2.1.0, omega (arith, some, l.2.1.1)) in
    record { pool = l.0; begins = l.1; is = l.2.0; has = inside; home = home_found h.places e.place l.0 l.1 heap.pools_apart l.2.0 inside }

-- a loan keeps its home where another block is taken
pub home_where_placed : (c : ℕ) (grant : Grant) (piece : PieceView) (old new : HeapView) (e : Extent) → IsHeap old → IsHeap new → IsBlock c grant piece old new → Has e old.loans → 1 ≤ e.len
    → home_at new.places e.place ≡ home_at old.places e.place
home_where_placed c grant piece old new e was is b has some =
    let p = its_pool old e was has some in
    let stays : get_or new.places p.pool None ≡ Some p.begins = elim (eqb_tells p.pool b.pool) [
      | inl same ↦
          let before : get_or old.places b.pool None ≡ Some p.begins = ap (λ (k : ℕ). get_or old.places k None) (sym same.1) ∙ p.is in
          elim b.was [
            | inl none ↦ absurd (let e : None ≡ Some p.begins = sym none ∙ before in cc)
            | inr there ↦
                ap (λ (k : ℕ). get_or new.places k None) same.1 ∙ b.is ∙ sym there ∙ before
          ]
      | inr other ↦ b.others p.pool other.1 ∙ p.is
    ] in
    home_found new.places e.place p.pool p.begins is.pools_apart stays p.has ∙ sym p.home

-- a loan keeps its home where another block is freed
pub home_where_freed : (piece : PieceView) (old new : HeapView) (e : Extent) → IsHeap old → IsHeap new → IsFreed piece old new → Has e new.loans → 1 ≤ e.len
    → home_at new.places e.place ≡ home_at old.places e.place
home_where_freed piece old new e was is f has some =
    let p = its_pool new e is has some in
    let before : get_or old.places p.pool None ≡ Some p.begins = elim (eqb_tells p.pool f.pool) [
      | inl same ↦
          let now : get_or new.places f.pool None ≡ Some p.begins = ap (λ (k : ℕ). get_or new.places k None) (sym same.1) ∙ p.is in
          elim f.is [
            | inl none ↦ absurd (let e : None ≡ Some p.begins = sym none ∙ now in cc)
            | inr there ↦
                ap (λ (k : ℕ). get_or old.places k None) same.1 ∙ f.was ∙ sym there ∙ now
          ]
      | inr other ↦ sym (f.others p.pool other.1) ∙ p.is
    ] in
    p.home ∙ sym (home_found old.places e.place p.pool p.begins was.pools_apart before p.has)

-- the home of a block that was taken
pub home_of_new : (c : ℕ) (grant : Grant) (piece : PieceView) (old new : HeapView) → IsHeap new → (b : IsBlock c grant piece old new) → 1 ≤ length piece.bytes → home_at new.places piece.place ≡ in_pool b.pool
home_of_new c grant piece old new is b some = home_found new.places piece.place b.pool b.begins is.pools_apart b.is (b.inside.0, omega (arith, some, b.inside.1))

-- the home of a block that is freed
pub home_of_freed : (piece : PieceView) (old new : HeapView) → IsHeap old → (f : IsFreed piece old new) → 1 ≤ length piece.bytes → home_at old.places piece.place ≡ in_pool f.pool
home_of_freed piece old new was f some = home_found old.places piece.place f.pool f.begins was.pools_apart f.was (f.inside.0, omega (arith, some, f.inside.1))

-- ---- raw regions

-- no pool has a raw region's place
pub home_of_raw : (d : DomainsView) (arenas : SourceView ArenaShape) (raws : SourceView ℕ) (e : Extent) → IsHeap d.heap → AreHeld d arenas raws → Has e d.raws → 1 ≤ e.len → home_at d.heap.places e.place ≡ in_raw
home_of_raw d arenas raws e heap held has some =
    none_from 0 d.heap.places e.place (λ i q is inside.
    let within = heap.pools_within i q is in
    let r = within.0 in
    let mine : spans e.place raws.window ≡ 1 = lies_spans e.place e raws.window (held.raws_in e has) (covers_in e.place e (omega arith) (omega (arith, some))) in
    let theirs : spans e.place arenas.window ≡ 1 = lies_spans e.place r arenas.window (held.arenas_in r within.1.0)
    (covers_in e.place r (omega (arith, inside.0, within.1.1.inside.0)) (omega (arith, inside.1, within.1.1.inside.1))) in
    omega (arith, mine, theirs, held.windows e.place))

-- ---- blocks of both heaps lie apart

-- extents that lie apart in a window cover no more of an address than the window does
tally_spans : (es : List Extent) (w : Window) (x : ℕ) → AllWithin es w → AreApart es → tally (covers x) es ≤ spans x w
tally_spans es w x within apart = elim (spans_tells x w) [
  | inl inside ↦ omega (arith, inside.0, apart x)
  | inr outside ↦
      let none : tally (covers x) es ≡ 0 = tally_zero (covers x) es (λ e has. by e has (covers x e) refl (covers_most x e) outside.0) in
      omega (arith, none)
]
  where
    by : (e : Extent) → Has e es → (n : ℕ) → covers x e ≡ n → n ≤ 1 → spans x w ≡ 0 → n ≡ 0
    by e has zero is few none = refl
    by e has (suc zero) is few none = absurd (omega (arith, lies_spans x e w (within e has) is, none))
    by e has (suc (suc n)) is few none = absurd (omega (arith, few))

loans_within : (h : HeapView) (w : Window) → IsHeap h → AllWithin (regions_of h) w → AllWithin h.loans w
loans_within h w heap within e has =
    let r = heap.within e has in
    let lies = within r.0 r.1.0 in
    (omega (arith, r.1.2, lies.0), omega (arith, r.1.3, lies.1))

pub loans_apart : (d : DomainsView) (arenas : SourceView ArenaShape) (raws : SourceView ℕ) → AreSound d.heap d.raws → AreHeld d arenas raws → AreApart (loans_of d)
loans_apart d arenas raws sound held x =
    omega (
      arith,
      tally-append (covers x) d.heap.loans d.raws,
      held.windows x,
      tally_spans d.heap.loans arenas.window x (loans_within d.heap arenas.window sound.heap_is held.arenas_in) sound.heap_is.apart,
      tally_spans d.raws raws.window x held.raws_in sound.raws_apart,
    )

-- ---- the blocks of slots

-- each block of a slot has the same home
abbrev pub SameHomes : List (Option Guard) → Places → Places → Type 0
SameHomes slots old new = (i : ℕ) (g : Guard) → get_or slots i None ≡ Some g → home_at new g.place ≡ home_at old g.place

pub blocks_same : (slots : List (Option Guard)) (old new : Places) → SameHomes slots old new → blocks_of new slots ≡ blocks_of old slots
blocks_same [] old new same = refl
blocks_same (None ∷ ss) old new same = ap (λ (l : List (Option Block)). None ∷ l) (blocks_same ss old new (λ i g is. same (suc i) g is))
blocks_same (Some g ∷ ss) old new same =
    let f : Home → Option Block = λ h. Some (record { body = g.body; home = h; len = length (piece_of g).bytes }) in
    let first : block_in new (Some g) ≡ block_in old (Some g) = ap f (same 0 g refl) in
    λ i. first i ∷ blocks_same ss old new (λ j h is. same (suc j) h is) i
