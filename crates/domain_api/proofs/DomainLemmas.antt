-- Blocks of two heaps: which of them a block is of, and what stays of what is held.
use Rattle.std.proofs.Common.{true≢false, ◌≡◌, ◌≢◌, ℕ, zero, suc, ◌+◌, ◌*◌, ◌<◌, ◌≤◌, Bool, true, false, List, [], ◌∷◌, length, Option, Some, None, Result, Ok, Err, OnErr, refl, sym, ap, subst, ◌∙◌, arith, inl, inr, ◌⊎◌}
use Rattle.std.specs.Prelude.{◌&&◌, ◌||◌, IsNone, not, nat_le}
use Rattle.std.proofs.lemmas.Bool.{le-leb, leb-true}
use Rattle.mem_base.specs.declared.history.Ask.{Ask}
use Rattle.mem_base.specs.declared.history.Ask.TheVariants as ask
use Rattle.mem_base.specs.declared.history.Grant.{Grant}
use Rattle.mem_base.specs.declared.history.Grant.TheVariants as grant
use Rattle.layout_model.specs.Asks.{FitsClass, FitsRequest, Request, class_asks, is_refused, raw_was_asked}
use Rattle.layout_model.specs.Asks.Request.{FromPools, FromRaw}
use Rattle.layout_model.specs.Layout.{Layout}
use Rattle.layout_model.specs.Sizes.{class_of, is_small}
use Rattle.extents.specs.Extent.{Extent, Window, AreDisjoint, LiesIn, covers, piece_extent, spans}
use Rattle.extents.specs.Sums.{tally, Has, Inserted, Removed}
use Rattle.extents.proofs.CallerLemmas.{covers_in, covers_most, lies_spans, has_kept, has_more, has_new, length_inserted, tally_has, tally_zero}
use Rattle.sources.specs.Holder.{Answered, AskedAtMostOnce, AskedUnrefused, Traded}
use Rattle.sources.specs.Source.{ArenaShape, SourceView}
use Rattle.sources.proofs.CallerLemmas.{traded_nothing, unrefused_nothing}
use Rattle.request_model.specs.Counts.{arena_asks, arena_refusals}
use Rattle.request_model.specs.Decision.{fits_in_place}
use Rattle.request_model.proofs.CallerLemmas.{fits_in_place_so, no_fit}
use Rattle.py_heap.specs.Heap.{HeapView, RegionsAfter, RegionsBack, regions_of}
use Rattle.raw_heap.specs.Heap.{IsGot}
use Rattle.raw_region.specs.Region.{PieceView}
use Rattle.mem_base.specs.declared.trace.Letter.{Letter}
use Rattle.block_model.specs.Block.{carried, new_byte}
use Rattle.block_model.proofs.CallerLemmas.{carried-fresh}
use Rattle.debug_guard.specs.Guard.{Guard, fill_of, guard_extent, piece_of}
use Rattle.domain_api.specs.declared.answers.Asked.{Asked}
use Rattle.domain_api.specs.Domains.{IsGivenUp, IsLent, IsMoved, IsTakenBy, MustMove}
use Rattle.domain_api.specs.declared.answers.Got.TheVariants as gots
use Rattle.domain_api.specs.Held.{AllWithin, AreAskedOnce, AreHeld, AreSound, AreTraded, DomainsView, IsLoan}

-- ---- which heap

-- a small block's place is in just one of the heap's regions
pub owns_small : (heap : HeapView) (raws : List Extent) (e : Extent) → AreSound heap raws → Has e heap.loans → 1 ≤ e.len → tally (covers e.place) (regions_of heap) ≡ 1
owns_small heap raws e sound has some =
    let w = sound.heap_is.within e has in
    let there : covers e.place w.0 ≡ 1 = covers_in e.place w.0 w.1.2 (omega (arith, some, w.1.3)) in
    omega (arith, there, tally_has (covers e.place) w.0 (regions_of heap) w.1.0, sound.heap_is.arenas_apart e.place)

zero_or_one : (n : ℕ) → n ≤ 1 → (n ≡ 0) ⊎ (n ≡ 1)
zero_or_one zero few = inl refl
zero_or_one (suc zero) few = inr refl
zero_or_one (suc (suc n)) few = absurd (omega (arith, few))

-- a raw block's place is in none
pub owns_no_raw : (d : DomainsView) (arenas : SourceView ArenaShape) (raws : SourceView ℕ) (e : Extent) → AreHeld d arenas raws → Has e d.raws → 1 ≤ e.len → tally (covers e.place) (regions_of d.heap) ≡ 0
owns_no_raw d arenas raws e held has some =
    let mine : spans e.place raws.window ≡ 1 = lies_spans e.place e raws.window (held.raws_in e has) (covers_in e.place e (omega arith) (omega (arith, some))) in
    tally_zero (covers e.place) (regions_of d.heap) (λ r there. by r there mine (covers e.place r) refl (covers_most e.place r))
  where
    by : (r : Extent) → Has r (regions_of d.heap) → spans e.place raws.window ≡ 1 → (n : ℕ) → covers e.place r ≡ n → n ≤ 1 → n ≡ 0
    by r there mine n is few = elim (zero_or_one n few) [
      | inl none ↦ none
      | inr one ↦ absurd (omega (arith, mine, lies_spans e.place r arenas.window (held.arenas_in r there) (is ∙ one), held.windows e.place))
    ]

-- ---- what is held

-- one more extent of the window
pub within_more : (e : Extent) (old new : List Extent) (w : Window) → AllWithin old w → LiesIn e w → Inserted e old new → AllWithin new w
within_more e old new w all lies added d has = elim (has_more e d old new added has) [ inl same ↦ subst (λ (x : Extent). LiesIn x w) (sym same) lies | inr before ↦ all d before ]

pub within_fewer : (e : Extent) (old new : List Extent) (w : Window) → AllWithin old w → Removed e old new → AllWithin new w
within_fewer e old new w all gone d has = all d (has_kept e d new old gone has)

-- what a request to the raw heap leaves
pub got_within : (n : ℕ) (o : Option PieceView) (old new : List Extent) (seen : SourceView ℕ) → IsGot n o old new seen → AllWithin old seen.window → AllWithin new seen.window
got_within n None old new seen same all = subst (λ (l : List Extent). AllWithin l seen.window) (sym same) all
got_within n (Some p) old new seen block all = within_more (piece_extent p) old new seen.window all block.inside block.added

-- one of the two heaps traded with its source
module _ (h : HeapView) (rs : List Extent) (d : DomainsView) (is : record { heap = h; raws = rs } ≡ d)
    (arenas : SourceView ArenaShape) (raws : SourceView ℕ) (held : AreHeld d arenas raws) where
  pub own_held : AreHeld (record { heap = h; raws = rs }) arenas raws
  own_held = subst (λ (x : DomainsView). AreHeld x arenas raws) (sym is) held

  -- the heap of small blocks
  module _ (new : HeapView) (then : SourceView ArenaShape) (traded : Traded (regions_of h) (regions_of new) arenas then) where
    pub small_traded : AreTraded d (record { heap = new; raws = rs }) arenas then raws raws
    small_traded = subst (λ (x : DomainsView). AreTraded x (record { heap = new; raws = rs }) arenas then raws raws) is
        (record { arena = traded; raw = traded_nothing rs rs raws raws own_held.raws_out refl refl refl refl })

    pub small_held : AllWithin (regions_of new) arenas.window → AreHeld (record { heap = new; raws = rs }) then raws
    small_held within = record {
      arenas_out = traded.held;
      arenas_in = subst (AllWithin (regions_of new)) (sym traded.window) within;
      raws_out = own_held.raws_out;
      raws_in = own_held.raws_in;
      windows = subst (λ (w : Window). AreDisjoint w raws.window) (sym traded.window) own_held.windows;
    }

  -- the raw heap
  module _ (new : List Extent) (then : SourceView ℕ) (traded : Traded rs new raws then) where
    pub raw_traded : AreTraded d (record { heap = h; raws = new }) arenas arenas raws then
    raw_traded = subst (λ (x : DomainsView). AreTraded x (record { heap = h; raws = new }) arenas arenas raws then) is
        (record { arena = traded_nothing (regions_of h) (regions_of h) arenas arenas own_held.arenas_out refl refl refl refl; raw = traded })

    pub raw_held : AllWithin new raws.window → AreHeld (record { heap = h; raws = new }) arenas then
    raw_held within = record {
      arenas_out = own_held.arenas_out;
      arenas_in = own_held.arenas_in;
      raws_out = traded.held;
      raws_in = subst (AllWithin new) (sym traded.window) within;
      windows = subst (AreDisjoint arenas.window) (sym traded.window) own_held.windows;
    }

-- ---- what was asked where there was no memory

-- what an error leaves, of two things that it leaves
on_err_both : {X E P Q S : Type 0} (r : Result X E) → (P → Q → S) → OnErr r P → OnErr r Q → OnErr r S
on_err_both (Ok x) f p q = tt
on_err_both (Err e) f p q = f p q

few_refusals : (g : Grant) → (arena_refusals g ≤ arena_asks g) × (arena_asks g ≤ 1)
few_refusals grant.NotAsked = (omega arith, omega arith)
few_refusals grant.Refused = (omega arith, omega arith)
few_refusals (grant.Granted pools) = (omega arith, omega arith)

-- who was not asked gave no answer
pub answered_nothing : (arenas : SourceView ArenaShape) → Answered 0 0 arenas arenas
answered_nothing arenas = record { asked = omega arith; refused = omega arith; heeded = λ (never : 0 ≡ 1) listed. absurd (omega (arith, never)) }

module _ (arenas then : SourceView ArenaShape) (raws : SourceView ℕ) where
  -- the heap had none
  pub heap_had_none : {X E : Type 0} (r : Result X E) → AskedUnrefused arenas then → OnErr r (AreAskedOnce arenas then raws raws)
  heap_had_none (Ok x) asked = tt
  heap_had_none (Err e) asked = record {
    arena = record { asks = asked.asks; refusals = 0; few = (omega arith, asked.few); answered = asked.answered; plan = asked.plan };
    raw = unrefused_nothing raws raws (record { asked = refl; refused = refl; plan = refl });
    passed = omega arith;
  }

  -- the raw heap had none, after the arena source gave this answer
  pub raw_had_none : {X E : Type 0} (g : Grant) (mid : SourceView ArenaShape) (raws_then : SourceView ℕ) (r : Result X E)
      → Answered (arena_asks g) (arena_refusals g) arenas mid → mid.plan ≡ arenas.plan → then ≡ mid
      → OnErr r (AskedUnrefused raws raws_then) → OnErr r (raws_then.asked ≡ raws.asked + 1) → OnErr r (AreAskedOnce arenas then raws raws_then)
  raw_had_none g mid raws_then r answered plan same = on_err_both r (λ (asked : AskedUnrefused raws raws_then) (one : raws_then.asked ≡ raws.asked + 1). record {
    arena = subst (AskedAtMostOnce arenas) (sym same) (record { asks = arena_asks g; refusals = arena_refusals g; few = few_refusals g; answered = answered; plan = plan });
    raw = asked;
    passed = omega (arith, few_refusals g, asked.answered.asked);
  })

-- ---- which answers fit

both_small : (m : ℕ) → 1 ≤ m → m ≤ 512 → is_small m ≡ true
both_small m low high = λ i. le-leb 1 m low i && le-leb m 512 high i

too_large : (m : ℕ) → 512 < m → is_small m ≡ false
too_large m large = by (nat_le m 512) refl
  where
    by : (b : Bool) → nat_le m 512 ≡ b → (nat_le 1 m && b) ≡ false
    by true is = absurd (omega (arith, large, leb-true m 512 is))
    by false is = nothing (nat_le 1 m)
      where
        nothing : (a : Bool) → (a && false) ≡ false
        nothing true = refl
        nothing false = refl

not_refused : (g : Grant) → g ≢ grant.Refused → is_refused g ≡ false
not_refused grant.NotAsked other = refl
not_refused grant.Refused other = absurd (other refl)
not_refused (grant.Granted pools) other = refl

-- a small block that a pool gave
pub fits_pooled : (l : Layout) (m : ℕ) (g : Grant) → 1 ≤ m → m ≤ 512 → FitsClass l (class_of m) g → g ≢ grant.Refused → FitsRequest l (FromPools m) g ask.NotAsked
fits_pooled l m g low high fits other = record {
  arena_asked = fits.asked ∙ sym (ap (λ (b : Bool). b && class_asks l (class_of m)) (both_small m low high));
  raw_asked = sym ((λ i. not (both_small m low high i) || not_refused g other i));
  pools = fits.pools;
}

-- one whose arena was refused, which the raw source was asked for
pub fits_refused : (l : Layout) (m : ℕ) (raw : Ask) → 1 ≤ m → m ≤ 512 → FitsClass l (class_of m) grant.Refused → raw_was_asked raw ≡ true → FitsRequest l (FromPools m) grant.Refused raw
fits_refused l m raw low high fits asked = record {
  arena_asked = fits.asked ∙ sym (ap (λ (b : Bool). b && class_asks l (class_of m)) (both_small m low high));
  raw_asked = asked ∙ sym (ap (λ (b : Bool). not b || true) (both_small m low high));
  pools = tt;
}

-- one that is too large for a pool
pub fits_large : (l : Layout) (m : ℕ) (raw : Ask) → 512 < m → raw_was_asked raw ≡ true → FitsRequest l (FromPools m) grant.NotAsked raw
fits_large l m raw large asked = record {
  arena_asked = sym (ap (λ (b : Bool). b && class_asks l (class_of m)) (too_large m large));
  raw_asked = asked ∙ sym (ap (λ (b : Bool). not b || false) (too_large m large));
  pools = tt;
}

-- one of the raw domain
pub fits_raw : (l : Layout) (m : ℕ) (raw : Ask) → raw_was_asked raw ≡ true → FitsRequest l (FromRaw m) grant.NotAsked raw
fits_raw l m raw asked = record { arena_asked = refl; raw_asked = asked; pools = tt }

-- ---- what the heap of small blocks holds

-- where the window has all regions that it held, it has those that it holds after a request
pub regions_within : (g : Grant) (seen : SourceView ArenaShape) (old new : List Extent) → RegionsAfter g seen old new → AllWithin old seen.window → AllWithin new seen.window
regions_within grant.NotAsked seen old new same all = subst (λ (l : List Extent). AllWithin l seen.window) (sym same) all
regions_within grant.Refused seen old new same all = subst (λ (l : List Extent). AllWithin l seen.window) (sym same) all
regions_within (grant.Granted pools) seen old new more all = within_more more.0 old new seen.window all more.1.3 more.1.0

-- and after a block came back
pub regions_left : (p : ℕ) (old new : HeapView) (w : Window) → RegionsBack p old new → AllWithin (regions_of old) w → AllWithin (regions_of new) w
regions_left p old new w back all = elim back [
  | inl same ↦ subst (λ (l : List Extent). AllWithin l w) (sym same.1) all
  | inr gone ↦ within_fewer gone.1.0 (regions_of old) (regions_of new) w all gone.1.1.0
]

-- ---- whose a block is

-- what is there is not none
pub not_none : {X : Type 0} (o : Option X) (x : X) → o ≡ Some x → IsNone o → ⊥
not_none None x is none = cc
not_none (Some y) x is none = cc

pub is_small_block : (d : DomainsView) (arenas : SourceView ArenaShape) (raws : SourceView ℕ) (e : Extent) → AreHeld d arenas raws → IsLoan e d → 1 ≤ e.len → tally (covers e.place) (regions_of d.heap) ≡ 1 → Has e d.heap.loans
is_small_block d arenas raws e held loan some owned = elim loan [ inl small ↦ small | inr raw ↦ absurd (omega (arith, owned, owns_no_raw d arenas raws e held raw some)) ]

pub is_raw_block : (d : DomainsView) (e : Extent) → AreSound d.heap d.raws → IsLoan e d → 1 ≤ e.len → tally (covers e.place) (regions_of d.heap) ≢ 1 → Has e d.raws
is_raw_block d e sound loan some other = elim loan [ inl small ↦ absurd (other (owns_small d.heap d.raws e sound small some)) | inr raw ↦ raw ]

-- ---- a block of new domains

-- what was lent is a loan
pub lent_is_loan : (v : Letter) (n fill : ℕ) (b : Guard) (asked : Asked) (old new : DomainsView) → IsLent v n fill b asked old new → IsLoan (guard_extent b) new
lent_is_loan v n fill b asked old new lent = elim lent.lies [
  | inl small ↦ inl (subst (λ (x : Extent). Has x new.heap.loans) small.there (has_new (piece_extent small.piece) old.heap.loans new.heap.loans small.serves.got.1.lent))
  | inr raw ↦ inr (has_new (guard_extent b) old.raws new.raws raw.lent)
]

none_of : {X : Type 0} (l : List X) → length l ≡ 0 → l ≡ []
none_of [] none = refl
none_of (x ∷ xs) none = absurd (omega (arith, none))

-- and once it is given up, nothing is lent
pub all_given_up : (v : Letter) (n fill : ℕ) (b : Guard) (asked : Asked) (old new last : DomainsView) → IsLent v n fill b asked old new → IsGivenUp b new last → old.heap.loans ≡ [] → old.raws ≡ [] → (last.heap.loans ≡ []) × (last.raws ≡ [])
all_given_up v n fill b asked old new last lent gone small_before raw_before = elim lent.lies [
  | inl small ↦
      let one = length_inserted (piece_extent small.piece) old.heap.loans new.heap.loans small.serves.got.1.lent in
      let none_raw : length new.raws ≡ 0 = ap length (small.raws ∙ raw_before) in
      elim gone [
        | inl back ↦ (none_of last.heap.loans (omega (arith, one, ap length small_before, length_inserted (piece_extent back.piece) last.heap.loans new.heap.loans back.freed.back)), back.raws ∙ small.raws ∙ raw_before)
        | inr back ↦ absurd (omega (arith, none_raw, length_inserted (guard_extent b) last.raws new.raws back.back))
      ]
  | inr raw ↦
      let one = length_inserted (guard_extent b) old.raws new.raws raw.lent in
      let none_small : length new.heap.loans ≡ 0 = ap length (ap (λ (h : HeapView). h.loans) raw.heap ∙ small_before) in
      elim gone [
        | inl back ↦ absurd (omega (arith, none_small, length_inserted (piece_extent back.piece) last.heap.loans new.heap.loans back.freed.back))
        | inr back ↦ (ap (λ (h : HeapView). h.loans) (back.heap ∙ raw.heap) ∙ small_before, none_of last.raws (omega (arith, one, ap length raw_before, length_inserted (guard_extent b) last.raws new.raws back.back)))
      ]
]

-- ---- a block that gets another size

-- what was a loan is one, once a new block was lent
pub loan_stays : (v : Letter) (n fill : ℕ) (b : Guard) (asked : Asked) (old new : DomainsView) (e : Extent) → IsLent v n fill b asked old new → IsLoan e old → IsLoan e new
loan_stays v n fill b asked old new e lent loan = elim lent.lies [
  | inl small ↦ elim loan [
    | inl has ↦ inl (has_kept (piece_extent small.piece) e old.heap.loans new.heap.loans small.serves.got.1.lent has)
    | inr has ↦ inr (subst (λ (l : List Extent). Has e l) (sym small.raws) has)
  ]
  | inr raw ↦ elim loan [
    | inl has ↦ inl (subst (λ (h : HeapView). Has e h.loans) (sym raw.heap) has)
    | inr has ↦ inr (has_kept (guard_extent b) e old.raws new.raws raw.lent has)
  ]
]

-- a new block that got the data of the old one, which was given up then
pub moves_so : (r : Request) (v : Letter) (n : ℕ) (zeroed : Bool) (was empty is : Guard) (asked : Asked) (old between new : DomainsView) → zeroed ≡ false → MustMove v n was old r
    → IsTakenBy r v n (fill_of zeroed) old between (gots.Block empty) asked → 16 ≤ length was.body → is ≡ record empty { body = carried was.body empty.body }
    → IsGivenUp was between new → AreSound between.heap between.raws → (arenas : SourceView ArenaShape) (raws : SourceView ℕ) → AreHeld between arenas raws → IsMoved v n was is asked old new
moves_so r v n zeroed was empty is asked old between new fresh_data must taken long carries gone sound arenas raws held =
    let lent = subst (λ (z : Bool). IsLent v n (fill_of z) empty asked old between) fresh_data taken.1 in
    record {
      request = r;
      must = must;
      fits = taken.0;
      empty = empty;
      between = between;
      lent = lent;
      sound = sound;
      held = (arenas, raws, held);
      carried = carries ∙ (λ i. record empty { body = (ap (carried was.body) lent.body ∙ carried-fresh v n new_byte was.body long) i });
      gone = gone;
    }

-- whose block it is, by what the heap says of its place
module _ (h : HeapView) (rs : List Extent) (d : DomainsView) (is : record { heap = h; raws = rs } ≡ d) (block : Guard) (loan : IsLoan (guard_extent block) d) (some : 1 ≤ (guard_extent block).len)
    (place : ℕ) (same : place ≡ block.place) (owned : Bool) (owns : (owned ≡ true → tally (covers place) (regions_of h) ≡ 1) × (tally (covers place) (regions_of h) ≡ 1 → owned ≡ true)) where
  pub lies_in_raw : AreSound h rs → owned ≡ false → Has (guard_extent block) d.raws
  lies_in_raw sound not_owned =
      let own : IsLoan (guard_extent block) (record { heap = h; raws = rs }) = subst (λ (x : DomainsView). IsLoan (guard_extent block) x) (sym is) loan in
      let none : tally (covers block.place) (regions_of h) ≢ 1 = λ one. true≢false (sym (owns.1 (subst (λ (p : ℕ). tally (covers p) (regions_of h) ≡ 1) (sym same) one)) ∙ not_owned) in
      subst (λ (x : DomainsView). Has (guard_extent block) x.raws) is (is_raw_block (record { heap = h; raws = rs }) (guard_extent block) sound own some none)

  pub lies_in_pool : (arenas : SourceView ArenaShape) (raws : SourceView ℕ) → AreHeld d arenas raws → owned ≡ true → Has (guard_extent block) d.heap.loans
  lies_in_pool arenas raws held is_owned =
      let one = subst (λ (p : ℕ). tally (covers p) (regions_of h) ≡ 1) same (owns.0 is_owned) in
      is_small_block d arenas raws (guard_extent block) held loan some (subst (λ (x : DomainsView). tally (covers block.place) (regions_of x.heap) ≡ 1) is one)

-- whether it fits where it lies, by what the heap says of its piece
module _ (block : Guard) (p : PieceView) (m : ℕ) (fit : Bool) (same : p ≡ piece_of block)
    (fits : (fit ≡ true → (m ≤ length p.bytes) × (3 * length p.bytes < 4 * m)) × ((m ≤ length p.bytes) × (3 * length p.bytes < 4 * m) → fit ≡ true)) where
  len_is : length p.bytes ≡ (guard_extent block).len
  len_is = ap (λ (q : PieceView). length q.bytes) same

  pub fits_there : fit ≡ true → fits_in_place (guard_extent block).len m ≡ true
  fits_there fitting = let so = fits.0 fitting in ap (λ s. fits_in_place s m) (sym len_is) ∙ fits_in_place_so (length p.bytes) m so.0 so.1

  pub fits_not_there : fit ≡ false → fits_in_place (guard_extent block).len m ≡ false
  fits_not_there wide = ap (λ s. fits_in_place s m) (sym len_is) ∙ no_fit (length p.bytes) m (λ so. true≢false (sym (fits.1 so) ∙ wide))
