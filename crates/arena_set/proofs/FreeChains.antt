-- The list of an arena's free pools, as one goes, comes, or other cells change.
use Rattle.std.proofs.Common.{◌≡◌, ◌≢◌, ℕ, suc, ◌+◌, ◌-◌, ◌≤◌, inl, inr, List, [], ◌∷◌, ◌++◌, length, get_or, Option, None, refl, sym, ap, subst, ◌∙◌, arith}
use Rattle.std.proofs.lemmas.List.{length-append}
use Rattle.std.proofs.lemmas.Bool.Decides.{leb_tells}
use Rattle.raw_region.specs.Region.{RegionView}
use Rattle.raw_region.specs.Cells.{word_at}
use Rattle.layout_model.specs.Geometry.{place_at, pool_offset, slot_at, total_at}
use Rattle.layout_model.proofs.CallerLemmas.{address_tells_slot}
use Rattle.links.specs.Nodes.{times}
use Rattle.links.proofs.CallerLemmas.{times-here, times-append}
use Rattle.pool_core.specs.Calls.{InRun}
use Rattle.pool_core.proofs.CallerLemmas.{word_same}
use Rattle.arena_set.specs.FreeChain.{AreChained, IsFreeList, chain_from, first_place, free_list, numbers_from, untouched}
use Rattle.arena_set.proofs.Rows.{length-from}

slot_again : (base k : ℕ) → slot_at base (place_at base k) ≡ k
slot_again base k = address_tells_slot base k (place_at base k) (omega arith, omega arith)

-- the words lead to just these pools
pub chain_is : (cells : List (Option ℕ)) (base : ℕ) (ks : List ℕ) → AreChained cells base ks → chain_from cells base (length ks) (first_place base ks) ≡ ks
chain_is cells base [] c = refl
chain_is cells base (k ∷ ks) c =
    let here : slot_at base (place_at base k) ≡ k = slot_again base k in
    let off : place_at base k - base + 16 ≡ pool_offset base k + 16 = omega arith in
    (λ i. here i ∷ chain_from cells base (length ks) (word_at cells (off i))) ∙ ap (λ xs. k ∷ xs) (ap (chain_from cells base (length ks)) c.0 ∙ chain_is cells base ks c.1)

-- what changes no cell of these pools keeps them linked
pub chain_kept : (old new : List (Option ℕ)) (base : ℕ) (ks : List ℕ) → length new ≡ length old → ((k : ℕ) → 1 ≤ times k ks → pool_offset base k + 24 ≤ length old)
    → ((k i : ℕ) → 1 ≤ times k ks → InRun (pool_offset base k) 16384 i → get_or new i None ≡ get_or old i None) → AreChained old base ks → AreChained new base ks
chain_kept old new base [] long inside same c = tt
chain_kept old new base (k ∷ ks) long inside same c =
    let here : 1 ≤ times k (k ∷ ks) = (let t = times-here k ks in omega arith) in
    let fits = inside k here in (
      word_same old new (pool_offset base k + 16) long (omega arith) (λ i lt. same k (pool_offset base k + 16 + i) here (omega arith, omega arith)) ∙ c.0,
      chain_kept old new base ks long (λ j t. inside j (omega arith)) (λ j i t r. same j i (omega arith) r) c.1,
    )

-- no pool begins at 0
no_first : (base : ℕ) (ks : List ℕ) → 1 ≤ base → 0 ≡ first_place base ks → ks ≡ []
no_first base [] low e = refl
no_first base (k ∷ ks) low e = absurd (omega arith)

pub some_first : (base first : ℕ) (ks : List ℕ) → first ≢ 0 → first ≡ first_place base ks → (k : ℕ) × ((js : List ℕ) × (ks ≡ k ∷ js))
some_first base first [] some e = absurd (some e)
some_first base first (k ∷ ks) some e = (k, (ks, refl))

-- ---- the list of an arena

-- the first free pool was k
pub record Took (r : RegionView) (first free used k now used_now : ℕ) : Type 0 where
  pub list : IsFreeList r now (free - 1) used_now
  pub is : free_list r first free used ≡ k ∷ free_list r now (free - 1) used_now

module _ (r : RegionView) (first free used : ℕ) (l : IsFreeList r first free used) where
  pub listed : free_list r first free used ≡ l.linked ++ numbers_from used (untouched r.base used)
  listed =
      let many : free - untouched r.base used ≡ length l.linked = let c = l.count in omega arith in
      ap (λ xs. xs ++ numbers_from used (untouched r.base used)) ((λ i. chain_from r.cells r.base (many i) (l.front i)) ∙ chain_is r.cells r.base l.linked l.chain)

  pub counted : length (free_list r first free used) ≡ free
  counted = let a = length-append l.linked (numbers_from used (untouched r.base used)) in let b = length-from used (untouched r.base used) in let c = l.count in let e = ap length listed in omega arith

  -- a linked pool is one of the free ones
  linked_free : (k : ℕ) → times k l.linked ≤ times k (free_list r first free used)
  linked_free k = let a = times-append k l.linked (numbers_from used (untouched r.base used)) in let e = ap (times k) listed in omega arith

module _ (r : RegionView) (first free used : ℕ) (l : IsFreeList r first free used) (low : 1 ≤ r.base) (some : 1 ≤ free) where
  -- none is linked: the first one that was never taken
  module _ (none : first ≡ 0) where
    empty : l.linked ≡ []
    empty = no_first r.base l.linked low (sym none ∙ l.front)

    pub some_left : untouched r.base used ≡ untouched r.base (used + 1) + 1
    some_left = let c = l.count in let e = ap length empty in omega arith

    left : IsFreeList r first (free - 1) (used + 1)
    left = record { linked = []; chain = tt; front = none; count = (let c = l.count in let e = ap length empty in let s = some_left in omega arith); most = (let s = some_left in omega arith) }

    pub took_untouched : Took r first free used used first (used + 1)
    unfolding left
    took_untouched =
        let more : untouched r.base used ≡ suc (untouched r.base (used + 1)) = let s = some_left in omega arith in
        record {
          list = left;
          is = listed r first free used l ∙ ((λ i. empty i ++ numbers_from used (more i)) ∙ ap (λ xs. used ∷ xs) (sym (listed r first (free - 1) (used + 1) left)));
        }

  -- the first of those that are linked
  module _ (linked : first ≢ 0) where
    abbrev pub front : ℕ
    front = (some_first r.base first l.linked linked l.front).0

    abbrev behind : List ℕ
    behind = (some_first r.base first l.linked linked l.front).1.0

    split : l.linked ≡ front ∷ behind
    split = (some_first r.base first l.linked linked l.front).1.1

    pub front_place : first ≡ place_at r.base front
    front_place = l.front ∙ ap (first_place r.base) split

    pub front_is : slot_at r.base first ≡ front
    front_is = ap (slot_at r.base) front_place ∙ slot_again r.base front

    pub front_free : 1 ≤ times front (free_list r first free used)
    front_free = let t = times-here front behind in let e = ap (times front) split in let f = linked_free r first free used l front in omega arith

    abbrev next : ℕ
    next = word_at r.cells (first - r.base + 16)

    chained : AreChained r.cells r.base (front ∷ behind)
    chained = subst (AreChained r.cells r.base) split l.chain

    next_is : next ≡ first_place r.base behind
    next_is = let off : first - r.base + 16 ≡ pool_offset r.base front + 16 = (let p = front_place in omega arith) in ap (word_at r.cells) off ∙ (chained).0

    rest : IsFreeList r next (free - 1) used
    rest = record { linked = behind; chain = (chained).1; front = next_is; count = (let c = l.count in let e = ap length split in omega arith); most = l.most }

    pub took_linked : Took r first free used (slot_at r.base first) next used
    unfolding rest
    took_linked = record {
      list = rest;
      is = listed r first free used l ∙ ((λ i. split i ++ numbers_from used (untouched r.base used)) ∙ ((λ i. sym front_is i ∷ (behind ++ numbers_from used (untouched r.base used))) ∙ ap (λ xs. slot_at r.base first ∷ xs) (sym (listed r next (free - 1) used rest))));
    }

-- ---- cells of a pool that is not free change

module _ (r new : RegionView) (first free used k : ℕ) (l : IsFreeList r first free used) (base : new.base ≡ r.base) (long : length new.cells ≡ length r.cells)
    (beside : (i : ℕ) → (InRun (pool_offset r.base k) 16384 i → ⊥) → get_or new.cells i None ≡ get_or r.cells i None) (out : times k (free_list r first free used) ≡ 0)
    (fits : (j : ℕ) → 1 ≤ times j (free_list r first free used) → pool_offset r.base j + 24 ≤ length r.cells) where
  other : (j : ℕ) → 1 ≤ times j l.linked → j ≢ k
  other j t e = let f = linked_free r first free used l k in let u : times j l.linked ≡ times k l.linked = ap (λ x. times x l.linked) e in absurd (omega arith)

  still_chained : AreChained new.cells r.base l.linked
  still_chained =
      chain_kept r.cells new.cells r.base l.linked long (λ j t. fits j (let f = linked_free r first free used l j in omega arith))
      (λ j i t q. beside i (λ p. absurd (let n = other j t in let q0 = q.0 in let q1 = q.1 in let p0 = p.0 in let p1 = p.1 in elim (leb_tells j k) [ inl w ↦ omega arith | inr w ↦ omega arith ]))) l.chain

  pub still_listed : IsFreeList new first free used
  still_listed = record {
    linked = l.linked;
    chain = subst (λ b. AreChained new.cells b l.linked) (sym base) still_chained;
    front = l.front ∙ ap (λ b. first_place b l.linked) (sym base);
    count = l.count ∙ ap (λ b. length l.linked + untouched b used) (sym base);
    most = subst (λ b. used ≤ total_at b) (sym base) l.most;
  }

  pub same_list : free_list new first free used ≡ free_list r first free used
  unfolding still_listed
  same_list = listed new first free used still_listed ∙ (ap (λ b. l.linked ++ numbers_from used (untouched b used)) base ∙ sym (listed r first free used l))

  -- and it comes to the front, by its own word
  module _ (word : word_at new.cells (pool_offset r.base k + 16) ≡ first) where
    pub more_listed : IsFreeList new (place_at r.base k) (free + 1) used
    more_listed = record {
      linked = k ∷ l.linked;
      chain = subst (λ b. AreChained new.cells b (k ∷ l.linked)) (sym base) (word ∙ l.front, still_chained);
      front = ap (λ b. place_at b k) (sym base);
      count = (let c = l.count in let e = ap (λ b. untouched b used) base in omega arith);
      most = subst (λ b. used ≤ total_at b) (sym base) l.most;
    }

    pub one_more : free_list new (place_at r.base k) (free + 1) used ≡ k ∷ free_list r first free used
    unfolding more_listed
    one_more = listed new (place_at r.base k) (free + 1) used more_listed ∙ ap (λ xs. k ∷ xs) (ap (λ b. l.linked ++ numbers_from used (untouched b used)) base ∙ sym (listed r first free used l))
