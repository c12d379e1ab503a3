-- What calls on an arena's region do to the arena.
use Rattle.std.proofs.Common.{◌≡◌, ◌≢◌, ℕ, zero, suc, ◌+◌, ◌<◌, ◌≤◌, ◌⊎◌, inl, inr, IsSome, Bool, List, [], ◌∷◌, length, get_or, set, Option, Some, None, refl, sym, ap, subst, ◌∙◌, arith, length-set}
use Rattle.std.proofs.lemmas.List.{get_or-set_same, get_or-set_other}
use Rattle.raw_region.specs.declared.maker.Maker.{Maker}
use Rattle.raw_region.specs.Cells.{AtHome}
use Rattle.raw_region.specs.Region.{RegionView, PieceView}
use Rattle.extents.specs.Sums.{tally}
use Rattle.extents.specs.Extent.{covers, piece_extent}
use Rattle.extents.proofs.CallerLemmas.{tally-append}
use Rattle.links.specs.Nodes.{times}
use Rattle.layout_model.specs.Pool.{HasRoom}
use Rattle.layout_model.specs.Plain.{PlainView, StandsFor, new_plain}
use Rattle.pool_core.specs.Calls.{CanTake, InRun, OnlyAt}
use Rattle.pool_core.proofs.CallerLemmas.{home_one, new_live}
use Rattle.arena_set.specs.Started.{Started, plain_of, started_from, started_in, started_of}
use Rattle.arena_set.specs.declared.link.Link.{Link}
use Rattle.arena_set.specs.declared.link.Link.TheVariants.{Next, Prev}
use Rattle.arena_set.specs.Link.{link_offset, plain_with, with_link}
use Rattle.arena_set.specs.Flat.{AllSome, flat}
use Rattle.layout_model.specs.Geometry.{first_pool, pool_offset}
use Rattle.arena_set.specs.Arena.{ArenaView, after_lending, after_mending, arena_loans, arena_view, pool_loans, AccountsFor, IsArena, IsSound, PoolChange}
use Rattle.arena_set.specs.Set.{pool_line}
use Rattle.arena_set.specs.ArenaCalls.{ArenaLends, ArenaMends, CanLendPool, CanMendAt, CanMendPiece, IsLentAt, LentAt, MendedAt}
use Rattle.arena_set.proofs.Flats.{inside, part_same, some_same}
use Rattle.arena_set.proofs.Geometry.{pool_once, pools_once}
use Rattle.arena_set.proofs.Pools.{started_loans}
use Rattle.arena_set.proofs.Lending.{pool_fits, lend_sound, lend_tells, lend_view, lent_at, mend_sound, mend_tells, mend_view, piece_of, started_taken}
use Rattle.arena_set.proofs.Starteds.{accounts_only, arena_changes, arena_stands, length-started, only_beside, pools_are, started_at}

-- ---- the bytes of a pool that is not started

idle_part : (b : ℕ) (m : Maker) (i k x : ℕ) (ps : List (Option Started)) → AllSome IsSound ps → get_or ps k None ≡ None → b + pool_offset b (i + k) ≤ x → x < b + pool_offset b (i + k) + 16384 → tally (covers x) (flat (pool_loans b m) i ps) ≡ 0
idle_part b m i k x [] s e low high = refl
idle_part b m i zero x (None ∷ ps) s e low high = (pools_once b m (i + 1) x ps s).1 (omega arith)
idle_part b m i (suc k) x (None ∷ ps) s e low high = idle_part b m (i + 1) k x ps s e (omega arith) (omega arith)
idle_part b m i zero x (Some p ∷ ps) s e low high = absurd (cc)
idle_part b m i (suc k) x (Some p ∷ ps) s e low high =
    let rest = idle_part b m (i + 1) k x ps s.1 e (omega arith) (omega arith) in
    let first = (pool_once b m i x p s.0).2 (omega arith) in
    let sum = tally-append (covers x) (pool_loans b m i p) (flat (pool_loans b m) (i + 1) ps) in omega arith

pub idle_home : (a : ArenaView) (k : ℕ) → IsArena a → k < length a.pools → pool_offset a.region.base k + 16384 ≤ length a.region.cells → get_or a.pools k None ≡ None → AtHome a.region.cells (pool_offset a.region.base k) 16384
idle_home a k s lt fits fresh j less =
    let none = idle_part a.region.base a.region.maker 0 k (a.region.base + (pool_offset a.region.base k + j)) a.pools s.sound fresh (omega arith) (omega arith) in
    let all = s.accounts (pool_offset a.region.base k + j) (omega arith) in
    home_one (get_or a.region.cells (pool_offset a.region.base k + j) None) (omega arith)

-- ---- a change of bytes of one pool that leaves what is lent

module _ (r : RegionView) (free : List ℕ) (os : List (Option ℕ)) (k : ℕ) (sound : IsArena (arena_view r free os)) where
  abbrev a : ArenaView
  a = arena_view r free os

  count : length (a).pools ≡ length os
  count = length-started r.cells (first_pool r.base) os

  module _ (t : Started) (lt : k < length (a).pools) (out : times k free ≡ 0) (new : RegionView) (base : new.base ≡ r.base) (maker : new.maker ≡ r.maker) {P : ℕ → Type 0} (only : OnlyAt P r.cells new.cells)
      (within : (i : ℕ) → P i → InRun (pool_offset r.base k) 16384 i) (here : StandsFor new.cells (pool_offset r.base k) (plain_of t)) (loans : flat (pool_loans r.base r.maker) 0 (set (a).pools k (Some t)) ≡ arena_loans a)
      (now : List (Option ℕ)) (size : length now ≡ length os) (named : get_or now k None ≡ Some t.number) (others : (j : ℕ) → j ≢ k → get_or now j None ≡ get_or os j None) where
    abbrev region_now : RegionView
    region_now = record { base = r.base; maker = r.maker; cells = new.cells }

    abbrev told : ArenaView
    told = record { region = region_now; free = free; pools = set (a).pools k (Some t) }

    beside : (i : ℕ) → (InRun (pool_offset r.base k) 16384 i → ⊥) → get_or new.cells i None ≡ get_or r.cells i None
    beside = only_beside (pool_offset r.base k) r.cells new.cells only within

    told_is : told ≡ arena_view new free now
    told_is =
        let pools : started_from new.cells (first_pool r.base) now ≡ set (a).pools k (Some t) = pools_are a k t new.cells sound lt only.length beside here os now refl size named others in
        let seen : set (a).pools k (Some t) ≡ started_from new.cells (first_pool new.base) now = sym pools ∙ ap (λ b. started_from new.cells (first_pool b) now) (sym base) in
        λ i. record { region = record { base = sym base i; maker = sym maker i; cells = new.cells }; free = free; pools = seen i }

    pub pool_sound : IsArena (arena_view new free now)
    pool_sound = subst IsArena told_is (arena_stands a k t new.cells sound lt only.length beside here out (subst (AccountsFor region_now) (sym loans) (accounts_only r region_now (arena_loans a) refl only sound.accounts)))

    pub pool_changes : PoolChange a (arena_view new free now) k t
    pool_changes = subst (λ x. PoolChange a x k t) told_is (arena_changes a k t new.cells sound lt only.length beside here)

    pub pool_loans_stay : arena_loans (arena_view new free now) ≡ arena_loans a
    pool_loans_stay = ap arena_loans (sym told_is) ∙ loans

  -- ---- a started pool

  module _ (at : ℕ) (at_is : at ≡ pool_offset r.base k) where
    pub stands_at : (s : Started) → get_or (a).pools k None ≡ Some s → StandsFor r.cells at (plain_of s)
    stands_at s there = subst (λ x. StandsFor r.cells x (plain_of s)) (sym at_is) (sound.stands k s there)

    -- the number is the one that it was started under
    pub number_at : (s : Started) → get_or (a).pools k None ≡ Some s → get_or os k None ≡ Some s.number
    number_at s there = named (get_or os k None) refl where
      named : (o : Option ℕ) → get_or os k None ≡ o → get_or os k None ≡ Some s.number
      named None e = let w : Some s ≡ None = sym there ∙ (started_at r.cells (first_pool r.base) os k ∙ ap (started_in r.cells (pool_offset r.base k)) e) in absurd (cc)
      named (Some n) e =
          let w : Some s ≡ started_in r.cells (pool_offset r.base k) (Some n) = sym there ∙ (started_at r.cells (first_pool r.base) os k ∙ ap (started_in r.cells (pool_offset r.base k)) e) in
          let x = some_same _ _ w in e ∙ ap (λ (u : Started). Some u.number) (sym x)

    pub lend_can : CanLendPool a k → CanTake r.cells at
    lend_can can = record { p = plain_of can.s; stands = stands_at can.s can.there; room = can.room }

    module _ (can : CanLendPool a k) (new : RegionView) (piece : PieceView) (full : Bool) (does : (p : PlainView) → StandsFor r.cells at p → HasRoom p.pool → LentAt r new at p piece full) where
      done : LentAt r new (pool_offset r.base k) (plain_of can.s) piece full
      done = subst (λ x. LentAt r new x (plain_of can.s) piece full) at_is (does (plain_of can.s) (stands_at can.s can.there) can.room)

      abbrev lent_arena : ArenaView
      lent_arena = record { region = new; free = free; pools = set (a).pools k (Some (after_lending can.s)) }

      view : lent_arena ≡ arena_view new free os
      view = ap (λ ps. let x : ArenaView = record { region = new; free = free; pools = ps } in x) (sym (lend_view a k can.s sound can.there can.room new piece full done os os refl refl (number_at can.s can.there) (λ j other. refl)))

      pub lend_does : IsArena (arena_view new free os) × ArenaLends a (arena_view new free os) k piece full
      lend_does = (subst IsArena view (lend_sound a k can.s sound can.there can.room new piece full done), subst (λ x. ArenaLends a x k piece full) view (lend_tells a k can.s sound can.there can.room new piece full done))

    module _ (piece : PieceView) (can : CanMendPiece a k piece) where
      abbrev which : Rattle.arena_set.proofs.Lending.PieceOf a k can.s (piece_extent piece)
      which = piece_of a k can.s (piece_extent piece) can.lent

      lent : IsLentAt r at (plain_of can.s) (which).off piece
      lent = subst (λ x. IsLentAt r x (plain_of can.s) (which).off piece) (sym at_is) (lent_at a k can.s sound can.there piece which)

      pub mend_can : CanMendAt r at piece
      mend_can = record { p = plain_of can.s; off = (which).off; is = lent }

      module _ (new : RegionView) (full empty : Bool) (does : (p : PlainView) (off : ℕ) → IsLentAt r at p off piece → MendedAt r new at p off piece full empty) where
        back : MendedAt r new (pool_offset r.base k) (plain_of can.s) (which).off piece full empty
        back = subst (λ x. MendedAt r new x (plain_of can.s) (which).off piece full empty) at_is (does (plain_of can.s) (which).off lent)

        abbrev back_arena : ArenaView
        back_arena = record { region = new; free = free; pools = set (a).pools k (Some (after_mending can.s (which).off)) }

        back_view : back_arena ≡ arena_view new free os
        back_view = ap (λ ps. let x : ArenaView = record { region = new; free = free; pools = ps } in x) (sym (mend_view a k can.s sound can.there piece which new full empty back os os refl refl (number_at can.s can.there) (λ j other. refl)))

        pub mend_does : IsArena (arena_view new free os) × ArenaMends a (arena_view new free os) k piece full empty
        mend_does = (subst IsArena back_view (mend_sound a k can.s sound can.there piece which new full empty back), subst (λ x. ArenaMends a x k piece full empty) back_view (mend_tells a k can.s sound can.there piece which new full empty back))

pub some_there : {X : Type 0} (o : Option X) → IsSome o → (x : X) × (o ≡ Some x)
some_there None s = absurd (cc)
some_there (Some x) s = (x, refl)

-- ---- starting, and other links

module _ (r : RegionView) (free : List ℕ) (os : List (Option ℕ)) (k : ℕ) (sound : IsArena (arena_view r free os)) (at : ℕ) (at_is : at ≡ pool_offset r.base k) where
  abbrev old : ArenaView
  old = arena_view r free os

  module _ (lt : k < length (old).pools) (out : times k free ≡ 0) (fresh : get_or (old).pools k None ≡ None) where
    pub start_home : AtHome r.cells at 16384
    start_home = subst (λ x. AtHome r.cells x 16384) (sym at_is) (idle_home old k sound lt (pool_fits old k sound lt) fresh)

    module _ (n class number : ℕ) (small : class < 32) (new : RegionView) (base : new.base ≡ r.base) (maker : new.maker ≡ r.maker) (only : OnlyAt (InRun at 48) r.cells new.cells) (here : StandsFor new.cells at (new_plain n class)) where
      abbrev begun : Started
      begun = started_of number (new_plain n class)

      abbrev fresh_arena : ArenaView
      fresh_arena = arena_view new free (set os k (Some number))

      inside_os : k < length os
      inside_os = let e = length-started r.cells (first_pool r.base) os in omega arith

      only_here : OnlyAt (InRun (pool_offset r.base k) 48) r.cells new.cells
      only_here = subst (λ x. OnlyAt (InRun x 48) r.cells new.cells) at_is only

      stands_here : StandsFor new.cells (pool_offset r.base k) (new_plain n class)
      stands_here = subst (λ x. StandsFor new.cells x (new_plain n class)) at_is here

      no_loans : flat (pool_loans r.base r.maker) 0 (set (old).pools k (Some begun)) ≡ arena_loans old
      no_loans = started_loans old k sound lt out begun fresh (new_live n class small)

      pub start_does : IsArena fresh_arena × (PoolChange old fresh_arena k begun × (arena_loans fresh_arena ≡ arena_loans old))
      start_does =
          let number_there = get_or-set_same os k (Some number) None inside_os in
          let within = λ (i : ℕ) (q : InRun (pool_offset r.base k) 48 i). let q1 = q.1 in let w : InRun (pool_offset r.base k) 16384 i = (q.0, omega arith) in w in (
            pool_sound r free os k sound begun lt out new base maker only_here within stands_here no_loans (set os k (Some number)) (length-set os k (Some number)) number_there (λ j other. get_or-set_other os k j (Some number) None other),
            (
              pool_changes r free os k sound begun lt out new base maker only_here within stands_here no_loans (set os k (Some number)) (length-set os k (Some number)) number_there (λ j other. get_or-set_other os k j (Some number) None other),
              pool_loans_stay r free os k sound begun lt out new base maker only_here within stands_here no_loans (set os k (Some number)) (length-set os k (Some number)) number_there (λ j other. get_or-set_other os k j (Some number) None other),
            ),
          )

  -- a started pool with other links
  module _ (s : Started) (there : get_or (old).pools k None ≡ Some s) (next prev : ℕ) (o : ℕ) (o_is : o ≡ at + 16 ⊎ o ≡ at + 24) (new : RegionView) (base : new.base ≡ r.base) (maker : new.maker ≡ r.maker) (only : OnlyAt (InRun o 8) r.cells new.cells)
      (here : StandsFor new.cells at (record { pool = s.pool; next = next; prev = prev })) where
    abbrev linked : Started
    linked = record { number = s.number; pool = s.pool; next = next; prev = prev }

    abbrev linked_arena : ArenaView
    linked_arena = arena_view new free os

    links_do : IsArena linked_arena × (PoolChange old linked_arena k linked × (arena_loans linked_arena ≡ arena_loans old))
    links_do =
        let lt = inside (old).pools k s there in
        let out = started_taken old k s sound there in
        let within = λ (i : ℕ) (q : InRun o 8 i). let q0 = q.0 in let q1 = q.1 in let e = at_is in let w : InRun (pool_offset r.base k) 16384 i = elim o_is [ inl x ↦ (omega arith, omega arith) | inr x ↦ (omega arith, omega arith) ] in w in
        let stands = subst (λ x. StandsFor new.cells x (record { pool = s.pool; next = next; prev = prev })) at_is here in
        let loans = part_same (pool_loans r.base r.maker) 0 k k (old).pools (Some s) (Some linked) (omega arith) lt there refl in
        let named = number_at r free os k sound at at_is s there in (
          pool_sound r free os k sound linked lt out new base maker only within stands loans os refl named (λ j other. refl),
          (
            pool_changes r free os k sound linked lt out new base maker only within stands loans os refl named (λ j other. refl),
            pool_loans_stay r free os k sound linked lt out new base maker only within stands loans os refl named (λ j other. refl),
          ),
        )

  -- a started pool with one other link
  pub link_does : (l : Link) (s : Started) → get_or (old).pools k None ≡ Some s → (place : ℕ) (new : RegionView) → new.base ≡ r.base → new.maker ≡ r.maker
      → OnlyAt (InRun (at + link_offset l) 8) r.cells new.cells → StandsFor new.cells at (plain_with l (plain_of s) place)
      → IsArena (arena_view new free os) × (PoolChange old (arena_view new free os) k (with_link l s place) × (arena_loans (arena_view new free os) ≡ arena_loans old))
  link_does Next s there place new base maker only here = links_do s there place s.prev (at + 16) (inl refl) new base maker only here
  link_does Prev s there place new base maker only here = links_do s there s.next place (at + 24) (inr refl) new base maker only here

-- the word of a link is one of a pool's header
pub link_inside : (l : Link) → (16 ≤ link_offset l) × (link_offset l ≤ 24)
link_inside Next = (omega arith, omega arith)
link_inside Prev = (omega arith, omega arith)

-- a pool has its blocks whatever its links are
pub link_pool : (l : Link) (s : Started) (place : ℕ) → (with_link l s place).pool ≡ s.pool
link_pool Next s place = refl
link_pool Prev s place = refl

-- a pool's line tells nothing of its links
pub link_line : (l : Link) (n base k : ℕ) (s : Started) (place : ℕ) → pool_line n base k (with_link l s place) ≡ pool_line n base k s
link_line Next n base k s place = refl
link_line Prev n base k s place = refl
