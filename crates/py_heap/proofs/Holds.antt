-- How many blocks of a heap lie in each of its pools, and how long they are.
use Rattle.std.proofs.Common.{◌≡◌, ◌≢◌, ℕ, suc, ◌+◌, ◌-◌, ◌*◌, ◌%◌, ◌<◌, ◌≤◌, ◌⊎◌, ◌↔◌, Bool, IsTrue, inl, inr, cond, eqb, List, [], ◌∷◌, map, length, get_or, Option, Some, None, refl, sym, ap, subst, ◌∙◌, arith}
use Rattle.std.proofs.lemmas.Bool.Decides.{eqb_tells, leb_tells}
use Rattle.std.proofs.lemmas.List.{get_or-map, length-map}
use Rattle.raw_region.specs.declared.maker.Maker.{Maker}
use Rattle.extents.specs.Sums.{tally, Has}
use Rattle.extents.specs.Extent.{Extent, region_extent}
use Rattle.extents.proofs.CallerLemmas.{tally-append, tally-map, tally_has, tally_zero, tally_inserted, removed_has, has_kept, has-map}
use Rattle.layout_model.specs.Layout.{Used}
use Rattle.layout_model.specs.Sizes.{size_of_class}
use Rattle.layout_model.specs.Geometry.{IsArenaRegion, PoolLine, pool_offset}
use Rattle.layout_model.specs.Pool.{blocks_of, live_of, size_of, IsPool}
use Rattle.layout_model.specs.Plain.{StandsFor}
use Rattle.pool_core.proofs.CallerLemmas.{block_inside, gave}
use Rattle.heap_model.specs.Kept.{has_number}
use Rattle.heap_model.proofs.CallerLemmas.{line_of_pool, class_has, place_there, number_self, pools_do_not_meet, used_here}
use Rattle.heap_model.specs.View.{used_at}
use Rattle.arena_set.specs.Started.{Started, plain_of}
use Rattle.arena_set.specs.Flat.{AllSome, flat}
use Rattle.arena_set.specs.Arena.{ArenaView, block_extent, pool_loans, arena_loans, IsArena, IsSound}
use Rattle.arena_set.specs.Set.{SetView, pool_line, loans_of, IsSet, region_in}
use Rattle.arena_set.proofs.CallerLemmas.{inside, all_at}
use Rattle.py_heap.specs.Heap.{PoolInRegion, StaysInPool, PoolsHold, ArenasAreRegions, LoansHaveSizes, begins_in, list_places, next_in, place_or_0, prev_in}
use Rattle.py_heap.specs.Kept.{State, lines_of, sites_of, tables_of, heap_of, IsKeptState, spots_of}
use Rattle.py_heap.proofs.Arenas.{flat_has, region_at, line_at, line_there, started_there, arena_at, pool_ground}
use Rattle.py_heap.proofs.Lending.{lists_at, pool_inside}
use Rattle.heap_model.specs.Tables.{Spot}
use Rattle.py_heap.specs.Links.{spot, addresses_of, list_of, next_of, place_of, prev_of}
use Rattle.py_heap.proofs.Linked.{class_is as pool_class, id_at, place_is, pool_is, pool_there}
use Rattle.py_heap.proofs.Freeing.{block_at, standing}

-- ---- sums

tally_ones : {X : Type 0} (f : X → ℕ) (xs : List X) → ((x : X) → Has x xs → f x ≡ 1) → tally f xs ≡ length xs
tally_ones f [] one = refl
tally_ones f (x ∷ xs) one = let h = one x (inl refl) in let r = tally_ones f xs (λ y t. one y (inr t)) in omega arith

-- two lists that are made of parts have the same sum where each of their parts has
flat_sums : {X Y Z : Type 0} (P : X → Type 0) (u : Y → ℕ) (w : Z → ℕ) (f : ℕ → X → List Y) (g : ℕ → X → List Z) (n : ℕ) (os : List (Option X))
    → ((i m : ℕ) (x : X) → get_or os i None ≡ Some x → m ≡ n + i → P x → tally u (f m x) ≡ tally w (g m x)) → AllSome P os → tally u (flat f n os) ≡ tally w (flat g n os)
flat_sums P u w f g n [] same s = refl
flat_sums P u w f g n (None ∷ os) same s = flat_sums P u w f g (n + 1) os (λ i m x there at. same (suc i) m x there (omega arith)) s
flat_sums P u w f g n (Some x ∷ os) same s =
    let a = same 0 n x refl (omega arith) s.0 in
    let b = flat_sums P u w f g (n + 1) os (λ i m y there at. same (suc i) m y there (omega arith)) s.1 in
    let c = tally-append u (f n x) (flat f (n + 1) os) in let d = tally-append w (g n x) (flat g (n + 1) os) in omega arith

-- ---- the blocks that begin in a pool

begins_yes : (p : ℕ) (e : Extent) → p ≤ e.place → e.place < p + 16384 → begins_in p e ≡ 1
begins_yes p e low high = elim (leb_tells p e.place) [
  | inl v ↦ rw v.0 (elim (leb_tells (p + 16384) e.place) [ inl w ↦ absurd (let h = w.1 in omega arith) | inr w ↦ rw w.0 refl ])
  | inr v ↦ absurd (let h = v.1 in omega arith)
]

begins_no : (p : ℕ) (e : Extent) → (e.place < p) ⊎ (p + 16384 ≤ e.place) → begins_in p e ≡ 0
begins_no p e out = elim (leb_tells p e.place) [
  | inl v ↦ rw v.0 (elim (leb_tells (p + 16384) e.place) [ inl w ↦ rw w.0 refl | inr w ↦ absurd (elim out [ inl a ↦ let h = v.1 in omega arith | inr b ↦ let h = w.1 in omega arith ]) ])
  | inr v ↦ rw v.0 refl
]

-- where a block stands in its pool
in_its_pool : (s : Started) (o : ℕ) → IsPool s.pool → Has o (blocks_of s.pool) → (48 ≤ o) × (o + size_of s.pool ≤ 16384)
in_its_pool s o sound has = let g = gave s.pool o sound has in let b = block_inside s.pool.class o g.0.inside in (b.0, b.1)

-- as many blocks of a pool begin in these 16,384 bytes as are in use, if the bytes are the pool's, else none
pool_sum : (p base : ℕ) (maker : Maker) (k : ℕ) (s : Started) → p % 16384 ≡ 0 → (base + pool_offset base k) % 16384 ≡ 0 → IsPool s.pool →
    tally (begins_in p) (pool_loans base maker k s) ≡ cond (eqb (base + pool_offset base k) p) (live_of s.pool) 0
pool_sum p base maker k s aligned stands sound =
    let at : ℕ = pool_offset base k in
    let g = block_extent base maker at (size_of s.pool) in
    tally-map (begins_in p) g (blocks_of s.pool) ∙ elim (eqb_tells (base + at) p) [
      | inl w ↦ rw w.0 (tally_ones (λ o. begins_in p (g o)) (blocks_of s.pool) (λ o h. let b = in_its_pool s o sound h in let e = w.1 in begins_yes p (g o) (omega arith) (omega arith)))
      | inr w ↦ rw w.0 (tally_zero (λ o. begins_in p (g o)) (blocks_of s.pool) (λ o h. let b = in_its_pool s o sound h in begins_no p (g o) (apart (base + at) o stands aligned b w.1)))
    ] where
      apart : (q o : ℕ) → q % 16384 ≡ 0 → p % 16384 ≡ 0 → (48 ≤ o) × (o + size_of s.pool ≤ 16384) → q ≢ p → (q + o < p) ⊎ (p + 16384 ≤ q + o)
      apart q o whole whole_p b other = elim (leb_tells p q) [
        | inl v ↦ let le = v.1 in let low = b.0 in let high = b.1 in inr (far p q o le whole whole_p other)
        | inr v ↦ let lt = v.1 in let low = b.0 in let high = b.1 in inl (near p q o (omega arith) (omega arith) whole whole_p)
      ] where
        far : (p q o : ℕ) → p ≤ q → q % 16384 ≡ 0 → p % 16384 ≡ 0 → q ≢ p → p + 16384 ≤ q + o
        far p q o le whole whole_p other = elim (leb_tells q p) [ inl w ↦ absurd (other (let ge = w.1 in omega arith)) | inr w ↦ let gt = w.1 in omega arith ]

        near : (p q o : ℕ) → q < p → o < 16384 → q % 16384 ≡ 0 → p % 16384 ≡ 0 → q + o < p
        near p q o lt small whole whole_p = omega arith

-- a pool begins at a multiple of its size
stands_whole : (base k : ℕ) → (base + pool_offset base k) % 16384 ≡ 0
stands_whole base k = elim (eqb_tells (base % 16384) 0) [ inl w ↦ let whole = w.1 in omega arith | inr w ↦ let part = w.1 in omega arith ]

-- the blocks in use of the pool that begins there
abbrev pub live_at : ℕ → PoolLine → ℕ
live_at p x = cond (eqb x.place p) x.live 0

plus_none : (n : ℕ) → n ≡ n + 0
plus_none n = omega arith

arena_sum : (p n : ℕ) (a : ArenaView) → p % 16384 ≡ 0 → IsArena a → tally (begins_in p) (arena_loans a) ≡ tally (live_at p) (flat (λ k s. pool_line n a.region.base k s ∷ []) 0 a.pools)
arena_sum p n a aligned ar =
    flat_sums IsSound (begins_in p) (live_at p) (pool_loans a.region.base a.region.maker) (λ k s. pool_line n a.region.base k s ∷ []) 0 a.pools
    (λ i k s there at sound. pool_sum p a.region.base a.region.maker k s aligned (stands_whole a.region.base k) sound ∙ plus_none (cond (eqb (a.region.base + pool_offset a.region.base k) p) (live_of s.pool) 0)) ar.sound

lines_sum : (p : ℕ) (v : SetView) → p % 16384 ≡ 0 → IsSet v → tally (begins_in p) (loans_of v.arenas) ≡ tally (live_at p) (lines_of v.arenas)
lines_sum p v aligned s =
    flat_sums IsArena (begins_in p) (live_at p) (λ n a. arena_loans a) (λ n a. flat (λ k s. pool_line n a.region.base k s ∷ []) 0 a.pools) 1 v.arenas
    (λ i n a there at ar. arena_sum p n a aligned ar) s.arenas

-- ---- the addresses of a class's list

module _ (s : State) (k : IsKeptState s) (c : ℕ) where
  -- a pool of the list begins where its number has its place
  listed_place : (z : Spot) → Has z (list_of s.classes c) → place_or_0 (get_or (heap_of s).places (used_at (lines_of s.set.arenas) z).pool None) ≡ place_of s.set.arenas z
  listed_place z h =
      let p = pool_there s.set z c (k.linked.listed c z h) in
      let x = line_at (id_at z) p.a p.x in
      let here = started_there s.set (id_at z) p.a p.x p.started in
      let used = used_here (lines_of s.set.arenas) (map spots_of s.classes) s.taken k.kept.orderly x here in
      ap (λ (u : Used). place_or_0 (get_or (heap_of s).places u.pool None)) used ∙ (ap place_or_0 (place_there (tables_of s) k.kept.orderly x here) ∙ sym (place_is s.set (id_at z) p.a p.x p.started))

  places_by : (zs : List Spot) → ((z : Spot) → Has z zs → Has z (list_of s.classes c)) → map (λ (u : Used). place_or_0 (get_or (heap_of s).places u.pool None)) (map (used_at (lines_of s.set.arenas)) zs) ≡ addresses_of s.set.arenas zs
  places_by [] all = refl
  places_by (z ∷ zs) all = λ i. listed_place z (all z (inl refl)) i ∷ places_by zs (λ y h. all y (inr h)) i

  pub list_places_are : c < 32 → list_places (heap_of s) c ≡ addresses_of s.set.arenas (list_of s.classes c)
  list_places_are small =
      let at = lists_at s c k.kept small in let long = length-map s.classes spots_of in
      ap (map (λ (u : Used). place_or_0 (get_or (heap_of s).places u.pool None))) (get_or-map (map (used_at (lines_of s.set.arenas))) (map spots_of s.classes) c [] [] (omega arith) ∙ ap (map (used_at (lines_of s.set.arenas))) at.1)
      ∙ places_by (list_of s.classes c) (λ z h. h)

module _ (s : State) (k : IsKeptState s) where
  -- just one pool begins there
  lines_once : (x : PoolLine) → Has x (lines_of s.set.arenas) → tally (live_at x.place) (lines_of s.set.arenas) ≡ x.live
  lines_once x here =
      let lines = lines_of s.set.arenas in
      let r = removed_has x lines here in
      let sum = tally_inserted (live_at x.place) x r.0 lines r.1 in
      let mine : live_at x.place x ≡ x.live = rw (number_self x.place) refl in
      let others = tally_zero (live_at x.place) r.0 (λ z h. elim (eqb_tells z.place x.place) [
        | inl w ↦
            let there = has_kept x z r.0 lines r.1 h in
            let same = pools_do_not_meet (sites_of s.set.arenas) (tables_of s) x z x.place k.kept (standing s k) here there (omega arith, omega arith) (let e = w.1 in (omega arith, omega arith)) in
            let twice = tally_inserted (has_number x.number) x r.0 lines r.1 in
            let one : has_number x.number x ≡ 1 = rw (number_self x.number) refl in
            let also : Has x r.0 = subst (λ y. Has y r.0) (sym same) h in
            let more = tally_has (has_number x.number) x r.0 also in
            let most = k.kept.orderly.numbers x.number in absurd (omega arith)
        | inr w ↦ rw w.0 refl
      ]) in omega arith

  -- what a pool of the layout holds
  pub pools_hold : PoolsHold (heap_of s)
  pools_hold c p begins has is =
      let l = line_of_pool (tables_of s) c p k.kept has in
      let t = line_there s.set l.x l.here in
      let number : l.x.number ≡ p.pool = ap (λ (u : Used). u.pool) l.is in
      let arena : t.id.arena ≡ p.arena = ap (λ (y : PoolLine). y.arena) t.is ∙ ap (λ (u : Used). u.arena) l.is in
      let there : get_or (heap_of s).places p.pool None ≡ Some l.x.place = ap (λ n. get_or (heap_of s).places n None) (sym number) ∙ place_there (tables_of s) k.kept.orderly l.x l.here in
      let place : l.x.place ≡ begins = cc in
      let ground = pool_ground s.set t.id t.a k.sound_set t.started.at (pool_inside s.set t.id t.a t.s t.started) in
      let stands = ap (λ (y : PoolLine). y.place) t.is ∙ place in
      let within = inside s.set.arenas (t.id.arena - 1) t.a t.started.at.there in
      let some = t.started.at.some in
      let class_is : t.s.pool.class ≡ c = ap (λ (y : PoolLine). y.class) t.is ∙ l.class in
      let next : suc (t.id.arena - 1) ≡ t.id.arena = omega arith in
      let named : t.s.pool.arena ≡ t.id.arena = k.sound_set.named (t.id.arena - 1) t.a t.started.at.there t.id.pool t.s t.started.there ∙ omega arith in
      let small : c < 32 = subst (λ d. d < 32) l.class (k.kept.orderly.pools l.x l.here).small in
      let links = k.linked.links c (spot t.id) (pool_class s.set t.id t.a t.s t.started ∙ ap Some class_is) in
      let at_place = place_is s.set t.id t.a t.s t.started in
      let begun : place_of s.set.arenas (spot t.id) ≡ begins = at_place ∙ stands in
      let read = pool_is s.set t.id t.a t.s t.started in
      let list : addresses_of s.set.arenas (list_of s.classes c) ≡ list_places (heap_of s) c = sym (list_places_are s k c small) in
      let low : PoolInRegion begins (region_extent t.a.region) = subst (λ q. PoolInRegion q (region_extent t.a.region)) stands ground in
      record {
        region = t.a.region;
        some = subst (λ n. 1 ≤ n) arena some;
        arena = subst (λ n. get_or (heap_of s).arenas (n - 1) None ≡ Some t.a.region) arena (get_or-map region_in s.set.arenas (t.id.arena - 1) None None within ∙ ap region_in t.started.at.there);
        inside = low;
        live = lines_sum begins s.set low.aligned k.sound_set ∙ (ap (λ q. tally (live_at q) (lines_of s.set.arenas)) (sym place) ∙ (lines_once l.x l.here ∙ ap (λ (u : Used). u.live) l.is));
        sizes = λ e h in_it.
            let b = block_at s.set e k.sound_set h in
            let z = line_at b.id b.a b.s in
            let z_here = started_there s.set b.id b.a b.s b.started in
            let some_bytes = b.some in
            let same = pools_do_not_meet (sites_of s.set.arenas) (tables_of s) z l.x e.place k.kept (standing s k) z_here l.here (let i = b.inside in (omega arith, omega arith)) (let i = in_it in (omega arith, omega arith)) in
            let class : b.s.pool.class ≡ c = ap (λ (y : PoolLine). y.class) same ∙ l.class in
            ap (λ (d : Extent). d.len) b.is ∙ ap size_of_class class;
        plain = plain_of t.s;
        stands = subst (λ o. StandsFor t.a.region.cells o (plain_of t.s)) (let e = stands in omega arith) ((arena_at s.set t.id.arena t.a k.sound_set t.started.at).stands t.id.pool t.s t.started.there);
        class = class_is;
        number = named ∙ arena;
        used = ap (λ (y : PoolLine). y.live) t.is ∙ ap (λ (u : Used). u.live) l.is;
        next = ap next_of (sym read) ∙ (links.0 ∙ (λ i. next_in (begun i) (list i)));
        prev = ap prev_of (sym read) ∙ (links.1 ∙ (λ i. prev_in 0 (begun i) (list i)));
        lent = λ o h.
            let e : Extent = block_extent t.a.region.base t.a.region.maker (pool_offset t.a.region.base t.id.pool) (size_of t.s.pool) o in
            let loan : Has e (loans_of s.set.arenas) = flat_has (λ n a. arena_loans a) 1 (t.id.arena - 1) t.id.arena s.set.arenas t.a e (omega arith) t.started.at.there
            (flat_has (pool_loans t.a.region.base t.a.region.maker) 0 t.id.pool t.id.pool t.a.pools t.s e (omega arith) t.started.there (has-map _ o (blocks_of t.s.pool) h)) in
            let len = ap size_of_class class_is in
            subst (λ (d : Extent). Has d (loans_of s.set.arenas)) (λ i. record { place = stands i + o; len = len i; maker = t.a.region.maker }) loan;
      }

  -- the pool that has a loan, its class and the loan's length
  pub loans_have_sizes : LoansHaveSizes (heap_of s)
  loans_have_sizes e h =
      let b = block_at s.set e k.sound_set h in
      let x = line_at b.id b.a b.s in
      let here = started_there s.set b.id b.a b.s b.started in
      record {
        pool = x.number;
        class = x.class;
        begins = x.place;
        is = place_there (tables_of s) k.kept.orderly x here;
        has = class_has (tables_of s) x k.kept here;
        inside = b.inside;
        len = ap (λ (d : Extent). d.len) b.is;
      }

  pub arenas_are_regions : ArenasAreRegions (heap_of s)
  arenas_are_regions n r is = by (get_or s.set.arenas n None) refl where
    by : (o : Option ArenaView) → get_or s.set.arenas n None ≡ o → IsArenaRegion r
    by None e = let none : get_or (map region_in s.set.arenas) n None ≡ None = region_at n s.set.arenas ∙ ap region_in e in absurd (cc)
    by (Some a) e =
        let same : get_or (map region_in s.set.arenas) n None ≡ Some a.region = region_at n s.set.arenas ∙ ap region_in e in
        let is_it : a.region ≡ r = cc in
        let g = (all_at IsArena s.set.arenas n a k.sound_set.arenas e).region in
        subst IsArenaRegion is_it g

-- a block of a pool is as long as the size of the pool's class
pub stays_in_pool : (s : State) (k : IsKeptState s) (e : Extent) (n : ℕ) (stays : Bool) → (IsTrue stays ↔ ((n ≤ e.len) × (3 * e.len < 4 * n))) → Has e (heap_of s).loans → StaysInPool e n (heap_of s) stays
stays_in_pool s k e n stays is loan pool c begins there in_it class =
    let used : get_or (heap_of s).places class.0.pool None ≡ Some begins = ap (λ q. get_or (heap_of s).places q None) class.1.0 ∙ there in
    let holds = pools_hold s k c class.0 begins class.1.1 used in
    let len : e.len ≡ size_of_class c = holds.sizes e loan in_it in
    subst (λ size. IsTrue stays ↔ ((n ≤ size) × (3 * size < 4 * n))) len is
