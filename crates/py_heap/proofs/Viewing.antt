-- What a heap reports, in the words of its layout.
use Rattle.std.proofs.Common.{◌≡◌, ℕ, ◌+◌, ◌*◌, ◌<◌, ◌≤◌, inl, inr, true, false, cond, eqb, filter, List, [], ◌∷◌, ◌++◌, map, length, get_or, set, Option, Some, None, refl, sym, ap, subst, ◌∙◌, arith}
use Rattle.std.specs.List.{range_with_len}
use Rattle.std.proofs.lemmas.Bool.Decides.{eqb_tells}
use Rattle.std.proofs.lemmas.List.{append_assoc, append-nil, get_or-map, length-append, length-map, map-append}
use Rattle.std.proofs.lemmas.List.FromFn.{length-map-range_with_len, filter_of_map_range_with_len_more}
use Rattle.mem_base.specs.declared.reply.ArenaLine.{ArenaLine}
use Rattle.mem_base.specs.declared.reply.UsedPool.{UsedPool}
use Rattle.mem_base.specs.declared.reply.ClassLine.{ClassLine}
use Rattle.extents.specs.Sums.{tally, Has}
use Rattle.extents.proofs.CallerLemmas.{tally-map, tally-set, tally_zero, has_right, inserted_first}
use Rattle.layout_model.specs.Sizes.{capacity}
use Rattle.layout_model.specs.Layout.{Layout}
use Rattle.layout_model.specs.Place.{pools_of_class}
use Rattle.layout_model.specs.Pool.{live_of}
use Rattle.layout_model.specs.Geometry.{PoolLine}
use Rattle.heap_model.specs.Tables.{Spot}
use Rattle.heap_model.specs.View.{used_at, full_pool, full_in as full_by, full_of}
use Rattle.heap_model.specs.Kept.{has_number}
use Rattle.heap_model.proofs.CallerLemmas.{used_here, number_self, numbered_at, numbered_goes}
use Rattle.arena_set.specs.declared.pool_id.PoolId.{PoolId}
use Rattle.arena_set.specs.Started.{Started}
use Rattle.arena_set.specs.Arena.{ArenaView}
use Rattle.arena_set.specs.Set.{SetView, usable_line}
use Rattle.arena_set.specs.Calls.{IsStarted, HasStarted}
use Rattle.py_heap.specs.Kept.{State, spot, spots_of, lines_of, heap_of, class_at, full_in, IsKeptState}
use Rattle.layout_model.specs.View.{arena_line, used_pool, is_full, class_line, has_a_pool}
use Rattle.py_heap.specs.Heap.{first_in}
use Rattle.py_heap.specs.Links.{addresses_of, class_of, first_id, list_of, next_of, pool_at}
use Rattle.py_heap.specs.Relinks.{IsLink, LeadsTo}
use Rattle.py_heap.proofs.Linked.{first_link, has_started, id_at, leads_first, next_word, pool_is}
use Rattle.py_heap.proofs.Arenas.{line_at, started_there}
use Rattle.py_heap.proofs.Lending.{lists_at}

-- ---- pools with free blocks

-- what is reported of the pool at a spot
abbrev pub reported_at : State → Spot → UsedPool
reported_at s z = used_pool (used_at (lines_of s.set.arenas) z)

module _ (s : State) (k : IsKeptState s) where
  pub pool_line_is : (id : PoolId) (a : ArenaView) (st : Started) (live : ℕ) → IsStarted s.set id a st → live ≡ live_of st.pool → record { arena = id.arena; live = live } ≡ reported_at s (spot id)
  pool_line_is id a st live started is =
      let u = used_here (lines_of s.set.arenas) (map spots_of s.classes) s.taken k.kept.orderly (line_at id a st) (started_there s.set id a st started) in
      (λ i. record { arena = id.arena; live = is i }) ∙ sym (ap used_pool u)

  -- what is reported of a class's pools
  pub pools_reported : (c : ℕ) (small : c < 32) → map (reported_at s) (list_of s.classes c) ≡ map used_pool (pools_of_class (heap_of s).layout c)
  pools_reported c small =
      let at = lists_at s c k.kept small in let long = length-map s.classes spots_of in
      let used : pools_of_class (heap_of s).layout c ≡ map (used_at (lines_of s.set.arenas)) (list_of s.classes c) =
      get_or-map (map (used_at (lines_of s.set.arenas))) (map spots_of s.classes) c [] [] (omega arith) ∙ ap (map (used_at (lines_of s.set.arenas))) at.1 in
      map_twice (list_of s.classes c) ∙ ap (map used_pool) (sym used) where
        map_twice : (zs : List Spot) → map (reported_at s) zs ≡ map used_pool (map (used_at (lines_of s.set.arenas)) zs)
        map_twice [] = refl
        map_twice (z ∷ zs) = ap (λ l. reported_at s z ∷ l) (map_twice zs)

-- ---- the walk along a list

-- the first n of a list are reported, and the rest begins with the pool that is next
pub record IsReported (s : State) (c n : ℕ) (used : List UsedPool) (next : Option PoolId) : Type 0 where
  pub done : List Spot
  pub rest : List Spot
  pub all : list_of s.classes c ≡ done ++ rest
  pub count : length done ≡ n
  pub told : used ≡ map (reported_at s) done
  pub then : next ≡ first_id rest

module _ (s : State) (k : IsKeptState s) (c : ℕ) where
  pub none_reported : IsReported s c 0 [] (first_id (list_of s.classes c))
  none_reported = record { done = []; rest = list_of s.classes c; all = refl; count = refl; told = refl; then = refl }

  module _ (n : ℕ) (used : List UsedPool) (id : PoolId) (r : IsReported s c n used (Some id)) where
    behind : (rest : List Spot) → Some id ≡ first_id rest → (ss : List Spot) × (rest ≡ spot id ∷ ss)
    behind [] e = absurd (cc)
    behind (z ∷ ss) e = let same : id ≡ id_at z = cc in (ss, λ i. record { arena = (sym same i).arena; slot = (sym same i).pool } ∷ ss)

    others : List Spot
    others = (behind r.rest r.then).0

    all_is : list_of s.classes c ≡ r.done ++ spot id ∷ others
    unfolding others
    all_is = r.all ∙ ap (λ ss. r.done ++ ss) (behind r.rest r.then).1

    class_there : class_of (pool_at s.set.arenas (spot id)) ≡ Some c
    class_there = k.linked.listed c (spot id) (subst (Has (spot id)) (sym all_is) (has_right (spot id) r.done (spot id ∷ others) (inl refl)))

    pub next_started : HasStarted s.set id
    next_started = has_started s.set (spot id) c k.sound_set class_there

    word : next_of (pool_at s.set.arenas (spot id)) ≡ first_in (addresses_of s.set.arenas others)
    word = next_word s.set s.classes k.sound_set k.linked c r.done others (spot id) all_is

    in_others : (z : Spot) → Has z others → class_of (pool_at s.set.arenas z) ≡ Some c
    in_others z h = k.linked.listed c z (subst (Has z) (sym all_is) (has_right z r.done (spot id ∷ others) (inr h)))

    module _ (link : ℕ) (is : (a : ArenaView) (x : Started) → IsStarted s.set id a x → link ≡ x.next) where
      link_is : link ≡ first_in (addresses_of s.set.arenas others)
      link_is = let h = next_started in is h.a h.s h.started ∙ (ap next_of (sym (pool_is s.set id h.a h.s h.started)) ∙ word)

      pub link_there : IsLink s.set link
      link_there = first_link s.set others link c k.sound_set in_others link_is

      pub one_reported : (line : UsedPool) (next : Option PoolId) → line ≡ reported_at s (spot id) → LeadsTo s.set link next → IsReported s c (n + 1) (used ++ line ∷ []) next
      one_reported line next is_line leads = record {
        done = r.done ++ spot id ∷ [];
        rest = others;
        all = all_is ∙ sym (append_assoc r.done (spot id ∷ []) others);
        count = length-append r.done (spot id ∷ []) ∙ ap (λ m. m + 1) r.count;
        told = (λ i. r.told i ++ is_line i ∷ []) ∙ sym (map-append (reported_at s) r.done (spot id ∷ []));
        then = leads_first s.set c k.sound_set next others in_others link link_is leads;
      }

  -- all of them are
  pub all_reported : (small : c < 32) (used : List UsedPool) (next : Option PoolId) → IsReported s c (class_at s c).count used next → used ≡ map used_pool (pools_of_class (heap_of s).layout c)
  all_reported small used next r =
      let h = (k.linked.headed c).count in let e = ap length r.all in let a = length-append r.done r.rest in let n = r.count in
      let whole : list_of s.classes c ≡ r.done = r.all ∙ ended r.rest (omega arith) in
      r.told ∙ (ap (map (reported_at s)) (sym whole) ∙ pools_reported s k c small) where
        ended : (ss : List Spot) → length ss ≡ 0 → r.done ++ ss ≡ r.done
        ended [] z = append-nil r.done
        ended (x ∷ ss) z = absurd (omega arith)

  -- before that there is a next one
  pub not_ended : (n : ℕ) (used : List UsedPool) → n < (class_at s c).count → IsReported s c n used None → ⊥
  not_ended n used lt r =
      let h = (k.linked.headed c).count in let e = ap length r.all in let a = length-append r.done r.rest in let n = r.count in
      let z = ended r.rest r.then in omega arith where
        ended : (ss : List Spot) → None ≡ first_id ss → length ss ≡ 0
        ended [] q = refl
        ended (x ∷ ss) q = absurd (cc)

-- ---- full pools

full_same : (c : ℕ) (x : PoolLine) → is_full c (full_pool x) ≡ full_in c x
full_same c x = elim (eqb_tells x.live (capacity x.class)) [
  | inl w ↦ rw w.0 (elim (eqb_tells x.class c) [
    | inl v ↦ let e : eqb x.live (capacity c) ≡ true = ap (λ d. eqb x.live (capacity d)) (sym v.1) ∙ w.0 in rw (v.0, e) refl
    | inr v ↦ rw v.0 refl
  ])
  | inr w ↦ rw w.0 (elim (eqb_tells x.class c) [
    | inl v ↦ let e : eqb x.live (capacity c) ≡ false = ap (λ d. eqb x.live (capacity d)) (sym v.1) ∙ w.0 in rw (v.0, e) refl
    | inr v ↦ rw v.0 refl
  ])
]

-- counted by number, they are as many as counted by pool
pub full_counted : (c taken : ℕ) (xs : List PoolLine) → ((x : PoolLine) → Has x xs → x.number < taken) → ((k : ℕ) → tally (has_number k) xs ≤ 1) → tally (is_full c) (full_of taken xs) ≡ tally (full_in c) xs
full_counted c taken [] known once = tally-map (is_full c) (full_by []) (range_with_len 0 taken) ∙ tally_zero (λ k. is_full c (full_by [] k)) (range_with_len 0 taken) (λ k h. refl)
full_counted c taken (x ∷ xs) known once =
    let rest = full_counted c taken xs (λ y h. known y (inr h)) (λ k. let o = once k in omega arith) in
    let lt = known x (inl refl) in
    let goes = numbered_goes full_pool None taken x (x ∷ xs) xs (inserted_first x xs) lt (once x.number) in
    let at : get_or (full_of taken (x ∷ xs)) x.number None ≡ full_pool x = numbered_at full_pool None taken x.number (x ∷ xs) lt ∙ rw (number_self x.number) refl in
    let long = length-map-range_with_len (full_by (x ∷ xs)) 0 taken in
    let sum = tally-set (is_full c) (full_of taken (x ∷ xs)) x.number None None (omega arith) in
    let fewer : tally (is_full c) (full_of taken xs) ≡ tally (is_full c) (set (full_of taken (x ∷ xs)) x.number None) = ap (tally (is_full c)) goes in
    let mine : is_full c (get_or (full_of taken (x ∷ xs)) x.number None) ≡ full_in c x = ap (is_full c) at ∙ full_same c x in omega arith

-- ---- classes

pub class_line_is : (s : State) → IsKeptState s → (c size full : ℕ) (used : List UsedPool) → size ≡ 16 * (c + 1) → used ≡ map used_pool (pools_of_class (heap_of s).layout c) → full ≡ (class_at s c).full →
    record { size = size; used = used; full = full } ≡ class_line (heap_of s).layout c
class_line_is s k c size full used z u f =
    let counted = full_counted c s.taken (lines_of s.set.arenas) (λ x h. (k.kept.orderly.pools x h).known) k.kept.orderly.numbers in
    let all : full ≡ tally (is_full c) (full_of s.taken (lines_of s.set.arenas)) = f ∙ (k.full c ∙ sym counted) in
    λ i. record { size = z i; used = u i; full = all i }

-- one more class
pub one_class : (l : Layout) (c : ℕ) (line : ClassLine) (lines : List ClassLine) → line ≡ class_line l c → lines ≡ filter has_a_pool (map (class_line l) (range_with_len 0 c)) →
    (has_a_pool line ≡ true → lines ++ line ∷ [] ≡ filter has_a_pool (map (class_line l) (range_with_len 0 (c + 1)))) × (has_a_pool line ≡ false → lines ≡ filter has_a_pool (map (class_line l) (range_with_len 0 (c + 1))))
one_class l c line lines is sofar =
    let more = filter_of_map_range_with_len_more has_a_pool (class_line l) 0 c c (omega arith) in
    let step : filter has_a_pool (map (class_line l) (range_with_len 0 (c + 1))) ≡ lines ++ cond (has_a_pool line) (line ∷ []) [] =
    more ∙ (λ i. sym sofar i ++ cond (has_a_pool (sym is i)) (sym is i ∷ []) []) in
    (λ yes_it. ap (λ b. lines ++ cond b (line ∷ []) []) (sym yes_it) ∙ sym step, λ none. sym (append-nil lines) ∙ (ap (λ b. lines ++ cond b (line ∷ []) []) (sym none) ∙ sym step))

-- ---- arenas

pub arena_lines : (v : SetView) (lines : List ArenaLine) → map usable_line lines ≡ v.usable → lines ≡ map arena_line v.usable
arena_lines v lines is = back lines ∙ ap (map arena_line) is where
  back : (ls : List ArenaLine) → ls ≡ map arena_line (map usable_line ls)
  back [] = refl
  back (l ∷ ls) = ap (λ r. l ∷ r) (back ls)
