-- A pool comes to the front of a list, leaves it, or other pools change.
use Rattle.std.proofs.Common.{◌≡◌, ◌≢◌, ℕ, ◌+◌, ◌<◌, ◌≤◌, ◌⊎◌, inl, inr, ◌-◌, List, [], ◌∷◌, ◌++◌, length, get_or, set, Option, Some, None, refl, sym, ap, subst, ◌∙◌, arith}
use Rattle.std.proofs.lemmas.Bool.Decides.{eqb_tells}
use Rattle.std.proofs.lemmas.List.{get_or-set_same, get_or-set_other, length-append, map-append}
use Rattle.extents.specs.Sums.{Has}
use Rattle.extents.proofs.CallerLemmas.{has_right, has_left, has_either}
use Rattle.links.specs.Nodes.{times}
use Rattle.links.proofs.CallerLemmas.{times-append}
use Rattle.heap_model.specs.Tables.{Spot}
use Rattle.heap_model.proofs.CallerLemmas.{spot_tells}
use Rattle.arena_set.specs.declared.pool_id.PoolId.{PoolId}
use Rattle.arena_set.specs.Arena.{ArenaView}
use Rattle.arena_set.specs.Set.{SetView, IsSet}
use Rattle.py_heap.specs.Heap.{first_in, next_in, prev_in}
use Rattle.py_heap.specs.Links.{ClassView, no_pools, spot, pool_at, place_of, class_of, next_of, prev_of, first_id, IsHeaded, list_of, addresses_of, IsLinked, AreLinked}
use Rattle.py_heap.specs.Relinks.{word_after, first_without, place_if, LeadsTo}
use Rattle.py_heap.proofs.Neighbours.{next_here, prev_here, next_other, prev_other, no_next, no_prev, last_in, next_between, prev_between, next_kept, next_last, first_times, prev_first, prev_kept, times_here}
use Rattle.py_heap.proofs.Linked.{class_is, id_at, leads_first, place_some, spot_once, times_in}

-- ---- addresses

-- how often an address stands in a list where no pool has it
pub not_there : (v : SetView) (ss : List Spot) (s : Spot) (c d : ℕ) → IsSet v → ((t : Spot) → Has t ss → class_of (pool_at v.arenas t) ≡ Some d) → class_of (pool_at v.arenas s) ≡ Some c → (Has s ss → ⊥)
    → times (place_of v.arenas s) (addresses_of v.arenas ss) ≡ 0
not_there v [] s c d sound all class out = refl
not_there v (t ∷ ss) s c d sound all class out = elim (eqb_tells (place_of v.arenas t) (place_of v.arenas s)) [
  | inl w ↦ absurd (out (inl (spot_once v t s d c sound (all t (inl refl)) class w.1)))
  | inr w ↦ let r = not_there v ss s c d sound (λ u h. all u (inr h)) class (λ h. out (inr h)) in rw w.0 (omega arith)
]

same_addresses : (old new : List (Option ArenaView)) (ss : List Spot) → ((s : Spot) → Has s ss → place_of new s ≡ place_of old s) → addresses_of new ss ≡ addresses_of old ss
same_addresses old new [] same = refl
same_addresses old new (s ∷ ss) same = λ i. same s (inl refl) i ∷ same_addresses old new ss (λ t h. same t (inr h)) i

-- the last address of a list is one of its pools'
pub last_place : (v : SetView) (b : ℕ) (ss : List Spot) → (last_in b (addresses_of v.arenas ss) ≡ b) ⊎ ((t : Spot) × (Has t ss × (last_in b (addresses_of v.arenas ss) ≡ place_of v.arenas t)))
last_place v b [] = inl refl
last_place v b (s ∷ ss) = elim (last_place v (place_of v.arenas s) ss) [ inl w ↦ inr (s, (inl refl, w)) | inr w ↦ inr (w.0, (inr w.1.0, w.1.1)) ]

-- the word of a pool of a list for the pool before
pub prev_word : (v : SetView) (classes : List ClassView) (sound : IsSet v) (l : AreLinked v.arenas classes) (c : ℕ) (front rest : List Spot) (s : Spot) → list_of classes c ≡ front ++ s ∷ rest
    → prev_of (pool_at v.arenas s) ≡ last_in 0 (addresses_of v.arenas front)
prev_word v classes sound l c front rest s is =
    let class = l.listed c s (subst (Has s) (sym is) (has_right s front (s ∷ rest) (inl refl))) in
    let p = place_of v.arenas s in
    let once = l.once c p in
    let sum = ap (λ ss. times p (addresses_of v.arenas ss)) is ∙ times_in v.arenas s front rest p in
    let here = times_here p (addresses_of v.arenas rest) in
    (l.links c s class).1 ∙ (ap (λ ss. prev_in 0 p (addresses_of v.arenas ss)) is ∙ (ap (prev_in 0 p) (map-append (place_of v.arenas) front (s ∷ rest))
    ∙ prev_between 0 p (addresses_of v.arenas front) (addresses_of v.arenas rest) (omega arith)))

-- ---- other pools come, go and change, but none of the lists

-- a pool is as before, or it is new and in no list
abbrev pub IsAsBefore : List (Option ArenaView) → List (Option ArenaView) → List ClassView → ℕ → Spot → Type 0
IsAsBefore old new classes c s =
    ((class_of (pool_at old s) ≡ Some c) × (next_of (pool_at new s) ≡ next_of (pool_at old s)) × (prev_of (pool_at new s) ≡ prev_of (pool_at old s)) × (place_of new s ≡ place_of old s))
    ⊎ ((next_of (pool_at new s) ≡ 0) × (prev_of (pool_at new s) ≡ 0) × (times (place_of new s) (addresses_of new (list_of classes c)) ≡ 0))

pub still_linked : (old new : List (Option ArenaView)) (classes : List ClassView) → AreLinked old classes → ((c : ℕ) (s : Spot) → Has s (list_of classes c) → class_of (pool_at new s) ≡ Some c)
    → ((c : ℕ) (s : Spot) → Has s (list_of classes c) → place_of new s ≡ place_of old s) → ((c : ℕ) (s : Spot) → class_of (pool_at new s) ≡ Some c → IsAsBefore old new classes c s) → AreLinked new classes
still_linked old new classes l listed places each = record {
  headed = l.headed;
  once = λ c p. subst (λ ps. times p ps ≤ 1) (sym (same c)) (l.once c p);
  listed = listed;
  links = λ c s class. elim (each c s class) [
    | inl w ↦ let was = l.links c s w.0 in
        subst (λ ps. IsLinked (pool_at new s) (place_of new s) ps) (sym (same c)) (subst (λ p. IsLinked (pool_at new s) p (addresses_of old (list_of classes c))) (sym w.3) (w.1 ∙ was.0, w.2 ∙ was.1))
    | inr w ↦ (w.0 ∙ sym (no_next (place_of new s) (addresses_of new (list_of classes c)) w.2), w.1 ∙ sym (no_prev 0 (place_of new s) (addresses_of new (list_of classes c)) w.2))
  ];
} where
  same : (c : ℕ) → addresses_of new (list_of classes c) ≡ addresses_of old (list_of classes c)
  same c = same_addresses old new (list_of classes c) (places c)

-- ---- one list changes, and links

module _ (v : SetView) (new : List (Option ArenaView)) (classes : List ClassView) (sound : IsSet v) (l : AreLinked v.arenas classes) (c : ℕ) (inside : c < length classes)
    (class : (s : Spot) → class_of (pool_at new s) ≡ class_of (pool_at v.arenas s)) (place : (s : Spot) → place_of new s ≡ place_of v.arenas s) where
  abbrev place0 : Spot → ℕ
  place0 = place_of v.arenas

  abbrev all0 : List Spot → List ℕ
  all0 = addresses_of v.arenas

  same_all : (ss : List Spot) → addresses_of new ss ≡ all0 ss
  same_all ss = same_addresses v.arenas new ss (λ s h. place s)

  -- the list of class c is now another one
  module _ (w : ClassView) (headed : IsHeaded w) (once : (p : ℕ) → times p (all0 w.spots) ≤ 1) (listed : (s : Spot) → Has s w.spots → class_of (pool_at v.arenas s) ≡ Some c)
      (mine : (s : Spot) → class_of (pool_at v.arenas s) ≡ Some c → IsLinked (pool_at new s) (place0 s) (all0 w.spots))
      (others : (d : ℕ) (s : Spot) → d ≢ c → class_of (pool_at v.arenas s) ≡ Some d → (next_of (pool_at new s) ≡ next_of (pool_at v.arenas s)) × (prev_of (pool_at new s) ≡ prev_of (pool_at v.arenas s))) where
    here : get_or (set classes c w) c no_pools ≡ w
    here = get_or-set_same classes c w no_pools inside

    there : (d : ℕ) → d ≢ c → get_or (set classes c w) d no_pools ≡ get_or classes d no_pools
    there d n = get_or-set_other classes c d w no_pools n

    -- a fact of each class, from that of class c and those of the others
    each : (P : ℕ → ClassView → Type 0) → P c w → ((d : ℕ) → d ≢ c → P d (get_or classes d no_pools)) → (d : ℕ) → P d (get_or (set classes c w) d no_pools)
    each P one rest d = elim (eqb_tells d c) [
      | inl e ↦ subst (λ k. P k (get_or (set classes c w) k no_pools)) (sym e.1) (subst (P c) (sym here) one)
      | inr n ↦ subst (P d) (sym (there d n.1)) (rest d n.1)
    ]

    pub relisted : AreLinked new (set classes c w)
    relisted = record {
      headed = each (λ d x. IsHeaded x) headed (λ d n. l.headed d);
      once = each (λ d x. (p : ℕ) → times p (addresses_of new x.spots) ≤ 1) (λ p. subst (λ ps. times p ps ≤ 1) (sym (same_all w.spots)) (once p)) (λ d n p. subst (λ ps. times p ps ≤ 1) (sym (same_all (list_of classes d))) (l.once d p));
      listed = each (λ d x. (s : Spot) → Has s x.spots → class_of (pool_at new s) ≡ Some d) (λ s h. class s ∙ listed s h) (λ d n s h. class s ∙ l.listed d s h);
      links = each (λ d x. (s : Spot) → class_of (pool_at new s) ≡ Some d → IsLinked (pool_at new s) (place_of new s) (addresses_of new x.spots))
          (λ s e. at s w.spots (mine s (sym (class s) ∙ e)))
          (λ d n s e. let was = l.links d s (sym (class s) ∙ e) in let o = others d s n (sym (class s) ∙ e) in at s (list_of classes d) (o.0 ∙ was.0, o.1 ∙ was.1));
    } where
      at : (s : Spot) (ss : List Spot) → IsLinked (pool_at new s) (place0 s) (all0 ss) → IsLinked (pool_at new s) (place_of new s) (addresses_of new ss)
      at s ss h = subst (λ qs. IsLinked (pool_at new s) (place_of new s) qs) (sym (same_all ss)) (subst (λ p. IsLinked (pool_at new s) p (all0 ss)) (sym (place s)) h)

  written_same : (id : PoolId) (w old : ℕ) (s : Spot) → s ≡ spot id → word_after (Some id) w s old ≡ w
  written_same id w old s e = elim (spot_tells s (spot id)) [ inl x ↦ rw x.0 refl | inr x ↦ absurd (x.1 e) ]

  written_other : (id : PoolId) (w old : ℕ) (s : Spot) → s ≢ spot id → word_after (Some id) w s old ≡ old
  written_other id w old s n = elim (spot_tells s (spot id)) [ inl x ↦ absurd (n x.1) | inr x ↦ rw x.0 refl ]

  -- a pool by its spot, where there is one
  other_class : (s t : Spot) (d : ℕ) → d ≢ c → class_of (pool_at v.arenas s) ≡ Some d → class_of (pool_at v.arenas t) ≡ Some c → s ≢ t
  other_class s t d n e f same = let g = ap (λ z. class_of (pool_at v.arenas z)) same in absurd (n (let h : Some d ≡ Some c = sym e ∙ (g ∙ f) in cc))

  places_apart : (s t : Spot) (d : ℕ) → class_of (pool_at v.arenas s) ≡ Some c → class_of (pool_at v.arenas t) ≡ Some d → s ≢ t → place0 s ≢ place0 t
  places_apart s t d e f n same = n (spot_once v s t c d sound e f same)

  -- the first pool of the list alone gets another word for the pool before
  first_unwritten : (ss : List Spot) (s : Spot) (w old : ℕ) → (Has s ss → ⊥) → word_after (first_id ss) w s old ≡ old
  first_unwritten [] s w old n = refl
  first_unwritten (t ∷ ss) s w old n = written_other (id_at t) w old s (λ e. n (inl (sym e)))

  -- ---- a pool comes to the front

  module _ (id : PoolId) (mine : class_of (pool_at v.arenas (spot id)) ≡ Some c) (list : List Spot) (is : list_of classes c ≡ list) (out : Has (spot id) list → ⊥)
      (next : (s : Spot) → next_of (pool_at new s) ≡ word_after (Some id) (place_if v (first_id list)) s (next_of (pool_at v.arenas s)))
      (prev : (s : Spot) → prev_of (pool_at new s) ≡ word_after (first_id list) (place0 (spot id)) s (prev_of (pool_at v.arenas s))) where
    first_word : (ss : List Spot) → place_if v (first_id ss) ≡ first_in (all0 ss)
    first_word [] = refl
    first_word (s ∷ ss) = refl

    all_listed : (s : Spot) → Has s list → class_of (pool_at v.arenas s) ≡ Some c
    all_listed s h = l.listed c s (subst (Has s) (sym is) h)

    not_in : times (place0 (spot id)) (all0 list) ≡ 0
    not_in = not_there v list (spot id) c c sound all_listed mine out

    was : (s : Spot) → class_of (pool_at v.arenas s) ≡ Some c → IsLinked (pool_at v.arenas s) (place0 s) (all0 list)
    was s e = subst (λ ss. IsLinked (pool_at v.arenas s) (place0 s) (all0 ss)) is (l.links c s e)

    next_put : (s : Spot) → class_of (pool_at v.arenas s) ≡ Some c → next_of (pool_at new s) ≡ next_in (place0 s) (place0 (spot id) ∷ all0 list)
    next_put s e = elim (spot_tells s (spot id)) [
      | inl w ↦ next s ∙ (written_same id _ _ s w.1 ∙ (first_word list ∙ (sym (next_here (place0 (spot id)) (all0 list)) ∙ ap (λ z. next_in (place0 z) (place0 (spot id) ∷ all0 list)) (sym w.1))))
      | inr w ↦ next s ∙ (written_other id _ _ s w.1 ∙ ((was s e).0 ∙ sym (next_other (place0 s) (place0 (spot id)) (all0 list) (λ x. places_apart s (spot id) c e mine w.1 (sym x)))))
    ]

    prev_put_other : (ss : List Spot) (s : Spot) (old : ℕ) → ((t : Spot) → Has t ss → class_of (pool_at v.arenas t) ≡ Some c) → class_of (pool_at v.arenas s) ≡ Some c → s ≢ spot id → old ≡ prev_in 0 (place0 s) (all0 ss)
        → word_after (first_id ss) (place0 (spot id)) s old ≡ prev_in 0 (place0 s) (place0 (spot id) ∷ all0 ss)
    prev_put_other [] s old all e n o = o ∙ sym (prev_other 0 (place0 s) (place0 (spot id)) [] (λ x. places_apart s (spot id) c e mine n (sym x)))
    prev_put_other (t ∷ ss) s old all e n o = elim (spot_tells s t) [
      | inl w ↦ written_same (id_at t) (place0 (spot id)) old s w.1 ∙ sym (prev_other 0 (place0 s) (place0 (spot id)) (all0 (t ∷ ss)) (λ x. places_apart s (spot id) c e mine n (sym x))
          ∙ ap (λ z. prev_in (place0 (spot id)) (place0 z) (all0 (t ∷ ss))) w.1 ∙ prev_here (place0 (spot id)) (place0 t) (all0 ss))
      | inr w ↦ written_other (id_at t) (place0 (spot id)) old s w.1 ∙ (o ∙ prev_kept 0 (place0 s) (place0 (spot id)) [] (all0 (t ∷ ss)) (places_apart s (spot id) c e mine n) (places_apart s t c e (all t (inl refl)) w.1))
    ]

    prev_put : (s : Spot) → class_of (pool_at v.arenas s) ≡ Some c → prev_of (pool_at new s) ≡ prev_in 0 (place0 s) (place0 (spot id) ∷ all0 list)
    prev_put s e = elim (spot_tells s (spot id)) [
      | inl w ↦ prev s ∙ (first_unwritten list s (place0 (spot id)) _ (subst (λ z. Has z list → ⊥) (sym w.1) out) ∙ ((was s e).1
          ∙ (no_prev 0 (place0 s) (all0 list) (ap (λ z. times (place0 z) (all0 list)) w.1 ∙ not_in) ∙ (sym (prev_here 0 (place0 (spot id)) (all0 list)) ∙ ap (λ z. prev_in 0 (place0 z) (place0 (spot id) ∷ all0 list)) (sym w.1)))))
      | inr w ↦ prev s ∙ prev_put_other list s _ all_listed e w.1 (was s e).1
    ]

    once_put : (p : ℕ) → times p (place0 (spot id) ∷ all0 list) ≤ 1
    once_put p = elim (eqb_tells (place0 (spot id)) p) [
      | inl w ↦ rw w.0 (let z = not_in in let e = ap (λ q. times q (all0 list)) w.1 in omega arith)
      | inr w ↦ let o : times p (all0 list) ≤ 1 = subst (λ ss. times p (all0 ss) ≤ 1) is (l.once c p) in rw w.0 (omega arith)
    ]

    pub put_linked : (w : ClassView) → w.spots ≡ spot id ∷ list → w.first ≡ Some id → w.count ≡ (get_or classes c no_pools).count + 1 → AreLinked new (set classes c w)
    put_linked w spots first count =
        relisted w
        (record { first = first ∙ ap first_id (sym spots); count = (let h = (l.headed c).count in let e = ap length is in let n = ap length spots in omega arith) })
        (λ p. subst (λ ss. times p (all0 ss) ≤ 1) (sym spots) (once_put p))
        (λ s h. elim (subst (Has s) spots h) [ inl e ↦ ap (λ z. class_of (pool_at v.arenas z)) (sym e) ∙ mine | inr g ↦ all_listed s g ])
        (λ s e. subst (λ ss. IsLinked (pool_at new s) (place0 s) (all0 ss)) (sym spots) (next_put s e, prev_put s e))
        (λ d s n e. (
          next s ∙ written_other id _ _ s (other_class s (spot id) d n e mine),
          prev s ∙ first_unwritten list s _ _ (λ h. other_class s s d n e (all_listed s h) refl),
        ))

  -- ---- a pool leaves the list

  module _ (id : PoolId) (front rest : List Spot) (is : list_of classes c ≡ front ++ spot id ∷ rest) (before after : Option PoolId)
      (leads_after : LeadsTo v (next_of (pool_at v.arenas (spot id))) after) (leads_before : LeadsTo v (prev_of (pool_at v.arenas (spot id))) before)
      (next : (s : Spot) → next_of (pool_at new s) ≡ word_after (Some id) 0 s (word_after before (next_of (pool_at v.arenas (spot id))) s (next_of (pool_at v.arenas s))))
      (prev : (s : Spot) → prev_of (pool_at new s) ≡ word_after (Some id) 0 s (word_after after (prev_of (pool_at v.arenas (spot id))) s (prev_of (pool_at v.arenas s)))) where
    abbrev s0 : Spot
    s0 = spot id

    in_list : (s : Spot) → Has s (front ++ s0 ∷ rest) → class_of (pool_at v.arenas s) ≡ Some c
    in_list s h = l.listed c s (subst (Has s) (sym is) h)

    own : class_of (pool_at v.arenas s0) ≡ Some c
    own = in_list s0 (has_right s0 front (s0 ∷ rest) (inl refl))

    in_both : (s : Spot) → Has s (front ++ rest) → class_of (pool_at v.arenas s) ≡ Some c
    in_both s h = elim (has_either s front rest h) [ inl g ↦ in_list s (has_left s front (s0 ∷ rest) g) | inr g ↦ in_list s (has_right s front (s0 ∷ rest) (inr g)) ]

    all_is : all0 (list_of classes c) ≡ all0 front ++ place0 s0 ∷ all0 rest
    all_is = ap (addresses_of v.arenas) is ∙ map-append (place_of v.arenas) front (s0 ∷ rest)

    both_are : all0 (front ++ rest) ≡ all0 front ++ all0 rest
    both_are = map-append (place_of v.arenas) front rest

    sum : (p : ℕ) → times p (all0 front) + times p (place0 s0 ∷ all0 rest) ≤ 1
    sum p = let o = l.once c p in let e = ap (times p) all_is in let a = times-append p (all0 front) (place0 s0 ∷ all0 rest) in omega arith

    rest_times : (p : ℕ) → times p (all0 rest) ≤ times p (place0 s0 ∷ all0 rest)
    rest_times p = omega arith

    alone : (times (place0 s0) (all0 front) ≡ 0) × (times (place0 s0) (all0 rest) ≡ 0)
    alone = let o = sum (place0 s0) in let h = times_here (place0 s0) (all0 rest) in (omega arith, omega arith)

    was_linked : (s : Spot) → class_of (pool_at v.arenas s) ≡ Some c → IsLinked (pool_at v.arenas s) (place0 s) (all0 front ++ place0 s0 ∷ all0 rest)
    was_linked s e = subst (λ ps. IsLinked (pool_at v.arenas s) (place0 s) ps) all_is (l.links c s e)

    next_is : next_of (pool_at v.arenas s0) ≡ first_in (all0 rest)
    next_is = (was_linked s0 own).0 ∙ next_between (place0 s0) (all0 front) (all0 rest) (alone).0

    prev_is : prev_of (pool_at v.arenas s0) ≡ last_in 0 (all0 front)
    prev_is = (was_linked s0 own).1 ∙ prev_between 0 (place0 s0) (all0 front) (all0 rest) (alone).0

    some_place : (s : Spot) (d : ℕ) → class_of (pool_at v.arenas s) ≡ Some d → place0 s ≢ 0
    some_place s d e z = let p = place_some v s d sound e in absurd (omega arith)

    next_left : (o : Option PoolId) → LeadsTo v (prev_of (pool_at v.arenas s0)) o → (s : Spot) → class_of (pool_at v.arenas s) ≡ Some c → s ≢ s0
        → word_after o (next_of (pool_at v.arenas s0)) s (next_of (pool_at v.arenas s)) ≡ next_in (place0 s) (all0 front ++ all0 rest)
    next_left None leads s e n = (was_linked s e).0 ∙ sym (next_kept 0 (place0 s) (place0 s0) (all0 front) (all0 rest) (places_apart s s0 c e own n) (λ x. some_place s c e (x ∙ (sym prev_is ∙ leads))))
    next_left (Some b) leads s e n =
        let st = leads.started in let class_b = class_is v b st.a st.s st.started in
        let last : last_in 0 (all0 front) ≡ place0 (spot b) = sym prev_is ∙ leads.place in
        elim (spot_tells s (spot b)) [
          | inl w ↦ written_same b _ _ s w.1 ∙ (next_is ∙ sym (next_last 0 (place0 s) (all0 front) (all0 rest) (last ∙ ap place0 (sym w.1)) (λ z. some_place s c e (sym z)) (let o = sum (place0 s) in omega arith)))
          | inr w ↦ written_other b _ _ s w.1 ∙ ((was_linked s e).0 ∙ sym (next_kept 0 (place0 s) (place0 s0) (all0 front) (all0 rest) (places_apart s s0 c e own n) (λ x. places_apart s (spot b) _ e class_b w.1 (x ∙ last))))
        ]

    prev_left : (o : Option PoolId) → LeadsTo v (next_of (pool_at v.arenas s0)) o → (s : Spot) → class_of (pool_at v.arenas s) ≡ Some c → s ≢ s0
        → word_after o (prev_of (pool_at v.arenas s0)) s (prev_of (pool_at v.arenas s)) ≡ prev_in 0 (place0 s) (all0 front ++ all0 rest)
    prev_left None leads s e n = (was_linked s e).1 ∙ sym (prev_kept 0 (place0 s) (place0 s0) (all0 front) (all0 rest) (places_apart s s0 c e own n) (λ x. some_place s c e (x ∙ (sym next_is ∙ leads))))
    prev_left (Some b) leads s e n =
        let st = leads.started in let class_b = class_is v b st.a st.s st.started in
        let first : first_in (all0 rest) ≡ place0 (spot b) = sym next_is ∙ leads.place in
        elim (spot_tells s (spot b)) [
          | inl w ↦
              let mine : first_in (all0 rest) ≡ place0 s = first ∙ ap place0 (sym w.1) in
              let some = first_times (place0 s) (all0 rest) mine (some_place s c e) in
              let none : times (place0 s) (all0 front) ≡ 0 = let o = sum (place0 s) in let r = rest_times (place0 s) in omega arith in
              written_same b _ _ s w.1 ∙ (prev_is ∙ sym (prev_first 0 (place0 s) (all0 front) (all0 rest) mine (some_place s c e) none))
          | inr w ↦ written_other b _ _ s w.1 ∙ ((was_linked s e).1 ∙ sym (prev_kept 0 (place0 s) (place0 s0) (all0 front) (all0 rest) (places_apart s s0 c e own n) (λ x. places_apart s (spot b) _ e class_b w.1 (x ∙ first))))
        ]

    times_both : (p : ℕ) → times p (all0 (front ++ rest)) ≡ times p (all0 front) + times p (all0 rest)
    times_both p = ap (times p) both_are ∙ times-append p (all0 front) (all0 rest)

    links_left : (s : Spot) → class_of (pool_at v.arenas s) ≡ Some c → IsLinked (pool_at new s) (place0 s) (all0 (front ++ rest))
    links_left s e = elim (spot_tells s s0) [
      | inl w ↦
          let none : times (place0 s) (all0 (front ++ rest)) ≡ 0 = (let t = times_both (place0 s) in let a = alone in let q : place0 s ≡ place0 s0 = ap place0 w.1 in let b = ap (λ p. times p (all0 front)) q in let d = ap (λ p. times p (all0 rest)) q in omega arith) in
          (next s ∙ (written_same id 0 _ s w.1 ∙ sym (no_next (place0 s) (all0 (front ++ rest)) none)), prev s ∙ (written_same id 0 _ s w.1 ∙ sym (no_prev 0 (place0 s) (all0 (front ++ rest)) none)))
      | inr w ↦ (
        next s ∙ (written_other id 0 _ s w.1 ∙ (next_left before leads_before s e w.1 ∙ ap (next_in (place0 s)) (sym both_are))),
        prev s ∙ (written_other id 0 _ s w.1 ∙ (prev_left after leads_after s e w.1 ∙ ap (prev_in 0 (place0 s)) (sym both_are))),
      )
    ]

    -- the pool before has class c
    last_unwritten : (o : Option PoolId) → LeadsTo v (prev_of (pool_at v.arenas s0)) o → (s : Spot) (d w old : ℕ) → d ≢ c → class_of (pool_at v.arenas s) ≡ Some d → word_after o w s old ≡ old
    last_unwritten None leads s d w old n e = refl
    last_unwritten (Some b) leads s d w old n e =
        let st = leads.started in let class_b = class_is v b st.a st.s st.started in
        let last : last_in 0 (all0 front) ≡ place0 (spot b) = sym prev_is ∙ leads.place in
        written_other b w old s (λ same. elim (last_place v 0 front) [
          | inl z ↦ some_place (spot b) _ class_b (sym last ∙ z)
          | inr t ↦
              let at_t : class_of (pool_at v.arenas t.0) ≡ Some c = in_list t.0 (has_left t.0 front (s0 ∷ rest) t.1.0) in
              other_class s t.0 d n e at_t (same ∙ spot_once v (spot b) t.0 _ c sound class_b at_t (sym last ∙ t.1.1))
        ])

    -- ---- which pool is first then

    last_some : (b : ℕ) (ss : List Spot) → 1 ≤ b → ((s : Spot) → Has s ss → class_of (pool_at v.arenas s) ≡ Some c) → 1 ≤ last_in b (all0 ss)
    last_some b [] le all = le
    last_some b (s ∷ ss) le all = last_some (place0 s) ss (place_some v s c sound (all s (inl refl))) (λ t h. all t (inr h))

    first_left : (o : Option PoolId) (xs : List Spot) → ((s : Spot) → Has s xs → class_of (pool_at v.arenas s) ≡ Some c) → (w : ℕ) → w ≡ last_in 0 (all0 xs) → LeadsTo v w o → after ≡ first_id rest
        → (first : Option PoolId) → first ≡ first_id (xs ++ s0 ∷ rest) → first_without o after first ≡ first_id (xs ++ rest)
    first_left None [] all w e leads a first f = a
    first_left None (s ∷ xs) all w e leads a first f = let some = last_some (place0 s) xs (place_some v s c sound (all s (inl refl))) (λ t h. all t (inr h)) in absurd (omega arith)
    first_left (Some b) [] all w e leads a first f = let st = leads.started in absurd (some_place (spot b) _ (class_is v b st.a st.s st.started) (sym leads.place ∙ e))
    first_left (Some b) (s ∷ xs) all w e leads a first f = f

    pub left_linked : (w : ClassView) → w.spots ≡ front ++ rest → w.first ≡ first_without before after (get_or classes c no_pools).first → w.count ≡ (get_or classes c no_pools).count - 1 → AreLinked new (set classes c w)
    left_linked w spots first count =
        let h = l.headed c in
        let rest_first = leads_first v c sound after rest (λ s g. in_list s (has_right s front (s0 ∷ rest) (inr g))) _ next_is leads_after in
        let headed : first_without before after (get_or classes c no_pools).first ≡ first_id (front ++ rest) =
        first_left before front (λ s g. in_list s (has_left s front (s0 ∷ rest) g)) _ prev_is leads_before rest_first _ (h.first ∙ ap first_id is) in
        relisted w
        (record { first = first ∙ (headed ∙ ap first_id (sym spots)); count = (let n = h.count in let e = ap length is in let a = length-append front (s0 ∷ rest) in let b = length-append front rest in let d = ap length spots in omega arith) })
        (λ p. subst (λ ss. times p (all0 ss) ≤ 1) (sym spots) (let t = times_both p in let o = sum p in let r = rest_times p in omega arith))
        (λ s g. in_both s (subst (Has s) spots g))
        (λ s e. subst (λ ss. IsLinked (pool_at new s) (place0 s) (all0 ss)) (sym spots) (links_left s e))
        (λ d s n e. (
          next s ∙ (written_other id 0 _ s (other_class s s0 d n e own) ∙ last_unwritten before leads_before s d _ _ n e),
          prev s ∙ (written_other id 0 _ s (other_class s s0 d n e own) ∙ (ap (λ o. word_after o (prev_of (pool_at v.arenas s0)) s (prev_of (pool_at v.arenas s))) rest_first
              ∙ first_unwritten rest s _ _ (λ h. other_class s s d n e (in_list s (has_right s front (s0 ∷ rest) (inr h))) refl))),
        ))
