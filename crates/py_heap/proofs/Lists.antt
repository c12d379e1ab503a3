-- The calls that put a pool into a list and take it out.
use Rattle.std.proofs.Common.{◌≡◌, ℕ, zero, suc, ◌+◌, ◌-◌, ◌<◌, ◌≤◌, inl, inr, List, [], ◌∷◌, ◌++◌, map, length, get_or, set, Option, Some, None, IfSome, refl, sym, ap, subst, ◌∙◌, arith}
use Rattle.std.proofs.lemmas.Bool.Decides.{eqb_tells}
use Rattle.std.proofs.lemmas.List.{get_or-map, get_or-set_same, get_or-set_other, length-append, length-map, map-set}
use Rattle.extents.specs.Sums.{Has, Removed}
use Rattle.extents.proofs.CallerLemmas.{has_left, has_right, removed_has}
use Rattle.links.specs.Nodes.{times}
use Rattle.heap_model.specs.Tables.{Spot}
use Rattle.arena_set.specs.declared.pool_id.PoolId.{PoolId}
use Rattle.arena_set.specs.Arena.{ArenaView}
use Rattle.arena_set.specs.Set.{SetView, IsSet}
use Rattle.arena_set.specs.Calls.{HasStarted}
use Rattle.py_heap.specs.declared.pools.Pools.{Pools}
use Rattle.py_heap.specs.declared.classes.ClassPools.{ClassPools}
use Rattle.py_heap.specs.Kept.{State}
use Rattle.py_heap.specs.State.{state_of}
use Rattle.py_heap.specs.Links.{ClassView, no_pools, spot, pool_at, place_of, class_of, next_of, prev_of, first_id, class_view, list_of, addresses_of, IsLinked, AreLinked}
use Rattle.py_heap.specs.Relinks.{AreMarked, CanPutFirst, IsLink, LeadsTo, NextWritten, OnlyLinks, PrevWritten, PutsFirst, Unlinks, first_without, place_if, word_after}
use Rattle.py_heap.proofs.Neighbours.{last_in}
use Rattle.py_heap.proofs.Linked.{classes_told, first_link, has_started, head_of, heads_told, id_at, next_word, pool_is}
use Rattle.py_heap.proofs.Relisted.{last_place, left_linked, prev_word, put_linked}
use Rattle.py_heap.proofs.Relinking.{only_then}

-- the words of a pool, as they are read
pub next_read : (v : SetView) (id : PoolId) (w : ℕ) (h : HasStarted v id) → w ≡ h.s.next → w ≡ next_of (pool_at v.arenas (spot id))
next_read v id w h e = e ∙ ap next_of (sym (pool_is v id h.a h.s h.started))

pub prev_read : (v : SetView) (id : PoolId) (w : ℕ) (h : HasStarted v id) → w ≡ h.s.prev → w ≡ prev_of (pool_at v.arenas (spot id))
prev_read v id w h e = e ∙ ap prev_of (sym (pool_is v id h.a h.s h.started))

pub leads_started : (v : SetView) (w : ℕ) (o : Option PoolId) → LeadsTo v w o → IfSome o (HasStarted v)
leads_started v w None leads = tt
leads_started v w (Some id) leads = leads.started

-- the classes of a heap with another head at one place
module _ (p : Pools) (new : State) (items : List ClassPools) (told : new.classes ≡ map (class_view new.set.arenas) items) (c : ℕ) (inside : c < length p.classes.items) (head : ClassPools) (heads : items ≡ set p.classes.items c head) (sound : IsSet new.set) where
  pub told_by : (w : ClassView) → head_of w ≡ head → AreLinked new.set.arenas (set (state_of p).classes c w) → new.classes ≡ set (state_of p).classes c w
  told_by w is l =
      let same : items ≡ map head_of (set (state_of p).classes c w) = heads ∙ (ap (λ hs. set hs c head) (sym (heads_told p.set.arenas p.classes.items)) ∙ (ap (set (map head_of (state_of p).classes) c) (sym is) ∙ sym (map-set head_of (state_of p).classes c w))) in
      told ∙ ap (map (class_view new.set.arenas)) same ∙ classes_told new.set (set (state_of p).classes c w) sound l

-- ---- a pool leaves its list

module _ (p : Pools) (c : ℕ) (inside : c < length p.classes.items) (marked : AreMarked p.set p.marks) (l : AreLinked p.set.arenas (state_of p).classes) (id : PoolId) (listed : Has (spot id) (list_of (state_of p).classes c)) where
  abbrev v : SetView
  v = p.set

  abbrev list : List Spot
  list = list_of (state_of p).classes c

  classes_inside : c < length (state_of p).classes
  classes_inside = let e = length-map p.classes.items (class_view p.set.arenas) in omega arith

  there : class_of (pool_at p.set.arenas (spot id)) ≡ Some c
  there = l.listed c (spot id) listed

  pub unlink_started : HasStarted p.set id
  unlink_started = has_started v (spot id) c marked.set there

  removed : (rest : List Spot) × Removed (spot id) list rest
  removed = removed_has (spot id) list listed

  front : List Spot
  front = (removed).1.before

  rest : List Spot
  rest = (removed).1.after

  list_is : list ≡ front ++ spot id ∷ rest
  unfolding front rest
  list_is = (removed).1.with

  in_rest : (s : Spot) → Has s rest → class_of (pool_at p.set.arenas s) ≡ Some c
  in_rest s h = l.listed c s (subst (Has s) (sym list_is) (has_right s front (spot id ∷ rest) (inr h)))

  in_front : (s : Spot) → Has s front → class_of (pool_at p.set.arenas s) ≡ Some c
  in_front s h = l.listed c s (subst (Has s) (sym list_is) (has_left s front (spot id ∷ rest) h))

  pub next_link : (w : ℕ) → w ≡ next_of (pool_at p.set.arenas (spot id)) → IsLink p.set w
  next_link w e = first_link p.set rest w c marked.set in_rest (e ∙ next_word p.set (state_of p).classes marked.set l c front rest (spot id) list_is)

  pub prev_link : (w : ℕ) → w ≡ prev_of (pool_at p.set.arenas (spot id)) → IsLink p.set w
  prev_link w e =
      let is : w ≡ last_in 0 (addresses_of p.set.arenas front) = e ∙ prev_word p.set (state_of p).classes marked.set l c front rest (spot id) list_is in
      elim (last_place p.set 0 front) [
        | inl z ↦ inl (is ∙ z)
        | inr t ↦ inr (id_at t.0, record { started = has_started p.set t.0 c marked.set (in_front t.0 t.1.0); place = is ∙ t.1.1 })
      ]

  pub some_count : 1 ≤ (get_or (state_of p).classes c no_pools).count
  some_count = let h = (l.headed c).count in let e = ap length list_is in let a = length-append front (spot id ∷ rest) in omega arith

  module _ (after before : Option PoolId) (n w : ℕ) (n_is : n ≡ next_of (pool_at p.set.arenas (spot id))) (w_is : w ≡ prev_of (pool_at p.set.arenas (spot id))) (leads_after : LeadsTo p.set n after) (leads_before : LeadsTo p.set w before)
      (s1 s2 s3 s4 : SetView) (o1 : OnlyLinks p.set s1) (o2 : OnlyLinks s1 s2) (o3 : OnlyLinks s2 s3) (o4 : OnlyLinks s3 s4)
      (x1 : NextWritten before n p.set s1) (x2 : NextWritten None 0 s1 s2) (x3 : NextWritten (Some id) 0 s2 s3) (x4 : NextWritten None 0 s3 s4)
      (y1 : PrevWritten None 0 p.set s1) (y2 : PrevWritten after w s1 s2) (y3 : PrevWritten None 0 s2 s3) (y4 : PrevWritten (Some id) 0 s3 s4) where
    only : OnlyLinks p.set s4
    only = only_then p.set s1 s4 o1 (only_then s1 s2 s4 o2 (only_then s2 s3 s4 o3 o4))

    next_now : (s : Spot) → next_of (pool_at s4.arenas s) ≡ word_after (Some id) 0 s (word_after before (next_of (pool_at p.set.arenas (spot id))) s (next_of (pool_at p.set.arenas s)))
    next_now s = x4 s ∙ (x3 s ∙ ap (word_after (Some id) 0 s) (x2 s ∙ (x1 s ∙ ap (λ m. word_after before m s (next_of (pool_at p.set.arenas s))) n_is)))

    prev_now : (s : Spot) → prev_of (pool_at s4.arenas s) ≡ word_after (Some id) 0 s (word_after after (prev_of (pool_at p.set.arenas (spot id))) s (prev_of (pool_at p.set.arenas s)))
    prev_now s = y4 s ∙ ap (word_after (Some id) 0 s) (y3 s ∙ (y2 s ∙ (ap (word_after after w s) (y1 s) ∙ ap (λ m. word_after after m s (prev_of (pool_at p.set.arenas s))) w_is)))

    abbrev old_head : ClassView
    old_head = get_or (state_of p).classes c no_pools

    abbrev less : List Spot → ClassView
    less spots = record { spots = spots; full = (old_head).full; first = first_without before after (old_head).first; count = (old_head).count - 1 }

    less_linked : (xs ys : List Spot) → list ≡ xs ++ spot id ∷ ys → AreLinked s4.arenas (set (state_of p).classes c (less (xs ++ ys)))
    less_linked xs ys is =
        left_linked p.set s4.arenas (state_of p).classes marked.set l c classes_inside (only).class (only).place id xs ys is before after (subst (λ m. LeadsTo p.set m after) n_is leads_after) (subst (λ m. LeadsTo p.set m before) w_is leads_before)
        next_now prev_now (less (xs ++ ys)) refl refl refl

    module _ (new : State) (items : List ClassPools) (told : new.classes ≡ map (class_view new.set.arenas) items) (head : ClassPools) (heads : items ≡ set p.classes.items c (record head { first = first_without before after head.first; count = head.count - 1 }))
        (read : head ≡ get_or p.classes.items c head) (set_is : new.set ≡ s4) (others : new ≡ record (state_of p) { set = new.set; classes = new.classes }) where
      head_is : head_of (old_head) ≡ head
      head_is = ap head_of (get_or-map (class_view p.set.arenas) p.classes.items c head no_pools inside) ∙ sym read

      less_told : (xs ys : List Spot) → list ≡ xs ++ spot id ∷ ys → new.classes ≡ set (state_of p).classes c (less (xs ++ ys))
      less_told xs ys is =
          told_by p new items told c inside (record head { first = first_without before after head.first; count = head.count - 1 }) heads (subst IsSet (sym set_is) (only).set) (less (xs ++ ys))
          (ap (λ (h : ClassPools). record h { first = first_without before after h.first; count = h.count - 1 }) head_is) (subst (λ (z : SetView). AreLinked z.arenas (set (state_of p).classes c (less (xs ++ ys)))) (sym set_is) (less_linked xs ys is))

      same_spots : (xs ys : List Spot) → list ≡ xs ++ spot id ∷ ys → front ++ rest ≡ xs ++ ys
      same_spots xs ys is =
          let e = sym (less_told front rest list_is) ∙ less_told xs ys is in
          ap (λ (z : ClassView). z.spots) (sym (get_or-set_same (state_of p).classes c (less (front ++ rest)) no_pools classes_inside) ∙ (ap (λ cs. get_or cs c no_pools) e ∙ get_or-set_same (state_of p).classes c (less (xs ++ ys)) no_pools classes_inside))

      pub unlinks : Unlinks c id (state_of p) new
      unlinks = record {
        only = subst (OnlyLinks p.set) (sym set_is) only;
        v = less (front ++ rest);
        classes = less_told front rest list_is;
        spots = same_spots;
        full = refl;
        linked = subst (AreLinked new.set.arenas) (sym (less_told front rest list_is)) (subst (λ (z : SetView). AreLinked z.arenas (set (state_of p).classes c (less (front ++ rest)))) (sym set_is) (less_linked front rest list_is));
        rest = others;
      }

-- ---- a pool comes to the front

module _ (p : Pools) (c : ℕ) (inside : c < length p.classes.items) (marked : AreMarked p.set p.marks) (l : AreLinked p.set.arenas (state_of p).classes) (id : PoolId) (can : CanPutFirst c id (state_of p)) where
  abbrev head0 : ClassView
  head0 = get_or (state_of p).classes c no_pools

  long : c < length (state_of p).classes
  long = let e = length-map p.classes.items (class_view p.set.arenas) in omega arith

  pub put_started : HasStarted p.set id
  put_started = has_started p.set (spot id) c marked.set can.class

  first_of : (ss : List Spot) → ((s : Spot) → Has s ss → class_of (pool_at p.set.arenas s) ≡ Some c) → IfSome (first_id ss) (HasStarted p.set)
  first_of [] all = tt
  first_of (s ∷ ss) all = has_started p.set s c marked.set (all s (inl refl))

  pub first_started : IfSome (head0).first (HasStarted p.set)
  first_started = subst (λ o. IfSome o (HasStarted p.set)) (sym (l.headed c).first) (first_of (list_of (state_of p).classes c) (l.listed c))

  module _ (head : ClassPools) (read : head ≡ get_or p.classes.items c head) where
    pub put_head : head_of (head0) ≡ head
    put_head = ap head_of (get_or-map (class_view p.set.arenas) p.classes.items c head no_pools inside) ∙ sym read

    module _ (n w : ℕ) (n_is : n ≡ place_if p.set head.first) (w_is : w ≡ place_of p.set.arenas (spot id)) (s1 s2 : SetView) (o1 : OnlyLinks p.set s1) (o2 : OnlyLinks s1 s2)
        (x1 : NextWritten (Some id) n p.set s1) (x2 : NextWritten None 0 s1 s2) (y1 : PrevWritten None 0 p.set s1) (y2 : PrevWritten head.first w s1 s2)
        (new : State) (items : List ClassPools) (told : new.classes ≡ map (class_view new.set.arenas) items) (again : ClassPools) (reread : again ≡ get_or p.classes.items c again)
        (heads : items ≡ set p.classes.items c (record again { first = Some id; count = again.count + 1 })) (set_is : new.set ≡ s2) (others : new ≡ record (state_of p) { set = new.set; classes = new.classes }) where
      only2 : OnlyLinks p.set s2
      only2 = only_then p.set s1 s2 o1 o2

      first_is : head.first ≡ first_id (list_of (state_of p).classes c)
      first_is = ap (λ (h : ClassPools). h.first) (sym put_head) ∙ (l.headed c).first

      next_put : (s : Spot) → next_of (pool_at s2.arenas s) ≡ word_after (Some id) (place_if p.set (first_id (list_of (state_of p).classes c))) s (next_of (pool_at p.set.arenas s))
      next_put s = x2 s ∙ (x1 s ∙ ap (λ m. word_after (Some id) m s (next_of (pool_at p.set.arenas s))) (n_is ∙ ap (place_if p.set) first_is))

      prev_put : (s : Spot) → prev_of (pool_at s2.arenas s) ≡ word_after (first_id (list_of (state_of p).classes c)) (place_of p.set.arenas (spot id)) s (prev_of (pool_at p.set.arenas s))
      prev_put s = y2 s ∙ ((λ i. word_after (first_is i) (w_is i) s (y1 s i)))

      abbrev more : ClassView
      more = record { spots = spot id ∷ list_of (state_of p).classes c; full = (head0).full; first = Some id; count = (head0).count + 1 }

      more_linked : AreLinked s2.arenas (set (state_of p).classes c more)
      more_linked = put_linked p.set s2.arenas (state_of p).classes marked.set l c long (only2).class (only2).place id can.class (list_of (state_of p).classes c) refl can.out next_put prev_put more refl refl refl

      again_is : head_of (head0) ≡ again
      again_is = ap head_of (get_or-map (class_view p.set.arenas) p.classes.items c again no_pools inside) ∙ sym reread

      linked_now : AreLinked new.set.arenas (set (state_of p).classes c more)
      linked_now = subst (λ (z : SetView). AreLinked z.arenas (set (state_of p).classes c more)) (sym set_is) more_linked

      more_told : new.classes ≡ set (state_of p).classes c more
      more_told =
          told_by p new items told c inside (record again { first = Some id; count = again.count + 1 }) heads (subst IsSet (sym set_is) (only2).set) more
          (ap (λ (h : ClassPools). record h { first = Some id; count = h.count + 1 }) again_is) linked_now

      pub puts_first : PutsFirst c id (state_of p) new
      puts_first = record {
        only = subst (OnlyLinks p.set) (sym set_is) only2;
        v = more;
        classes = more_told;
        spots = refl;
        full = refl;
        linked = subst (AreLinked new.set.arenas) (sym more_told) linked_now;
        rest = others;
      }

-- ---- heaps whose lists are alike

-- the classes stay where their lists do
pub same_classes : (p q : Pools) → q.classes.items ≡ p.classes.items → IsSet q.set → AreLinked q.set.arenas (state_of p).classes → (state_of q).classes ≡ (state_of p).classes
same_classes p q e sound l = ap (map (class_view q.set.arenas)) (e ∙ sym (heads_told p.set.arenas p.classes.items)) ∙ classes_told q.set (state_of p).classes sound l

alike : (arenas : List (Option ArenaView)) (xs ys : List ClassView) → ((c : ℕ) → ((get_or ys c no_pools).spots ≡ (get_or xs c no_pools).spots) × ((get_or ys c no_pools).first ≡ (get_or xs c no_pools).first) × ((get_or ys c no_pools).count ≡ (get_or xs c no_pools).count))
    → AreLinked arenas xs → AreLinked arenas ys
alike arenas xs ys same l = record {
  headed = λ c. let h = l.headed c in record { first = (same c).1 ∙ (h.first ∙ ap first_id (sym (same c).0)); count = (same c).2 ∙ (h.count ∙ ap length (sym (same c).0)) };
  once = λ c p. subst (λ ss. times p (addresses_of arenas ss) ≤ 1) (sym (same c).0) (l.once c p);
  listed = λ c s h. l.listed c s (subst (Has s) (same c).0 h);
  links = λ c s e. subst (λ ss. IsLinked (pool_at arenas s) (place_of arenas s) (addresses_of arenas ss)) (sym (same c).0) (l.links c s e);
}

-- a class with another number of full pools
pub refilled_linked : (arenas : List (Option ArenaView)) (classes : List ClassView) (c n : ℕ) (v : ClassView) → c < length classes → AreLinked arenas (set classes c v) → AreLinked arenas (set classes c (record v { full = n }))
refilled_linked arenas classes c n v lt l = alike arenas (set classes c v) (set classes c (record v { full = n })) (λ d. elim (eqb_tells d c) [
  | inl w ↦
      let is : get_or (set classes c v) d no_pools ≡ v = ap (λ j. get_or (set classes c v) j no_pools) w.1 ∙ get_or-set_same classes c v no_pools lt in
      let now : get_or (set classes c (record v { full = n })) d no_pools ≡ record v { full = n } = ap (λ j. get_or (set classes c (record v { full = n })) j no_pools) w.1 ∙ get_or-set_same classes c (record v { full = n }) no_pools lt in
      (ap (λ (z : ClassView). z.spots) now ∙ ap (λ (z : ClassView). z.spots) (sym is), ap (λ (z : ClassView). z.first) now ∙ ap (λ (z : ClassView). z.first) (sym is), ap (λ (z : ClassView). z.count) now ∙ ap (λ (z : ClassView). z.count) (sym is))
  | inr w ↦
      let e : get_or (set classes c (record v { full = n })) d no_pools ≡ get_or (set classes c v) d no_pools = get_or-set_other classes c d (record v { full = n }) no_pools w.1 ∙ sym (get_or-set_other classes c d v no_pools w.1) in
      (ap (λ (z : ClassView). z.spots) e, ap (λ (z : ClassView). z.first) e, ap (λ (z : ClassView). z.count) e)
]) l

set_twice : {X : Type 0} (xs : List X) (i : ℕ) (x y : X) → set (set xs i x) i y ≡ set xs i y
set_twice [] i x y = refl
set_twice (z ∷ xs) zero x y = refl
set_twice (z ∷ xs) (suc i) x y = ap (λ l. z ∷ l) (set_twice xs i x y)

-- a list has changed, and then the number of full pools of its class
module _ (s1 s2 s3 : State) (c n : ℕ) (v : ClassView) (arenas : List (Option ArenaView)) (heads : List ClassPools) (h : ClassPools) (lt : c < length s1.classes) (then : s2 ≡ record s1 { set = s2.set; classes = s2.classes }) (last : s3 ≡ record s2 { classes = s3.classes })
    (changed : s2.classes ≡ set s1.classes c v) (told2 : s2.classes ≡ map (class_view arenas) heads) (told3 : s3.classes ≡ map (class_view arenas) (set heads c (record h { full = n }))) (inside : c < length heads) (read : h ≡ get_or heads c h) where
  pub read_is : class_view arenas h ≡ v
  read_is = ap (class_view arenas) read ∙ (sym (get_or-map (class_view arenas) heads c h no_pools inside) ∙ (ap (λ cs. get_or cs c no_pools) (sym told2 ∙ changed) ∙ get_or-set_same s1.classes c v no_pools lt))

  classes_now : s3.classes ≡ set s1.classes c (record v { full = n })
  classes_now =
      told3 ∙ (map-set (class_view arenas) heads c (record h { full = n }) ∙ ((λ i. set ((sym told2 ∙ changed) i) c (record (read_is i) { full = n })) ∙ set_twice s1.classes c v (record v { full = n })))

  pub refilled : s3 ≡ record s1 { set = s2.set; classes = set s1.classes c (record v { full = n }) }
  refilled = last ∙ (λ i. record (then i) { classes = classes_now i })
