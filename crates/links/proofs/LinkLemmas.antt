-- Links that agree with a list of nodes, and what a change of one node leaves.
use Rattle.std.proofs.Common.{◌≡◌, ◌≢◌, ℕ, zero, suc, ◌+◌, ◌<◌, ◌≤◌, inl, inr, List, [], ◌∷◌, ◌++◌, length, set, Option, Some, None, refl, sym, ap, arith}
use Rattle.std.proofs.lemmas.List.{get_or-set_same, get_or-set_other, length-set}
use Rattle.std.proofs.lemmas.Bool.Decides.{eqb_tells}
use Rattle.links.specs.declared.table.Links.{Links}
use Rattle.links.specs.Nodes.{times, first_or, last_or, first_of, last_of}
use Rattle.links.specs.Links.{links_at, present, presences, walk, nodes_of, Agrees, IsLinked, with_next, with_prev, next_set, prev_set, relinked}
use Rattle.links.proofs.NodeLemmas.{differs, first_or-append, last_or-differs, last_of-differs, first_of-differs}

pub inside : (all : List (Option Links)) (x : ℕ) (k : Links) → links_at all x ≡ Some k → x < length all
inside [] x k e = cc
inside (o ∷ all) zero k e = omega arith
inside (o ∷ all) (suc n) k e = let i = inside all n k e in omega arith

pub inside_present : (all : List (Option Links)) (x : ℕ) → 1 ≤ present (links_at all x) → x < length all
inside_present [] x h = absurd (omega arith)
inside_present (o ∷ all) zero h = omega arith
inside_present (o ∷ all) (suc n) h = let i = inside_present all n h in omega arith

pub Agrees-other : (all : List (Option Links)) (i : ℕ) (y : Option Links) (p : Option ℕ) (xs : List ℕ) (q : Option ℕ) → times i xs ≡ 0 → Agrees all p xs q → Agrees (set all i y) p xs q
Agrees-other all i y p [] q h a = tt
Agrees-other all i y p (x ∷ xs) q h a = let ne : x ≢ i = differs i x xs h in (rw (get_or-set_other all i x y None ne) a.0, Agrees-other all i y (Some x) xs q (omega arith) a.1)

pub Agrees-front : (all : List (Option Links)) (p : Option ℕ) (xs ys : List ℕ) (q : Option ℕ) → Agrees all p (xs ++ ys) q → Agrees all p xs (first_or ys q)
Agrees-front all p [] ys q a = tt
Agrees-front all p (x ∷ xs) ys q a = (rw (first_or-append xs ys q) at a.0, Agrees-front all (Some x) xs ys q a.1)

pub Agrees-rest : (all : List (Option Links)) (p : Option ℕ) (xs ys : List ℕ) (q : Option ℕ) → Agrees all p (xs ++ ys) q → Agrees all (last_or xs p) ys q
Agrees-rest all p [] ys q a = a
Agrees-rest all p (x ∷ xs) ys q a = Agrees-rest all (Some x) xs ys q a.1

pub Agrees-append : (all : List (Option Links)) (p : Option ℕ) (xs ys : List ℕ) (q : Option ℕ) → Agrees all p xs (first_or ys q) → Agrees all (last_or xs p) ys q → Agrees all p (xs ++ ys) q
Agrees-append all p [] ys q a b = b
Agrees-append all p (x ∷ xs) ys q a b = (rw (first_or-append xs ys q) a.0, Agrees-append all (Some x) xs ys q a.1 b)

-- ---- a node gets another neighbour

pub next_set-other : (all : List (Option Links)) (o v : Option ℕ) (x : ℕ) → o ≢ Some x → links_at (next_set all o v) x ≡ links_at all x
next_set-other all None v x d = refl
next_set-other all (Some i) v x d = let ne : x ≢ i = λ e. d (ap Some (sym e)) in get_or-set_other all i x (with_next (links_at all i) v) None ne

pub prev_set-other : (all : List (Option Links)) (o v : Option ℕ) (x : ℕ) → o ≢ Some x → links_at (prev_set all o v) x ≡ links_at all x
prev_set-other all None v x d = refl
prev_set-other all (Some i) v x d = let ne : x ≢ i = λ e. d (ap Some (sym e)) in get_or-set_other all i x (with_prev (links_at all i) v) None ne

pub Agrees-same : (all some : List (Option Links)) (p : Option ℕ) (xs : List ℕ) (q : Option ℕ) → ((x : ℕ) → 1 ≤ times x xs → links_at some x ≡ links_at all x) → Agrees all p xs q → Agrees some p xs q
Agrees-same all some p [] q same a = tt
Agrees-same all some p (x ∷ xs) q same a = (
  rw (same x (elim (eqb_tells x x) [ inl w ↦ rw w.0 (omega arith) | inr w ↦ absurd (w.1 refl) ])) a.0,
  Agrees-same all some (Some x) xs q (λ y h. same y (omega arith)) a.1,
)

-- the last node of a list gets another next one
pub Agrees-next_set : (all : List (Option Links)) (p p2 : Option ℕ) (xs : List ℕ) (q v : Option ℕ) → ((k : ℕ) → times k xs ≤ 1) → Agrees all p xs q → Agrees (next_set all (last_or xs p2) v) p xs v
Agrees-next_set all p p2 [] q v once a = tt
Agrees-next_set all p p2 (x ∷ []) q v once a =
    let h = inside all x _ a.0 in
    (rw (get_or-set_same all x (with_next (links_at all x) v) None h) (ap (λ e. with_next e v) a.0), tt)
Agrees-next_set all p p2 (x ∷ (y ∷ ys)) q v once a =
    let out : times x (y ∷ ys) ≡ 0 = elim (eqb_tells x x) [ inl w ↦ let h = rw w.0 at (once x) in omega arith | inr w ↦ absurd (w.1 refl) ] in
    let ne : y ≢ x = differs x y ys out in
    let other : last_or ys (Some y) ≢ Some x = last_or-differs x (Some y) ys (λ e. ne (cc)) (omega arith) in (
      rw (next_set-other all (last_or ys (Some y)) v x other) a.0,
      Agrees-next_set all (Some x) (Some x) (y ∷ ys) q v (λ k. let h = once k in omega arith) a.1,
    )

-- the first node of a list gets another previous one
pub Agrees-prev_set : (all : List (Option Links)) (p : Option ℕ) (xs : List ℕ) (q w : Option ℕ) → ((k : ℕ) → times k xs ≤ 1) → Agrees all p xs q → Agrees (prev_set all (first_of xs) w) w xs q
Agrees-prev_set all p [] q w once a = tt
Agrees-prev_set all p (x ∷ xs) q w once a =
    let h = inside all x _ a.0 in
    let out : times x xs ≡ 0 = elim (eqb_tells x x) [ inl e ↦ let o = rw e.0 at (once x) in omega arith | inr e ↦ absurd (e.1 refl) ] in (
      rw (get_or-set_same all x (with_prev (links_at all x) w) None h) (ap (λ e. with_prev e w) a.0),
      Agrees-other all x (with_prev (links_at all x) w) (Some x) xs q out a.1,
    )

-- ---- how many nodes have links

pub present-set : (all : List (Option Links)) (i : ℕ) (y : Option Links) → present y ≡ present (links_at all i) → (k : ℕ) → present (links_at (set all i y) k) ≡ present (links_at all k)
present-set [] i y e k = refl
present-set (o ∷ all) zero y e zero = e
present-set (o ∷ all) zero y e (suc k) = refl
present-set (o ∷ all) (suc i) y e zero = refl
present-set (o ∷ all) (suc i) y e (suc k) = present-set all i y e k

pub presences-set : (all : List (Option Links)) (i : ℕ) (y : Option Links) → i < length all → presences (set all i y) + present (links_at all i) ≡ presences all + present y
presences-set [] i y h = absurd (omega arith)
presences-set (o ∷ all) zero y h = omega arith
presences-set (o ∷ all) (suc i) y h = let e = presences-set all i y (omega arith) in omega arith

presences-set_same : (all : List (Option Links)) (i : ℕ) (y : Option Links) → present y ≡ present (links_at all i) → presences (set all i y) ≡ presences all
presences-set_same [] i y e = refl
presences-set_same (o ∷ all) zero y e = omega arith
presences-set_same (o ∷ all) (suc i) y e = let f = presences-set_same all i y e in omega arith

present-with_next : (o : Option Links) (v : Option ℕ) → present (with_next o v) ≡ present o
present-with_next None v = refl
present-with_next (Some k) v = refl

present-with_prev : (o : Option Links) (v : Option ℕ) → present (with_prev o v) ≡ present o
present-with_prev None v = refl
present-with_prev (Some k) v = refl

-- the links of another vector have the same nodes
pub record SameNodes (all some : List (Option Links)) : Type 0 where
  pub present : (k : ℕ) → present (links_at some k) ≡ present (links_at all k)
  pub presences : presences some ≡ presences all
  pub room : length some ≡ length all

SameNodes-next_set : (all : List (Option Links)) (o v : Option ℕ) → SameNodes all (next_set all o v)
SameNodes-next_set all None v = record { present = λ k. refl; presences = refl; room = refl }
SameNodes-next_set all (Some i) v = let e = present-with_next (links_at all i) v in record { present = present-set all i _ e; presences = presences-set_same all i _ e; room = length-set all i _ }

SameNodes-prev_set : (all : List (Option Links)) (o v : Option ℕ) → SameNodes all (prev_set all o v)
SameNodes-prev_set all None v = record { present = λ k. refl; presences = refl; room = refl }
SameNodes-prev_set all (Some i) v = let e = present-with_prev (links_at all i) v in record { present = present-set all i _ e; presences = presences-set_same all i _ e; room = length-set all i _ }

pub SameNodes-relinked : (all : List (Option Links)) (o v p w : Option ℕ) → SameNodes all (relinked all o v p w)
SameNodes-relinked all o v p w =
    let a = SameNodes-next_set all o v in let b = SameNodes-prev_set (next_set all o v) p w in
    record { present = λ k. let x = a.present k in let y = b.present k in cc; presences = let x = a.presences in let y = b.presences in cc; room = let x = a.room in let y = b.room in cc }

pub present_le : (o : Option Links) → present o ≤ 1
present_le None = omega arith
present_le (Some k) = omega arith

-- ---- two lists whose ends get other neighbours

pub record Rejoined (all some : List (Option Links)) (xs ys : List ℕ) (v w : Option ℕ) : Type 0 where
  pub front : Agrees some None xs v
  pub rest : Agrees some w ys None
  pub others : (x : ℕ) → times x xs ≡ 0 → times x ys ≡ 0 → links_at some x ≡ links_at all x

pub relinked_rejoins : (all : List (Option Links)) (xs ys : List ℕ) (v w p q : Option ℕ) → ((k : ℕ) → times k xs + times k ys ≤ 1) → Agrees all None xs q → Agrees all p ys None
    → Rejoined all (relinked all (last_of xs) v (first_of ys) w) xs ys v w
relinked_rejoins all xs ys v w p q once a b =
    let mid : List (Option Links) = next_set all (last_of xs) v in
    let a2 : Agrees mid None xs v = Agrees-next_set all None None xs q v (λ k. let o = once k in omega arith) a in
    let b2 : Agrees mid p ys None = Agrees-same all mid p ys None (λ x h. next_set-other all (last_of xs) v x (last_of-differs x xs (let o = once x in omega arith))) b in
    record {
      front = Agrees-same mid (prev_set mid (first_of ys) w) None xs v (λ x h. prev_set-other mid (first_of ys) w x (first_of-differs x ys (let o = once x in omega arith))) a2;
      rest = Agrees-prev_set mid p ys None w (λ k. let o = once k in omega arith) b2;
      others = λ x out_front out_rest. let e = prev_set-other mid (first_of ys) w x (first_of-differs x ys out_rest) in let f = next_set-other all (last_of xs) v x (last_of-differs x xs out_front) in cc;
    }

-- ---- the walk

pub presences_fit : (all : List (Option Links)) → presences all ≤ length all
presences_fit [] = omega arith
presences_fit (None ∷ all) = let i = presences_fit all in omega arith
presences_fit (Some k ∷ all) = let i = presences_fit all in omega arith

walk_agrees : (n : ℕ) (all : List (Option Links)) (p : Option ℕ) (xs : List ℕ) → length xs ≤ n → Agrees all p xs None → walk n all (first_of xs) ≡ xs
walk_agrees zero all p [] h a = refl
walk_agrees (suc n) all p [] h a = refl
walk_agrees zero all p (x ∷ xs) h a = absurd (omega arith)
walk_agrees (suc n) all p (x ∷ xs) h a = rw a.0 (ap (λ zs. x ∷ zs) (walk_agrees n all (Some x) xs (omega arith) a.1))

-- the nodes that links lead to are those that they agree with
pub nodes_of-linked : (all : List (Option Links)) (front : Option ℕ) (xs : List ℕ) → IsLinked all front xs → nodes_of all front ≡ xs
nodes_of-linked all front xs s = rw s.begins (walk_agrees (length all) all None xs (let c = s.counted in let f = presences_fit all in omega arith) s.agrees)
