-- What each call finds and leaves, over the links, the front and the chain that contracts see.
use Rattle.std.proofs.Common.{◌≡◌, ℕ, zero, suc, ◌+◌, ◌-◌, ◌<◌, ◌≤◌, List, [], ◌∷◌, ◌++◌, length, replicate, Option, Some, None, Result, Ok, Err, OnOk, OnErr, Contains, refl, sym, ap, subst, ◌∙◌, arith, append_assoc}
use Rattle.links.proofs.LinkLemmas.{Agrees-same}
use Rattle.std.specs.Option.{ForSome}
use Rattle.links.specs.declared.table.Links.{Links}
use Rattle.links.specs.Nodes.{ChainView, times, first_of, last_of, count_of, IsChain, IsNext, IsPrev, IsGap, CountsNeighbours}
use Rattle.links.specs.Links.{links_at, next_in, prev_in, present, presences, nodes_of, IsLinked, taken_out, front_after}
use Rattle.links.proofs.NodeLemmas.{split, times-split, times-out, last_of-differs, first_of-differs, last_or-append, times-append}
use Rattle.links.proofs.LinkLemmas.{inside_present, present_le, nodes_of-linked}
use Rattle.links.proofs.Edits.{put_in, links-split, put_linked, taken_linked}

-- the links and the front stand for the chain v
pub record Open (all : List (Option Links)) (front : Option ℕ) (v : ChainView) : Type 0 where
  pub linked : IsLinked all front v.nodes
  pub room : v.room ≡ length all

pub opened : (all : List (Option Links)) (front : Option ℕ) (v : ChainView) → record { nodes = nodes_of all front; room = length all } ≡ v → IsLinked all front (nodes_of all front) → Open all front v
opened all front v e s = let start : Open all front (record { nodes = nodes_of all front; room = length all }) = record { linked = s; room = refl } in subst (Open all front) e start

-- links that lead through some nodes lead through those that are seen
pub seen : (all : List (Option Links)) (front : Option ℕ) (xs : List ℕ) → IsLinked all front xs → IsLinked all front (nodes_of all front)
seen all front xs s = subst (IsLinked all front) (sym (nodes_of-linked all front xs s)) s

positive : (n : ℕ) → (n ≡ 0 → ⊥) → 1 ≤ n
positive zero h = absurd (h refl)
positive (suc n) h = omega arith

pub chain_of : (all : List (Option Links)) (front : Option ℕ) (xs : List ℕ) → IsLinked all front xs → IsChain (record { nodes = xs; room = length all })
chain_of all front xs s = record { once = λ x. let o = s.once x in let p = present_le (links_at all x) in omega arith; below = λ x h. inside_present all x (let o = s.once x in omega arith) }

pub inside_of : (all : List (Option Links)) (front : Option ℕ) (xs : List ℕ) (x : ℕ) → IsLinked all front xs → Contains xs x → x < length all
inside_of all front xs x s c = inside_present all x (let o = s.once x in let t = times-split xs x (split xs x c) in omega arith)

linked_as : (all : List (Option Links)) (front : Option ℕ) (xs ys : List ℕ) → xs ≡ ys → IsLinked all front xs → IsLinked all front ys
linked_as all front xs ys e s = subst (IsLinked all front) e s

pub next_told : (all : List (Option Links)) (front : Option ℕ) (xs : List ℕ) (x : ℕ) → IsLinked all front xs → IsNext xs x (next_in (links_at all x))
next_told all front xs x s before after e = ap next_in (links-split all front before x after (linked_as all front xs (before ++ x ∷ after) e s))

pub prev_told : (all : List (Option Links)) (front : Option ℕ) (xs : List ℕ) (x : ℕ) → IsLinked all front xs → IsPrev xs x (prev_in (links_at all x))
prev_told all front xs x s before after e = ap prev_in (links-split all front before x after (linked_as all front xs (before ++ x ∷ after) e s))

pub gap_before : (all : List (Option Links)) (front : Option ℕ) (xs : List ℕ) (x : ℕ) → IsLinked all front xs → Contains xs x → IsGap xs (prev_in (links_at all x)) (Some x)
gap_before all front xs x s c = let p = split xs x c in record { front = p.before; rest = x ∷ p.after; all = p.all; last = prev_told all front xs x s p.before p.after p.all; first = refl }

pub gap_after : (all : List (Option Links)) (front : Option ℕ) (xs : List ℕ) (x : ℕ) → IsLinked all front xs → Contains xs x → IsGap xs (Some x) (next_in (links_at all x))
gap_after all front xs x s c = let p = split xs x c in record {
  front = p.before ++ x ∷ [];
  rest = p.after;
  all = p.all ∙ sym (append_assoc p.before (x ∷ []) p.after);
  last = sym (last_or-append p.before x [] None);
  first = next_told all front xs x s p.before p.after p.all;
}

pub before_inside : (all : List (Option Links)) (front : Option ℕ) (xs : List ℕ) (before after : Option ℕ) → IsLinked all front xs → IsGap xs before after → ForSome before (λ i. i < length all)
before_inside all front xs before after s gap i e =
    let there : 1 ≤ times i gap.front = positive (times i gap.front) (λ z. last_of-differs i gap.front z (sym gap.last ∙ e)) in
    let t : times i xs ≡ times i gap.front + times i gap.rest = ap (times i) gap.all ∙ times-append i gap.front gap.rest in
    inside_present all i (let o = s.once i in omega arith)

pub after_inside : (all : List (Option Links)) (front : Option ℕ) (xs : List ℕ) (before after : Option ℕ) → IsLinked all front xs → IsGap xs before after → ForSome after (λ i. i < length all)
after_inside all front xs before after s gap i e =
    let there : 1 ≤ times i gap.rest = positive (times i gap.rest) (λ z. first_of-differs i gap.rest z (sym gap.first ∙ e)) in
    let t : times i xs ≡ times i gap.front + times i gap.rest = ap (times i) gap.all ∙ times-append i gap.front gap.rest in
    inside_present all i (let o = s.once i in omega arith)

pub front_inside : (all : List (Option Links)) (front : Option ℕ) (xs : List ℕ) → IsLinked all front xs → ForSome front (λ i. i < length all)
front_inside all front xs s = after_inside all front xs None front s (record { front = []; rest = xs; all = refl; last = refl; first = s.begins })

-- ---- put

pub put_links : (all : List (Option Links)) (front : Option ℕ) (xs : List ℕ) (before after : Option ℕ) (x : ℕ) → IsLinked all front xs → x < length all → (Contains xs x → ⊥)
    → (some : List (Option Links)) (now : Option ℕ) → some ≡ put_in all before x after → now ≡ front_after front before (Some x)
    → (ys zs : List ℕ) → xs ≡ ys ++ zs → before ≡ last_of ys → after ≡ first_of zs → IsLinked some now (ys ++ x ∷ zs)
put_links all front xs before after x s h out some now e f ys zs a b c =
    let none : times x (ys ++ zs) ≡ 0 = subst (λ w. times x w ≡ 0) a (times-out xs x out) in
    let put = put_linked all front ys zs x (linked_as all front xs (ys ++ zs) a s) none h in
    rw (e, f, b, c) put

count_le : (o : Option ℕ) → count_of o ≤ 1
count_le None = omega arith
count_le (Some x) = omega arith

pub counts : (node : ℕ) (xs : List ℕ) (old new : ℕ) (before after : Option ℕ) → new ≡ old + 1 + count_of before + count_of after → IsPrev xs node before → IsNext xs node after → CountsNeighbours node xs old new
counts node xs old new before after e p n = record {
  exact = λ b a h. rw (← p b a h, ← n b a h) e;
  some = omega arith;
  few = let x = count_le before in let y = count_le after in omega arith;
}

-- what a node that was put in has for neighbours
pub put_counts : (some : List (Option Links)) (now : Option ℕ) (ys zs : List ℕ) (x old new : ℕ) (before after : Option ℕ) → IsLinked some now (ys ++ x ∷ zs) → before ≡ last_of ys → after ≡ first_of zs
    → new ≡ old + 1 + count_of before + count_of after → CountsNeighbours x (nodes_of some now) old new
put_counts some now ys zs x old new before after s b c e =
    let k = links-split some now ys x zs s in
    let all = seen some now (ys ++ x ∷ zs) s in
    let p : prev_in (links_at some x) ≡ before = ap prev_in k ∙ sym b in
    let n : next_in (links_at some x) ≡ after = ap next_in k ∙ sym c in
    counts x (nodes_of some now) old new before after e (subst (IsPrev (nodes_of some now) x) p (prev_told some now _ x all)) (subst (IsNext (nodes_of some now) x) n (next_told some now _ x all))

-- ---- remove

pub taken_links : (all : List (Option Links)) (front : Option ℕ) (xs : List ℕ) (before after : Option ℕ) (x : ℕ) → IsLinked all front xs
    → before ≡ prev_in (links_at all x) → after ≡ next_in (links_at all x)
    → (some : List (Option Links)) (now : Option ℕ) → some ≡ taken_out all before x after → now ≡ front_after front before after
    → (ys zs : List ℕ) → xs ≡ ys ++ x ∷ zs → IsLinked some now (ys ++ zs)
taken_links all front xs before after x s b c some now e f ys zs a =
    let p : before ≡ last_of ys = b ∙ prev_told all front xs x s ys zs a in
    let n : after ≡ first_of zs = c ∙ next_told all front xs x s ys zs a in
    let out = taken_linked all front ys x zs (linked_as all front xs (ys ++ x ∷ zs) a s) in
    rw (e, f, p, n) out

-- ---- more room

at_none : (k x : ℕ) → links_at (replicate k None) x ≡ None
at_none zero x = refl
at_none (suc k) zero = refl
at_none (suc k) (suc x) = at_none k x

at_more : (all : List (Option Links)) (k x : ℕ) → links_at (all ++ replicate k None) x ≡ links_at all x
at_more [] k x = at_none k x
at_more (o ∷ all) k zero = refl
at_more (o ∷ all) k (suc x) = at_more all k x

presences-none : (k : ℕ) → presences (replicate k None) ≡ 0
presences-none zero = refl
presences-none (suc k) = let i = presences-none k in omega arith

presences-more : (all : List (Option Links)) (k : ℕ) → presences (all ++ replicate k None) ≡ presences all
presences-more [] k = presences-none k
presences-more (o ∷ all) k = let i = presences-more all k in omega arith

pub more_linked : (all : List (Option Links)) (front : Option ℕ) (xs : List ℕ) (k : ℕ) → IsLinked all front xs → IsLinked (all ++ replicate k None) front xs
more_linked all front xs k s = record {
  begins = s.begins;
  agrees = Agrees-same all (all ++ replicate k None) None xs None (λ x h. at_more all k x) s.agrees;
  once = λ x. s.once x ∙ ap present (sym (at_more all k x));
  counted = presences-more all k ∙ s.counted;
}

pub none_linked : (k : ℕ) → IsLinked (replicate k None) None []
none_linked k = record { begins = refl; agrees = tt; once = λ x. ap present (sym (at_none k x)); counted = presences-none k }

-- what is left of some links where the room was to grow
module _ {E : Type 0} (all some : List (Option Links)) (front : Option ℕ) (xs : List ℕ) (n : ℕ) (result : Result Unit E)
    (ok : OnOk result (some ≡ all ++ replicate (n - length all) None)) (err : OnErr result (some ≡ all)) (s : IsLinked all front xs) where
  grown : IsLinked some front xs
  grown = either_way result ok err where
    either_way : (r : Result Unit E) → OnOk r (some ≡ all ++ replicate (n - length all) None) → OnErr r (some ≡ all) → IsLinked some front xs
    either_way (Ok x) a b = subst (λ l. IsLinked l front xs) (sym a) (more_linked all front xs (n - length all) s)
    either_way (Err e) a b = subst (λ l. IsLinked l front xs) (sym b) s

  pub reserved_seen : IsLinked some front (nodes_of some front)
  reserved_seen = seen some front xs grown

  pub reserved_nodes : nodes_of some front ≡ xs
  reserved_nodes = nodes_of-linked some front xs grown
