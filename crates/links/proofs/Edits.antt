-- A node is put in or taken out.
use Rattle.std.proofs.Common.{◌≡◌, ℕ, ◌+◌, ◌<◌, ◌≤◌, inl, inr, List, [], ◌∷◌, ◌++◌, length, set, Option, Some, None, refl, sym, ap, subst, ◌∙◌, arith, length-append}
use Rattle.std.proofs.lemmas.List.{get_or-set_same, get_or-set_other}
use Rattle.std.proofs.lemmas.Bool.Decides.{eqb_tells}
use Rattle.links.specs.declared.table.Links.{Links}
use Rattle.links.specs.Nodes.{times, first_or, last_or, first_of, last_of}
use Rattle.links.specs.Links.{links_at, present, Agrees, IsLinked, relinked, taken_out, front_after}
use Rattle.links.proofs.NodeLemmas.{times-append, times-here, first_or-append}
use Rattle.links.proofs.LinkLemmas.{inside, Agrees-other, Agrees-front, Agrees-rest, Agrees-append, presences-set, present_le, SameNodes-relinked, relinked_rejoins}

stays : (front o : Option ℕ) (x : ℕ) (xs : List ℕ) (v : Option ℕ) → front ≡ o → front_after front (last_or xs (Some x)) v ≡ o
stays front o x [] v e = e
stays front o x (y ∷ ys) v e = stays front o y ys v e

begins_with : (front : Option ℕ) (xs ys : List ℕ) (v : Option ℕ) → front ≡ first_of (xs ++ ys) → front_after front (last_of xs) v ≡ first_or xs v
begins_with front [] ys v e = refl
begins_with front (x ∷ xs) ys v e = stays front (Some x) x xs v e

-- node x between two neighbours
abbrev pub put_in : List (Option Links) → Option ℕ → ℕ → Option ℕ → List (Option Links)
put_in all before x after = relinked (set all x (Some (record { prev = before; next = after }))) before (Some x) after (Some x)

pub links-split : (all : List (Option Links)) (front : Option ℕ) (xs : List ℕ) (x : ℕ) (ys : List ℕ) → IsLinked all front (xs ++ x ∷ ys) → links_at all x ≡ Some (record { prev = last_of xs; next = first_of ys })
links-split all front xs x ys s = (Agrees-rest all None xs (x ∷ ys) None s.agrees).0

pub put_linked : (all : List (Option Links)) (front : Option ℕ) (xs ys : List ℕ) (x : ℕ) → IsLinked all front (xs ++ ys) → times x (xs ++ ys) ≡ 0 → x < length all
    → IsLinked (put_in all (last_of xs) x (first_of ys)) (front_after front (last_of xs) (Some x)) (xs ++ x ∷ ys)
put_linked all front xs ys x s out h =
    let new : Option Links = Some (record { prev = last_of xs; next = first_of ys }) in
    let one : List (Option Links) = set all x new in
    let outs = times-append x xs ys in
    let a : Agrees one None xs (first_of ys) = Agrees-other all x new None xs (first_of ys) (omega arith) (Agrees-front all None xs ys None s.agrees) in
    let b : Agrees one (last_of xs) ys None = Agrees-other all x new (last_of xs) ys None (omega arith) (Agrees-rest all None xs ys None s.agrees) in
    let once : (k : ℕ) → times k xs + times k ys ≤ 1 = λ k. let t = times-append k xs ys in let o = s.once k in let p = present_le (links_at all k) in omega arith in
    let r = relinked_rejoins one xs ys (Some x) (Some x) (last_of xs) (first_of ys) once a b in
    let m : List (Option Links) = put_in all (last_of xs) x (first_of ys) in
    let same = SameNodes-relinked one (last_of xs) (Some x) (first_of ys) (Some x) in
    let here : links_at one x ≡ new = get_or-set_same all x new None h in
    let here2 : links_at m x ≡ new = let o = r.others x (omega arith) (omega arith) in cc in
    record {
      begins = let e = begins_with front xs ys (Some x) s.begins in let f = first_or-append xs (x ∷ ys) None in cc;
      agrees = Agrees-append m None xs (x ∷ ys) None r.front (here2, r.rest);
      once = λ k. let t = times-append k xs (x ∷ ys) in let t2 = times-append k xs ys in let p = same.present k in let o = s.once k in elim (eqb_tells x k) [
        | inl w ↦ let t3 = rw w.0 at t in let p2 : present (links_at m k) ≡ 1 = p ∙ subst (λ z. present (links_at one z) ≡ 1) w.1 (ap present here) in let out2 : times k (xs ++ ys) ≡ 0 = subst (λ z. times z (xs ++ ys) ≡ 0) w.1 out in omega arith
        | inr w ↦ let t3 = rw w.0 at t in let q = get_or-set_other all x k new None (λ e. w.1 (sym e)) in let q2 = ap present q in omega arith
      ];
      counted = let p = presences-set all x new h in let o = s.once x in let q = same.presences in let c = s.counted in let l = length-append xs ys in let l2 = length-append xs (x ∷ ys) in omega arith;
    }

pub taken_linked : (all : List (Option Links)) (front : Option ℕ) (xs : List ℕ) (x : ℕ) (ys : List ℕ) → IsLinked all front (xs ++ x ∷ ys)
    → IsLinked (taken_out all (last_of xs) x (first_of ys)) (front_after front (last_of xs) (first_of ys)) (xs ++ ys)
taken_linked all front xs x ys s =
    let one : List (Option Links) = set all x None in
    let there = links-split all front xs x ys s in
    let h = inside all x _ there in
    let all_times : (k : ℕ) → times k (xs ++ x ∷ ys) ≡ times k xs + times k (x ∷ ys) = λ k. times-append k xs (x ∷ ys) in
    let mine : times x (x ∷ ys) ≡ 1 + times x ys = times-here x ys in
    let outs : times x xs + times x ys ≡ 0 = let t = all_times x in let o = s.once x in let p = present_le (links_at all x) in omega arith in
    let a : Agrees one None xs (Some x) = Agrees-other all x None None xs (Some x) (omega arith) (Agrees-front all None xs (x ∷ ys) None s.agrees) in
    let b : Agrees one (Some x) ys None = Agrees-other all x None (Some x) ys None (omega arith) (Agrees-rest all None xs (x ∷ ys) None s.agrees).1 in
    let once : (k : ℕ) → times k xs + times k ys ≤ 1 = λ k. let t = all_times k in let o = s.once k in let p = present_le (links_at all k) in omega arith in
    let r = relinked_rejoins one xs ys (first_of ys) (last_of xs) (Some x) (Some x) once a b in
    let m : List (Option Links) = taken_out all (last_of xs) x (first_of ys) in
    let same = SameNodes-relinked one (last_of xs) (first_of ys) (first_of ys) (last_of xs) in
    let here : links_at one x ≡ None = get_or-set_same all x None None h in
    record {
      begins = let e = begins_with front xs (x ∷ ys) (first_of ys) s.begins in let f = first_or-append xs ys None in cc;
      agrees = Agrees-append m None xs ys None r.front r.rest;
      once = λ k. let t = all_times k in let t2 = times-append k xs ys in let p = same.present k in let o = s.once k in elim (eqb_tells x k) [
        | inl w ↦ let p2 : present (links_at m k) ≡ 0 = p ∙ subst (λ z. present (links_at one z) ≡ 0) w.1 (ap present here) in let outs2 : times k xs + times k ys ≡ 0 = subst (λ z. times z xs + times z ys ≡ 0) w.1 outs in omega arith
        | inr w ↦ let t3 = rw w.0 at t in let q = get_or-set_other all x k None None (λ e. w.1 (sym e)) in let q2 = ap present q in omega arith
      ];
      counted = let p = presences-set all x None h in let e = ap present there in let q = same.presences in let c = s.counted in let l = length-append xs ys in let l2 = length-append xs (x ∷ ys) in omega arith;
    }
