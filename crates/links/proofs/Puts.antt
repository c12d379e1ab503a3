-- A node that is put beside another one: in which order its neighbours are written makes no difference.
use Rattle.std.proofs.Common.{◌≡◌, ◌≢◌, ℕ, zero, suc, ◌+◌, List, [], ◌∷◌, ◌++◌, set, Option, Some, None, Contains, refl, sym, ap, subst, ◌∙◌, arith}
use Rattle.std.proofs.lemmas.List.{get_or-set_other}
use Rattle.links.specs.declared.table.Links.{Links}
use Rattle.links.specs.Nodes.{times, first_of, last_of}
use Rattle.links.specs.Links.{links_at, next_in, prev_in, IsLinked, with_next, with_prev, prev_set, next_set, put_first, put_before, put_after}
use Rattle.links.proofs.NodeLemmas.{split, times-out, times-append, times-here, last_of-differs, first_of-differs}
use Rattle.links.proofs.LinkLemmas.{present_le}
use Rattle.links.proofs.Edits.{put_in}
use Rattle.links.proofs.Calls.{prev_told, next_told}

-- two writes to different places
set_swap : {X : Type 0} (xs : List X) (i j : ℕ) (a b : X) → i ≢ j → set (set xs i a) j b ≡ set (set xs j b) i a
set_swap [] i j a b d = refl
set_swap (y ∷ ys) zero zero a b d = absurd (d refl)
set_swap (y ∷ ys) zero (suc j) a b d = refl
set_swap (y ∷ ys) (suc i) zero a b d = refl
set_swap (y ∷ ys) (suc i) (suc j) a b d = ap (λ zs. y ∷ zs) (set_swap ys i j a b (λ e. d (ap suc e)))

module _ (all : List (Option Links)) (x : ℕ) where
  -- the node at gets x as its next one, before or after x gets its links
  next_swap : (e : Option Links) (o v : Option ℕ) → o ≢ Some x → set (next_set all o v) x e ≡ next_set (set all x e) o v
  next_swap e None v d = refl
  next_swap e (Some i) v d =
      let ne : i ≢ x = λ s. d (ap Some s) in
      set_swap all i x (with_next (links_at all i) v) e ne ∙ ap (λ l. set (set all x e) i (with_next l v)) (sym (get_or-set_other all x i e None ne))

  prev_swap : (e : Option Links) (o v : Option ℕ) → o ≢ Some x → set (prev_set all o v) x e ≡ prev_set (set all x e) o v
  prev_swap e None v d = refl
  prev_swap e (Some i) v d =
      let ne : i ≢ x = λ s. d (ap Some s) in
      set_swap all i x (with_prev (links_at all i) v) e ne ∙ ap (λ l. set (set all x e) i (with_prev l v)) (sym (get_or-set_other all x i e None ne))

-- a node gets a next one, and another one a previous one, in either order
sides_swap : (all : List (Option Links)) (o p v w : Option ℕ) → ((i : ℕ) → o ≡ Some i → p ≢ Some i) → next_set (prev_set all p w) o v ≡ prev_set (next_set all o v) p w
sides_swap all None p v w d = refl
sides_swap all (Some i) None v w d = refl
sides_swap all (Some i) (Some j) v w d =
    let ne : j ≢ i = λ s. d i refl (ap Some s) in let back : i ≢ j = λ s. ne (sym s) in
    let a = get_or-set_other all j i (with_prev (links_at all j) w) None back in
    let b = get_or-set_other all i j (with_next (links_at all i) v) None ne in
    ap (λ l. set (set all j (with_prev (links_at all j) w)) i (with_next l v)) a
    ∙ set_swap all j i (with_prev (links_at all j) w) (with_next (links_at all i) v) ne
    ∙ ap (λ l. set (set all i (with_next (links_at all i) v)) j (with_prev l w)) (sym b)

module _ (all : List (Option Links)) (front : Option ℕ) (xs : List ℕ) (x : ℕ) (s : IsLinked all front xs) (out : Contains xs x → ⊥) where
  none : (ys zs : List ℕ) → xs ≡ ys ++ zs → times x ys + times x zs ≡ 0
  none ys zs e = sym (times-append x ys zs) ∙ (ap (times x) (sym e) ∙ times-out xs x out)

  apart : (at : ℕ) → Contains xs at → Some at ≢ Some x
  apart at c e = out (subst (λ y. Contains xs y) (let inner : at ≡ x = cc in inner) c)

  pub put_first_is : put_first all x front ≡ put_in all None x front
  put_first_is =
      let d : front ≢ Some x = λ e. first_of-differs x xs (times-out xs x out) (sym s.begins ∙ e) in
      prev_swap all x (Some (record { prev = None; next = front })) front (Some x) d

  module _ (at : ℕ) (c : Contains xs at) where
    pub put_before_is : (before : Option ℕ) → before ≡ prev_in (links_at all at) → put_before all at x before ≡ put_in all before x (Some at)
    put_before_is before e =
        let p = split xs at c in
        let last : before ≡ last_of p.before = e ∙ prev_told all front xs at s p.before p.after p.all in
        let d : before ≢ Some x = λ h. last_of-differs x p.before (omega (arith, none p.before (at ∷ p.after) p.all)) (sym last ∙ h) in
        let once : times at p.before ≡ 0 = let o = s.once at in let q = present_le (links_at all at) in let t : times at xs ≡ times at p.before + times at (at ∷ p.after) = ap (times at) p.all ∙ times-append at p.before (at ∷ p.after) in let h = times-here at p.after in omega arith in
        let other : before ≢ Some at = λ h. last_of-differs at p.before once (sym last ∙ h) in
        let e1 : Option Links = Some (record { prev = before; next = Some at }) in
        next_swap (prev_set all (Some at) (Some x)) x e1 before (Some x) d
        ∙ ap (λ l. next_set l before (Some x)) (prev_swap all x e1 (Some at) (Some x) (apart at c))
        ∙ sides_swap (set all x e1) before (Some at) (Some x) (Some x) (λ i h k. other (h ∙ sym k))

    pub put_after_is : (after : Option ℕ) → after ≡ next_in (links_at all at) → put_after all at x after ≡ put_in all (Some at) x after
    put_after_is after e =
        let p = split xs at c in
        let first : after ≡ first_of p.after = e ∙ next_told all front xs at s p.before p.after p.all in
        let n = none p.before (at ∷ p.after) p.all in
        let d : after ≢ Some x = λ h. first_of-differs x p.after (let m = n in omega arith) (sym first ∙ h) in
        let e1 : Option Links = Some (record { prev = Some at; next = after }) in
        prev_swap (next_set all (Some at) (Some x)) x e1 after (Some x) d
        ∙ ap (λ l. prev_set l after (Some x)) (next_swap all x e1 (Some at) (Some x) (apart at c))
