-- Nodes in rising order of rank, when the rank of one changes.
use Rattle.std.proofs.Common.{◌≡◌, ◌≢◌, ℕ, ◌+◌, ◌<◌, ◌≤◌, inl, inr, cond, eqb, List, [], ◌∷◌, ◌++◌, Option, Some, None, refl, sym, ap, subst, ◌∙◌, arith, append_assoc}
use Rattle.std.proofs.lemmas.Bool.Decides.{eqb_tells, leb_tells}
use Rattle.links.specs.Nodes.{times, last_of}
use Rattle.links.proofs.CallerLemmas.{times-append, times-here, last_or-append}
use Rattle.ranks.specs.Ranks.{either, if_rank, last_with, Rising, without_node, put_by, kept_before}

-- ---- one node

pub rank_here : (r : ℕ → ℕ) (f x : ℕ) → r x ≡ f → if_rank r f x ≡ Some x
rank_here r f x e = elim (eqb_tells (r x) f) [ inl w ↦ rw w.0 refl | inr w ↦ absurd (w.1 e) ]

pub rank_other : (r : ℕ → ℕ) (f x : ℕ) → r x ≢ f → if_rank r f x ≡ None
rank_other r f x n = elim (eqb_tells (r x) f) [ inl w ↦ absurd (n w.1) | inr w ↦ rw w.0 refl ]

pub either_none : (o : Option ℕ) → either o None ≡ o
either_none None = refl
either_none (Some x) = refl

either_assoc : (a b c : Option ℕ) → either (either a b) c ≡ either a (either b c)
either_assoc None b c = refl
either_assoc (Some x) b c = refl

pub differs_out : (x y : ℕ) (ys : List ℕ) → times x (y ∷ ys) ≡ 0 → (y ≢ x) × (times x ys ≡ 0)
differs_out x y ys h = ((λ e. let t = times-here x ys in let h2 = subst (λ z. times x (z ∷ ys) ≡ 0) e h in absurd (omega arith)), omega arith)

-- ---- last nodes

pub last-append : (r : ℕ → ℕ) (f : ℕ) (xs ys : List ℕ) → last_with r f (xs ++ ys) ≡ either (last_with r f ys) (last_with r f xs)
last-append r f [] ys = sym (either_none (last_with r f ys))
last-append r f (x ∷ xs) ys = ap (λ o. either o (if_rank r f x)) (last-append r f xs ys) ∙ either_assoc (last_with r f ys) (last_with r f xs) (if_rank r f x)

-- no node of another rank is the last one
pub last_none : (r : ℕ → ℕ) (f : ℕ) (xs : List ℕ) → ((x : ℕ) → 1 ≤ times x xs → r x ≢ f) → last_with r f xs ≡ None
last_none r f [] all = refl
last_none r f (x ∷ xs) all =
    let first = rank_other r f x (all x (let t = times-here x xs in omega arith)) in
    let rest = last_none r f xs (λ y h. all y (omega arith)) in
    (λ i. either (rest i) (first i))

-- the last node of a rank has it, and stands there with none of the rank behind it
pub record LastAt (r : ℕ → ℕ) (f y : ℕ) (xs : List ℕ) : Type 0 where
  pub before : List ℕ
  pub after : List ℕ
  pub all : xs ≡ before ++ y ∷ after
  pub rank : r y ≡ f
  pub none : last_with r f after ≡ None

pub some_one : (x y : ℕ) → Some x ≡ Some y → x ≡ y
some_one x y e = cc

pub last_at : (r : ℕ → ℕ) (f y : ℕ) (xs : List ℕ) → last_with r f xs ≡ Some y → LastAt r f y xs
last_at r f y [] e = absurd (cc)
last_at r f y (x ∷ xs) e = by (last_at r f y xs) (last_with r f xs) refl where
  by : (last_with r f xs ≡ Some y → LastAt r f y xs) → (o : Option ℕ) → last_with r f xs ≡ o → LastAt r f y (x ∷ xs)
  by rest (Some z) s =
      let same : z ≡ y = some_one z y (sym (ap (λ o. either o (if_rank r f x)) s) ∙ e) in
      let l = rest (s ∙ ap Some same) in
      record { before = x ∷ l.before; after = l.after; all = ap (λ ys. x ∷ ys) l.all; rank = l.rank; none = l.none }
  by rest None s =
      let here : if_rank r f x ≡ Some y = sym (ap (λ o. either o (if_rank r f x)) s) ∙ e in
      elim (eqb_tells (r x) f) [
        | inl w ↦
            let same : x ≡ y = some_one x y (sym (rank_here r f x w.1) ∙ here) in
            record { before = []; after = xs; all = ap (λ z. z ∷ xs) same; rank = subst (λ z. r z ≡ f) same w.1; none = s }
        | inr w ↦ let n = sym (rank_other r f x w.1) ∙ here in absurd (cc)
      ]

-- ---- a node of another rank makes no difference

module _ (r s : ℕ → ℕ) (node : ℕ) (same : (x : ℕ) → x ≢ node → s x ≡ r x) where
  pub last_same : (f : ℕ) (xs : List ℕ) → times node xs ≡ 0 → last_with s f xs ≡ last_with r f xs
  last_same f [] out = refl
  last_same f (x ∷ xs) out =
      let d = differs_out node x xs out in let rest = last_same f xs d.1 in let e = same x d.0 in
      (λ i. either (rest i) (cond (eqb (e i) f) (Some x) None))

  pub rising_same : (low : ℕ) (xs : List ℕ) → times node xs ≡ 0 → Rising r low xs → Rising s low xs
  rising_same low [] out h = tt
  rising_same low (x ∷ xs) out h =
      let d = differs_out node x xs out in let e = same x d.0 in
      ((let l = h.0 in omega arith), subst (λ n. Rising s n xs) (sym e) (rising_same (r x) xs d.1 h.1))

-- ---- order

pub rising_least : (r : ℕ → ℕ) (low : ℕ) (xs : List ℕ) → Rising r low xs → (x : ℕ) → 1 ≤ times x xs → low ≤ r x
rising_least r low [] h x t = absurd (omega arith)
rising_least r low (y ∷ ys) h x t = elim (eqb_tells y x) [
  | inl w ↦ subst (λ z. low ≤ r z) w.1 h.0
  | inr w ↦ let t2 = rw w.0 at t in let i = rising_least r (r y) ys h.1 x (omega arith) in let l = h.0 in omega arith
]

pub rising_lower : (r : ℕ → ℕ) (low less : ℕ) (xs : List ℕ) → less ≤ low → Rising r low xs → Rising r less xs
rising_lower r low less [] le h = tt
rising_lower r low less (x ∷ xs) le h = ((let l = h.0 in omega arith), h.1)

-- the parts of a list around a node
pub record Around (r : ℕ → ℕ) (low : ℕ) (before : List ℕ) (x : ℕ) (after : List ℕ) : Type 0 where
  pub front : Rising r low before
  pub most : (y : ℕ) → 1 ≤ times y before → r y ≤ r x
  pub here : low ≤ r x
  pub back : Rising r (r x) after

pub around : (r : ℕ → ℕ) (low : ℕ) (before : List ℕ) (x : ℕ) (after : List ℕ) → Rising r low (before ++ x ∷ after) → Around r low before x after
around r low [] x after h = record { front = tt; most = λ y t. absurd (omega arith); here = h.0; back = h.1 }
around r low (b ∷ before) x after h =
    let a = around r (r b) before x after h.1 in
    record {
      front = (h.0, a.front);
      most = λ y t. elim (eqb_tells b y) [
        | inl w ↦ subst (λ z. r z ≤ r x) w.1 a.here
        | inr w ↦ let t2 = rw w.0 at t in a.most y (omega arith)
      ];
      here = (let l = h.0 in let m = a.here in omega arith);
      back = a.back;
    }

pub rising_join : (r : ℕ → ℕ) (low : ℕ) (before : List ℕ) (x : ℕ) (after : List ℕ) → Rising r low before → ((y : ℕ) → 1 ≤ times y before → r y ≤ r x) → low ≤ r x → Rising r (r x) after → Rising r low (before ++ x ∷ after)
rising_join r low [] x after f m h b = (h, b)
rising_join r low (y ∷ before) x after f m h b = (f.0, rising_join r (r y) before x after f.1 (λ z t. m z (omega arith)) (m y (let t = times-here y before in omega arith)) b)

pub rising_append : (r : ℕ → ℕ) (low : ℕ) (xs ys : List ℕ) → Rising r low (xs ++ ys) → Rising r low xs
rising_append r low [] ys h = tt
rising_append r low (x ∷ xs) ys h = (h.0, rising_append r (r x) xs ys h.1)

-- what is put goes between the nodes of lesser rank and the others
pub put_between : (r : ℕ → ℕ) (x : ℕ) (xs ys : List ℕ) → ((y : ℕ) → 1 ≤ times y xs → r y < r x) → ((y : ℕ) → 1 ≤ times y ys → r x ≤ r y) → put_by r x (xs ++ ys) ≡ xs ++ x ∷ ys
put_between r x [] [] less more = refl
put_between r x [] (y ∷ ys) less more = elim (leb_tells (r x) (r y)) [ inl w ↦ rw w.0 refl | inr w ↦ let m = more y (let t = times-here y ys in omega arith) in absurd (omega arith) ]
put_between r x (z ∷ zs) ys less more = elim (leb_tells (r x) (r z)) [
  | inl w ↦ let l = less z (let t = times-here z zs in omega arith) in absurd (omega arith)
  | inr w ↦ rw w.0 (ap (λ l. z ∷ l) (put_between r x zs ys (λ y t. less y (omega arith)) more))
]

pub without_here : (x : ℕ) (before after : List ℕ) → times x before ≡ 0 → without_node x (before ++ x ∷ after) ≡ before ++ after
without_here x [] after out = elim (eqb_tells x x) [ inl w ↦ rw w.0 refl | inr w ↦ absurd (w.1 refl) ]
without_here x (b ∷ before) after out =
    let d = differs_out x b before out in
    elim (eqb_tells b x) [ inl w ↦ absurd (d.0 w.1) | inr w ↦ rw w.0 (ap (λ l. b ∷ l) (without_here x before after d.1)) ]

-- ---- the last of a rank in front of a node with this or a higher rank

pub record EndsIn (xs : List ℕ) (b : ℕ) : Type 0 where
  pub init : List ℕ
  pub is : xs ≡ init ++ b ∷ []

ends : (x : ℕ) (xs : List ℕ) → (b : ℕ) × EndsIn (x ∷ xs) b
ends x [] = (x, record { init = []; is = refl })
ends x (y ∷ ys) = let e = ends y ys in (e.0, record { init = x ∷ e.1.init; is = ap (λ l. x ∷ l) e.1.is })

last_tail : (r : ℕ → ℕ) (f low : ℕ) (init : List ℕ) (b : ℕ) → Rising r low (init ++ b ∷ []) → ((y : ℕ) → 1 ≤ times y (init ++ b ∷ []) → r y ≤ f) → last_with r f (init ++ b ∷ []) ≡ kept_before r f (last_of (init ++ b ∷ []))
last_tail r f low init b h most =
    let split = last-append r f init (b ∷ []) in
    let end : last_of (init ++ b ∷ []) ≡ Some b = last_or-append init b [] None in
    let a = around r low init b [] h in
    elim (eqb_tells (r b) f) [
      | inl w ↦ split ∙ (ap (λ o. either o (last_with r f init)) (rank_here r f b w.1) ∙ (sym (rank_here r f b w.1) ∙ ap (kept_before r f) (sym end)))
      | inr w ↦
          let ne = w.1 in
          let few : r b ≤ f = most b (let t = times-append b init (b ∷ []) in let u = times-here b [] in omega arith) in
          let none = last_none r f init (λ y t e. let m = a.most y t in absurd (omega arith)) in
          split ∙ (ap (λ o. either o (last_with r f init)) (rank_other r f b w.1) ∙ (none ∙ (sym (rank_other r f b w.1) ∙ ap (kept_before r f) (sym end))))
    ]

-- it is the last of all nodes there, or none
pub last_front : (r : ℕ → ℕ) (f low : ℕ) (xs : List ℕ) → Rising r low xs → ((y : ℕ) → 1 ≤ times y xs → r y ≤ f) → last_with r f xs ≡ kept_before r f (last_of xs)
last_front r f low [] h most = refl
last_front r f low (x ∷ xs) h most =
    let e = ends x xs in let is = e.1.is in
    subst (λ l. last_with r f l ≡ kept_before r f (last_of l)) (sym is) (last_tail r f low e.1.init e.0 (subst (Rising r low) is h) (λ y t. most y (subst (λ l. 1 ≤ times y l) (sym is) t)))

-- no node has a rank that has no last node
pub none_rank : (r : ℕ → ℕ) (f : ℕ) (xs : List ℕ) → last_with r f xs ≡ None → (y : ℕ) → 1 ≤ times y xs → r y ≢ f
none_rank r f [] none y t = absurd (omega arith)
none_rank r f (x ∷ xs) none y t = by (λ e. none_rank r f xs e y) (last_with r f xs) refl where
  by : (last_with r f xs ≡ None → 1 ≤ times y xs → r y ≢ f) → (o : Option ℕ) → last_with r f xs ≡ o → r y ≢ f
  by rest (Some z) e = let w : Some z ≡ None = sym (ap (λ o. either o (if_rank r f x)) e) ∙ none in absurd (cc)
  by rest None e = elim (eqb_tells x y) [
    | inl w ↦ λ is.
        let here : if_rank r f x ≡ Some x = rank_here r f x (ap r w.1 ∙ is) in
        let z : Some x ≡ None = sym here ∙ (sym (ap (λ o. either o (if_rank r f x)) e) ∙ none) in absurd (cc)
    | inr w ↦ let t2 = rw w.0 at t in rest e (omega arith)
  ]

pub rising_raise : (r : ℕ → ℕ) (low more : ℕ) (xs : List ℕ) → Rising r low xs → ((y : ℕ) → 1 ≤ times y xs → more ≤ r y) → Rising r more xs
rising_raise r low more [] h all = tt
rising_raise r low more (x ∷ xs) h all = (all x (let t = times-here x xs in omega arith), h.1)

pub rising_concat : (r : ℕ → ℕ) (low m : ℕ) (xs ys : List ℕ) → Rising r low xs → ((y : ℕ) → 1 ≤ times y xs → r y ≤ m) → low ≤ m → Rising r m ys → Rising r low (xs ++ ys)
rising_concat r low m [] ys h most le rest = rising_lower r m low ys le rest
rising_concat r low m (x ∷ xs) ys h most le rest = (h.0, rising_concat r (r x) m xs ys h.1 (λ y t. most y (omega arith)) (most x (let t = times-here x xs in omega arith)) rest)

-- the node of rank f by r goes between nodes of ranks up to f and others above, with rank f + 1 by s
pub record RaisedTo (r s : ℕ → ℕ) (node f : ℕ) (old new front : List ℕ) : Type 0 where
  pub rising : Rising s 1 new
  pub placed : new ≡ put_by s node (without_node node old)
  pub above : last_with s (f + 1) new ≡ either (last_with r (f + 1) old) (Some node)
  pub other : (g : ℕ) → g ≢ f → g ≢ f + 1 → last_with s g new ≡ last_with r g old
  pub here : last_with s f new ≡ last_with r f front

-- ---- a rank that rises by one

module _ (r s : ℕ → ℕ) (node f : ℕ) (was : r node ≡ f) (is : s node ≡ f + 1) (same : (x : ℕ) → x ≢ node → s x ≡ r x) where
  not_node : (x : ℕ) (xs : List ℕ) → times node xs ≡ 0 → 1 ≤ times x xs → x ≢ node
  not_node x xs out t e = let h : times x xs ≡ times node xs = ap (λ y. times y xs) e in absurd (omega arith)

  module _ (b a p q : List ℕ) (out_b : times node b ≡ 0) (out_a : times node a ≡ 0) (parts : b ++ a ≡ p ++ q) (low : 1 ≤ f) (front : Rising r 1 p) (most : (y : ℕ) → 1 ≤ times y p → r y ≤ f) (back : Rising r (f + 1) q) where
    out_p : times node p ≡ 0
    out_p = let t = times-append node b a in let u = times-append node p q in let e = ap (times node) parts in omega arith

    out_q : times node q ≡ 0
    out_q = let t = times-append node b a in let u = times-append node p q in let e = ap (times node) parts in omega arith

    above_q : (y : ℕ) → 1 ≤ times y q → f + 1 ≤ r y
    above_q y t = rising_least r (f + 1) q back y t

    -- the last nodes before and now
    old_is : (g : ℕ) → g ≢ f → last_with r g (b ++ node ∷ a) ≡ either (last_with r g q) (last_with r g p)
    old_is g other =
        last-append r g b (node ∷ a)
        ∙ (ap (λ o. either (either (last_with r g a) o) (last_with r g b)) (rank_other r g node (λ e. other (sym e ∙ was)))
        ∙ (ap (λ o. either o (last_with r g b)) (either_none (last_with r g a))
        ∙ (sym (last-append r g b a) ∙ (ap (last_with r g) parts ∙ last-append r g p q))))

    new_is : (g : ℕ) → last_with s g (p ++ node ∷ q) ≡ either (either (last_with r g q) (if_rank s g node)) (last_with r g p)
    new_is g = last-append s g p (node ∷ q) ∙ (λ i. either (either (last_same r s node same g q out_q i) (if_rank s g node)) (last_same r s node same g p out_p i))

    p_above : last_with r (f + 1) p ≡ None
    p_above = last_none r (f + 1) p (λ y t e. let m = most y t in absurd (omega arith))

    q_here : last_with r f q ≡ None
    q_here = last_none r f q (λ y t e. let m = above_q y t in absurd (omega arith))

    pub raised : RaisedTo r s node f (b ++ node ∷ a) (p ++ node ∷ q) p
    raised = record {
      rising = rising_join s 1 p node q (rising_same r s node same 1 p out_p front) (λ y t. let m = most y t in let e = same y (not_node y p out_p t) in omega arith) (omega arith) (subst (λ n. Rising s n q) (sym is) (rising_same r s node same (f + 1) q out_q back));
      placed = sym (ap (put_by s node) (without_here node b a out_b ∙ parts)
          ∙ put_between s node p q (λ y t. let m = most y t in let e = same y (not_node y p out_p t) in omega arith) (λ y t. let m = above_q y t in let e = same y (not_node y q out_q t) in omega arith));
      above =
          let o = old_is (f + 1) (λ e. absurd (omega arith)) ∙ (ap (either (last_with r (f + 1) q)) p_above ∙ either_none (last_with r (f + 1) q)) in
          new_is (f + 1) ∙ (ap (λ x. either (either (last_with r (f + 1) q) x) (last_with r (f + 1) p)) (rank_here s (f + 1) node is)
          ∙ (ap (either (either (last_with r (f + 1) q) (Some node))) p_above ∙ (either_none (either (last_with r (f + 1) q) (Some node)) ∙ ap (λ x. either x (Some node)) (sym o))));
      other = λ g n m.
          new_is g ∙ (ap (λ x. either (either (last_with r g q) x) (last_with r g p)) (rank_other s g node (λ e. m (sym e ∙ is))) ∙ (ap (λ x. either x (last_with r g p)) (either_none (last_with r g q)) ∙ sym (old_is g n)));
      here =
          new_is f ∙ (ap (λ x. either (either (last_with r f q) x) (last_with r f p)) (rank_other s f node (λ e. absurd (omega arith))) ∙ ap (λ x. either (either x None) (last_with r f p)) q_here);
    }

  -- the two cases
  module _ (b a : List ℕ) (out_b : times node b ≡ 0) (out_a : times node a ≡ 0) (rising : Rising r 1 (b ++ node ∷ a)) where
    apart : Around r 1 b node a
    apart = around r 1 b node a rising

    some_rank : 1 ≤ f
    some_rank = let h = (apart).here in omega arith

    all_last : last_with r f (b ++ node ∷ a) ≡ either (last_with r f a) (Some node)
    all_last = last-append r f b (node ∷ a) ∙ (ap (λ o. either (either (last_with r f a) o) (last_with r f b)) (rank_here r f node was) ∙ first (last_with r f a)) where
      first : (o : Option ℕ) → either (either o (Some node)) (last_with r f b) ≡ either o (Some node)
      first None = refl
      first (Some x) = refl

    -- it is the last one of its rank, and stays where it is
    pub raised_here : last_with r f (b ++ node ∷ a) ≡ Some node → RaisedTo r s node f (b ++ node ∷ a) (b ++ node ∷ a) b
    raised_here e = by (last_with r f a) refl where
      by : (o : Option ℕ) → last_with r f a ≡ o → RaisedTo r s node f (b ++ node ∷ a) (b ++ node ∷ a) b
      by None n =
          raised b a b a out_b out_a refl some_rank (apart).front (λ y t. let m = (apart).most y t in omega arith)
          (rising_raise r (r node) (f + 1) a (apart).back (λ y t. let l = rising_least r (r node) a (apart).back y t in let d = none_rank r f a n y t in omega arith))
      by (Some z) n =
          let same_node : z ≡ node = some_one z node (sym (all_last ∙ ap (λ o. either o (Some node)) n) ∙ e) in
          let l = last_at r f z a n in
          let t = times-append z l.before (z ∷ l.after) in let u = times-here z l.after in
          let there : 1 ≤ times z a = subst (λ xs. 1 ≤ times z xs) (sym l.all) (omega arith) in
          absurd (not_node z a out_a there same_node)

    -- it is not, and goes behind that one
    pub record Behind (last : ℕ) : Type 0 where
      pub before : List ℕ
      pub after : List ℕ
      pub all : b ++ a ≡ before ++ last ∷ after
      pub raised : RaisedTo r s node f (b ++ node ∷ a) (before ++ last ∷ node ∷ after) (before ++ last ∷ [])
      pub last_is : last_with r f (before ++ last ∷ []) ≡ Some last

    pub raised_behind : (last : ℕ) → last_with r f (b ++ node ∷ a) ≡ Some last → last ≢ node → Behind last
    raised_behind last e other = by (last_with r f a) refl where
      by : (o : Option ℕ) → last_with r f a ≡ o → Behind last
      by None n = let w : Some node ≡ Some last = sym (all_last ∙ ap (λ o. either o (Some node)) n) ∙ e in absurd (other (sym (some_one node last w)))
      by (Some z) n =
          let same_last : z ≡ last = some_one z last (sym (all_last ∙ ap (λ o. either o (Some node)) n) ∙ e) in
          let l = last_at r f last a (n ∙ ap Some same_last) in
          let joined : Rising r 1 (b ++ a) = rising_concat r 1 (r node) b a (apart).front (apart).most (apart).here (apart).back in
          let all : b ++ a ≡ (b ++ l.before) ++ last ∷ l.after = ap (λ xs. b ++ xs) l.all ∙ sym (append_assoc b l.before (last ∷ l.after)) in
          let split = around r 1 (b ++ l.before) last l.after (subst (Rising r 1) all joined) in
          let more : ((b ++ l.before) ++ last ∷ []) ++ l.after ≡ (b ++ l.before) ++ last ∷ l.after = append_assoc (b ++ l.before) (last ∷ []) l.after in
          let where_it_goes : ((b ++ l.before) ++ last ∷ []) ++ node ∷ l.after ≡ (b ++ l.before) ++ last ∷ node ∷ l.after = append_assoc (b ++ l.before) (last ∷ []) (node ∷ l.after) in
          let rank = l.rank in
          let front : Rising r 1 ((b ++ l.before) ++ last ∷ []) = rising_append r 1 ((b ++ l.before) ++ last ∷ []) l.after (subst (Rising r 1) (all ∙ sym more) joined) in
          record {
            before = b ++ l.before;
            after = l.after;
            all = all;
            raised = subst (λ xs. RaisedTo r s node f (b ++ node ∷ a) xs ((b ++ l.before) ++ last ∷ [])) where_it_goes (raised b a ((b ++ l.before) ++ last ∷ []) l.after out_b out_a (all ∙ sym more) some_rank front
                (λ y t. let u = times-append y (b ++ l.before) (last ∷ []) in elim (eqb_tells last y) [
                  | inl w ↦ subst (λ z. r z ≤ f) w.1 (omega arith)
                  | inr w ↦ let u2 = rw w.0 at u in let m = split.most y (omega arith) in omega arith
                ])
                (rising_raise r (r last) (f + 1) l.after split.back (λ y t. let m = rising_least r (r last) l.after split.back y t in let d = none_rank r f l.after l.none y t in omega arith)));
            last_is = last-append r f (b ++ l.before) (last ∷ []) ∙ ap (λ o. either o (last_with r f (b ++ l.before))) (rank_here r f last l.rank);
          }
