-- What moves leave of ranked nodes.
use Rattle.std.proofs.Common.{◌≡◌, ◌≢◌, ℕ, ◌+◌, ◌-◌, ◌<◌, ◌≤◌, ◌⊎◌, inl, inr, List, [], ◌∷◌, ◌++◌, length, get_or, set, Option, Some, None, Contains, refl, sym, ap, subst, ◌∙◌, arith, length-set}
use Rattle.std.proofs.lemmas.Bool.Decides.{eqb_tells}
use Rattle.std.proofs.lemmas.List.{get_or-set_same, get_or-set_other}
use Rattle.links.specs.Nodes.{times, first_of, last_or, IsInsertedAfter, IsPrev, IsRemoved}
use Rattle.links.proofs.CallerLemmas.{times-append, times-here, Contains-times, not_Contains-times, split, Split}
use Rattle.ranks.specs.Ranks.{rank_in, either, if_rank, last_with, Rising, without_node, put_by, kept_before, gone_from, IsRanked}
use Rattle.ranks.proofs.Lists.{Around, Behind, RaisedTo, around, last-append, last_at, rising_concat, without_here, either_none, last_front, none_rank, last_same, raised_behind, raised_here, rank_here, rank_other, last_none, rising_least, rising_lower, rising_raise, rising_same, some_one}

-- where a node stands
pub part : (xs : List ℕ) (x : ℕ) → 1 ≤ times x xs → Split xs x
part xs x h = split xs x (Contains-times xs xs x refl h)

-- a node that stands once is in no other part
only_here : (xs : List ℕ) (x : ℕ) (s : Split xs x) → times x xs ≤ 1 → (times x s.before ≡ 0) × (times x s.after ≡ 0)
only_here xs x s once =
    let t = times-append x s.before (x ∷ s.after) in let u = times-here x s.after in let e = ap (times x) s.all in (omega arith, omega arith)

-- ranks after one was set
pub rank_set : (ranks : List ℕ) (node rank x : ℕ) → x ≢ node → rank_in (set ranks node rank) x ≡ rank_in ranks x
rank_set ranks node rank x other = get_or-set_other ranks node x rank 0 other

-- ---- a node that comes to the front

module _ (nodes ranks : List ℕ) (lasts : List (Option ℕ)) (room node rank : ℕ) (kept : IsRanked nodes ranks lasts room) (below : node < length ranks) (out : times node nodes ≡ 0) (some : 1 ≤ rank) (few : rank ≤ 64)
    (least : (x : ℕ) → 1 ≤ times x nodes → rank ≤ rank_in ranks x) where
  pub pushed : (now : List ℕ) (more : List (Option ℕ)) (space : ℕ) → now ≡ node ∷ nodes → more ≡ set lasts rank (either (get_or lasts rank None) (Some node)) → space ≡ room → IsRanked now (set ranks node rank) more space
  pushed now more space e m same_room =
      let long = kept.long in
      let here : rank_in (set ranks node rank) node ≡ rank = get_or-set_same ranks node rank 0 below in
      let others = λ (x : ℕ) (n : x ≢ node). rank_set ranks node rank x n in
      subst (λ xs. IsRanked xs (set ranks node rank) more space) (sym e) (record {
        once = λ x. elim (eqb_tells node x) [
          | inl w ↦ subst (λ y. times y (node ∷ nodes) ≤ 1) w.1 (let t = times-here node nodes in omega arith)
          | inr w ↦ rw w.0 (let o = kept.once x in omega arith)
        ];
        below = λ x t. subst (λ n. x < n) (sym (length-set ranks node rank)) (elim (eqb_tells node x) [
          | inl w ↦ subst (λ y. y < length ranks) w.1 below
          | inr w ↦ let t2 = rw w.0 at t in kept.below x (omega arith)
        ]);
        rising = (
          (omega arith),
          rising_same (rank_in ranks) (rank_in (set ranks node rank)) node others (rank_in (set ranks node rank) node) nodes out (rising_raise (rank_in ranks) 1 (rank_in (set ranks node rank) node) nodes kept.rising (λ x t. let l = least x t in omega arith)),
        );
        most = λ x t. elim (eqb_tells node x) [
          | inl w ↦ subst (λ y. rank_in (set ranks node rank) y ≤ 64) w.1 (omega arith)
          | inr w ↦ let t2 = rw w.0 at t in let m = kept.most x (omega arith) in let e2 = others x (λ q. w.1 (sym q)) in omega arith
        ];
        long = ap length m ∙ (length-set lasts rank (either (get_or lasts rank None) (Some node)) ∙ long);
        last = λ f le.
            let rest : last_with (rank_in (set ranks node rank)) f nodes ≡ last_with (rank_in ranks) f nodes = last_same (rank_in ranks) (rank_in (set ranks node rank)) node others f nodes out in
            elim (eqb_tells f rank) [
              | inl w ↦
                  subst (λ g. get_or more g None ≡ either (last_with (rank_in (set ranks node rank)) g nodes) (if_rank (rank_in (set ranks node rank)) g node)) (sym w.1)
                  (ap (λ l. get_or l rank None) m ∙ (get_or-set_same lasts rank (either (get_or lasts rank None) (Some node)) None (omega arith)
                  ∙ ((λ i. either (kept.last rank few i) (sym (rank_here (rank_in (set ranks node rank)) rank node here) i))
                  ∙ ap (λ o. either o (if_rank (rank_in (set ranks node rank)) rank node)) (sym (last_same (rank_in ranks) (rank_in (set ranks node rank)) node others rank nodes out)))))
              | inr w ↦
                  ap (λ l. get_or l f None) m ∙ (get_or-set_other lasts rank f (either (get_or lasts rank None) (Some node)) None w.1
                  ∙ (kept.last f le ∙ (sym rest ∙ (sym (either_none (last_with (rank_in (set ranks node rank)) f nodes)) ∙ ap (either (last_with (rank_in (set ranks node rank)) f nodes)) (sym (rank_other (rank_in (set ranks node rank)) f node (λ q. w.1 (sym q ∙ here))))))))
            ];
        space = (let l = length-set ranks node rank in let s = kept.space in omega arith);
      })

-- ---- a node whose rank rises by one

module _ (nodes ranks : List ℕ) (lasts : List (Option ℕ)) (room node : ℕ) (kept : IsRanked nodes ranks lasts room) (there : 1 ≤ times node nodes) (few : rank_in ranks node < 64) where
  abbrev f : ℕ
  f = rank_in ranks node

  abbrev now : List ℕ
  now = set ranks node (f + 1)

  abbrev Raised : List ℕ → List ℕ → List ℕ → Type 0
  Raised old new front = RaisedTo (rank_in ranks) (rank_in now) node f old new front

  here : rank_in now node ≡ f + 1
  here = get_or-set_same ranks node (f + 1) 0 (kept.below node there)

  -- the last nodes, of which the one of the old rank was brought up to date
  pub raised_all : (new front : List ℕ) (mid more : List (Option ℕ)) (space : ℕ) → Raised nodes new front → ((x : ℕ) → times x new ≡ times x nodes) → length mid ≡ 65 → get_or mid f None ≡ last_with (rank_in ranks) f front
      → ((g : ℕ) → g ≢ f → get_or mid g None ≡ get_or lasts g None) → more ≡ set mid (f + 1) (either (get_or mid (f + 1) None) (Some node)) → space ≡ room → IsRanked new now more space
  raised_all new front mid more space d same long first others e same_room = record {
    once = λ x. let t = same x in let o = kept.once x in omega arith;
    below = λ x t. subst (λ n. x < n) (sym (length-set ranks node (f + 1))) (kept.below x (let u = same x in omega arith));
    rising = d.rising;
    most = λ x t. elim (eqb_tells x node) [
      | inl w ↦ subst (λ y. rank_in now y ≤ 64) (sym w.1) (let h = here in omega arith)
      | inr w ↦ let m = kept.most x (let u = same x in omega arith) in let e2 = rank_set ranks node (f + 1) x w.1 in omega arith
    ];
    long = ap length e ∙ (length-set mid (f + 1) (either (get_or mid (f + 1) None) (Some node)) ∙ long);
    last = λ g le. elim (eqb_tells g (f + 1)) [
      | inl w ↦
          subst (λ k. get_or more k None ≡ last_with (rank_in now) k new) (sym w.1)
          (ap (λ l. get_or l (f + 1) None) e ∙ (get_or-set_same mid (f + 1) (either (get_or mid (f + 1) None) (Some node)) None (omega arith)
          ∙ (ap (λ o. either o (Some node)) (others (f + 1) (λ q. absurd (omega arith)) ∙ kept.last (f + 1) (omega arith)) ∙ sym d.above)))
      | inr w ↦
          ap (λ l. get_or l g None) e ∙ (get_or-set_other mid (f + 1) g (either (get_or mid (f + 1) None) (Some node)) None w.1 ∙ elim (eqb_tells g f) [
            | inl v ↦ subst (λ k. get_or mid k None ≡ last_with (rank_in now) k new) (sym v.1) (first ∙ sym d.here)
            | inr v ↦ others g v.1 ∙ (kept.last g le ∙ sym (d.other g v.1 w.1))
          ])
    ];
    space = (let l = length-set ranks node (f + 1) in let s = kept.space in omega arith);
  }

  abbrev at : Split nodes node
  at = part nodes node there

  -- the node is not in the other parts
  out_before : times node (at).before ≡ 0
  out_before = (only_here nodes node at (kept.once node)).0

  out_after : times node (at).after ≡ 0
  out_after = (only_here nodes node at (kept.once node)).1

  rising_at : Rising (rank_in ranks) 1 ((at).before ++ node ∷ (at).after)
  rising_at = subst (Rising (rank_in ranks) 1) (at).all kept.rising

  last_at_rank : get_or lasts f None ≡ last_with (rank_in ranks) f ((at).before ++ node ∷ (at).after)
  last_at_rank = kept.last f (omega arith) ∙ ap (last_with (rank_in ranks) f) (at).all

  -- it is the last one
  module _ (found : Option ℕ) (read : found ≡ get_or lasts f None) (is : found ≡ Some node) where
    stays : Raised nodes nodes (at).before
    stays = subst (λ xs. Raised xs xs (at).before) (sym (at).all) (raised_here (rank_in ranks) (rank_in now) node f refl here (λ x other. rank_set ranks node (f + 1) x other) (at).before (at).after out_before out_after rising_at (sym (sym is ∙ (read ∙ last_at_rank))))

    pub stays_placed : nodes ≡ put_by (rank_in now) node (without_node node nodes)
    stays_placed = (stays).placed

    pub stays_ranked : (before : Option ℕ) (mid more : List (Option ℕ)) (space : ℕ) → IsPrev nodes node before → mid ≡ set lasts f (kept_before (rank_in ranks) f before) → more ≡ set mid (f + 1) (either (get_or mid (f + 1) None) (Some node)) → space ≡ room → IsRanked nodes now more space
    stays_ranked before mid more space prev m e same_room =
        let a = around (rank_in ranks) 1 (at).before node (at).after rising_at in let long = kept.long in
        let last_before : kept_before (rank_in ranks) f before ≡ last_with (rank_in ranks) f (at).before = ap (kept_before (rank_in ranks) f) (prev (at).before (at).after (at).all) ∙ sym (last_front (rank_in ranks) f 1 (at).before a.front a.most) in
        raised_all nodes (at).before mid more space stays (λ x. refl) (ap length m ∙ (length-set lasts f (kept_before (rank_in ranks) f before) ∙ long))
        (ap (λ l. get_or l f None) m ∙ (get_or-set_same lasts f (kept_before (rank_in ranks) f before) None (omega arith) ∙ last_before))
        (λ g other. ap (λ l. get_or l g None) m ∙ get_or-set_other lasts f g (kept_before (rank_in ranks) f before) None other) e same_room

  -- it goes behind the last one
  module _ (last : ℕ) (read : Some last ≡ get_or lasts f None) (other : last ≢ node) where
    moves : Behind (rank_in ranks) (rank_in now) node f refl here (λ x n. rank_set ranks node (f + 1) x n) (at).before (at).after out_before out_after rising_at last
    moves = raised_behind (rank_in ranks) (rank_in now) node f refl here (λ x n. rank_set ranks node (f + 1) x n) (at).before (at).after out_before out_after rising_at last (sym (read ∙ last_at_rank)) other

    module _ (left new : List ℕ) (removed : IsRemoved node nodes left) where
      left_is : left ≡ (moves).before ++ last ∷ (moves).after
      left_is = removed (at).before (at).after (at).all ∙ (moves).all

      pub left_has : Contains left last
      left_has = Contains-times left ((moves).before ++ last ∷ (moves).after) last left_is (let t = times-append last (moves).before (last ∷ (moves).after) in let u = times-here last (moves).after in omega arith)

      pub left_out : ¬ Contains left node
      left_out = not_Contains-times left ((at).before ++ (at).after) node (removed (at).before (at).after (at).all) (let t = times-append node (at).before (at).after in let a = out_before in let b = out_after in omega arith)

      module _ (inserted : IsInsertedAfter last node left new) where
        new_is : new ≡ (moves).before ++ last ∷ node ∷ (moves).after
        new_is = inserted (moves).before (moves).after left_is

        moved : Raised nodes new ((moves).before ++ last ∷ [])
        moved = subst (λ xs. Raised xs new ((moves).before ++ last ∷ [])) (sym (at).all) (subst (λ xs. Raised ((at).before ++ node ∷ (at).after) xs ((moves).before ++ last ∷ [])) (sym new_is) (moves).raised)

        pub moved_placed : new ≡ put_by (rank_in now) node (without_node node nodes)
        moved_placed = (moved).placed

        same_nodes : (x : ℕ) → times x new ≡ times x nodes
        same_nodes x =
            let a = times-append x (at).before (node ∷ (at).after) in let b = times-append x (at).before (at).after in
            let c = times-append x (moves).before (last ∷ node ∷ (moves).after) in let d = times-append x (moves).before (last ∷ (moves).after) in
            let e1 = ap (times x) new_is in let e2 = ap (times x) (at).all in let e3 = ap (times x) (moves).all in omega arith

        pub moved_ranked : (more : List (Option ℕ)) (space : ℕ) → more ≡ set lasts (f + 1) (either (get_or lasts (f + 1) None) (Some node)) → space ≡ room → IsRanked new now more space
        moved_ranked more space e same_room = raised_all new ((moves).before ++ last ∷ []) lasts more space moved same_nodes kept.long (sym read ∙ sym (moves).last_is) (λ g n. refl) e same_room

-- ---- nodes that are found

last_in : (x : ℕ) (xs : List ℕ) (p : Option ℕ) → last_or xs p ≡ Some x → (p ≡ Some x) ⊎ (1 ≤ times x xs)
last_in x [] p e = inl e
last_in x (y ∷ ys) p e = elim (last_in x ys (Some y) e) [
  | inl h ↦ let same : y ≡ x = some_one y x h in inr (subst (λ z. 1 ≤ times z (y ∷ ys)) same (let t = times-here y ys in omega arith))
  | inr h ↦ inr (omega arith)
]

-- what stands before a node is one too
pub prev_in : (nodes : List ℕ) (node x : ℕ) (before : Option ℕ) → 1 ≤ times node nodes → IsPrev nodes node before → before ≡ Some x → 1 ≤ times x nodes
prev_in nodes node x before there prev is =
    let p = part nodes node there in
    elim (last_in x p.before None (sym (prev p.before p.after p.all) ∙ is)) [
      | inl h ↦ absurd (cc)
      | inr h ↦ let t = times-append x p.before (node ∷ p.after) in let e = ap (times x) p.all in omega arith
    ]

-- a rank that a node has has a last node
pub some_last : (nodes ranks : List ℕ) (lasts : List (Option ℕ)) (room node : ℕ) → IsRanked nodes ranks lasts room → 1 ≤ times node nodes → get_or lasts (rank_in ranks node) None ≡ None → ⊥
some_last nodes ranks lasts room node kept there none = none_rank (rank_in ranks) (rank_in ranks node) nodes (sym (kept.last (rank_in ranks node) (kept.most node there)) ∙ none) node there refl

-- ---- a node that goes

module _ (nodes ranks : List ℕ) (lasts : List (Option ℕ)) (room node : ℕ) (kept : IsRanked nodes ranks lasts room) (there : 1 ≤ times node nodes) where
  abbrev at_rank : ℕ
  at_rank = rank_in ranks node

  abbrev it : Split nodes node
  it = part nodes node there

  no_before : times node (it).before ≡ 0
  no_before = (only_here nodes node it (kept.once node)).0

  no_after : times node (it).after ≡ 0
  no_after = (only_here nodes node it (kept.once node)).1

  near : Around (rank_in ranks) 1 (it).before node (it).after
  near = around (rank_in ranks) 1 (it).before node (it).after (subst (Rising (rank_in ranks) 1) (it).all kept.rising)

  pub rank_few : at_rank ≤ 64
  rank_few = kept.most node there

  pub rank_some : 1 ≤ at_rank
  rank_some = (near).here

  -- the last one of its rank
  last_is : get_or lasts at_rank None ≡ either (last_with (rank_in ranks) at_rank (it).after) (Some node)
  last_is =
      kept.last at_rank rank_few ∙ (ap (last_with (rank_in ranks) at_rank) (it).all
      ∙ (last-append (rank_in ranks) at_rank (it).before (node ∷ (it).after)
      ∙ (ap (λ o. either (either (last_with (rank_in ranks) at_rank (it).after) o) (last_with (rank_in ranks) at_rank (it).before)) (rank_here (rank_in ranks) at_rank node refl) ∙ first (last_with (rank_in ranks) at_rank (it).after)))) where
        first : (o : Option ℕ) → either (either o (Some node)) (last_with (rank_in ranks) at_rank (it).before) ≡ either o (Some node)
        first None = refl
        first (Some x) = refl

  pub left_nodes : (left : List ℕ) → IsRemoved node nodes left → left ≡ (it).before ++ (it).after
  left_nodes left removed = removed (it).before (it).after (it).all

  pub left_without : (left : List ℕ) → IsRemoved node nodes left → left ≡ without_node node nodes
  left_without left removed = left_nodes left removed ∙ (sym (without_here node (it).before (it).after no_before) ∙ ap (without_node node) (sym (it).all))

  pub left_all : (left : List ℕ) (mid : List (Option ℕ)) (space : ℕ) → IsRemoved node nodes left → length mid ≡ 65 → get_or mid at_rank None ≡ last_with (rank_in ranks) at_rank ((it).before ++ (it).after)
      → ((g : ℕ) → g ≢ at_rank → get_or mid g None ≡ get_or lasts g None) → space ≡ room → IsRanked left ranks mid space
  left_all left mid space removed long here others same_room =
      let is = left_nodes left removed in
      let times_is = λ (x : ℕ). (let a = times-append x (it).before (node ∷ (it).after) in let b = times-append x (it).before (it).after in let e = ap (times x) (it).all in let f = ap (times x) is in let w : times x left ≤ times x nodes = omega arith in w) in
      record {
        once = λ x. let o = kept.once x in let t = times_is x in omega arith;
        below = λ x h. kept.below x (let t = times_is x in omega arith);
        rising = subst (Rising (rank_in ranks) 1) (sym is) (rising_concat (rank_in ranks) 1 at_rank (it).before (it).after (near).front (near).most (near).here (near).back);
        most = λ x h. kept.most x (let t = times_is x in omega arith);
        long = long;
        last = λ g le. elim (eqb_tells g at_rank) [
          | inl w ↦ subst (λ k. get_or mid k None ≡ last_with (rank_in ranks) k left) (sym w.1) (here ∙ ap (last_with (rank_in ranks) at_rank) (sym is))
          | inr w ↦
              others g w.1 ∙ (kept.last g le ∙ (ap (last_with (rank_in ranks) g) (it).all
              ∙ (last-append (rank_in ranks) g (it).before (node ∷ (it).after)
              ∙ (ap (λ o. either (either (last_with (rank_in ranks) g (it).after) o) (last_with (rank_in ranks) g (it).before)) (rank_other (rank_in ranks) g node (λ q. w.1 (sym q)))
              ∙ (ap (λ o. either o (last_with (rank_in ranks) g (it).before)) (either_none (last_with (rank_in ranks) g (it).after))
              ∙ (sym (last-append (rank_in ranks) g (it).before (it).after) ∙ ap (last_with (rank_in ranks) g) (sym is)))))))
        ];
        space = (let s = kept.space in omega arith);
      }

  -- it was the last one: the one before it may be
  pub left_last : (found before : Option ℕ) (left : List ℕ) (mid : List (Option ℕ)) (space : ℕ) → found ≡ get_or lasts at_rank None → found ≡ Some node → IsPrev nodes node before → mid ≡ set lasts at_rank (kept_before (rank_in ranks) at_rank before)
      → IsRemoved node nodes left → space ≡ room → IsRanked left ranks mid space
  left_last found before left mid space read is prev m removed same_room = by (last_with (rank_in ranks) at_rank (it).after) refl where
    by : (o : Option ℕ) → last_with (rank_in ranks) at_rank (it).after ≡ o → IsRanked left ranks mid space
    by None n =
        let long = kept.long in let few = rank_few in
        let front = last_front (rank_in ranks) at_rank 1 (it).before (near).front (near).most in
        left_all left mid space removed (ap length m ∙ (length-set lasts at_rank (kept_before (rank_in ranks) at_rank before) ∙ long))
        (ap (λ l. get_or l at_rank None) m ∙ (get_or-set_same lasts at_rank (kept_before (rank_in ranks) at_rank before) None (omega arith) ∙ (ap (kept_before (rank_in ranks) at_rank) (prev (it).before (it).after (it).all)
        ∙ (sym front ∙ (ap (λ o. either o (last_with (rank_in ranks) at_rank (it).before)) (sym n) ∙ sym (last-append (rank_in ranks) at_rank (it).before (it).after))))))
        (λ g other. ap (λ l. get_or l g None) m ∙ get_or-set_other lasts at_rank g (kept_before (rank_in ranks) at_rank before) None other) same_room
    by (Some z) n =
        let same : z ≡ node = some_one z node (sym (last_is ∙ ap (λ o. either o (Some node)) n) ∙ (sym read ∙ is)) in
        let l = last_at (rank_in ranks) at_rank z (it).after n in
        let t = times-append z l.before (z ∷ l.after) in let u = times-here z l.after in
        let here : 1 ≤ times z (it).after = subst (λ xs. 1 ≤ times z xs) (sym l.all) (omega arith) in
        let away = no_after in let e = ap (λ x. times x (it).after) same in absurd (omega arith)

  -- it was not
  pub left_other : (left : List ℕ) (space : ℕ) → (get_or lasts at_rank None ≡ Some node → ⊥) → IsRemoved node nodes left → space ≡ room → IsRanked left ranks lasts space
  left_other left space not_it removed same_room = by (last_with (rank_in ranks) at_rank (it).after) refl where
    by : (o : Option ℕ) → last_with (rank_in ranks) at_rank (it).after ≡ o → IsRanked left ranks lasts space
    by None n = absurd (not_it (last_is ∙ ap (λ o. either o (Some node)) n))
    by (Some z) n =
        left_all left lasts space removed kept.long
        (last_is ∙ (ap (λ o. either o (Some node)) n ∙ (ap (λ o. either o (last_with (rank_in ranks) at_rank (it).before)) (sym n) ∙ sym (last-append (rank_in ranks) at_rank (it).before (it).after))))
        (λ g other. refl) same_room

-- ---- a front whose rank falls by one

pub gone_here : (o : Option ℕ) (x : ℕ) → o ≡ Some x → gone_from o x ≡ None
gone_here None x e = refl
gone_here (Some y) x e = let same = some_one y x e in elim (eqb_tells y x) [ inl w ↦ rw w.0 refl | inr w ↦ absurd (w.1 same) ]

pub gone_other : (o : Option ℕ) (x : ℕ) → (o ≡ Some x → ⊥) → gone_from o x ≡ o
gone_other None x n = refl
gone_other (Some y) x n = elim (eqb_tells y x) [ inl w ↦ absurd (n (ap Some w.1)) | inr w ↦ rw w.0 refl ]

module _ (rest ranks : List ℕ) (lasts : List (Option ℕ)) (room node : ℕ) (kept : IsRanked (node ∷ rest) ranks lasts room) where
  abbrev top : ℕ
  top = rank_in ranks node

  none_more : times node rest ≡ 0
  none_more = let o = kept.once node in let t = times-here node rest in omega arith

  pub top_few : top ≤ 64
  top_few = kept.most node (let t = times-here node rest in omega arith)

  top_last : get_or lasts top None ≡ either (last_with (rank_in ranks) top rest) (Some node)
  top_last = kept.last top top_few ∙ ap (either (last_with (rank_in ranks) top rest)) (rank_here (rank_in ranks) top node refl)

  module _ (mid : List (Option ℕ)) (went : mid ≡ set lasts top (gone_from (get_or lasts top None) node)) where
    mid_long : length mid ≡ 65
    mid_long = ap length went ∙ (length-set lasts top (gone_from (get_or lasts top None) node) ∙ kept.long)

    mid_other : (g : ℕ) → g ≢ top → get_or mid g None ≡ get_or lasts g None
    mid_other g other = ap (λ l. get_or l g None) went ∙ get_or-set_other lasts top g (gone_from (get_or lasts top None) node) None other

    mid_top : get_or mid top None ≡ last_with (rank_in ranks) top rest
    mid_top =
        let long = kept.long in let few = top_few in
        ap (λ l. get_or l top None) went ∙ (get_or-set_same lasts top (gone_from (get_or lasts top None) node) None (omega arith) ∙ by (last_with (rank_in ranks) top rest) refl) where
          by : (o : Option ℕ) → last_with (rank_in ranks) top rest ≡ o → gone_from (get_or lasts top None) node ≡ last_with (rank_in ranks) top rest
          by None n = gone_here (get_or lasts top None) node (top_last ∙ ap (λ o. either o (Some node)) n) ∙ sym n
          by (Some z) n =
              let is = top_last ∙ ap (λ o. either o (Some node)) n in
              gone_other (get_or lasts top None) node (λ e.
              let same : z ≡ node = some_one z node (sym is ∙ e) in
              let l = last_at (rank_in ranks) top z rest n in
              let t = times-append z l.before (z ∷ l.after) in let u = times-here z l.after in
              let here : 1 ≤ times z rest = subst (λ xs. 1 ≤ times z xs) (sym l.all) (omega arith) in
              let away = none_more in let q = ap (λ x. times x rest) same in absurd (omega arith)) ∙ (is ∙ sym n)

    -- it goes
    pub lowest_goes : (left : List ℕ) (space : ℕ) → IsRemoved node (node ∷ rest) left → space ≡ room → (left ≡ rest) × IsRanked left ranks mid space
    lowest_goes left space removed same_room =
        let there : 1 ≤ times node (node ∷ rest) = (let t = times-here node rest in omega arith) in
        let is : left ≡ rest = removed [] rest refl in (
          is,
          left_all (node ∷ rest) ranks lasts room node kept there left mid space removed mid_long
              (mid_top ∙ ap (last_with (rank_in ranks) top) (sym is ∙ left_nodes (node ∷ rest) ranks lasts room node kept there left removed)) mid_other same_room,
        )

    -- it stays at the front, with a lower rank
    module _ (two : 2 ≤ top) (more : List (Option ℕ)) (came : more ≡ set mid (top - 1) (either (get_or mid (top - 1) None) (Some node))) where
      abbrev low : List ℕ
      low = set ranks node (top - 1)

      inside : node < length ranks
      inside = kept.below node (let t = times-here node rest in omega arith)

      low_here : rank_in low node ≡ top - 1
      low_here = get_or-set_same ranks node (top - 1) 0 inside

      low_same : (x : ℕ) → x ≢ node → rank_in low x ≡ rank_in ranks x
      low_same x other = rank_set ranks node (top - 1) x other

      rest_same : (g : ℕ) → last_with (rank_in low) g rest ≡ last_with (rank_in ranks) g rest
      rest_same g = last_same (rank_in ranks) (rank_in low) node low_same g rest none_more

      none_lower : last_with (rank_in ranks) (top - 1) rest ≡ None
      none_lower = last_none (rank_in ranks) (top - 1) rest (λ x t e. let l = rising_least (rank_in ranks) top rest kept.rising.1 x t in absurd (omega arith))

      nothing_there : get_or mid (top - 1) None ≡ None
      nothing_there =
          let few = top_few in
          mid_other (top - 1) (λ e. absurd (omega arith)) ∙ (kept.last (top - 1) (omega arith) ∙ (λ i. either (none_lower i) (rank_other (rank_in ranks) (top - 1) node (λ e. absurd (omega arith)) i)))

      pub front_falls : IsRanked (node ∷ rest) low more room
      front_falls = record {
        once = kept.once;
        below = λ x t. subst (λ n. x < n) (sym (length-set ranks node (top - 1))) (kept.below x t);
        rising = ((let h = low_here in omega arith), rising_lower (rank_in low) top (rank_in low node) rest (let h = low_here in omega arith) (rising_same (rank_in ranks) (rank_in low) node low_same top rest none_more kept.rising.1));
        most = λ x t. elim (eqb_tells x node) [
          | inl w ↦ subst (λ y. rank_in low y ≤ 64) (sym w.1) (let h = low_here in let f = top_few in omega arith)
          | inr w ↦ let m = kept.most x t in let e = low_same x w.1 in omega arith
        ];
        long = ap length came ∙ (length-set mid (top - 1) (either (get_or mid (top - 1) None) (Some node)) ∙ mid_long);
        last = λ g le. elim (eqb_tells g (top - 1)) [
          | inl w ↦
              let few = top_few in let l = mid_long in
              subst (λ k. get_or more k None ≡ last_with (rank_in low) k (node ∷ rest)) (sym w.1)
              (ap (λ l. get_or l (top - 1) None) came ∙ (get_or-set_same mid (top - 1) (either (get_or mid (top - 1) None) (Some node)) None (omega arith)
              ∙ (ap (λ o. either o (Some node)) (nothing_there ∙ (sym none_lower ∙ sym (rest_same (top - 1)))) ∙ ap (either (last_with (rank_in low) (top - 1) rest)) (sym (rank_here (rank_in low) (top - 1) node low_here)))))
          | inr w ↦
              ap (λ l. get_or l g None) came ∙ (get_or-set_other mid (top - 1) g (either (get_or mid (top - 1) None) (Some node)) None w.1
              ∙ (elim (eqb_tells g top) [
                | inl v ↦ subst (λ k. get_or mid k None ≡ last_with (rank_in ranks) k rest) (sym v.1) mid_top
                | inr v ↦ mid_other g v.1 ∙ (kept.last g le ∙ (ap (either (last_with (rank_in ranks) g rest)) (rank_other (rank_in ranks) g node (λ q. v.1 (sym q))) ∙ either_none (last_with (rank_in ranks) g rest)))
              ] ∙ (sym (rest_same g) ∙ (sym (either_none (last_with (rank_in low) g rest)) ∙ ap (either (last_with (rank_in low) g rest)) (sym (rank_other (rank_in low) g node (λ q. w.1 (sym q ∙ low_here))))))))
        ];
        space = (let l = length-set ranks node (top - 1) in let s = kept.space in omega arith);
      }

pub first_split : (xs : List ℕ) (x : ℕ) → Some x ≡ first_of xs → (rest : List ℕ) × (xs ≡ x ∷ rest)
first_split [] x e = absurd (cc)
first_split (y ∷ ys) x e = let same = some_one x y e in (ys, ap (λ z. z ∷ ys) (sym same))

pub first_times : (x : ℕ) (xs : List ℕ) → 1 ≤ times x (x ∷ xs)
first_times x xs = let t = times-here x xs in omega arith
