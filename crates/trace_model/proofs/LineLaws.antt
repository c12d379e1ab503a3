-- A line that is read is spelled so, and what is spelled so is read.
use Rattle.std.proofs.Common.{◌≡◌, ℕ, Bool, true, false, cond, ◌||◌, List, [], ◌∷◌, length, Result, Ok, Err}
use Rattle.std.proofs.Common.{refl, sym, ap, subst, ◌∙◌, ◌≤◌, arith, lit<, true≢false, inl, inr}
use Rattle.std.specs.Prelude.{◌==◌}
use Rattle.std.specs.List.{AllByRecursion, list_all, list_any, slice_split, join_with_byte}
use Rattle.std.specs.Str.{bytes_eq}
use Rattle.std.proofs.lemmas.Bool.{eqb-true}
use Rattle.std.proofs.lemmas.List.Splits.{join_with_byte-slice_split}
use Rattle.mem_base.specs.Name.{Name}
use Rattle.std.specs.Prelude.{decimal}
use Rattle.mem_base.specs.declared.limits.TheConstants.{MAX_PICKS}
use Rattle.trace_model.specs.Operands.{◌>>=◌, is_between, is_name, name_at, times_at}
use Rattle.trace_model.specs.Plain.{Action, PlainTrace, keywords, keyword_among, keyword_text, operands_of, Fits, action_at}
use Rattle.trace_model.specs.Spelling.{head_text, line_of, track_line, pick_line}
use Rattle.trace_model.specs.declared.keyword.Keyword.{Keyword}
use Rattle.trace_model.specs.declared.keyword.Head.{Head}
use Rattle.trace_model.specs.declared.keyword.Head.TheVariants as heads
use Rattle.trace_model.specs.declared.cause.TraceCause.{TraceCause}
use Rattle.trace_model.specs.declared.cause.TraceCause.TheVariants.{BadByte, BadName, Misplaced, BadWords}
use Rattle.trace_model.specs.Reading.{head_at, start, add, index_of, pick, pick_at, is_empty, is_misplaced}
use Rattle.trace_model.specs.Reading.{item_at, words_at, line_at}
use Rattle.trace_model.proofs.OperandLaws.{bind_ok, test_holds, test_fails, ok_is, one_of, name_takes}
use Rattle.trace_model.proofs.OperandLaws.{ranged_takes, ranged_again}
use Rattle.trace_model.proofs.ActionLaws.{keyword_takes, keyword_again, action_takes, action_again}
use Rattle.trace_model.proofs.WordLaws.{is_word, track_words_fit, pick_words_fit, words_again, words_plain}

pub head_takes : (w : List ℕ) (h : Head) → head_at w ≡ Ok h → w ≡ head_text h
head_takes w h e = elim (one_of head_text w heads.Track (cond (bytes_eq w (head_text heads.Pick)) (Ok heads.Pick) (keyword_among keywords w >>= λ k. Ok (heads.Op k))) h e) [
  | inl is ↦ is
  | inr rest ↦ elim (one_of head_text w heads.Pick (keyword_among keywords w >>= λ k. Ok (heads.Op k)) h rest) [
    | inl is ↦ is
    | inr other ↦
        let b = bind_ok (keyword_among keywords w) (λ k. Ok (heads.Op k)) h other in
        keyword_takes keywords w b.0 b.1 ∙ ap head_text (ok_is (heads.Op b.0) h b.2)
  ]
]

-- what a line adds to the trace before it
pub data Adds (t u : PlainTrace) (line : List ℕ) : Type 0 where
  a_track : (name : Name) → is_name name ≡ true → line ≡ track_line name → is_misplaced t heads.Track ≡ false → start t name ≡ Ok u → Adds t u line
  a_pick : (name : Name) (i times : ℕ) → is_name name ≡ true → index_of t.tracks name ≡ Ok i → 1 ≤ times → line ≡ pick_line name times → pick t i times ≡ Ok u → Adds t u line
  an_action : (a : Action) (k : Keyword) → Fits a → line ≡ line_of a → is_misplaced t (heads.Op k) ≡ false → add t a ≡ Ok u → Adds t u line

by_pick : (t u : PlainTrace) (ws : List (List ℕ)) → pick_at t ws ≡ Ok u → Adds t u (join_with_byte 32 (head_text heads.Pick ∷ ws))
unfolding pick_at
by_pick t u [] e = absurd cc
by_pick t u (w ∷ []) e = absurd cc
by_pick t u (w ∷ x ∷ y ∷ ws) e = absurd cc
by_pick t u (name ∷ times ∷ []) e =
    let b = bind_ok (name_at name) (λ _. times_at times >>= λ n. index_of t.tracks name >>= λ i. pick t i n) u e in
    let n = bind_ok (times_at times) (λ n. index_of t.tracks name >>= λ i. pick t i n) u b.2 in
    let i = bind_ok (index_of t.tracks name) (λ i. pick t i n.0) u n.2 in
    let spelt = ranged_takes 1 MAX_PICKS times n.0 n.1 in
    a_pick name i.0 n.0 (name_takes name b.0 b.1) i.1 spelt.1 (λ j. join_with_byte 32 (head_text heads.Pick ∷ name ∷ spelt.0 j ∷ [])) i.2

by_item : (t u : PlainTrace) (h : Head) (ws : List (List ℕ)) → is_misplaced t h ≡ false → item_at t h ws ≡ Ok u → Adds t u (join_with_byte 32 (head_text h ∷ ws))
by_item t u heads.Track [] placed e = absurd cc
by_item t u heads.Track (x ∷ y ∷ ws) placed e = absurd cc
by_item t u heads.Track (name ∷ []) placed e =
    let b = bind_ok (name_at name) (λ _. start t name) u e in
    a_track name (name_takes name b.0 b.1) refl placed b.2
by_item t u heads.Pick ws placed e = by_pick t u ws e
by_item t u (heads.Op k) ws placed e =
    let b = bind_ok (action_at k ws) (λ a. add t a) u e in
    let s = action_takes k ws b.0 b.1 in
    an_action b.0 k s.2 (λ i. join_with_byte 32 (keyword_text (sym s.0 i) ∷ sym s.1 i)) placed b.2

pub line_takes : (t u : PlainTrace) (line : List ℕ) → line_at t line ≡ Ok u → Adds t u line
unfolding line_at
line_takes t u line e =
    let p = test_holds (list_all (is_between 32 126) line) (words_at t (slice_split (λ b. b == 32) line)) BadByte u e in
    subst (Adds t u) (join_with_byte-slice_split 32 line) (by_words (slice_split (λ b. b == 32) line) p.1)
  where
    by_words : (ws : List (List ℕ)) → words_at t ws ≡ Ok u → Adds t u (join_with_byte 32 ws)
    by_words [] e = absurd cc
    by_words (first ∷ ws) e =
        let b = bind_ok (head_at first) (λ h. cond (is_misplaced t h) (Err Misplaced) (cond (list_any is_empty ws) (Err BadWords) (item_at t h ws))) u e in
        let m = test_fails (is_misplaced t b.0) (cond (list_any is_empty ws) (Err BadWords) (item_at t b.0 ws)) Misplaced u b.2 in
        let n = test_fails (list_any is_empty ws) (item_at t b.0 ws) BadWords u m.1 in
        subst (λ (w : List ℕ). Adds t u (join_with_byte 32 (w ∷ ws))) (sym (head_takes first b.0 b.1)) (by_item t u b.0 ws m.0 n.1)

-- ---- the other way

not_empty : (w : List ℕ) → is_word w ≡ true → is_empty w ≡ false
not_empty [] h = absurd (true≢false (sym h))
not_empty (b ∷ bs) h = by (length (b ∷ bs) == 0) refl
  where
    by : (v : Bool) → (length (b ∷ bs) == 0) ≡ v → v ≡ false
    by true e =
        let none : length (b ∷ bs) ≡ 0 = eqb-true (length (b ∷ bs)) 0 e in
        absurd (omega arith)
    by false e = refl

none_empty : (ws : List (List ℕ)) → AllByRecursion (λ w. is_word w ≡ true) ws → list_any is_empty ws ≡ false
none_empty [] are = refl
none_empty (w ∷ ws) are = (λ i. not_empty w are.0 i || none_empty ws are.1 i)

-- a line of good words is read by its first word
by_head : (t u : PlainTrace) (h : Head) (ws : List (List ℕ)) → head_at (head_text h) ≡ Ok h → AllByRecursion (λ w. is_word w ≡ true) (head_text h ∷ ws) → is_misplaced t h ≡ false → item_at t h ws ≡ Ok u
    → line_at t (join_with_byte 32 (head_text h ∷ ws)) ≡ Ok u
unfolding line_at
by_head t u h ws known are placed item =
    ap (λ (v : Bool). cond v (words_at t (slice_split (λ b. b == 32) (join_with_byte 32 (head_text h ∷ ws)))) (Err BadByte)) (words_plain (head_text h ∷ ws) are)
    ∙ ap (words_at t) (words_again (head_text h) ws are)
    ∙ ap (λ (r : Result Head TraceCause). r >>= λ h. cond (is_misplaced t h) (Err Misplaced) (cond (list_any is_empty ws) (Err BadWords) (item_at t h ws))) known
    ∙ ap (λ (v : Bool). cond v (Err Misplaced) (cond (list_any is_empty ws) (Err BadWords) (item_at t h ws))) placed
    ∙ ap (λ (v : Bool). cond v (Err BadWords) (item_at t h ws)) (none_empty ws are.1)
    ∙ item

pub action_line_again : (t u : PlainTrace) (a : Action) → Fits a → ((k : Keyword) → is_misplaced t (heads.Op k) ≡ false) → add t a ≡ Ok u → line_at t (line_of a) ≡ Ok u
action_line_again t u a fits placed sum =
    let s = action_again a fits in
    let k = keyword_again s.keyword in
    ap (λ o. line_at t (join_with_byte 32 (keyword_text o ∷ operands_of a))) s.is
    ∙ by_head t u (heads.Op s.keyword) (operands_of a) k.0 (k.1, s.words) (placed s.keyword) (ap (λ r. r >>= λ b. add t b) s.read ∙ sum)

pub track_line_again : (t u : PlainTrace) (name : Name) → is_name name ≡ true → is_misplaced t heads.Track ≡ false → start t name ≡ Ok u → line_at t (track_line name) ≡ Ok u
track_line_again t u name is placed begins = by_head t u heads.Track (name ∷ []) refl (track_words_fit name is) placed
    (ap (λ (v : Bool). cond v (Ok tt) (Err BadName) >>= λ _. start t name) is ∙ begins)

picks_again : (t u : PlainTrace) (name : Name) (i times : ℕ) → is_name name ≡ true → 1 ≤ times → times ≤ MAX_PICKS → index_of t.tracks name ≡ Ok i → pick t i times ≡ Ok u → pick_at t (name ∷ decimal times ∷ []) ≡ Ok u
unfolding pick_at
picks_again t u name i times is some few found picked =
    ap (λ (v : Bool). cond v (Ok tt) (Err BadName) >>= λ _. times_at (decimal times) >>= λ n. index_of t.tracks name >>= λ i. pick t i n) is
    ∙ ap (λ (r : Result ℕ TraceCause). r >>= λ n. index_of t.tracks name >>= λ i. pick t i n) (ranged_again 1 MAX_PICKS times (lit< tt) some few)
    ∙ ap (λ (r : Result ℕ TraceCause). r >>= λ i. pick t i times) found
    ∙ picked

pub pick_line_again : (t u : PlainTrace) (name : Name) (i times : ℕ) → is_name name ≡ true → 1 ≤ times → times ≤ MAX_PICKS → index_of t.tracks name ≡ Ok i → pick t i times ≡ Ok u → line_at t (pick_line name times) ≡ Ok u
pick_line_again t u name i times is some few found picked = by_head t u heads.Pick (name ∷ decimal times ∷ []) refl (pick_words_fit name times is few) refl
    (picks_again t u name i times is some few found picked)
