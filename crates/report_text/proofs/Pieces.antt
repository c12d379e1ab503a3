-- Words one after the other with a byte between: the pools of a class, the rules of an operation, and the frames of a key.
use Rattle.std.proofs.Common.{◌≡◌, ℕ, ◌≤◌, List, [], ◌∷◌, ◌++◌, length, take, map, sym, ap, ◌∙◌, append_assoc}
use Rattle.std.proofs.Common.{append-nil, Result, Ok, Err}
use Rattle.std.specs.Prelude.{OnOk}
use Rattle.std.specs.List.{flat_map, join_with_byte}
use Rattle.std.proofs.lemmas.List.{take_all}
use Rattle.mem_base.specs.Name.{Name}
use Rattle.mem_base.specs.declared.reply.Frame.{Frame}
use Rattle.mem_base.specs.declared.reply.UsedPool.{UsedPool}
use Rattle.mem_base.specs.declared.trace.Rule.{Rule}
use Rattle.trace_model.specs.Rules.{rule_word}
use Rattle.trace_model.specs.Spelling.{blank}
use Rattle.event_model.specs.Replies.{frame_of}
use Rattle.dump_model.specs.Spelling.{frame_word}
use Rattle.report_model.specs.Report.{pool_word, pools_word}
use Rattle.report_text.specs.Texts.{next_rule}

module _ {A : Type 0} (word : A → List ℕ) (c : ℕ) where
  -- a word with the byte before it
  abbrev pub next : A → List ℕ
  next x = c ∷ word x

  -- words with a byte between, as the first, and then each other with the byte before it
  pub join_behind : (front : List ℕ) (xs : List A)
      → join_with_byte c (front ∷ map word xs) ≡ front ++ flat_map next xs
  join_behind front [] = sym (append-nil front)
  join_behind front (x ∷ xs) = ap (λ (l : List ℕ). front ++ c ∷ l) (join_behind (word x) xs)

  -- the first word and then the others stand behind what there was
  pub words_come_last : (old one now : List ℕ) (all xs : List A) (x : A) (i : ℕ)
      → all ≡ x ∷ xs → one ≡ old ++ word x → now ≡ one ++ flat_map next (take i xs) → length xs ≤ i
      → now ≡ old ++ join_with_byte c (map word all)
  words_come_last old one now all xs x i are first others past =
      others ∙ (λ j. first j ++ flat_map next (take_all i xs past j))
      ∙ append_assoc old (word x) (flat_map next xs)
      ∙ ap (λ (l : List ℕ). old ++ l) (sym (join_behind (word x) xs))
      ∙ ap (λ (l : List A). old ++ join_with_byte c (map word l)) (sym are)

-- a pool behind the first, with the comma before it
abbrev pub next_pool : UsedPool → List ℕ
next_pool p = 44 ∷ pool_word p

pub pools_come_last : (old one now : List ℕ) (pools ps : List UsedPool) (p : UsedPool) (i : ℕ)
    → pools ≡ p ∷ ps → one ≡ old ++ pool_word p → now ≡ one ++ flat_map next_pool (take i ps) → length ps ≤ i
    → now ≡ old ++ pools_word pools
pools_come_last old one now pools ps p i are first others past =
    words_come_last pool_word 44 old one now pools ps p i are first others past
    ∙ ap (λ (l : List UsedPool). old ++ join_with_byte 44 (map pool_word l)) are
    ∙ ap (λ (l : List UsedPool). old ++ pools_word l) (sym are)

-- a frame behind the first, with the blank before it
abbrev pub next_frame : List Name → Frame → List ℕ
next_frame texts f = blank ∷ frame_word (frame_of texts f)

-- a keyword and two names, and then rules with a blank before each, are the words of a line that keeps traces
pub rules_come_last : {E : Type 0} (r : Result (Unit {0}) E) (text o1 o2 o3 now keyword new old : List ℕ) (rules : List Rule)
    → o1 ≡ text ++ keyword → o2 ≡ o1 ++ blank ∷ new → o3 ≡ o2 ++ blank ∷ old → OnOk r (now ≡ o3 ++ flat_map next_rule rules)
    → OnOk r (now ≡ text ++ (keyword ++ blank ∷ (new ++ blank ∷ join_with_byte blank (old ∷ map rule_word rules))))
rules_come_last (Ok u) text o1 o2 o3 now keyword new old rules first second third last =
    let behind = flat_map next_rule rules in
    last ∙ (λ i. third i ++ behind) ∙ append_assoc o2 (blank ∷ old) behind
    ∙ (λ i. second i ++ blank ∷ (old ++ behind)) ∙ append_assoc o1 (blank ∷ new) (blank ∷ (old ++ behind))
    ∙ (λ i. first i ++ blank ∷ (new ++ blank ∷ (old ++ behind)))
    ∙ append_assoc text keyword (blank ∷ (new ++ blank ∷ (old ++ behind)))
    ∙ ap (λ (l : List ℕ). text ++ (keyword ++ blank ∷ (new ++ blank ∷ l))) (sym (join_behind rule_word blank old rules))
rules_come_last (Err e) text o1 o2 o3 now keyword new old rules first second third last = tt
