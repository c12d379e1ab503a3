use Rattle.std.proofs.Common.{◌≡◌, ◌&&◌, length, ◌++◌, ◌==◌, ◌+◌, Bool, true, ℕ, List, get_or, take, drop}
use Rattle.std.proofs.Common.{map, sym, ap, ◌∙◌, arith}
use Rattle.std.proofs.lemmas.List.{take_all}
use Rattle.std.proofs.lemmas.List.Folds.{list_all_more}
use Rattle.std.specs.List.{list_all, slice_split}
use Rattle.trace_model.specs.Operands.{is_between}
use Rattle.trace_model.specs.Spelling.{blank}
use Rattle.line_text.proofs.Parts.{one_more_word, last_word, uncut_more, pushed, sign_is_plain}
use Rattle.line_text.proofs.lines.cut.Goals as goal
use Rattle.line_text.proofs.lines.cut.Goals.{then-not-is_sign+else-byte-ne32+in_ok-push, else-not-is_sign}

pub loop-at-preserved : goal.loop-at-preserved
loop-at-preserved c =
    let h = c.loop-at.invariant in
    let line = c.args.line.now in
    let at = c.loop-at.at in
    let p : ℕ → Bool = λ b. b == blank in
    let fits : is_between 32 126 (get_or line at 0) ≡ true → list_all (is_between 32 126) (take (at + 1) line) ≡ true =
    λ fine. list_all_more (is_between 32 126) line at 0 c.loop-at-test.true ∙ ap (λ (b : Bool). b && is_between 32 126 (get_or line at 0)) h.plain ∙ fine
    in
    elim c.if-not-is_sign.branch [
      | then-not-is_sign+else-byte-ne32+in_ok-push w ↦ record {
        parts = rw w.start-is (rw w.words-is (
            ap (λ (ws : List (List ℕ)). ws ++ slice_split p (drop (at + 1) line)) (pushed (λ x. x.now) c.loop-at.words.items w.push.new.self.items _ w.in_ok-push.ensures.items)
            ∙ one_more_word p line c.loop-at.start (map (λ x. x.now) c.loop-at.words.items) (slice_split p line) h.parts at h.begun c.loop-at-test.true h.whole (ap p w.if-byte-ne32.false)));
        begun = omega (arith, w.start-is);
        whole = λ k from below. absurd (omega (arith, w.start-is, from, below));
        plain = fits (ap (is_between 32 126) w.if-byte-ne32.false);
      }
      | else-not-is_sign w ↦
          let sign : is_between 33 126 (get_or line at 0) ≡ true = sym c.is_sign.ensures ∙ w.if-not-is_sign.false in
          let both = sign_is_plain (get_or line at 0) sign in
          record {
            parts = rw w.start-is (rw w.words-is h.parts);
            begun = omega (arith, w.start-is, h.begun);
            whole = rw w.start-is (uncut_more p line c.loop-at.start at h.whole both.1);
            plain = fits both.0;
          }
    ]

pub returns-clause-prints : goal.returns-clause-prints
returns-clause-prints c =
    let h = c.loop-at.invariant in
    let line = c.args.line.now in
    let end : c.loop-at.at ≡ length line = omega (arith, c.loop-at-test.false, c.loop-at.auto.at-end) in
    sym (ap (list_all (is_between 32 126)) (sym (take_all c.loop-at.at line (omega (arith, end)))) ∙ h.plain)

pub returns-clause-words : goal.returns-clause-words
returns-clause-words c = λ _.
    let h = c.loop-at.invariant in
    let line = c.args.line.now in
    let p : ℕ → Bool = λ b. b == blank in
    let end : c.loop-at.at ≡ length line = omega (arith, c.loop-at-test.false, c.loop-at.auto.at-end) in
    pushed (λ w. w.now) c.loop-at.words.items c.push-2.new.self.items _ c.in_ok-push-2.ensures.items
    ∙ last_word p line c.loop-at.start (map (λ w. w.now) c.loop-at.words.items) (slice_split p line) h.parts (omega (arith, h.begun, end)) (λ k from below. h.whole k from (omega (arith, end, below)))
