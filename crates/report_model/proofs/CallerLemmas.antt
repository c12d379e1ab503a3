-- What proofs of other crates may cite: the text of one more event.
use Rattle.std.proofs.Common.{◌≡◌, ℕ, ◌+◌, List, [], ◌∷◌, ◌++◌, length, sym, ap, ◌∙◌, append_assoc, append-nil, arith}
use Rattle.mem_base.specs.declared.history.Entry.{Entry}
use Rattle.trace_model.specs.Plain.{PlainTrack}
use Rattle.event_model.specs.Events.{event}
use Rattle.event_model.specs.History.{state_after, opening, last_state}
use Rattle.event_model.specs.State.{State}
use Rattle.report_model.specs.Report.{Printer, texts_from, texts_of}

texts_push : (text : Printer) (tracks : List PlainTrack) (k : ℕ) (s : State) (es : List Entry) (e : Entry)
    → texts_from text tracks k s (es ++ e ∷ []) ≡ texts_from text tracks k s es ++ text (k + length es) (state_after tracks s es) e
texts_push text tracks k s [] e =
    let at : k + 0 ≡ k = omega arith in
    append-nil (text k s e) ∙ ap (λ (n : ℕ). text n s e) (sym at)
texts_push text tracks k s (x ∷ es) e =
    let later : State = (event tracks s x).0 in
    let at : (k + 1) + length es ≡ k + length (x ∷ es) = omega arith in
    ap (λ (more : List ℕ). text k s x ++ more) (texts_push text tracks (k + 1) later es e)
    ∙ sym (append_assoc (text k s x) (texts_from text tracks (k + 1) later es) (text ((k + 1) + length es) (state_after tracks later es) e))
    ∙ ap (λ (n : ℕ). (text k s x ++ texts_from text tracks (k + 1) later es) ++ text n (state_after tracks later es) e) at

pub one_more : (text : Printer) (tracks : List PlainTrack) (es : List Entry) (e : Entry)
    → texts_of text tracks (es ++ e ∷ []) ≡ texts_of text tracks es ++ text (length es + 1) (last_state tracks es) e
one_more text tracks es e =
    let at : 1 + length es ≡ length es + 1 = omega arith in
    texts_push text tracks 1 (opening tracks) es e
    ∙ ap (λ (n : ℕ). texts_from text tracks 1 (opening tracks) es ++ text n (state_after tracks (opening tracks) es) e) at
