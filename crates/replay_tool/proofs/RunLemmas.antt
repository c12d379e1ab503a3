-- When the words are those that ask for a replay.
use Rattle.std.proofs.Common.{◌≡◌, ℕ, List, sym, ap, ◌∙◌, arith, ◌<◌, ◌≤◌, [], ◌∷◌, length, get_or, Bool, true}
use Rattle.std.specs.Prelude.{String, string_bytes, codes}
use Rattle.std.specs.declared.alloc.Global.{Global}
use Rattle.std.specs.Str.{bytes_eq}
use Rattle.std.proofs.lemmas.Slice.Eq.{bytes_eq-Decides}
use Rattle.replay_tool.specs.Words.{texts_of}

-- ---- the words

pub one_word : (words : List (String Global)) (w : String Global) → 1 ≤ length words → length words < 2 → w ≡ get_or words 0 w → texts_of words ≡ string_bytes w ∷ []
one_word [] w some few is = absurd (omega arith)
one_word (v ∷ u ∷ ws) w some few is = absurd (omega arith)
one_word (v ∷ []) w some few is = ap (λ (x : String Global). string_bytes x ∷ []) (sym is)

pub is_the_word : (texts : List (List ℕ)) (text : List ℕ) (b : Bool) → texts ≡ text ∷ [] → b ≡ bytes_eq text (codes "replay") → (b ≡ true → texts ≡ codes "replay" ∷ []) × (texts ≡ codes "replay" ∷ [] → b ≡ true)
is_the_word texts text b one tested = (
  λ h. one ∙ ap (λ (t : List ℕ). t ∷ []) ((bytes_eq-Decides text (codes "replay")).0 (sym tested ∙ h)),
  λ h. tested ∙ (bytes_eq-Decides text (codes "replay")).1 (same (sym one ∙ h)),
)
  where
    same : text ∷ [] ≡ codes "replay" ∷ [] → text ≡ codes "replay"
    same h = cc
