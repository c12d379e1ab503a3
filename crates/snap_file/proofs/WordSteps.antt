-- The words of a line among the traces of a dump.
use Rattle.std.proofs.Common.{◌≡◌, ℕ, ◌≤◌, Bool, true, false, not, ◌||◌, List, [], ◌∷◌, length, map}
use Rattle.std.proofs.Common.{Result, Ok, Err, refl, sym, ap, ◌∙◌}
use Rattle.std.specs.Prelude.{codes, nat_le}
use Rattle.std.specs.List.{list_any}
use Rattle.std.proofs.lemmas.Bool.{le-leb}
use Rattle.snapshot_model.specs.Snapshots.{PlainRow}
use Rattle.trace_model.specs.Reading.{is_empty}
use Rattle.dump_model.specs.Operands.{◌>>=◌, row_at}
use Rattle.dump_model.specs.Reading.{Place, a_trace, in_rows}
use Rattle.dump_model.specs.declared.cause.LoadCause.{LoadCause}
use Rattle.dump_model.specs.declared.cause.LoadCause.TheVariants.{BadWords}
use Rattle.snap_file.specs.Plain.{place_of, plain_loaded, rows_of, stand_of}
use Rattle.snap_file.specs.Steps.{item_step, refuse, row_step, words_step}
use Rattle.snap_file.specs.declared.progress.Progress.{Progress}
use Rattle.snap_file.specs.declared.progress.Stand.TheVariants as stands

pub any_map : {X : Type 0} (p : List ℕ → Bool) (f : X → List ℕ) (xs : List X) → list_any p (map f xs) ≡ list_any (λ x. p (f x)) xs
any_map p f [] = refl
any_map p f (x ∷ xs) = ap (λ (b : Bool). p (f x) || b) (any_map p f xs)

module _ (p : Progress) (limit : ℕ) (at : p.at ≡ stands.InRows limit) (words : List (List ℕ)) (w : List ℕ) (ws : List (List ℕ))
    (are : words ≡ w ∷ ws) (told : w ≡ codes "trace") where
  abbrev place : Place
  place = record { done = plain_loaded p.loaded; left = p.left; at = in_rows limit (rows_of p) }

  placed : words_step (place_of p) words ≡ words_step place (codes "trace" ∷ ws)
  placed =
      (λ i. words_step (record { done = plain_loaded p.loaded; left = p.left; at = stand_of (rows_of p) (at i) }) (are i))
      ∙ ap (λ (v : List ℕ). words_step place (v ∷ ws)) told

  pub is_bad : list_any is_empty ws ≡ true → words_step (place_of p) words ≡ Err BadWords
  is_bad bad =
      placed
      ∙ ap (λ (b : Bool). refuse BadWords (b || not (nat_le 5 (length ws))) (item_step place (row_at ws >>= λ row. Ok (a_trace row)))) bad

  pub is_row : list_any is_empty ws ≡ false → 5 ≤ length ws → row_step (place_of p) limit (rows_of p) (row_at ws) ≡ words_step (place_of p) words
  is_row fine enough =
      sym (placed
      ∙ ap (λ (b : Bool). refuse BadWords (b || not (nat_le 5 (length ws))) (item_step place (row_at ws >>= λ row. Ok (a_trace row)))) fine
      ∙ ap (λ (b : Bool). refuse BadWords (not b) (item_step place (row_at ws >>= λ row. Ok (a_trace row)))) (le-leb 5 (length ws) enough)
      ∙ by (row_at ws)
      ∙ (λ i. row_step (record { done = plain_loaded p.loaded; left = p.left; at = stand_of (rows_of p) (sym at i) }) limit (rows_of p) (row_at ws)))
    where
      by : (r : Result PlainRow LoadCause) → item_step place (r >>= λ row. Ok (a_trace row)) ≡ row_step place limit (rows_of p) r
      by (Ok row) = refl
      by (Err c) = refl
