-- The pieces of a pattern, one after another.
use Rattle.std.proofs.Common.{◌≡◌, ◌≢◌, ℕ, ◌+◌, ◌-◌, ◌<◌, ◌≤◌, true, false, ◌&&◌, List, [], ◌∷◌, ◌++◌}
use Rattle.std.proofs.Common.{length, map, take, drop}
use Rattle.std.proofs.Common.{get_or, refl, ap, sym, subst, ◌∙◌, arith, append_assoc, append-nil}
use Rattle.std.proofs.lemmas.List.{drop-drop, drop-map, drop_more, length-drop, length-map, map-append}
use Rattle.std.proofs.lemmas.List.{map_push, take_all, take-append-drop, take-map}
use Rattle.pattern_model.specs.Patterns.{any, at_some_end, first_part, match_parts, parts_of, Part, PartRead}
use Rattle.pattern_model.proofs.CallerLemmas.{first_within, reads_in_turn}
use Rattle.name_match.specs.Pieces.{part_of, parts_held}
use Rattle.name_match.specs.Runs.{fits, takes_byte, FitsNowhereBelow, IsCut, IsRun, StarsFirst}
use Rattle.name_match.specs.declared.piece.Piece.{Piece}
use Rattle.name_match.proofs.RunLemmas.{first_place, front_is_run, last_fits, last_short, no_place}
use Rattle.name_match.proofs.RunLemmas.{run_alone, run_elsewhere, run_length, run_then, star_is_first}
use Rattle.name_match.proofs.RunLemmas.{star_then}

-- a list behind its first k elements
pub rest_of : {X : Type 0} (xs : List X) (k : ℕ) → take (length xs - k) (drop k xs) ≡ drop k xs
rest_of xs k = take_all (length xs - k) (drop k xs) (omega (arith, length-drop k xs))

-- a list behind its first k elements and then n more
pub rest_behind : {X : Type 0} (xs : List X) (k n : ℕ)
    → take (length (take (length xs - k) (drop k xs)) - n) (drop n (take (length xs - k) (drop k xs)))
    ≡ drop (k + n) xs
rest_behind xs k n =
    rest_of (take (length xs - k) (drop k xs)) n ∙ ap (drop n) (rest_of xs k) ∙ drop-drop n k xs

-- one more element in front of what follows
pub pushed : {X Y : Type 0} (f : X → Y) (xs : List X) (x : X) (ys : List Y)
    → map f (xs ++ x ∷ []) ++ ys ≡ map f xs ++ f x ∷ ys
pushed f xs x ys = ap (λ l. l ++ ys) (map_push f xs x) ∙ append_assoc (map f xs) (f x ∷ []) ys

-- the pieces fit where the next one takes the next byte and the others fit behind it
pub fits_next : (held : List Piece) (name : List ℕ) (i : ℕ) (d : Piece) → i < length held → i < length name
    → fits (parts_held (drop i held)) (drop i name)
    ≡ (takes_byte (part_of (get_or held i d)) (get_or name i 0) && fits (parts_held (drop (i + 1) held))
    (drop (i + 1) name))
fits_next held name i d few more =
    λ j. fits (parts_held (drop_more held i d few j)) (drop_more name i 0 more j)

-- ---- reading

-- the piece read next, in front of what follows
pub read_next : (held new : List Piece) (piece : Piece) (rest behind : List ℕ) (whole : List Part)
    → new ≡ held ++ piece ∷ []
    → 1 ≤ length rest
    → record { part = part_of piece; behind = behind }
    ≡ first_part (get_or rest 0 0) (take (length rest - 1) (drop 1 rest))
    → parts_held held ++ parts_of rest ≡ whole → parts_held new ++ parts_of behind ≡ whole
read_next held new piece [] behind whole is some read h = absurd (omega (arith, some))
read_next held new piece (b ∷ bs) behind whole is some read h =
    let next : record { part = part_of piece; behind = behind } ≡ first_part b bs =
    read ∙ ap (first_part b) (rest_of (b ∷ bs) 1) in
    let step : parts_of (b ∷ bs) ≡ part_of piece ∷ parts_of behind =
    reads_in_turn b bs ∙ (λ i. (sym next i).part ∷ parts_of (sym next i).behind) in
    ap (λ l. parts_held l ++ parts_of behind) is
    ∙ pushed part_of held piece (parts_of behind)
    ∙ ap (λ l. parts_held held ++ l) (sym step)
    ∙ h

-- leaves a shorter text
pub read_less : (piece : Piece) (rest behind : List ℕ) → 1 ≤ length rest
    → record { part = part_of piece; behind = behind }
    ≡ first_part (get_or rest 0 0) (take (length rest - 1) (drop 1 rest))
    → length behind < length rest
read_less piece [] behind some read = absurd (omega (arith, some))
read_less piece (b ∷ bs) behind some read =
    let next : record { part = part_of piece; behind = behind } ≡ first_part b bs =
    read ∙ ap (first_part b) (rest_of (b ∷ bs) 1) in
    let less : length behind ≡ length (first_part b bs).behind =
    ap (λ (p : PartRead). length p.behind) next in
    omega (arith, first_within b bs, less)

-- ---- pieces, cut in front of their first star

pub is_cut : (pieces run from_star : List Piece) (r : ℕ) → run_length (parts_held pieces) ≡ r
    → run ≡ take r pieces
    → from_star ≡ drop r pieces → IsCut pieces run from_star
is_cut pieces run from_star r is front back =
    let n = run_length (parts_held pieces) in
    let in_front : parts_held run ≡ take n (parts_held pieces) =
    ap parts_held front ∙ sym (take-map part_of r pieces) ∙ ap (λ k. take k (parts_held pieces)) (sym is) in
    let behind : parts_held from_star ≡ drop n (parts_held pieces) =
    ap parts_held back ∙ sym (drop-map part_of r pieces) ∙ ap (λ k. drop k (parts_held pieces)) (sym is) in
    record {
      both = sym (take-append-drop r pieces) ∙ (λ i. sym front i ++ sym back i);
      no_star = subst IsRun (sym in_front) (front_is_run (parts_held pieces));
      at_star = subst StarsFirst (sym behind) (star_is_first (parts_held pieces));
    }

module _ (held run star : List Piece) (cut : IsCut held run star) where
  both : parts_held held ≡ parts_held run ++ parts_held star
  both = ap parts_held cut.both ∙ map-append part_of run star

  no_more : length star ≡ 0 → parts_held held ≡ parts_held run
  no_more ends =
      both ∙ ap (λ l. parts_held run ++ parts_held l) (is_empty star ends) ∙ append-nil (parts_held run)
    where
      is_empty : (l : List Piece) → length l ≡ 0 → l ≡ []
      is_empty [] h = refl
      is_empty (p ∷ ps) h = absurd (omega (arith, h))

  as_many : length (parts_held run) ≡ length run
  as_many = length-map run part_of

  -- pieces without a star
  pub alone : (name : List ℕ) → length star ≡ 0 → length run ≡ length name
      → match_parts (parts_held held) name ≡ fits (parts_held run) name
  alone name ends same =
      ap (λ p. match_parts p name) (no_more ends)
      ∙ run_alone (parts_held run) name cut.no_star (as_many ∙ same)

  pub elsewhere : (name : List ℕ) → length star ≡ 0 → length run ≢ length name
      → match_parts (parts_held held) name ≡ false
  elsewhere name ends other =
      ap (λ p. match_parts p name) (no_more ends)
      ∙ run_elsewhere (parts_held run) name cut.no_star (λ e. other (sym as_many ∙ e))

  pub last : (name : List ℕ) → length star ≡ 0 → length run ≤ length name
      → at_some_end (match_parts (parts_held held)) name
      ≡ fits (parts_held run) (drop (length name - length run) name)
  last name ends few =
      let le : length (parts_held run) ≤ length name = omega (arith, few, as_many) in
      ap (λ p. at_some_end (match_parts p) name) (no_more ends)
      ∙ last_fits (parts_held run) name cut.no_star le
      ∙ ap (λ k. fits (parts_held run) (drop (length name - k) name)) as_many

  pub last_none : (name : List ℕ) → length star ≡ 0 → length name < length run
      → at_some_end (match_parts (parts_held held)) name ≡ false
  last_none name ends many =
      ap (λ p. at_some_end (match_parts p) name) (no_more ends)
      ∙ last_short (parts_held run) name cut.no_star (omega (arith, many, as_many))

  -- pieces with a star
  abbrev behind : List Part
  behind = parts_held (drop 1 star)

  star_first : 1 ≤ length star → parts_held star ≡ any ∷ behind
  star_first some =
      let more : 1 ≤ length (parts_held star) = omega (arith, some, length-map star part_of) in
      star_then (parts_held star) cut.at_star more ∙ ap (λ l. any ∷ l) (drop-map part_of 1 star)

  then_star : 1 ≤ length star → (name : List ℕ)
      → match_parts (parts_held held) name
      ≡ (fits (parts_held run) name && at_some_end (match_parts behind)
      (drop (length (parts_held run)) name))
  then_star some name =
      ap (λ p. match_parts p name) (both ∙ ap (λ l. parts_held run ++ l) (star_first some))
      ∙ run_then (parts_held run) (any ∷ behind) name cut.no_star

  pub first_then : (name : List ℕ) → 1 ≤ length star
      → match_parts (parts_held held) name
      ≡ (fits (parts_held run) name && at_some_end (match_parts (parts_held (drop 1 star)))
      (drop (length run) name))
  first_then name some =
      then_star some name
      ∙ ap (λ k. fits (parts_held run) name && at_some_end (match_parts behind) (drop k name)) as_many

  pub found : (name : List ℕ) (at : ℕ) → 1 ≤ length star → FitsNowhereBelow (parts_held run) name at
      → fits (parts_held run) (drop at name) ≡ true
      → at_some_end (match_parts (parts_held held)) name
      ≡ at_some_end (match_parts (parts_held (drop 1 star))) (drop (at + length run) name)
  found name at some below here =
      first_place (parts_held run) (match_parts (parts_held held)) (match_parts behind) (then_star some) at
      name below here
      ∙ ap (λ k. at_some_end (match_parts behind) (drop (at + k) name)) as_many

  pub missing : (name : List ℕ) → 1 ≤ length star → FitsNowhereBelow (parts_held run) name (length name + 1)
      → at_some_end (match_parts (parts_held held)) name ≡ false
  missing name some nowhere =
      no_place (parts_held run) (match_parts (parts_held held)) (match_parts behind) (then_star some) name
      nowhere
