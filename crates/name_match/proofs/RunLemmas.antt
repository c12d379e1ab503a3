-- A match, run by run: the first run at the start of the name, the last one at its end, and each run between
-- at the first place where it fits.
use Rattle.std.proofs.Common.{◌≡◌, ◌≢◌, ℕ, zero, suc, ◌+◌, ◌-◌, ◌<◌, ◌≤◌, Bool, true, false, ◌&&◌, ◌||◌}
use Rattle.std.proofs.Common.{List, [], ◌∷◌, ◌++◌}
use Rattle.std.proofs.Common.{length, take, drop, refl, sym, ap, ◌∙◌, subst, true≢false, inl, inr, arith}
use Rattle.std.proofs.lemmas.Bool.{cases_Bool, cases_lt}
use Rattle.std.proofs.Math.Bool.{and_assoc}
use Rattle.std.proofs.lemmas.List.{drop-drop}
use Rattle.pattern_model.specs.Patterns.{any, at_some_end, has_byte, match_parts, of_set, Part}
use Rattle.name_match.specs.Runs.{fits, takes_byte, FitsNowhereBelow, IsRun, StarsFirst}

-- ---- runs

-- how many parts stand in front of the first star
abbrev pub run_length : List Part → ℕ
run_length [] = 0
run_length (any ∷ parts) = 0
run_length (of_set set ∷ parts) = suc (run_length parts)

-- what stands in front of the first star is a run
pub front_is_run : (parts : List Part) → IsRun (take (run_length parts) parts)
front_is_run [] = tt
front_is_run (any ∷ parts) = tt
front_is_run (of_set set ∷ parts) = front_is_run parts

-- what stands behind it begins with the star
pub star_is_first : (parts : List Part) → StarsFirst (drop (run_length parts) parts)
star_is_first [] = tt
star_is_first (any ∷ parts) = tt
star_is_first (of_set set ∷ parts) = star_is_first parts

-- parts that begin with a star
pub star_then : (parts : List Part) → StarsFirst parts → 1 ≤ length parts → parts ≡ any ∷ drop 1 parts
star_then [] is some = absurd (omega (arith, some))
star_then (any ∷ parts) is some = refl
star_then (of_set set ∷ parts) is some = absurd is

-- ---- fitting

and_none : (a b : Bool) → b ≡ false → (a && b) ≡ false
and_none true b h = h
and_none false b h = refl

-- no more parts fit than there are bytes
pub too_long : (run : List Part) (name : List ℕ) → length name < length run → fits run name ≡ false
too_long [] name h = absurd (omega (arith, h))
too_long (part ∷ run) [] h = refl
too_long (part ∷ run) (b ∷ bs) h =
    and_none (takes_byte part b) (fits run bs) (too_long run bs (omega (arith, h)))

-- parts that begin with a run match where the run fits and the other parts match the rest
pub run_then : (run rest : List Part) (name : List ℕ) → IsRun run
    → match_parts (run ++ rest) name ≡ (fits run name && match_parts rest (drop (length run) name))
run_then [] rest name is = refl
run_then (any ∷ run) rest name is = absurd is
run_then (of_set set ∷ run) rest [] is = refl
run_then (of_set set ∷ run) rest (b ∷ bs) is =
    ap (λ x. has_byte set b && x) (run_then run rest bs is)
    ∙ sym (and_assoc (has_byte set b) (fits run bs) (match_parts rest (drop (length run) bs)))

-- a run matches a name of its length where it fits
pub run_alone : (run : List Part) (name : List ℕ) → IsRun run → length run ≡ length name
    → match_parts run name ≡ fits run name
run_alone [] [] is h = refl
run_alone [] (b ∷ bs) is h = absurd (omega (arith, h))
run_alone (any ∷ run) name is h = absurd is
run_alone (of_set set ∷ run) [] is h = refl
run_alone (of_set set ∷ run) (b ∷ bs) is h =
    ap (λ x. has_byte set b && x) (run_alone run bs is (omega (arith, h)))

-- and no name of another length
pub run_elsewhere : (run : List Part) (name : List ℕ) → IsRun run → length run ≢ length name
    → match_parts run name ≡ false
run_elsewhere [] [] is h = absurd (h refl)
run_elsewhere [] (b ∷ bs) is h = refl
run_elsewhere (any ∷ run) name is h = absurd is
run_elsewhere (of_set set ∷ run) [] is h = refl
run_elsewhere (of_set set ∷ run) (b ∷ bs) is h =
    and_none (has_byte set b) (match_parts run bs) (run_elsewhere run bs is (λ e. h (ap suc e)))

-- ---- the last run

-- a run matches no end of a name that is shorter
pub last_short : (run : List Part) (name : List ℕ) → IsRun run → length name < length run
    → at_some_end (match_parts run) name ≡ false
last_short run [] is h = run_elsewhere run [] is (λ e. absurd (omega (arith, h, e)))
last_short run (b ∷ bs) is h =
    ap (λ x. x || at_some_end (match_parts run) bs)
    (run_elsewhere run (b ∷ bs) is (λ e. absurd (omega (arith, h, e))))
    ∙ last_short run bs is (omega (arith, h))

or_none : (a b : Bool) → b ≡ false → (a || b) ≡ a
or_none true b h = refl
or_none false b h = h

-- a run matches some end where it fits at the end with as many bytes
pub last_fits : (run : List Part) (name : List ℕ) → IsRun run → length run ≤ length name
    → at_some_end (match_parts run) name ≡ fits run (drop (length name - length run) name)
last_fits run [] is h =
    let start : 0 - length run ≡ 0 = omega arith in
    run_alone run [] is (omega (arith, h)) ∙ ap (λ n. fits run (drop n [])) (sym start)
last_fits run (b ∷ bs) is h = elim (cases_lt (length bs) (length run)) [
  | inl more ↦
      let all : length run ≡ suc (length bs) = omega (arith, h, more) in
      let start : suc (length bs) - length run ≡ 0 = omega (arith, all) in
      or_none (match_parts run (b ∷ bs)) (at_some_end (match_parts run) bs) (last_short run bs is more)
      ∙ run_alone run (b ∷ bs) is all
      ∙ ap (λ n. fits run (drop n (b ∷ bs))) (sym start)
  | inr few ↦
      let le : length run ≤ length bs = omega (arith, few) in
      let later : suc (length bs) - length run ≡ suc (length bs - length run) = omega (arith, le) in
      ap (λ x. x || at_some_end (match_parts run) bs)
      (run_elsewhere run (b ∷ bs) is (λ e. absurd (omega (arith, le, e))))
      ∙ last_fits run bs is le
      ∙ ap (λ n. fits run (drop n (b ∷ bs))) (sym later)
]

-- ---- a run in front of a star

-- a test that no end passes is passed by no end of an end
shorter : (test : List ℕ → Bool) (k : ℕ) (name : List ℕ) → at_some_end test name ≡ false
    → at_some_end test (drop k name) ≡ false
shorter test zero name h = h
shorter test (suc k) [] h = h
shorter test (suc k) (b ∷ bs) h = shorter test k bs (second (test (b ∷ bs)) (at_some_end test bs) h)
  where
    second : (x y : Bool) → (x || y) ≡ false → y ≡ false
    second true y h = absurd (true≢false h)
    second false y h = h

after_one : (n b : ℕ) (bs : List ℕ) → drop 1 (drop n (b ∷ bs)) ≡ drop n bs
after_one n b bs =
    let one : n + 1 ≡ suc n = omega arith in
    drop-drop 1 n (b ∷ bs) ∙ ap (λ k. drop k (b ∷ bs)) one

module _ (run : List Part) (test rest : List ℕ → Bool)
    (is : (name : List ℕ) → test name ≡ (fits run name && at_some_end rest (drop (length run) name))) where
  -- where the rest is at no end behind the first bytes, the run and the rest are nowhere
  rest_nowhere : (name : List ℕ) → at_some_end rest (drop (length run) name) ≡ false
      → at_some_end test name ≡ false
  rest_nowhere [] h = is [] ∙ and_none (fits run []) _ h
  rest_nowhere (b ∷ bs) h =
      let later : at_some_end rest (drop (length run) bs) ≡ false =
      subst (λ l. at_some_end rest l ≡ false) (after_one (length run) b bs)
      (shorter rest 1 (drop (length run) (b ∷ bs)) h) in
      ap (λ x. x || at_some_end test bs) (is (b ∷ bs) ∙ and_none (fits run (b ∷ bs)) _ h)
      ∙ rest_nowhere bs later

  passes_here : (name : List ℕ) → test name ≡ true → at_some_end test name ≡ true
  passes_here [] h = h
  passes_here (b ∷ bs) h = ap (λ x. x || at_some_end test bs) h

  -- where the run fits at the start, it is as good as anywhere
  fits_here : (name : List ℕ) → fits run name ≡ true
      → at_some_end test name ≡ at_some_end rest (drop (length run) name)
  fits_here name h = elim (cases_Bool (at_some_end rest (drop (length run) name))) [
    | inl there ↦ passes_here name (is name ∙ (λ i. h i && there i)) ∙ sym there
    | inr nowhere ↦ rest_nowhere name nowhere ∙ sym nowhere
  ]

  -- a run that does not fit at the start begins behind it
  not_here : (b : ℕ) (bs : List ℕ) → fits run (b ∷ bs) ≡ false
      → at_some_end test (b ∷ bs) ≡ at_some_end test bs
  not_here b bs h = ap (λ x. x || at_some_end test bs)
      (is (b ∷ bs) ∙ ap (λ x. x && at_some_end rest (drop (length run) (b ∷ bs))) h)

  -- the first place where the run fits is as good as any
  pub first_place : (at : ℕ) (name : List ℕ) → FitsNowhereBelow run name at → fits run (drop at name) ≡ true
      → at_some_end test name ≡ at_some_end rest (drop (at + length run) name)
  first_place zero name nowhere here =
      let n : length run ≡ 0 + length run = omega arith in
      fits_here name here ∙ ap (λ k. at_some_end rest (drop k name)) n
  first_place (suc at) [] nowhere here = absurd (true≢false (sym here ∙ nowhere 0 (omega arith)))
  first_place (suc at) (b ∷ bs) nowhere here =
      let n : suc (at + length run) ≡ suc at + length run = omega arith in
      not_here b bs (nowhere 0 (omega arith))
      ∙ first_place at bs (λ k h. nowhere (suc k) (omega (arith, h))) here
      ∙ ap (λ k. at_some_end rest (drop k (b ∷ bs))) n

  -- a run that fits nowhere
  pub no_place : (name : List ℕ) → FitsNowhereBelow run name (length name + 1) → at_some_end test name ≡ false
  no_place [] nowhere =
      is [] ∙ ap (λ x. x && at_some_end rest (drop (length run) [])) (nowhere 0 (omega arith))
  no_place (b ∷ bs) nowhere =
      not_here b bs (nowhere 0 (omega arith)) ∙ no_place bs (λ k h. nowhere (suc k) (omega (arith, h)))
