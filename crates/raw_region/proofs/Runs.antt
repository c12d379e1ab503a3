-- Runs of cells, as lists.
use Rattle.std.proofs.Common.{◌≡◌, ℕ, zero, suc, ◌+◌, ◌-◌, ◌<◌, ◌≤◌, List, [], ◌∷◌, ◌++◌, length, map, get_or, take, drop, set, replicate, refl, sym, ap, ◌∙◌, arith}
use Rattle.std.specs.Prelude.{Option, Some, None}
use Rattle.std.specs.List.{refill, length_refill}
use lib.ListN.{length-append, length-replicate, length-take, length-drop}
use lib.Seq.{set_split, take_at, drop_at, get_or-drop, get_or_at, set_at, drop-cons}
use mathlib.Core.List.{append-nil, append_assoc}
use Rattle.std.proofs.lemmas.List.{length-map, take_all, take_more, drop_all}
use Rattle.raw_region.specs.Cells.{at_home, IsHome, AtHome, away, bytes_of, only, with_run}

module _ {X : Type 0} where
  pub run_of_one : (cells : List (Option X)) (off : ℕ) (x : X) → get_or cells off None ≡ Some x → take 1 (drop off cells) ≡ Some x ∷ []
  run_of_one [] off x e = cc
  run_of_one (cell ∷ cells) zero x e = ap (λ l. l ∷ []) e
  run_of_one (cell ∷ cells) (suc off) x e = run_of_one cells off x e

  -- a cell at home is one of the cells
  pub home_within : (cells : List (Option X)) (off : ℕ) → IsHome cells off → off < length cells
  home_within [] off h = let e = h.1 in cc
  home_within (cell ∷ cells) zero h = omega arith
  home_within (cell ∷ cells) (suc off) h = omega (arith, home_within cells off h)

  -- one cell that is set is a run of one
  pub run_of_set : (cells : List (Option X)) (off : ℕ) (cell : Option X) → off < length cells → with_run cells off 1 (cell ∷ []) ≡ set cells off cell
  run_of_set cells off cell lt = let next : off + 1 ≡ suc off = omega arith in ap (λ k. take off cells ++ cell ∷ drop k cells) next ∙ sym (set_split cells off cell lt)

  pub at_home-map : (xs : List X) → at_home (map Some xs) ≡ xs
  at_home-map [] = refl
  at_home-map (x ∷ xs) = ap (λ l. x ∷ l) (at_home-map xs)

  pub at_home-append : (cells more : List (Option X)) → at_home (cells ++ more) ≡ at_home cells ++ at_home more
  at_home-append [] more = refl
  at_home-append (None ∷ cells) more = at_home-append cells more
  at_home-append (Some x ∷ cells) more = ap (λ l. x ∷ l) (at_home-append cells more)

  -- lent cells in front hold nothing
  pub at_home-behind : (n : ℕ) (cells : List (Option X)) → at_home (replicate n None ++ cells) ≡ at_home cells
  at_home-behind zero cells = refl
  at_home-behind (suc n) cells = at_home-behind n cells

  pub map-replicate : (n : ℕ) (x : X) → map Some (replicate n x) ≡ replicate n (Some x)
  map-replicate zero x = refl
  map-replicate (suc n) x = ap (λ l. Some x ∷ l) (map-replicate n x)

  pub map-injective : (xs ys : List X) → map Some xs ≡ map Some ys → xs ≡ ys
  map-injective xs ys e = sym (at_home-map xs) ∙ ap at_home e ∙ at_home-map ys

-- the cells of a piece: some that are lent, and then its bytes
module _ {X : Type 0} (cells : List (Option X)) (xs : List X) (off len : ℕ) (is : cells ≡ replicate off None ++ map Some xs) (long : length xs ≡ len) where
  abbrev none : Option X
  none = None

  pub length-piece : length cells ≡ off + len
  length-piece = ap length is ∙ length-append (replicate off none) (map Some xs) ∙ omega (arith, length-replicate off none, length-map xs Some)

  pub run_of_piece : take len (drop off cells) ≡ map Some xs
  run_of_piece =
      ap (λ l. take len (drop off l)) is ∙ ap (take len) (drop_at (replicate off none) (map Some xs) off (length-replicate off none)) ∙ take_all len (map Some xs) (omega (arith, length-map xs Some))

  -- what it has once other bytes are written to it
  pub piece_written : (ys : List X) → length ys ≡ len → with_run cells off len (map Some ys) ≡ replicate off None ++ map Some ys
  piece_written ys same =
      let front : take off cells ≡ replicate off None = ap (take off) is ∙ take_at (replicate off none) (map Some xs) off (length-replicate off none) in
      let back : drop (off + len) cells ≡ [] = drop_all (off + len) cells (omega (arith, length-piece)) in
      (λ i. front i ++ (map Some ys ++ back i)) ∙ ap (λ l. replicate off None ++ l) (append-nil (map Some ys))

pub piece_refilled : (cells : List (Option ℕ)) (xs : List ℕ) (off len : ℕ) → cells ≡ replicate off None ++ map Some xs → length xs ≡ len → (ws : List ℕ)
    → with_run cells off len (map Some (refill len (bytes_of cells off len) ws)) ≡ replicate off None ++ map Some (refill len xs ws)
piece_refilled cells xs off len is long ws =
    let had : bytes_of cells off len ≡ xs = ap at_home (run_of_piece cells xs off len is long) ∙ at_home-map xs in
    ap (λ l. with_run cells off len (map Some (refill len l ws))) had ∙ piece_written cells xs off len is long (refill len xs ws) (sym (length_refill len xs ws (sym long)))

module _ {X : Type 0} where
  home_front : (cells : List (Option X)) (n : ℕ) → ((i : ℕ) → i < n → IsHome cells i) → take n cells ≡ map Some (at_home (take n cells))
  home_front cells zero home = refl
  home_front [] (suc n) home = let e = (home 0 (omega arith)).1 in cc
  home_front (None ∷ cells) (suc n) home = let e = (home 0 (omega arith)).1 in cc
  home_front (Some x ∷ cells) (suc n) home = ap (λ l. Some x ∷ l) (home_front cells n (λ i lt. home (suc i) (omega arith)))

-- a run of cells that are at home
module _ (cells : List (Option ℕ)) (off len : ℕ) (home : AtHome cells off len) where
  pub home_run : take len (drop off cells) ≡ map Some (bytes_of cells off len)
  home_run = home_front (drop off cells) len (λ i lt. let h = home i lt in (h.0, get_or-drop off cells i None ∙ h.1))

  pub home_inside : 1 ≤ len → off + len ≤ length cells
  home_inside some = omega (arith, home_within cells (off + (len - 1)) (home (len - 1) (omega arith)))

  pub length-bytes_of : 1 ≤ len → length (bytes_of cells off len) ≡ len
  length-bytes_of some = omega (arith, home_inside some, ap length home_run, length-map (bytes_of cells off len) Some, length-take len (drop off cells), length-drop off cells)

  pub only_is : only cells off len ≡ replicate off None ++ map Some (bytes_of cells off len)
  only_is = ap (λ l. replicate off None ++ l) home_run

  pub at_home-only : at_home (only cells off len) ≡ bytes_of cells off len
  at_home-only = at_home-behind off (take len (drop off cells))

-- a run that grows by one cell
module _ {X : Type 0} (cells : List (Option X)) (off i : ℕ) (run : List (Option X)) (long : length run ≡ i) (below : off + i < length cells) where
  ahead : length (take off cells ++ run) ≡ off + i
  ahead = omega (arith, length-append (take off cells) run, length-take off cells)

  parted : with_run cells off i run ≡ (take off cells ++ run) ++ get_or cells (off + i) None ∷ drop (suc (off + i)) cells
  parted = sym (append_assoc (take off cells) run (drop (off + i) cells)) ∙ ap (λ l. (take off cells ++ run) ++ l) (drop-cons cells (off + i) None below)

  pub run_ahead : get_or (with_run cells off i run) (off + i) None ≡ get_or cells (off + i) None
  run_ahead = ap (λ l. get_or l (off + i) None) parted ∙ get_or_at (take off cells ++ run) (get_or cells (off + i) None) (drop (suc (off + i)) cells) None (off + i) ahead

  pub run_more : (cell : Option X) → set (with_run cells off i run) (off + i) cell ≡ with_run cells off (i + 1) (run ++ cell ∷ [])
  run_more cell =
      let next : suc (off + i) ≡ off + (i + 1) = omega arith in let rest = drop (off + (i + 1)) cells in
      ap (λ l. set l (off + i) cell) parted ∙ set_at (take off cells ++ run) (get_or cells (off + i) None) (drop (suc (off + i)) cells) cell (off + i) ahead ∙ ap (λ k. (take off cells ++ run) ++ cell ∷ drop k cells) next
      ∙ append_assoc (take off cells) run (cell ∷ rest) ∙ ap (λ l. take off cells ++ l) (sym (append_assoc run (cell ∷ []) rest))

pub bytes_of_more : (cells : List (Option ℕ)) (off i b : ℕ) → get_or cells (off + i) None ≡ Some b → bytes_of cells off (i + 1) ≡ bytes_of cells off i ++ b ∷ []
bytes_of_more cells off i b is =
    let below = home_within cells (off + i) (b, is) in
    ap at_home (take_more (drop off cells) i None (omega (arith, length-drop off cells)) ∙ ap (λ cell. take i (drop off cells) ++ cell ∷ []) (get_or-drop off cells i None ∙ is)) ∙ at_home-append (take i (drop off cells)) (Some b ∷ [])

module _ {X : Type 0} (cells : List (Option X)) (off len : ℕ) (inside : off + len ≤ length cells) where
  pub length-with_run : (run : List (Option X)) → length run ≡ len → length (with_run cells off len run) ≡ length cells
  length-with_run run long =
      let rest = drop (off + len) cells in
      omega (arith, length-append (take off cells) (run ++ rest), length-append run rest, length-take off cells, length-drop (off + len) cells)

  pub length-away : length (away cells off len) ≡ length cells
  length-away = let none : Option X = None in length-with_run (replicate len None) (length-replicate len none)
