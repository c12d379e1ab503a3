-- The nodes of a chain, from front to end, and what its calls do to them.
use Rattle.std.specs.Prelude.{◌≡◌, ℕ, ◌+◌, ◌<◌, ◌≤◌, ◌==◌, if◌then◌else◌, List, [], ◌∷◌, ◌++◌, Option, Some, None}

-- a chain: its nodes from front to end, and its room, which all nodes are below
pub record ChainView : Type 0 where
  pub nodes : List ℕ
  pub room : ℕ

-- how often x stands among the nodes
abbrev pub times : ℕ → List ℕ → ℕ
times x [] = 0
times x (y ∷ ys) = (if y == x then 1 else 0) + times x ys

-- the first node, or q if there is none
abbrev pub first_or : List ℕ → Option ℕ → Option ℕ
first_or [] q = q
first_or (x ∷ xs) q = Some x

-- the last node, or p if there is none
abbrev pub last_or : List ℕ → Option ℕ → Option ℕ
last_or [] p = p
last_or (x ∷ xs) p = last_or xs (Some x)

abbrev pub first_of : List ℕ → Option ℕ
first_of xs = first_or xs None

abbrev pub last_of : List ℕ → Option ℕ
last_of xs = last_or xs None

-- 1 for a node, 0 for none
abbrev pub count_of : Option ℕ → ℕ
count_of None = 0
count_of (Some x) = 1

-- each node stands in the chain once, and is below the room
pub record IsChain (v : ChainView) : Type 0 where
  pub once : (x : ℕ) → times x v.nodes ≤ 1
  pub below : (x : ℕ) → 1 ≤ times x v.nodes → x < v.room

-- what follows the node
abbrev pub IsNext : List ℕ → ℕ → Option ℕ → Type 0
IsNext xs node next = (before after : List ℕ) → xs ≡ before ++ node ∷ after → next ≡ first_of after

-- what stands before the node
abbrev pub IsPrev : List ℕ → ℕ → Option ℕ → Type 0
IsPrev xs node prev = (before after : List ℕ) → xs ≡ before ++ node ∷ after → prev ≡ last_of before

-- the node stands right before the node `at`, and all else is as before
abbrev pub IsInsertedBefore : ℕ → ℕ → List ℕ → List ℕ → Type 0
IsInsertedBefore at node old new = (before after : List ℕ) → old ≡ before ++ at ∷ after → new ≡ before ++ node ∷ at ∷ after

-- the node stands right behind the node `at`, and all else is as before
abbrev pub IsInsertedAfter : ℕ → ℕ → List ℕ → List ℕ → Type 0
IsInsertedAfter at node old new = (before after : List ℕ) → old ≡ before ++ at ∷ after → new ≡ before ++ at ∷ node ∷ after

-- the node is out, and all else is as before
abbrev pub IsRemoved : ℕ → List ℕ → List ℕ → Type 0
IsRemoved node old new = (before after : List ℕ) → old ≡ before ++ node ∷ after → new ≡ before ++ after

-- the steps count the node and its neighbours among these nodes: from 1 to 3
pub record CountsNeighbours (node : ℕ) (xs : List ℕ) (old new : ℕ) : Type 0 where
  pub exact : (before after : List ℕ) → xs ≡ before ++ node ∷ after → new ≡ old + 1 + count_of (last_of before) + count_of (first_of after)
  pub some : old + 1 ≤ new
  pub few : new ≤ old + 3

-- the place of a node that comes between these two, of which either may be missing
pub record IsGap (xs : List ℕ) (before after : Option ℕ) : Type 0 where
  pub front : List ℕ
  pub rest : List ℕ
  pub all : xs ≡ front ++ rest
  pub last : before ≡ last_of front
  pub first : after ≡ first_of rest
