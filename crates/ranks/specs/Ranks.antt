-- Nodes in rising order of a rank from 1 to 64, and the last node of each rank.
use Rattle.std.specs.Prelude.{◌≡◌, ℕ, ◌-◌, ◌<◌, ◌≤◌, ◌==◌, nat_le, if◌then◌else◌, List, [], ◌∷◌, length, get_or, set, Option, Some, None}
use Rattle.links.specs.Nodes.{times}

-- the nodes from front to end, and the ranks by node
pub record RanksView : Type 0 where
  pub nodes : List ℕ
  pub ranks : List ℕ

-- the rank of a node
abbrev pub rank_in : List ℕ → ℕ → ℕ
rank_in ranks node = get_or ranks node 0

-- the first of two that there is
abbrev pub either : Option ℕ → Option ℕ → Option ℕ
either None o = o
either (Some x) o = Some x

-- the node, where it has that rank
abbrev pub if_rank : (ℕ → ℕ) → ℕ → ℕ → Option ℕ
if_rank r f x = if r x == f then Some x else None

-- the last node with that rank
abbrev pub last_with : (ℕ → ℕ) → ℕ → List ℕ → Option ℕ
last_with r f [] = None
last_with r f (x ∷ xs) = either (last_with r f xs) (if_rank r f x)

-- no rank is below the one before it, and the first one is at least low
abbrev pub Rising : (ℕ → ℕ) → ℕ → List ℕ → Type 0
Rising r low [] = Unit {0}
Rising r low (x ∷ xs) = (low ≤ r x) × Rising r (r x) xs

-- the nodes without this one
abbrev pub without_node : ℕ → List ℕ → List ℕ
without_node x [] = []
without_node x (y ∷ ys) = if y == x then ys else (y ∷ without_node x ys)

-- the nodes with x before the first one whose rank is at least its own, or last
abbrev pub put_by : (ℕ → ℕ) → ℕ → List ℕ → List ℕ
put_by r x [] = x ∷ []
put_by r x (y ∷ ys) = if nat_le (r x) (r y) then (x ∷ y ∷ ys) else (y ∷ put_by r x ys)

-- a node that follows `before`, where that one has the rank
abbrev pub kept_before : (ℕ → ℕ) → ℕ → Option ℕ → Option ℕ
kept_before r f None = None
kept_before r f (Some b) = if_rank r f b

-- ranks are from 1 to 64 and rise, and `lasts` has the last node of each
pub record IsRanked (nodes ranks : List ℕ) (lasts : List (Option ℕ)) (room : ℕ) : Type 0 where
  pub once : (x : ℕ) → times x nodes ≤ 1
  pub below : (x : ℕ) → 1 ≤ times x nodes → x < length ranks
  pub rising : Rising (rank_in ranks) 1 nodes
  pub most : (x : ℕ) → 1 ≤ times x nodes → rank_in ranks x ≤ 64
  pub long : length lasts ≡ 65
  pub last : (f : ℕ) → f ≤ 64 → get_or lasts f None ≡ last_with (rank_in ranks) f nodes
  pub space : length ranks ≤ room

-- the front after its rank has fallen by one, with the last of which it goes
abbrev pub after_lower : (ℕ → ℕ) → List ℕ → List ℕ
after_lower r [] = []
after_lower r (x ∷ xs) = if r x == 1 then xs else (x ∷ xs)

-- the last node of a rank, if it is another one
abbrev pub gone_from : Option ℕ → ℕ → Option ℕ
gone_from None x = None
gone_from (Some y) x = if y == x then None else Some y

-- the front is x, with that rank
pub record HasFront (v : RanksView) (x : ℕ) : Type 0 where
  pub rest : List ℕ
  pub is : v.nodes ≡ x ∷ rest

-- the ranks after that of the front has fallen by one; those of nodes that are gone stay
abbrev pub after_lower_ranks : List ℕ → List ℕ → List ℕ
after_lower_ranks ranks [] = ranks
after_lower_ranks ranks (x ∷ xs) = if get_or ranks x 0 == 1 then ranks else set ranks x (get_or ranks x 0 - 1)
