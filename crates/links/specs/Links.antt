-- How a vector of links stands for a chain.
use Rattle.std.specs.Prelude.{◌≡◌, ℕ, zero, suc, ◌+◌, List, [], ◌∷◌, length, get_or, set, Option, Some, None}
use Rattle.links.specs.declared.table.Links.{Links}
use Rattle.links.specs.Nodes.{times, first_or, first_of}

-- the links of node x, if it is in the chain
abbrev pub links_at : List (Option Links) → ℕ → Option Links
links_at all x = get_or all x None

abbrev pub next_in : Option Links → Option ℕ
next_in None = None
next_in (Some links) = links.next

abbrev pub prev_in : Option Links → Option ℕ
prev_in None = None
prev_in (Some links) = links.prev

-- 1 for a node of the chain
abbrev pub present : Option Links → ℕ
present None = 0
present (Some links) = 1

-- how many nodes the chain has
abbrev pub presences : List (Option Links) → ℕ
presences [] = 0
presences (e ∷ es) = present e + presences es

-- the nodes from `from` on, as the links lead to them, but no more than n
abbrev pub walk : ℕ → List (Option Links) → Option ℕ → List ℕ
walk zero all from = []
walk (suc n) all None = []
walk (suc n) all (Some x) = x ∷ walk n all (next_in (links_at all x))

-- the nodes of the chain, of which there are no more than links
abbrev pub nodes_of : List (Option Links) → Option ℕ → List ℕ
nodes_of all front = walk (length all) all front

-- the links of each of the nodes lead to its neighbours; p stands before the first node and q behind the last
abbrev pub Agrees : List (Option Links) → Option ℕ → List ℕ → Option ℕ → Type 0
Agrees all p [] q = Unit {0}
Agrees all p (x ∷ xs) q = (links_at all x ≡ Some (record { prev = p; next = first_or xs q })) × Agrees all (Some x) xs q

-- the links lead from the front through these nodes, each once, and no other node has links
pub record IsLinked (all : List (Option Links)) (front : Option ℕ) (nodes : List ℕ) : Type 0 where
  pub begins : front ≡ first_of nodes
  pub agrees : Agrees all None nodes None
  pub once : (x : ℕ) → times x nodes ≡ present (links_at all x)
  pub counted : presences all ≡ length nodes

-- links with another next node
abbrev pub with_next : Option Links → Option ℕ → Option Links
with_next None next = None
with_next (Some links) next = Some (record links { next = next })

-- links with another previous node
abbrev pub with_prev : Option Links → Option ℕ → Option Links
with_prev None prev = None
with_prev (Some links) prev = Some (record links { prev = prev })

-- the node at, if there is one, has this next node
abbrev pub next_set : List (Option Links) → Option ℕ → Option ℕ → List (Option Links)
next_set all None next = all
next_set all (Some at) next = set all at (with_next (links_at all at) next)

-- the node at, if there is one, has this previous node
abbrev pub prev_set : List (Option Links) → Option ℕ → Option ℕ → List (Option Links)
prev_set all None prev = all
prev_set all (Some at) prev = set all at (with_prev (links_at all at) prev)

-- `next` stands behind `before`, and `prev` before `after`
abbrev pub relinked : List (Option Links) → Option ℕ → Option ℕ → Option ℕ → Option ℕ → List (Option Links)
relinked all before next after prev = prev_set (next_set all before next) after prev

-- node x stands before the first one
abbrev pub put_first : List (Option Links) → ℕ → Option ℕ → List (Option Links)
put_first all x after = set (prev_set all after (Some x)) x (Some (record { prev = None; next = after }))

-- node x stands right before the node at, and behind the one that was before it
abbrev pub put_before : List (Option Links) → ℕ → ℕ → Option ℕ → List (Option Links)
put_before all at x before = set (next_set (prev_set all (Some at) (Some x)) before (Some x)) x (Some (record { prev = before; next = Some at }))

-- node x stands right behind the node at, and before the one that was behind it
abbrev pub put_after : List (Option Links) → ℕ → ℕ → Option ℕ → List (Option Links)
put_after all at x after = set (prev_set (next_set all (Some at) (Some x)) after (Some x)) x (Some (record { prev = Some at; next = after }))

-- node x is out, and the nodes before and behind it stand side by side
abbrev pub taken_out : List (Option Links) → Option ℕ → ℕ → Option ℕ → List (Option Links)
taken_out all before x after = relinked (set all x None) before after after before

-- the front, where `next` is now behind `before`
abbrev pub front_after : Option ℕ → Option ℕ → Option ℕ → Option ℕ
front_after front None next = next
front_after front (Some x) next = front
