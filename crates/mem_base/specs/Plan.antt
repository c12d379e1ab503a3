-- Which requests of a source will be refused.
use Rattle.std.specs.Prelude.{ℕ, Bool, ◌||◌, ◌==◌, IsTrue, Option, Some, None}

-- the requests, by their numbers from 1 on, where the source tells them
abbrev pub Plan : Type 0
Plan = Option (ℕ → Bool)

-- the plan is told, and the request of that number is in it
abbrev pub IsPlanned : Plan → ℕ → Type 0
IsPlanned None n = ⊥
IsPlanned (Some plan) n = IsTrue (plan n)

-- the plan with one more number, where a plan is told
abbrev pub plan_with : ℕ → Plan → Plan
plan_with n None = None
plan_with n (Some plan) = Some (λ k. (n == k) || plan k)
