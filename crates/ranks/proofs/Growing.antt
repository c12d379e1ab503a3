-- Ranks that are all as before.
use Rattle.std.proofs.Common.{◌≡◌, ℕ, zero, suc, ◌≤◌, List, [], ◌∷◌, ◌++◌, length, Option, refl, sym, ap, subst, ◌∙◌, arith}
use Rattle.ranks.specs.Ranks.{IsRanked, Rising, last_with, rank_in}

-- one more rank of 0
pub rank_more : (xs : List ℕ) (x : ℕ) → rank_in (xs ++ 0 ∷ []) x ≡ rank_in xs x
rank_more [] zero = refl
rank_more [] (suc x) = refl
rank_more (y ∷ ys) zero = refl
rank_more (y ∷ ys) (suc x) = rank_more ys x

pub still_ranked : (nodes ranks more : List ℕ) (lasts : List (Option ℕ)) (room now : ℕ) → IsRanked nodes ranks lasts room → ((x : ℕ) → rank_in more x ≡ rank_in ranks x) → length ranks ≤ length more → length more ≤ now → IsRanked nodes more lasts now
still_ranked nodes ranks more lasts room now k same long few =
    let is : rank_in ranks ≡ rank_in more = λ i x. sym (same x) i in
    record {
      once = k.once;
      below = λ x h. let b = k.below x h in omega arith;
      rising = subst (λ r. Rising r 1 nodes) is k.rising;
      most = λ x h. subst (λ n. n ≤ 64) (sym (same x)) (k.most x h);
      long = k.long;
      last = λ f le. k.last f le ∙ ap (λ r. last_with r f nodes) is;
      space = few;
    }
