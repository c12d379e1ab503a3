-- What a range from a place to the end is.
use Rattle.std.proofs.Common.{◌≡◌, ℕ, ◌-◌, List, length, take, drop, arith, length-drop}
use Rattle.std.proofs.lemmas.List.{take_all}

pub tail_is : (xs : List ℕ) (at : ℕ) → take (length xs - at) (drop at xs) ≡ drop at xs
tail_is xs at = take_all (length xs - at) (drop at xs) (omega (arith, length-drop at xs))
