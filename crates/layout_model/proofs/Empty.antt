-- The empty_layout layout is sound.
use Rattle.std.proofs.Common.{◌≡◌, ℕ, zero, suc, List, [], get_or, None, refl, arith}
use Rattle.std.proofs.lemmas.List.{get_or-replicate}
use Rattle.layout_model.specs.Layout.{Used, empty_layout}
use Rattle.layout_model.specs.Sound.{IsSound}

none_dry : (a : ℕ) → get_or empty_layout.dry a None ≡ None
none_dry zero = refl
none_dry (suc n) = refl

pub empty_layout_is_sound : IsSound empty_layout
empty_layout_is_sound = record {
  classes = refl;
  lives = λ c h. rw (get_or-replicate {A = List Used} 32 c [] [] h) tt;
  usable = tt;
  full = λ k. tt;
  dry = λ a. rw (none_dry a) tt;
  pools_once = λ k. omega arith;
  pools_known = λ k h. refl;
  arenas_once = λ a. rw (none_dry a) (omega arith);
  arenas_known = λ a h. refl;
  arenas_numbered = (refl, refl, refl);
  adds_up = λ a. rw (none_dry a) refl;
  out = refl;
  most = omega arith;
}
