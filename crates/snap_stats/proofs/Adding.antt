-- What becomes of sums by key where one is added.
use Rattle.std.proofs.Common.{◌≡◌, ℕ, ◌+◌, ◌*◌, ◌≤◌, Bool, true, false, cond, List, [], ◌∷◌, ◌++◌, Option, Some}
use Rattle.std.proofs.Common.{refl, sym, ap, subst, ◌∙◌, arith}
use Rattle.std.specs.Prelude.{unwrap_or}
use Rattle.std.specs.Map.{lookup, set_value}
use Rattle.std.proofs.Math.Nat.{mul-add}
use Rattle.extents.specs.Sums.{tally}
use Rattle.extents.proofs.CallerLemmas.{tally-append}
use Rattle.snap_stats.specs.declared.sums.Sum.{Sum}
use Rattle.snap_stats.specs.Sums.{counts, once, AreSound, AddsUp, IsSound}

-- a sum to which another was added
abbrev pub grown : Sum → Sum → Sum
grown s more = record { size = s.size + more.size; count = s.count + more.count }

pub grown_sound : (s more : Sum) → IsSound s → IsSound more → IsSound (grown s more)
grown_sound s more a b = record { some = omega (arith, a.some); small = omega (arith, a.small, b.small) }

module _ {K : Type 0} where
  -- what f says of all sums, each as often as its key weighs
  abbrev weighed : (Sum → ℕ) → (K → ℕ) → List (K × Sum) → ℕ
  weighed f weight es = tally (λ e. weight e.0 * f e.1) es

  pushed : (f : Sum → ℕ) (weight : K → ℕ) (es : List (K × Sum)) (key : K) (more : Sum)
      → weighed f weight (es ++ (key, more) ∷ []) ≡ weighed f weight es + weight key * f more
  pushed f weight es key more = let e = tally-append (λ (e : K × Sum). weight e.0 * f e.1) es ((key, more) ∷ []) in omega (arith, e)

  written :
      (f : Sum → ℕ) (weight : K → ℕ) (test : K → Bool) (es : List (K × Sum)) (key : K) (v w : Sum) (n : ℕ)
      → ((k : K) → test k ≡ true → weight key ≡ weight k) → f w ≡ f v + n → lookup test es ≡ Some v
      → weighed f weight (set_value test es w) ≡ weighed f weight es + weight key * n
  written f weight test [] key v w n same grows at = absurd cc
  written f weight test (e ∷ es) key v w n same grows at =
      by (written f weight test es key v w n same grows) (test e.0) refl at
    where
      by : (lookup test es ≡ Some v → weighed f weight (set_value test es w) ≡ weighed f weight es + weight key * n)
          → (b : Bool) → test e.0 ≡ b → cond b (Some e.1) (lookup test es) ≡ Some v
          → weighed f weight (cond b ((e.0, w) ∷ es) (e ∷ set_value test es w))
          ≡ (weight e.0 * f e.1 + weighed f weight es) + weight key * n
      by later true t at =
          let is : e.1 ≡ v = ap (λ (o : Option Sum). unwrap_or o v) at in
          let a : weight e.0 * f w ≡ weight e.0 * f v + weight e.0 * n = ap (λ (m : ℕ). weight e.0 * m) grows ∙ mul-add (weight e.0) (f v) n in
          let b : weight e.0 * f e.1 ≡ weight e.0 * f v = ap (λ (s : Sum). weight e.0 * f s) is in
          let c : weight key * n ≡ weight e.0 * n = ap (λ (m : ℕ). m * n) (same e.0 t) in
          omega (arith, a, b, c)
      by later false t at = let r = later at in omega (arith, r)

  set_sound : (test : K → Bool) (es : List (K × Sum)) (w : Sum) → IsSound w → AreSound es → AreSound (set_value test es w)
  set_sound test [] w is all = tt
  set_sound test (e ∷ es) w is all = by (set_sound test es w is all.1) (test e.0)
    where
      by : AreSound (set_value test es w) → (b : Bool) → AreSound (cond b ((e.0, w) ∷ es) (e ∷ set_value test es w))
      by later true = (is, all.1)
      by later false = (all.0, later)

  push_sound : (es : List (K × Sum)) (key : K) (more : Sum) → IsSound more → AreSound es → AreSound (es ++ (key, more) ∷ [])
  push_sound [] key more is all = (is, tt)
  push_sound (e ∷ es) key more is all = (all.0, push_sound es key more is all.1)

  -- a sum that is found is sound, and no greater than all
  pub found : (test : K → Bool) (es : List (K × Sum)) (v : Sum) → AreSound es → lookup test es ≡ Some v
      → IsSound v × (v.count ≤ counts once es)
  found test [] v all at = absurd cc
  found test (e ∷ es) v all at = by (found test es v all.1) (test e.0) at
    where
      by : (lookup test es ≡ Some v → IsSound v × (v.count ≤ counts once es)) → (b : Bool)
          → cond b (Some e.1) (lookup test es) ≡ Some v → IsSound v × (v.count ≤ 1 * e.1.count + counts once es)
      by later true at =
          let is : e.1 ≡ v = ap (λ (o : Option Sum). unwrap_or o v) at in
          (subst IsSound is all.0, omega (arith, ap (λ (s : Sum). s.count) is))
      by later false at = let r = later at in (r.0, omega (arith, r.1))

  pub adds_nothing : (eq : K → K → Bool) (es : List (K × Sum)) → es ≡ [] → AddsUp eq [] es
  adds_nothing eq es e = subst (AddsUp eq []) (sym e) record { size = λ weight r. refl; count = λ weight r. refl; sound = tt }

  pub adds_itself : (eq : K → K → Bool) (es : List (K × Sum)) → AreSound es → AddsUp eq es es
  adds_itself eq es sound = record { size = λ weight r. refl; count = λ weight r. refl; sound = sound }

  -- as much as was added
  pub counts_added : (eq : K → K → Bool) (parts es : List (K × Sum)) → AddsUp eq parts es → counts once es ≡ counts once parts
  counts_added eq parts es adds = adds.count once (λ a b e. refl)

  module _ (eq : K → K → Bool) (before es : List (K × Sum)) (key : K) (more : Sum) (is : IsSound more) (adds : AddsUp eq before es) where
    -- where the key has a sum already
    pub adds_there : (test : K → Bool) (v : Sum) (new : List (K × Sum)) → ((k : K) → test k ≡ true → eq key k ≡ true)
        → lookup test es ≡ Some v → new ≡ set_value test es (grown v more) → AddsUp eq (before ++ (key, more) ∷ []) new
    adds_there test v new tells at e = subst (AddsUp eq (before ++ (key, more) ∷ [])) (sym e) record {
      size = λ weight respects.
          let old = adds.size weight respects in
          let now = written (λ s. s.size) weight test es key v (grown v more) more.size (λ k t. respects key k (tells k t)) refl at in
          omega (arith, old, now, pushed (λ s. s.size) weight before key more);
      count = λ weight respects.
          let old = adds.count weight respects in
          let now = written (λ s. s.count) weight test es key v (grown v more) more.count (λ k t. respects key k (tells k t)) refl at in
          omega (arith, old, now, pushed (λ s. s.count) weight before key more);
      sound = set_sound test es (grown v more) (grown_sound v more (found test es v adds.sound at).0 is) adds.sound;
    }

    -- where it has none
    pub adds_new : (new : List (K × Sum)) → new ≡ es ++ (key, more) ∷ [] → AddsUp eq (before ++ (key, more) ∷ []) new
    adds_new new e = subst (AddsUp eq (before ++ (key, more) ∷ [])) (sym e) record {
      size = λ weight respects.
          omega (arith, adds.size weight respects, pushed (λ s. s.size) weight before key more, pushed (λ s. s.size) weight es key more);
      count = λ weight respects.
          omega (arith, adds.count weight respects, pushed (λ s. s.count) weight before key more, pushed (λ s. s.count) weight es key more);
      sound = push_sound es key more is adds.sound;
    }
