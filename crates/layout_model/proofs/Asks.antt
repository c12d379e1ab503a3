-- Requests and the answers that fit them.
use Rattle.std.proofs.Common.{◌≡◌, ◌↔◌, ℕ, true, ◌&&◌, List, [], ◌∷◌, IsNone, inl, inr, refl, arith}
use Rattle.std.proofs.lemmas.Bool.Decides.{leb_tells}
use Rattle.mem_base.specs.declared.history.Grant.{Grant}
use Rattle.mem_base.specs.declared.history.Grant.TheVariants.{NotAsked, Refused, Granted}
use Rattle.layout_model.specs.Sizes.{is_small}
use Rattle.layout_model.specs.Layout.{Layout, Usable, Used}
use Rattle.layout_model.specs.Place.{place_by}
use Rattle.layout_model.specs.Asks.{is_empty, was_asked}
use Rattle.layout_model.specs.Laws.{OnlyRefusalsPlaceNothing, RequestsFitTheirClass}

places_nothing_by : (l : Layout) (c : ℕ) (g : Grant) (ps : List Used) (us : List Usable) → was_asked g ≡ (is_empty ps && is_empty us)
    → (IsNone (place_by l c g ps us).pool ↔ (g ≡ Refused)) × (g ≡ Refused → (place_by l c g ps us).layout ≡ l)
places_nothing_by l c NotAsked (p ∷ ps) us a = (record { 0 = λ h. cc; 1 = λ h. cc }, λ h. cc)
places_nothing_by l c Refused (p ∷ ps) us a = cc
places_nothing_by l c (Granted t) (p ∷ ps) us a = cc
places_nothing_by l c NotAsked [] (u ∷ us) a = (record { 0 = λ h. cc; 1 = λ h. cc }, λ h. cc)
places_nothing_by l c Refused [] (u ∷ us) a = cc
places_nothing_by l c (Granted t) [] (u ∷ us) a = cc
places_nothing_by l c NotAsked [] [] a = cc
places_nothing_by l c Refused [] [] a = (record { 0 = λ h. refl; 1 = λ h. refl }, λ h. refl)
places_nothing_by l c (Granted t) [] [] a = (record { 0 = λ h. cc; 1 = λ h. cc }, λ h. cc)

pub only_refusals_place_nothing : OnlyRefusalsPlaceNothing
only_refusals_place_nothing l c g a = places_nothing_by l c g _ _ a.asked

pub requests_fit_their_class : RequestsFitTheirClass
requests_fit_their_class l m g raw low high f =
    let small : is_small m ≡ true = elim (leb_tells 1 m) [
      | inl w ↦ rw w.0 (elim (leb_tells m 512) [ inl v ↦ v.0 | inr v ↦ absurd (omega arith) ])
      | inr w ↦ absurd (omega arith)
    ] in
    record { asked = rw small at f.arena_asked; pools = f.pools }
