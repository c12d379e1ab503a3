-- Where pools begin, by number, after a pool changed, came or went.
use Rattle.std.proofs.Common.{◌≡◌, ◌≢◌, ℕ, ◌+◌, inl, inr, List, [], ◌∷◌, ◌++◌, map, length, get_or, set, Option, Some, None, sym, ap, ◌∙◌, arith}
use Rattle.std.proofs.lemmas.List.{get_or-set_other, get_or_append_left, get_or_past, length-append}
use Rattle.std.specs.List.{range_with_len}
use Rattle.std.proofs.lemmas.List.FromFn.{length-map-range_with_len}
use Rattle.std.proofs.lemmas.Bool.Decides.{leb_tells}
use Rattle.extents.specs.Sums.{Has, Inserted, Removed, Replaced}
use Rattle.extents.proofs.CallerLemmas.{has_new}
use Rattle.layout_model.specs.Geometry.{PoolLine}
use Rattle.heap_model.specs.Tables.{Tables}
use Rattle.heap_model.specs.View.{place_in, places_of}
use Rattle.heap_model.specs.Kept.{AreOrderly}
use Rattle.heap_model.specs.Laws.{OthersStay}
use Rattle.heap_model.proofs.Pools.{place_here}
use Rattle.heap_model.proofs.Orderly.{has_before}
use Rattle.heap_model.proofs.Numbered.{numbered_at, numbered_stays, numbered_comes, numbered_goes}

pub places_long : (t : Tables) → length (places_of t) ≡ t.taken
places_long t = length-map-range_with_len (place_in t.started) 0 t.taken

-- a pool's place is listed at its number
pub place_there : (t : Tables) → AreOrderly t.started t.lists t.taken → (x : PoolLine) → Has x t.started → get_or (places_of t) x.number None ≡ Some x.place
place_there t o x here = numbered_at (λ y. Some y.place) None t.taken x.number t.started (o.pools x here).known ∙ place_here t.started t.lists t.taken o x here

-- one more element at the end
get_or_last : (os : List (Option ℕ)) (v : Option ℕ) (j : ℕ) → j ≢ length os → get_or (os ++ v ∷ []) j None ≡ get_or os j None
get_or_last os v j n = elim (leb_tells (length os) j) [
  | inl w ↦ let more = length-append os (v ∷ []) in let low = w.1 in get_or_past (os ++ v ∷ []) j None (omega arith) ∙ sym (get_or_past os j None (omega arith))
  | inr w ↦ get_or_append_left os (v ∷ []) None j w.1
]

-- a pool that keeps its number and its place
pub places_kept : (x y : PoolLine) (old new : Tables) → AreOrderly old.started old.lists old.taken → AreOrderly new.started new.lists new.taken → Replaced x y old.started new.started →
    y.number ≡ x.number → y.place ≡ x.place → new.taken ≡ old.taken → OthersStay x.number old new
places_kept x y old new o o2 r number place taken j n =
    let same : places_of new ≡ places_of old = ap (λ k. map (place_in new.started) (range_with_len 0 k)) taken
    ∙ numbered_stays (λ z. Some z.place) None old.taken x y old.started new.started r number (o.pools x (has_before x y old.started new.started r)).known (o.numbers x.number) (o2.numbers x.number) (ap Some place) in
    ap (λ l. get_or l j None) same

pub places_come : (y : PoolLine) (old new : Tables) → AreOrderly old.started old.lists old.taken → AreOrderly new.started new.lists new.taken → Inserted y old.started new.started → y.number ≡ old.taken → new.taken ≡ old.taken + 1 → OthersStay y.number old new
places_come y old new o o2 i number taken j n =
    let more : places_of new ≡ places_of old ++ Some y.place ∷ [] = ap (λ k. map (place_in new.started) (range_with_len 0 k)) taken
    ∙ numbered_comes (λ z. Some z.place) None old.taken y old.started new.started i number (o2.numbers old.taken) in
    ap (λ l. get_or l j None) more ∙ get_or_last (places_of old) (Some y.place) j (λ e. n (e ∙ (places_long old ∙ sym number)))

pub places_go : (x : PoolLine) (old new : Tables) → AreOrderly old.started old.lists old.taken → Removed x old.started new.started → new.taken ≡ old.taken → OthersStay x.number old new
places_go x old new o r taken j n =
    let less : places_of new ≡ set (places_of old) x.number None = ap (λ k. map (place_in new.started) (range_with_len 0 k)) taken
    ∙ numbered_goes (λ z. Some z.place) None old.taken x old.started new.started r (o.pools x (has_new x new.started old.started r)).known (o.numbers x.number) in
    ap (λ l. get_or l j None) less ∙ get_or-set_other (places_of old) x.number j None None n
