-- Which addresses extents and windows have.
use Rattle.std.proofs.Common.{◌≡◌, ℕ, ◌+◌, ◌<◌, ◌≤◌, ◌⊎◌, ◌≢◌, inl, inr, List, refl, subst, arith}
use Rattle.std.proofs.lemmas.Bool.Decides.{leb_tells, eqb_tells}
use Rattle.extents.specs.Sums.{tally, Has, Inserted, Removed, AllIn}
use Rattle.extents.specs.Extent.{Extent, Window, covers, begins, spans, AreApart, MeetsNone, Apart, LiesIn, AreDisjoint}
use Rattle.extents.proofs.Lists.{tally_inserted, tally_has, tally_le, tally_zero, has_more, has_kept}

-- ---- one extent

pub covers_tells : (x : ℕ) (e : Extent) → ((covers x e ≡ 1) × (e.place ≤ x) × (x < e.place + e.len)) ⊎ ((covers x e ≡ 0) × ((x < e.place) ⊎ (e.place + e.len ≤ x)))
covers_tells x e = elim (leb_tells e.place x) [
  | inl w ↦ rw w.0 (elim (leb_tells (e.place + e.len) x) [ inl v ↦ rw v.0 (inr (refl, inr v.1)) | inr v ↦ rw v.0 (inl (refl, w.1, v.1)) ])
  | inr w ↦ rw w.0 (inr (refl, inl w.1))
]

pub covers_most : (x : ℕ) (e : Extent) → covers x e ≤ 1
covers_most x e = elim (covers_tells x e) [ inl p ↦ omega arith | inr p ↦ omega arith ]

pub covers_in : (x : ℕ) (e : Extent) → e.place ≤ x → x < e.place + e.len → covers x e ≡ 1
covers_in x e low high = elim (covers_tells x e) [ inl p ↦ p.0 | inr p ↦ absurd (elim p.1 [ inl a ↦ omega arith | inr b ↦ omega arith ]) ]

pub covers_out : (x : ℕ) (e : Extent) → (x < e.place) ⊎ (e.place + e.len ≤ x) → covers x e ≡ 0
covers_out x e out = elim (covers_tells x e) [ inl p ↦ absurd (elim out [ inl a ↦ omega arith | inr b ↦ omega arith ]) | inr p ↦ p.0 ]

-- what an extent has lies between its ends
pub covered : (x : ℕ) (e : Extent) → covers x e ≡ 1 → (e.place ≤ x) × (x < e.place + e.len)
covered x e c = elim (covers_tells x e) [ inl p ↦ (p.1, p.2) | inr p ↦ absurd (omega arith) ]

pub begins_tells : (x : ℕ) (e : Extent) → ((begins x e ≡ 1) × (e.place ≡ x)) ⊎ ((begins x e ≡ 0) × (e.place ≢ x))
begins_tells x e = elim (eqb_tells e.place x) [ inl w ↦ rw w.0 (inl (refl, w.1)) | inr w ↦ rw w.0 (inr (refl, w.1)) ]

pub begins_here : (e : Extent) → begins e.place e ≡ 1
begins_here e = elim (begins_tells e.place e) [ inl p ↦ p.0 | inr p ↦ absurd (p.1 refl) ]

-- extents with the same place, length and maker are the same
pub same_extent : (a b : Extent) → a.place ≡ b.place → a.len ≡ b.len → a.maker ≡ b.maker → a ≡ b
same_extent a b p l m = λ i. record { place = p i; len = l i; maker = m i }

-- ---- lists of extents

-- an extent that meets none of them keeps them apart
pub apart_more : (e : Extent) (old new : List Extent) → AreApart old → MeetsNone e old → Inserted e old new → AreApart new
apart_more e old new apart meets i x =
    let sum = tally_inserted (covers x) e old new i in let all = apart x in
    elim (covers_tells x e) [ inl p ↦ let none = meets x p.0 in omega arith | inr p ↦ omega arith ]

-- one that goes leaves the others apart
pub apart_fewer : (e : Extent) (old new : List Extent) → AreApart old → Removed e old new → AreApart new
apart_fewer e old new apart i x = let sum = tally_inserted (covers x) e new old i in let all = apart x in omega arith

-- and meets none of them
pub meets_fewer : (e : Extent) (old new : List Extent) → AreApart old → Removed e old new → MeetsNone e new
meets_fewer e old new apart i x c = let sum = tally_inserted (covers x) e new old i in let all = apart x in omega arith

-- what meets none of a list meets none of a part of it
pub meets_part : (e : Extent) (part all : List Extent) → AllIn part all → MeetsNone e all → MeetsNone e part
meets_part e part all among meets x c = tally_zero (covers x) part (λ d h. let le = tally_has (covers x) d all (among d h) in let none = meets x c in omega arith)

-- what meets none of a list is apart from each
pub meets_apart : (e d : Extent) (es : List Extent) → 1 ≤ e.len → 1 ≤ d.len → MeetsNone e es → Has d es → Apart e d
meets_apart e d es some also meets h = elim (leb_tells (e.place + e.len) d.place) [
  | inl a ↦ inl a.1
  | inr a ↦ elim (leb_tells (d.place + d.len) e.place) [
    | inl b ↦ inr b.1
    | inr b ↦ absurd (elim (leb_tells e.place d.place) [
      | inl c ↦ let one = covers_in d.place e c.1 a.1 in let two = covers_in d.place d (omega arith) (omega arith) in let le = tally_has (covers d.place) d es h in let none = meets d.place one in omega arith
      | inr c ↦ let one = covers_in e.place e (omega arith) (omega arith) in let two = covers_in e.place d (omega arith) b.1 in let le = tally_has (covers e.place) d es h in let none = meets e.place one in omega arith
    ])
  ]
]

-- and the other way round
pub apart_meets : (e : Extent) (es : List Extent) → ((d : Extent) → Has d es → Apart e d) → MeetsNone e es
apart_meets e es apart x c = let inside = covered x e c in tally_zero (covers x) es (λ d h. elim (apart d h) [ inl a ↦ covers_out x d (inl (omega arith)) | inr b ↦ covers_out x d (inr (omega arith)) ])

-- what meets none of a list is another one than each of them
pub meets_other : (e d : Extent) (es : List Extent) → 1 ≤ e.len → MeetsNone e es → Has d es → d ≡ e → ⊥
meets_other e d es some meets h same =
    let one = covers_in e.place e (omega arith) (omega arith) in let le = tally_has (covers e.place) e es (subst (λ x. Has x es) same h) in let none = meets e.place one in absurd (omega arith)

-- an extent with a byte that is gone from a list of extents that are apart is there no more
pub gone : (e : Extent) (old new : List Extent) → 1 ≤ e.len → AreApart old → Removed e old new → Has e new → ⊥
gone e old new some apart i h =
    let sum = tally_inserted (covers e.place) e new old i in let all = apart e.place in
    let one = covers_in e.place e (omega arith) (omega arith) in let le = tally_has (covers e.place) e new h in absurd (omega arith)

-- one extent goes from a part and from the whole, and the rest of the part stays in the whole
pub all_in_fewer : (e : Extent) (part less_part all less : List Extent) → 1 ≤ e.len → AreApart part → Removed e part less_part → Removed e all less → AllIn part all → AllIn less_part less
all_in_fewer e part less_part all less some apart i j among d h = elim (has_more e d less all j (among d (has_kept e d less_part part i h))) [
  | inl same ↦ absurd (gone e part less_part some apart i (subst (λ y. Has y less_part) same h))
  | inr there ↦ there
]

-- ---- where extents begin

-- an extent with a byte has the address where it begins
pub begins_covers : (x : ℕ) (e : Extent) → 1 ≤ e.len → begins x e ≤ covers x e
begins_covers x e some = elim (begins_tells x e) [ inl p ↦ let one = covers_in x e (omega arith) (omega arith) in omega arith | inr p ↦ omega arith ]

-- so no two that are apart begin at one address
pub begins_once : (es : List Extent) → ((d : Extent) → Has d es → 1 ≤ d.len) → AreApart es → (x : ℕ) → tally (begins x) es ≤ 1
begins_once es some apart x = let one = apart x in let le = tally_le (begins x) (covers x) es (λ d h. begins_covers x d (some d h)) in omega arith

-- and none begins where one does that meets none of them
pub meets_begins : (e : Extent) (es : List Extent) → ((d : Extent) → Has d es → 1 ≤ d.len) → 1 ≤ e.len → MeetsNone e es → tally (begins e.place) es ≡ 0
meets_begins e es others some meets =
    let none = meets e.place (covers_in e.place e (omega arith) (omega arith)) in
    let le = tally_le (begins e.place) (covers e.place) es (λ d h. begins_covers e.place d (others d h)) in omega arith

-- ---- windows

pub spans_tells : (x : ℕ) (w : Window) → ((spans x w ≡ 1) × (w.start ≤ x) × (x < w.start + w.length)) ⊎ ((spans x w ≡ 0) × ((x < w.start) ⊎ (w.start + w.length ≤ x)))
spans_tells x w = elim (leb_tells w.start x) [
  | inl p ↦ rw p.0 (elim (leb_tells (w.start + w.length) x) [ inl v ↦ rw v.0 (inr (refl, inr v.1)) | inr v ↦ rw v.0 (inl (refl, p.1, v.1)) ])
  | inr p ↦ rw p.0 (inr (refl, inl p.1))
]

-- one window ends where the other begins, or before
pub windows_apart : (v w : Window) → v.start + v.length ≤ w.start → AreDisjoint v w
windows_apart v w h x = elim (spans_tells x v) [
  | inl p ↦ elim (spans_tells x w) [ inl q ↦ absurd (omega arith) | inr q ↦ omega arith ]
  | inr p ↦ elim (spans_tells x w) [ inl q ↦ omega arith | inr q ↦ omega arith ]
]

pub windows_swapped : (v w : Window) → AreDisjoint v w → AreDisjoint w v
windows_swapped v w d x = let h = d x in omega arith

-- a window has each address of an extent in it
pub lies_spans : (x : ℕ) (e : Extent) (w : Window) → LiesIn e w → covers x e ≡ 1 → spans x w ≡ 1
lies_spans x e w lies c = let inside = covered x e c in elim (spans_tells x w) [ inl p ↦ p.0 | inr p ↦ absurd (elim p.1 [ inl a ↦ omega arith | inr b ↦ omega arith ]) ]

-- an extent in one window meets no extent in another one
pub disjoint_meets : (e : Extent) (es : List Extent) (v w : Window) → AreDisjoint v w → LiesIn e v → ((d : Extent) → Has d es → LiesIn d w) → MeetsNone e es
disjoint_meets e es v w disjoint lies others x c = tally_zero (covers x) es (λ d h. elim (covers_tells x d) [
  | inl p ↦ let one = lies_spans x e v lies c in let two = lies_spans x d w (others d h) p.0 in let sum = disjoint x in absurd (omega arith)
  | inr p ↦ p.0
])
