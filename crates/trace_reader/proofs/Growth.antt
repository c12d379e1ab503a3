-- A table that grows changes no number's text.
use Rattle.std.proofs.Common.{◌≡◌, ℕ, ◌+◌, ◌≤◌, List, [], ◌∷◌, ◌++◌, length, slice_get, Some, refl, sym, ap}
use Rattle.std.proofs.Common.{◌∙◌, arith, length-append, append-nil, subst, map, Bool, true, false, ◌||◌}
use Rattle.std.proofs.Common.{cond}
use Rattle.std.specs.List.{AllByRecursion, list_any}
use Rattle.std.specs.Str.{bytes_eq}
use Rattle.std.proofs.lemmas.Option.{slice_get_within}
use Rattle.mem_base.specs.Texts.{text_at, with_text}
use Rattle.mem_base.specs.declared.texts.TextId.{TextId}
use Rattle.mem_base.specs.declared.trace.Track.{Track}
use Rattle.mem_base.specs.declared.trace.Op.{Op}
use Rattle.mem_base.specs.declared.trace.Op.TheVariants.{Heap}
use Rattle.mem_base.specs.Name.{Name}
use Rattle.trace_model.specs.Plain.{action_of, depth_after, has_few_rules, is_report, needs_frame, tracks_of}
use Rattle.trace_model.specs.Known.{IsKnown}
use Rattle.trace_model.proofs.CallerLemmas.{actions_stay, known_stays, ops_stay, text_stays}
use Rattle.trace_reader.specs.Progress.{Extends, IsKnownTrack, bare, texts_at}

pub interned_extends : (texts : List Name) (text : Name) → Extends texts (with_text texts text)
interned_extends texts text = by (list_any (bytes_eq text) texts)
  where
    by : (b : Bool) → Extends texts (cond b texts (texts ++ text ∷ []))
    by true = record { more = []; few = omega arith; grown = sym (append-nil texts) }
    by false = record { more = text ∷ []; few = omega arith; grown = refl }

-- a number that has a text is in the table
pub is_within : (texts : List Name) (id : TextId) (text : Name) → slice_get texts id.0 ≡ Some text → IsKnown texts id
is_within texts id text at = slice_get_within texts id.0 text at

pub any_map : {X : Type 0} (p : List ℕ → Bool) (f : X → List ℕ) (xs : List X) → list_any p (map f xs) ≡ list_any (λ x. p (f x)) xs
any_map p f [] = refl
any_map p f (x ∷ xs) = ap (λ (b : Bool). p (f x) || b) (any_map p f xs)

-- a number is in the table still
pub still_within : (texts news : List Name) (id : TextId) → Extends texts news → IsKnown texts id
    → IsKnown news id
still_within texts news id grows known =
    subst (λ (n : List Name). IsKnown n id) (sym grows.grown) (known_stays texts grows.more id known)

-- the same for several numbers
pub texts_stay : (texts news : List Name) (ids : List TextId) → Extends texts news
    → AllByRecursion (IsKnown texts) ids → texts_at news ids ≡ texts_at texts ids
texts_stay texts news [] grows known = refl
texts_stay texts news (id ∷ ids) grows known =
    let here : text_at news id ≡ text_at texts id =
    ap (λ (n : List Name). text_at n id) grows.grown ∙ text_stays texts grows.more id known.0
    in
    λ i. here i ∷ texts_stay texts news ids grows known.1 i

pub still_among : (texts news : List Name) (ids : List TextId) → Extends texts news
    → AllByRecursion (IsKnown texts) ids → AllByRecursion (IsKnown news) ids
still_among texts news [] grows known = tt
still_among texts news (id ∷ ids) grows known =
    (still_within texts news id grows known.0, still_among texts news ids grows known.1)

-- what was read is known still, and stands for the same
tracks_known : (texts more : List Name) (ts : List Track) → AllByRecursion (IsKnownTrack texts) ts → AllByRecursion (IsKnownTrack (texts ++ more)) ts
tracks_known texts more [] known = tt
tracks_known texts more (t ∷ ts) known =
    (record { name = known_stays texts more t.name known.0.name; ops = ops_stay texts more t.ops known.0.ops }, tracks_known texts more ts known.1)

tracks_same : (texts more : List Name) (ts : List Track) → AllByRecursion (IsKnownTrack texts) ts → tracks_of (texts ++ more) ts ≡ tracks_of texts ts
tracks_same texts more [] known = refl
tracks_same texts more (t ∷ ts) known = λ i.
    record { name = text_stays texts more t.name known.0.name i; actions = actions_stay texts more t.ops known.0.ops i } ∷ tracks_same texts more ts known.1 i

pub tracks_still_known : (texts news : List Name) (ts : List Track) → Extends texts news → AllByRecursion (IsKnownTrack texts) ts → AllByRecursion (IsKnownTrack news) ts
tracks_still_known texts news ts grows known =
    subst (λ (n : List Name). AllByRecursion (IsKnownTrack n) ts) (sym grows.grown) (tracks_known texts grows.more ts known)

pub tracks_stay : (texts news : List Name) (ts : List Track) → Extends texts news → AllByRecursion (IsKnownTrack texts) ts → tracks_of news ts ≡ tracks_of texts ts
tracks_stay texts news ts grows known = ap (λ (n : List Name). tracks_of n ts) grows.grown ∙ tracks_same texts grows.more ts known

-- a line brings two texts at most
pub few_more : (texts news : List Name) → Extends texts news → length news ≤ length texts + 2
few_more texts news grows = omega (arith, ap length grows.grown, length-append texts grows.more, grows.few)

-- the table does not matter to what an operation prints, nor to what it does to frames
pub report_is : (texts : List Name) (op : Op) → is_report (action_of texts op) ≡ is_report (bare op)
report_is texts Heap = refl
report_is texts op = refl

pub need_is : (texts : List Name) (op : Op) → needs_frame (action_of texts op) ≡ needs_frame (bare op)
need_is texts Heap = refl
need_is texts op = refl

pub depth_is : (texts : List Name) (n : ℕ) (op : Op) → depth_after n (action_of texts op) ≡ depth_after n (bare op)
depth_is texts n Heap = refl
depth_is texts n op = refl

pub rules_are : (texts : List Name) (op : Op) → has_few_rules (action_of texts op) ≡ has_few_rules (bare op)
rules_are texts Heap = refl
rules_are texts op = refl
