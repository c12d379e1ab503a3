-- Tables that grow at their ends change nothing of what was read with them.
use Rattle.std.proofs.Common.{◌≡◌, ℕ, zero, suc, ◌+◌, ◌<◌, ◌≤◌, List, [], ◌∷◌, ◌++◌, length, slice_get, map, Option}
use Rattle.std.proofs.Common.{Bool, true, false, cond, Result, Ok, Err, refl, sym, ap, subst, ◌∙◌, arith, append-nil, append_assoc, length-append, inl, inr}
use Rattle.std.specs.Prelude.{unwrap_or, All, OnOk}
use Rattle.std.specs.declared.alloc.Global.{Global}
use Rattle.std.specs.declared.vec.Vec.{Vec}
use Rattle.std.specs.List.{AllByRecursion, list_any}
use Rattle.std.specs.Str.{bytes_eq}
use Rattle.std.proofs.lemmas.List.Elements.{All-from_recursion}
use Rattle.mem_base.specs.Name.{Name}
use Rattle.mem_base.specs.Texts.{text_at, with_text}
use Rattle.mem_base.specs.declared.reply.Frame.{Frame}
use Rattle.mem_base.specs.declared.texts.TextId.{TextId}
use Rattle.frame_model.specs.Frames.{frames_of}
use Rattle.trace_model.proofs.CallerLemmas.{text_stays, all_push}
use Rattle.tracing_model.specs.Traces.{of_block}
use Rattle.frame_stack.specs.Callers.{AreAmong}
use Rattle.frame_stack.specs.Tracebacks.{IsInterned, IsShort, traceback_at}
use Rattle.trace_table.specs.Plain.{IsHeld, IsKnownKey, key_of, plain_row, plain_rows, plain_snapshot}
use Rattle.trace_table.specs.declared.key.TraceKey.{TraceKey}
use Rattle.trace_table.specs.declared.key.TraceKey.TheVariants as keys
use Rattle.trace_table.specs.declared.snapshot.Row.{Row}
use Rattle.trace_table.specs.declared.snapshot.Snapshot.{Snapshot}
use Rattle.snap_file.specs.Plain.{AreKnownFrames, AreKnownRows, Extends, IsKnownSoFar, IsLoaded, StaysThere, stand_of}
use Rattle.snap_file.specs.declared.progress.Progress.{Progress}

-- ---- lists that grow

pub extends_none : {X : Type 0} (xs : List X) → Extends 0 xs xs
extends_none xs = record { more = []; few = omega arith; grown = sym (append-nil xs) }

pub extends_one : {X : Type 0} (xs ys : List X) (x : X) → ys ≡ xs ++ x ∷ [] → Extends 1 xs ys
extends_one xs ys x is = record { more = x ∷ []; few = omega arith; grown = is }

pub extends_more : {X : Type 0} (m n : ℕ) (xs ys : List X) → m ≤ n → Extends m xs ys → Extends n xs ys
extends_more m n xs ys le grows = record { more = grows.more; few = omega (arith, grows.few, le); grown = grows.grown }

pub length_extends : {X : Type 0} (n : ℕ) (xs ys : List X) → Extends n xs ys → (length xs ≤ length ys) × (length ys ≤ length xs + n)
length_extends n xs ys grows =
    let size : length ys ≡ length xs + length grows.more = ap length grows.grown ∙ length-append xs grows.more in
    (omega (arith, size), omega (arith, size, grows.few))

pub extends_then : {X : Type 0} (m n : ℕ) (xs ys zs : List X) → Extends m xs ys → Extends n ys zs → Extends (m + n) xs zs
extends_then m n xs ys zs first second = record {
  more = first.more ++ second.more;
  few = omega (arith, first.few, second.few, length-append first.more second.more);
  grown = second.grown ∙ ap (λ l. l ++ second.more) first.grown ∙ append_assoc xs first.more second.more;
}

-- what an element has that stood there before
at_front : {X : Type 0} (xs more : List X) (k : ℕ) → k < length xs → slice_get (xs ++ more) k ≡ slice_get xs k
at_front [] more k lt = absurd (omega (arith, lt))
at_front (x ∷ xs) more zero lt = refl
at_front (x ∷ xs) more (suc k) lt = at_front xs more k (omega (arith, lt))

pub still_at : {X : Type 0} (n : ℕ) (xs ys : List X) (k : ℕ) → Extends n xs ys → k < length xs → slice_get ys k ≡ slice_get xs k
still_at n xs ys k grows lt = ap (λ l. slice_get l k) grows.grown ∙ at_front xs grows.more k lt

pub all_more : {X : Type 0} (P Q : X → Type 0) (xs : List X) → ((x : X) → P x → Q x) → AllByRecursion P xs → AllByRecursion Q xs
all_more P Q [] f all = tt
all_more P Q (x ∷ xs) f all = (f x all.0, all_more P Q xs f all.1)

pub all_both : {X : Type 0} (P : X → Type 0) (xs ys : List X) → AllByRecursion P xs → AllByRecursion P ys → AllByRecursion P (xs ++ ys)
all_both P [] ys a b = b
all_both P (x ∷ xs) ys a b = (a.0, all_both P xs ys a.1 b)

-- what holds of all holds of the one at a place
pub all_at : {X : Type 0} (P : X → Type 0) (xs : List X) (k : ℕ) (d : X) → AllByRecursion P xs → k < length xs → P (unwrap_or (slice_get xs k) d)
all_at P [] k d all lt = absurd (omega (arith, lt))
all_at P (x ∷ xs) zero d all lt = all.0
all_at P (x ∷ xs) (suc k) d all lt = all_at P xs k d all.1 (omega (arith, lt))

-- ---- a table of texts

pub interned_extends : (texts news : List Name) (text : Name) → news ≡ with_text texts text → Extends 1 texts news
interned_extends texts news text is = by (list_any (bytes_eq text) texts) is
  where
    by : (b : Bool) → news ≡ cond b texts (texts ++ text ∷ []) → Extends 1 texts news
    by true e = record { more = []; few = omega arith; grown = e ∙ sym (append-nil texts) }
    by false e = record { more = text ∷ []; few = omega arith; grown = e }

module _ (n : ℕ) (texts news : List Name) (grows : Extends n texts news) where
  pub text_still : (id : TextId) → id.0 < length texts → text_at news id ≡ text_at texts id
  text_still id lt = ap (λ (l : List Name). text_at l id) grows.grown ∙ text_stays texts grows.more id lt

  pub frames_stay : (fs : List Frame) → AreAmong (length texts) fs → frames_of news fs ≡ frames_of texts fs
  frames_stay [] among = refl
  frames_stay (f ∷ fs) among = λ i. record { file = text_still f.file among.0 i; line = f.line } ∷ frames_stay fs among.1 i

  pub among_still : (fs : List Frame) → AreAmong (length texts) fs → AreAmong (length news) fs
  among_still fs among = all_more (λ f. f.file.0 < length texts) (λ f. f.file.0 < length news) fs
      (λ f lt. omega (arith, lt, (length_extends n texts news grows).0)) among

  pub key_still : (key : TraceKey) → IsKnownKey (length texts) key → key_of news key ≡ key_of texts key
  key_still (keys.Block name) known = ap of_block (text_still name known)
  key_still (keys.Number domain number) known = refl

key_more : (a b : ℕ) (key : TraceKey) → a ≤ b → IsKnownKey a key → IsKnownKey b key
key_more a b (keys.Block name) le known = omega (arith, le, known)
key_more a b (keys.Number domain number) le known = tt

-- ---- both tables

pub interned : (frames : List Frame) (table later : List (List Frame)) → IsInterned frames table later → Extends 1 table later
interned frames table later (inl old) = record { more = []; few = omega arith; grown = old.1 ∙ sym (append-nil table) }
interned frames table later (inr new) = record { more = frames ∷ []; few = omega arith; grown = new.1 }

pub interned_all : (P : List Frame → Type 0) (frames : List Frame) (table later : List (List Frame)) → IsInterned frames table later
    → P frames → AllByRecursion P table → AllByRecursion P later
interned_all P frames table later (inl old) fits all = subst (AllByRecursion P) (sym old.1) all
interned_all P frames table later (inr new) fits all = subst (AllByRecursion P) (sym new.1) (all_push P table frames all fits)

pub rows_more : (a b c d : ℕ) (rows : List Row) → a ≤ b → c ≤ d → AreKnownRows a c rows → AreKnownRows b d rows
rows_more a b c d rows le most known = record {
  named = all_more (λ (row : Row). IsKnownKey a row.key) (λ row. IsKnownKey b row.key) rows (λ row. key_more a b row.key le) known.named;
  traced = all_more (λ (row : Row). row.trace.0 < c) (λ row. row.trace.0 < d) rows (λ row lt. omega (arith, lt, most)) known.traced;
  few = known.few;
}

module _ (n m : ℕ) (texts news : List Name) (table later : List (List Frame)) (grows : Extends n texts news) (lasts : Extends m table later) where
  more_texts : length texts ≤ length news
  more_texts = (length_extends n texts news grows).0

  more_table : length table ≤ length later
  more_table = (length_extends m table later lasts).0

  pub rows_known : (rows : List Row) → AreKnownRows (length texts) (length table) rows → AreKnownRows (length news) (length later) rows
  rows_known rows known = rows_more (length texts) (length news) (length table) (length later) rows more_texts more_table known

  pub snapshots_known : (ss : List Snapshot) → AllByRecursion (λ s. AreKnownRows (length texts) (length table) s.rows) ss
      → AllByRecursion (λ s. AreKnownRows (length news) (length later) s.rows) ss
  snapshots_known ss known = all_more (λ (s : Snapshot). AreKnownRows (length texts) (length table) s.rows)
      (λ s. AreKnownRows (length news) (length later) s.rows) ss (λ s. rows_known s.rows) known

  module _ (frames : AreKnownFrames (length texts) table) where
    row_stays : (row : Row) → IsKnownKey (length texts) row.key → row.trace.0 < length table → plain_row news later row ≡ plain_row texts table row
    row_stays row named traced =
        let its : AreAmong (length texts) (traceback_at table row.trace) = all_at (AreAmong (length texts)) table row.trace.0 [] frames.among traced in
        let key = key_still n texts news grows row.key named in
        let same : traceback_at later row.trace ≡ traceback_at table row.trace =
        ap (λ (o : Option (List Frame)). unwrap_or o []) (still_at m table later row.trace.0 lasts traced) in
        let placed = ap (frames_of news) same ∙ frames_stay n texts news grows (traceback_at table row.trace) its in
        λ i. record { key = key i; size = row.size; frames = placed i; total = row.total }

    rows_same : (rows : List Row) → AllByRecursion (λ row. IsKnownKey (length texts) row.key) rows → AllByRecursion (λ row. row.trace.0 < length table) rows
        → plain_rows news later rows ≡ plain_rows texts table rows
    rows_same [] named traced = refl
    rows_same (row ∷ rows) named traced = λ i. row_stays row named.0 traced.0 i ∷ rows_same rows named.1 traced.1 i

    pub rows_stay : (rows : List Row) → AreKnownRows (length texts) (length table) rows → plain_rows news later rows ≡ plain_rows texts table rows
    rows_stay rows known = rows_same rows known.named known.traced

    pub snapshots_stay : (ss : List Snapshot) → AllByRecursion (λ s. AreKnownRows (length texts) (length table) s.rows) ss
        → map (plain_snapshot news later) ss ≡ map (plain_snapshot texts table) ss
    snapshots_stay [] known = refl
    snapshots_stay (s ∷ ss) known = λ i. record { limit = s.limit; rows = rows_stay s.rows known.0 i } ∷ snapshots_stay ss known.1 i

-- a table of texts that grows leaves reading where it stands
pub stays_there : (p : Progress) (n : ℕ) (news : List Name) (frames : Vec Frame Global) → IsKnownSoFar p → Extends n p.loaded.texts news
    → StaysThere p (record {
      loaded = record { texts = news; table = p.loaded.table; snapshots = p.loaded.snapshots };
      left = p.left;
      at = p.at;
      rows = p.rows;
      frames = frames;
    })
stays_there p n news frames known grows =
    let table = p.loaded.table in
    let same = extends_none table in
    let rows = rows_stay n 0 p.loaded.texts news table table grows same known.frames p.rows known.rows in
    let done = snapshots_stay n 0 p.loaded.texts news table table grows same known.frames p.loaded.snapshots known.snapshots in
    record {
      place = λ i. record { done = done i; left = p.left; at = stand_of (rows i) p.at };
      rows = rows;
      at = refl;
    }

pub on_ok : {A E P Q : Type 0} (r : Result A E) → OnOk r P → (P → Q) → OnOk r Q
on_ok (Ok a) p f = f p
on_ok (Err e) p f = tt

-- ---- what is known in the end

rows_held : (texts : List Name) (table : List (List Frame)) (rows : List Row) → AreKnownFrames (length texts) table
    → AreKnownRows (length texts) (length table) rows → IsHeld texts table rows
rows_held texts table rows frames known = record {
  few = omega (arith, known.few);
  traced = All-from_recursion (λ (row : Row). row.trace.0 < length table) rows known.traced;
  among = All-from_recursion (AreAmong (length texts)) table frames.among;
  short = All-from_recursion IsShort table frames.short;
}

pub is_loaded : (p : Progress) → IsKnownSoFar p → IsLoaded p.loaded
is_loaded p known =
    let texts = p.loaded.texts in
    let table = p.loaded.table in
    record {
      held = All-from_recursion (λ (s : Snapshot). IsHeld texts table s.rows) p.loaded.snapshots
          (all_more (λ (s : Snapshot). AreKnownRows (length texts) (length table) s.rows) (λ s. IsHeld texts table s.rows) p.loaded.snapshots
          (λ s. rows_held texts table s.rows known.frames) known.snapshots);
      named = All-from_recursion (λ (s : Snapshot). All (λ (row : Row). IsKnownKey (length texts) row.key) s.rows) p.loaded.snapshots
          (all_more (λ (s : Snapshot). AreKnownRows (length texts) (length table) s.rows)
          (λ s. All (λ (row : Row). IsKnownKey (length texts) row.key) s.rows) p.loaded.snapshots
          (λ s its. All-from_recursion (λ (row : Row). IsKnownKey (length texts) row.key) s.rows its.named) known.snapshots);
    }
