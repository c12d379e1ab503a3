-- An operand that is read is spelt so, and what is spelt so is read.
use Rattle.std.proofs.Common.{◌≡◌, ℕ, zero, suc, ◌^◌, ◌<◌, ◌≤◌, Bool, true, false, cond, not, ◌&&◌, List, [], ◌∷◌, ◌++◌}
use Rattle.std.proofs.Common.{length, map, Option, Some, None, Result, Ok, Err, refl, sym, ap, subst, ◌∙◌, arith}
use Rattle.std.proofs.Common.{append_assoc}
use Rattle.std.proofs.Common.{lit<, true≢false}
use Rattle.std.specs.Prelude.{◌==◌, nat_le, decimal}
use Rattle.std.specs.List.{AllByRecursion, list_all}
use Rattle.std.specs.Option.{option_and_then, option_map}
use Rattle.std.proofs.lemmas.Bool.{eqb-true, leb-true, le-leb, ne_eqb}
use Rattle.std.proofs.lemmas.Fmt.{digits_decimal}
use Rattle.mem_base.specs.declared.limits.TheConstants.{MAX_FRAME_LIMIT, MAX_LINE}
use Rattle.frame_model.specs.Frames.{PlainFrame}
use Rattle.tracing_model.specs.Traces.{of_block, of_mark, Key as TraceKey}
use Rattle.snapshot_model.specs.Snapshots.{PlainRow, domain_of}
use Rattle.trace_model.specs.Operands.{is_between, is_file, is_name, max_domain, number_at as digits_at}
use Rattle.trace_model.specs.Operands.{number_in as digits_in}
use Rattle.trace_model.specs.Rules.{Cut, after_byte, if_read}
use Rattle.trace_model.specs.declared.cause.TraceCause.{TraceCause}
use Rattle.trace_model.proofs.CallerLemmas.{both, number_takes as digits_take, number_again as digits_again}
use Rattle.trace_model.proofs.CallerLemmas.{ranged_takes as range_takes, ranged_again as range_again}
use Rattle.trace_model.proofs.CallerLemmas.{is_word, name_word, file_word, number_word, are_digits, own, all_append}
use Rattle.dump_model.specs.Operands.{◌>>=◌, or_cause, number_at, number_in, frames_at, key_in, colon, or_else}
use Rattle.dump_model.specs.Operands.{cut_last}
use Rattle.dump_model.specs.Operands.{frame_on, frame_at, frames_in, row_of_words, row_at}
use Rattle.dump_model.specs.Spelling.{frame_word, key_word, FitsKey, FitsFrame}
use Rattle.dump_model.specs.declared.cause.LoadCause.{LoadCause}
use Rattle.dump_model.specs.declared.cause.LoadCause.TheVariants.{BadNumber, BadRange, BadName, BadFrame}

-- ---- steps

abbrev done : {A : Type 0} → A → Result A LoadCause
done x = Ok x

pub ok_is : {A : Type 0} (x y : A) → done x ≡ done y → x ≡ y
ok_is x y e = cc

-- the value of a step that did not fail
pub bind_ok : {A B : Type 0} (r : Result A LoadCause) (f : A → Result B LoadCause) (y : B) → (r >>= f) ≡ Ok y
    → (x : A) × (r ≡ Ok x) × (f x ≡ Ok y)
bind_ok (Ok x) f y e = (x, refl, e)
bind_ok (Err d) f y e = absurd cc

-- a test that did not fail
pub test_holds : {A : Type 0} (b : Bool) (r : Result A LoadCause) (d : LoadCause) (y : A) → cond b r (Err d) ≡ Ok y
    → (b ≡ true) × (r ≡ Ok y)
test_holds true r d y e = (refl, e)
test_holds false r d y e = absurd cc

abbrev there : {A : Type 0} → A → Option A
there x = Some x

some_is : {A : Type 0} (x y : A) → there x ≡ there y → x ≡ y
some_is x y e = cc

or_cause_is : {A : Type 0} (c : LoadCause) (o : Option A) (x : A) → or_cause c o ≡ Ok x → o ≡ Some x
or_cause_is c None x e = absurd cc
or_cause_is c (Some y) x e = ap Some (ok_is y x e)

read_is : {A : Type 0} (r : Result A TraceCause) (x : A) → if_read r ≡ Some x → r ≡ Ok x
read_is (Ok y) x e = ap (λ o. Ok o) (some_is y x e)
read_is (Err c) x e = absurd cc

and_then_is : {A B : Type 0} (f : A → Option B) (o : Option A) (y : B) → option_and_then f o ≡ Some y
    → (x : A) × (o ≡ Some x) × (f x ≡ Some y)
and_then_is f None y e = absurd cc
and_then_is f (Some x) y e = (x, refl, e)

map_is : {A B : Type 0} (f : A → B) (o : Option A) (y : B) → option_map f o ≡ Some y
    → (x : A) × (o ≡ Some x) × (f x ≡ y)
map_is f None y e = absurd cc
map_is f (Some x) y e = (x, refl, some_is (f x) y e)

-- what was read under a test
guard_is : {A : Type 0} (b : Bool) (o : Option A) (y : A) → cond b o None ≡ Some y → (b ≡ true) × (o ≡ Some y)
guard_is true o y e = (refl, e)
guard_is false o y e = absurd cc

-- ---- numbers

pub number_takes : (w : List ℕ) (n : ℕ) → number_at w ≡ Ok n → (w ≡ decimal n) × (n < 2 ^ 64)
number_takes w n e = digits_take w n (read_is (digits_at w) n (or_cause_is BadNumber (if_read (digits_at w)) n e))

pub number_again : (n : ℕ) → n < 2 ^ 64 → number_at (decimal n) ≡ Ok n
number_again n lt = ap (λ (r : Result ℕ TraceCause). or_cause BadNumber (if_read r)) (digits_again n lt)

pub ranged_takes :
    (least most : ℕ) (w : List ℕ) (n : ℕ) → number_in least most w ≡ Ok n → (w ≡ decimal n) × (least ≤ n) × (n ≤ most)
unfolding number_in
ranged_takes least most w n e =
    let b = bind_ok (number_at w) (λ k. cond (is_between least most k) (Ok k) (Err BadRange)) n e in
    let t = number_takes w b.0 b.1 in
    let p = test_holds (is_between least most b.0) (Ok b.0) BadRange n b.2 in
    let r = both (nat_le least b.0) (nat_le b.0 most) p.0 in
    subst (λ (k : ℕ). (w ≡ decimal k) × (least ≤ k) × (k ≤ most)) (ok_is b.0 n p.1)
    (t.0, leb-true _ _ r.0, leb-true _ _ r.1)

pub ranged_again :
    (least most n : ℕ) → most < 2 ^ 64 → least ≤ n → n ≤ most → number_in least most (decimal n) ≡ Ok n
unfolding number_in
ranged_again least most n fits low high =
    rw (number_again n (omega (arith, fits, high)), le-leb _ _ low, le-leb _ _ high) refl

-- ---- keys

pub not_zero : (n : ℕ) → 1 ≤ n → (n == 0) ≡ false
not_zero n some = ne_eqb n 0 (λ none. omega (arith, none, some))

pub some_left : (n : ℕ) → (n == 0) ≡ false → 1 ≤ n
some_left zero e = absurd (true≢false e)
some_left (suc n) e = omega arith

-- a word is a key's, in its domain, and fits
abbrev KeyIs : ℕ → List ℕ → TraceKey → Type 0
KeyIs domain w key = (domain ≡ domain_of key) × (w ≡ key_word key) × FitsKey key

key_takes :
    (domain : ℕ) (w : List ℕ) (key : TraceKey) → domain ≤ max_domain → key_in domain w ≡ Ok key
    → KeyIs domain w key
key_takes domain w key few e = by (domain == 0) refl e
  where
    by : (b : Bool) → (domain == 0) ≡ b
        → cond b (cond (is_name w) (Ok (of_block w)) (Err BadName)) (number_at w >>= λ n. Ok (of_mark domain n))
        ≡ Ok key → KeyIs domain w key
    by true is h =
        let p = test_holds (is_name w) (Ok (of_block w)) BadName key h in
        subst (KeyIs domain w) (ok_is (of_block w) key p.1) (eqb-true domain 0 is, refl, p.0)
    by false is h =
        let b = bind_ok (number_at w) (λ n. Ok (of_mark domain n)) key h in
        let t = number_takes w b.0 b.1 in
        subst (KeyIs domain w) (ok_is (of_mark domain b.0) key b.2) (refl, t.0, (some_left domain is, few, t.1))

key_again : (key : TraceKey) → FitsKey key → key_in (domain_of key) (key_word key) ≡ Ok key
key_again (of_block name) fits = ap (λ (b : Bool). cond b (Ok (of_block name)) (Err BadName)) fits
key_again (of_mark domain number) fits =
    let w = decimal number in
    let name = cond (is_name w) (Ok (of_block w)) (Err BadName) in
    ap (λ (b : Bool). cond b name (number_at w >>= λ n. Ok (of_mark domain n)))
    (not_zero domain fits.0)
    ∙ ap (λ (r : Result ℕ LoadCause). r >>= λ n. Ok (of_mark domain n)) (number_again number fits.2)

key_is_word : (key : TraceKey) → FitsKey key → is_word (key_word key) ≡ true
key_is_word (of_block name) fits = name_word name fits
key_is_word (of_mark domain number) fits = number_word number fits.2

domain_small : (key : TraceKey) → FitsKey key → domain_of key ≤ max_domain
domain_small (of_block name) fits = omega arith
domain_small (of_mark domain number) fits = fits.1

-- ---- the last colon

-- the bytes before a colon, the colon, and those behind it
abbrev joined : List ℕ → List ℕ → List ℕ
joined front behind = front ++ colon ∷ behind

abbrev whole : Cut → List ℕ
whole c = joined c.front c.behind

abbrev cut_of : List ℕ → List ℕ → Cut
cut_of front behind = record { front = front; behind = behind }

cut_takes : (w : List ℕ) (c : Cut) → cut_last w ≡ Some c → w ≡ whole c
cut_takes [] c e = absurd cc
cut_takes (b ∷ bs) c e = by (cut_last bs) refl e (cut_takes bs)
  where
    here : (v : Bool) → (b == colon) ≡ v → cond v (Some (cut_of [] bs)) None ≡ Some c → b ∷ bs ≡ whole c
    here true is h = (λ i. eqb-true b colon is i ∷ bs) ∙ ap (λ (x : Cut). whole x) (some_is (cut_of [] bs) c h)
    here false is h = absurd cc

    by : (o : Option Cut) → cut_last bs ≡ o
        → or_else (option_map (after_byte b) o) (cond (b == colon) (Some (cut_of [] bs)) None) ≡ Some c
        → ((d : Cut) → cut_last bs ≡ Some d → bs ≡ whole d) → b ∷ bs ≡ whole c
    by (Some d) is h behind =
        ap (λ (l : List ℕ). b ∷ l) (behind d is) ∙ ap (λ (x : Cut). whole x) (some_is (after_byte b d) c h)
    by None is h behind = here (b == colon) refl h

abbrev has_no_colon : List ℕ → Bool
has_no_colon w = list_all (λ b. not (b == colon)) w

is_false : (b : Bool) → not b ≡ true → b ≡ false
is_false true e = sym e
is_false false e = refl

no_cut : (w : List ℕ) → has_no_colon w ≡ true → cut_last w ≡ None
no_cut [] free = refl
no_cut (b ∷ bs) free =
    let t = both (not (b == colon)) (has_no_colon bs) free in
    let here = Some (cut_of [] bs) in
    (λ i. or_else (option_map (after_byte b) (no_cut bs t.1 i)) (cond (is_false (b == colon) t.0 i) here None))

cut_again :
    (front behind : List ℕ) → has_no_colon behind ≡ true
    → cut_last (joined front behind) ≡ Some (cut_of front behind)
cut_again [] behind free =
    ap (λ (o : Option Cut). or_else (option_map (after_byte colon) o) (Some (cut_of [] behind))) (no_cut behind free)
cut_again (b ∷ bs) behind free =
    let here = cond (b == colon) (Some (cut_of [] (joined bs behind))) None in
    ap (λ (o : Option Cut). or_else (option_map (after_byte b) o) here)
    (cut_again bs behind free)

no_colon : (b : ℕ) → is_between 48 57 b ≡ true → not (b == colon) ≡ true
no_colon b digit = by (b == colon) refl
  where
    by : (v : Bool) → (b == colon) ≡ v → not v ≡ true
    by true is = absurd (true≢false (sym digit ∙ ap (is_between 48 57) (eqb-true b colon is)))
    by false is = refl

digits_free : (w : List ℕ) → are_digits w ≡ true → has_no_colon w ≡ true
digits_free [] are = refl
digits_free (b ∷ bs) are =
    let t = both (is_between 48 57 b) (are_digits bs) are in
    (λ i. no_colon b t.0 i && digits_free bs t.1 i)

-- two words with a colon between them are one
joined_word : (a b : List ℕ) → is_word a ≡ true → is_word b ≡ true → is_word (joined a b) ≡ true
joined_word [] b first second = absurd (true≢false (sym first))
joined_word (x ∷ xs) b first second =
    all_append (is_between 33 126) (x ∷ xs) (colon ∷ b) first (prints b second)
  where
    prints : (w : List ℕ) → is_word w ≡ true → list_all (is_between 33 126) w ≡ true
    prints [] h = refl
    prints (y ∷ ys) h = h

-- ---- frames

abbrev frame_of : List ℕ → ℕ → PlainFrame
frame_of file n = record { file = file; line = n }

-- a frame's word, cut at its last colon
frame_parts : (f : PlainFrame) → frame_word f ≡ joined f.file (decimal f.line)
unfolding frame_word
frame_parts f = append_assoc f.file (colon ∷ []) (decimal f.line)

on_takes :
    (file w : List ℕ) (f : PlainFrame) → frame_on file w ≡ Some f → (joined file w ≡ frame_word f) × FitsFrame f
on_takes file w f e =
    let g = guard_is (is_file file) (option_map (frame_of file) (if_read (digits_in 0 MAX_LINE w))) f e in
    let m = map_is (frame_of file) (if_read (digits_in 0 MAX_LINE w)) f g.1 in
    let t = range_takes 0 MAX_LINE w m.0 (read_is (digits_in 0 MAX_LINE w) m.0 m.1) in
    subst (λ (x : PlainFrame). (joined file w ≡ frame_word x) × FitsFrame x) m.2
    (ap (joined file) t.0 ∙ sym (frame_parts (frame_of file m.0)), record { file = g.0; line = t.2 })

pub frame_takes : (w : List ℕ) (f : PlainFrame) → frame_at w ≡ Ok f → (w ≡ frame_word f) × FitsFrame f
unfolding frame_at
frame_takes w f e =
    let read = or_cause_is BadFrame (option_and_then (λ cut. frame_on cut.front cut.behind) (cut_last w)) f e in
    let c = and_then_is (λ (cut : Cut). frame_on cut.front cut.behind) (cut_last w) f read in
    let t = on_takes c.0.front c.0.behind f c.2 in
    (cut_takes w c.0 c.1 ∙ t.0, t.1)

pub frame_again : (f : PlainFrame) → FitsFrame f → frame_at (frame_word f) ≡ Ok f
unfolding frame_at
frame_again f fits =
    let small : f.line < 2 ^ 64 = omega (arith, fits.line) in
    let file = f.file in
    let w = decimal f.line in
    ap frame_at (frame_parts f)
    ∙ ap (λ (o : Option Cut). or_cause BadFrame (option_and_then (λ cut. frame_on cut.front cut.behind) o))
    (cut_again file w (digits_free w (digits_decimal own f.line small)))
    ∙ ap (λ (b : Bool). or_cause BadFrame (cond b (option_map (frame_of file) (if_read (digits_in 0 MAX_LINE w))) None))
    fits.file
    ∙ ap (λ (r : Result ℕ TraceCause). or_cause BadFrame (option_map (frame_of file) (if_read r)))
    (range_again 0 MAX_LINE f.line (lit< tt) (omega arith) fits.line)

pub frame_is_word : (f : PlainFrame) → FitsFrame f → is_word (frame_word f) ≡ true
frame_is_word f fits =
    let small : f.line < 2 ^ 64 = omega (arith, fits.line) in
    ap is_word (frame_parts f)
    ∙ joined_word f.file (decimal f.line) (file_word f.file fits.file) (number_word f.line small)

frames_take : (ws : List (List ℕ)) (fs : List PlainFrame) → frames_in ws ≡ Ok fs
    → (ws ≡ map frame_word fs) × AllByRecursion FitsFrame fs
frames_take [] fs e =
    subst (λ (xs : List PlainFrame). ([] ≡ map frame_word xs) × AllByRecursion FitsFrame xs) (ok_is [] fs e) (refl, tt)
frames_take (w ∷ ws) fs e =
    let f = bind_ok (frame_at w) (λ f. frames_in ws >>= λ fs. Ok (f ∷ fs)) fs e in
    let more = bind_ok (frames_in ws) (λ fs. Ok (f.0 ∷ fs)) fs f.2 in
    let one = frame_takes w f.0 f.1 in
    let rest = frames_take ws more.0 more.1 in
    subst (λ (xs : List PlainFrame). (w ∷ ws ≡ map frame_word xs) × AllByRecursion FitsFrame xs)
    (ok_is (f.0 ∷ more.0) fs more.2) ((λ i. one.0 i ∷ rest.0 i), (one.1, rest.1))

frames_again : (fs : List PlainFrame) → AllByRecursion FitsFrame fs → frames_in (map frame_word fs) ≡ Ok fs
frames_again [] fits = refl
frames_again (f ∷ fs) fits =
    ap (λ (x : Result PlainFrame LoadCause). x >>= λ f. frames_in (map frame_word fs) >>= λ fs. Ok (f ∷ fs))
    (frame_again f fits.0)
    ∙ ap (λ (x : Result (List PlainFrame) LoadCause). x >>= λ fs. Ok (f ∷ fs)) (frames_again fs fits.1)

frames_are_words : (fs : List PlainFrame) → AllByRecursion FitsFrame fs
    → AllByRecursion (λ w. is_word w ≡ true) (map frame_word fs)
frames_are_words [] fits = tt
frames_are_words (f ∷ fs) fits = (frame_is_word f fits.0, frames_are_words fs fits.1)

-- ---- traces

-- the words of a trace behind the first one
abbrev pub row_words : PlainRow → List (List ℕ)
row_words row =
    decimal (domain_of row.key) ∷ key_word row.key ∷ decimal row.size ∷ decimal row.total ∷ map frame_word row.frames

-- each part of a trace has a spelling
pub record IsTold (row : PlainRow) : Type 0 where
  pub key : FitsKey row.key
  pub size : row.size < 2 ^ 64
  pub some : 1 ≤ row.total
  pub few : row.total ≤ MAX_FRAME_LIMIT
  pub frames : AllByRecursion FitsFrame row.frames

abbrev row_is : TraceKey → ℕ → List PlainFrame → ℕ → PlainRow
row_is key size frames total = record { key = key; size = size; frames = frames; total = total }

abbrev pub RowIs : List (List ℕ) → PlainRow → Type 0
RowIs ws row = (ws ≡ row_words row) × IsTold row

module _ (key size total : List ℕ) (frames : List (List ℕ)) where
  -- what is read from a word on, once the words before it are
  abbrev from_frames : TraceKey → ℕ → ℕ → Result PlainRow LoadCause
  from_frames k n t = frames_in frames >>= λ fs. Ok (row_is k n fs t)

  abbrev from_total : TraceKey → ℕ → Result PlainRow LoadCause
  from_total k n = frames_at total >>= from_frames k n

  abbrev from_size : TraceKey → Result PlainRow LoadCause
  from_size k = number_at size >>= from_total k

  abbrev from_key : ℕ → Result PlainRow LoadCause
  from_key d = key_in d key >>= from_size

  words_take :
      (domain : List ℕ) (row : PlainRow) → row_of_words domain key size total frames ≡ Ok row
      → RowIs (domain ∷ key ∷ size ∷ total ∷ frames) row
  unfolding row_of_words
  words_take domain row e =
      let d = bind_ok (number_in 0 max_domain domain) from_key row e in
      let k = bind_ok (key_in d.0 key) from_size row d.2 in
      let n = bind_ok (number_at size) (from_total k.0) row k.2 in
      let t = bind_ok (frames_at total) (from_frames k.0 n.0) row n.2 in
      let fs = bind_ok (frames_in frames) (λ fs. Ok (row_is k.0 n.0 fs t.0)) row t.2 in
      let of_domain = ranged_takes 0 max_domain domain d.0 d.1 in
      let of_key = key_takes d.0 key k.0 of_domain.2 k.1 in
      let of_size = number_takes size n.0 n.1 in
      let of_total = ranged_takes 1 MAX_FRAME_LIMIT total t.0 t.1 in
      let of_frames = frames_take frames fs.0 fs.1 in
      let first = of_domain.0 ∙ ap decimal of_key.0 in
      subst (RowIs (domain ∷ key ∷ size ∷ total ∷ frames)) (ok_is (row_is k.0 n.0 fs.0 t.0) row fs.2) (
        (λ i. first i ∷ of_key.1 i ∷ of_size.0 i ∷ of_total.0 i ∷ of_frames.0 i),
        record { key = of_key.2; size = of_size.1; some = of_total.1; few = of_total.2; frames = of_frames.1 },
      )

pub row_takes : (ws : List (List ℕ)) (row : PlainRow) → row_at ws ≡ Ok row → RowIs ws row
row_takes [] row e = absurd cc
row_takes (domain ∷ []) row e = absurd cc
row_takes (domain ∷ key ∷ []) row e = absurd cc
row_takes (domain ∷ key ∷ size ∷ []) row e = absurd cc
row_takes (domain ∷ key ∷ size ∷ total ∷ []) row e = absurd cc
row_takes (domain ∷ key ∷ size ∷ total ∷ frame ∷ frames) row e =
    words_take key size total (frame ∷ frames) domain row e

-- the words of a trace with these frames
abbrev told_by : PlainRow → List PlainFrame → Result PlainRow LoadCause
told_by row fs =
    row_of_words (decimal (domain_of row.key)) (key_word row.key) (decimal row.size) (decimal row.total)
    (map frame_word fs)

words_again : (row : PlainRow) → IsTold row → told_by row row.frames ≡ Ok row
unfolding row_of_words
words_again row told =
    let key = key_word row.key in
    let size = decimal row.size in
    let total = decimal row.total in
    let frames = map frame_word row.frames in
    let domain = domain_of row.key in
    ap (λ (r : Result ℕ LoadCause). r >>= from_key key size total frames)
    (ranged_again 0 max_domain domain (lit< tt) (omega arith) (domain_small row.key told.key))
    ∙ ap (λ (r : Result TraceKey LoadCause). r >>= from_size key size total frames) (key_again row.key told.key)
    ∙ ap (λ (r : Result ℕ LoadCause). r >>= from_total key size total frames row.key) (number_again row.size told.size)
    ∙ ap (λ (r : Result ℕ LoadCause). r >>= from_frames key size total frames row.key row.size)
    (ranged_again 1 MAX_FRAME_LIMIT row.total (lit< tt) told.some told.few)
    ∙ ap (λ (r : Result (List PlainFrame) LoadCause). r >>= λ fs. Ok (row_is row.key row.size fs row.total))
    (frames_again row.frames told.frames)

pub row_again : (row : PlainRow) → IsTold row → 1 ≤ length row.frames → row_at (row_words row) ≡ Ok row
row_again row told some = by row.frames refl some
  where
    by : (fs : List PlainFrame) → row.frames ≡ fs → 1 ≤ length fs
        → row_at (row_words (record row { frames = fs })) ≡ Ok row
    by [] is some = absurd (omega arith)
    by (f ∷ fs) is some = ap (told_by row) (sym is) ∙ words_again row told

pub row_words_fit : (row : PlainRow) → IsTold row → AllByRecursion (λ w. is_word w ≡ true) (row_words row)
row_words_fit row told = (
  number_word (domain_of row.key) (omega (arith, domain_small row.key told.key)),
  (
    key_is_word row.key told.key,
    (
      number_word row.size told.size,
      (number_word row.total (omega (arith, told.few)), frames_are_words row.frames told.frames),
    ),
  ),
)
