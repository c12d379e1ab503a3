-- A rule that is read is spelt so, what is spelt so is read, and a rule's word is a word.
use Rattle.std.proofs.Common.{◌≡◌, ℕ, ◌^◌, ◌<◌, ◌≤◌, Bool, true, false, cond, not, ◌&&◌, List, [], ◌∷◌, ◌++◌}
use Rattle.std.proofs.Common.{map, Option, Some, None, Result, Ok, Err, refl, sym, ap, subst, ◌∙◌, arith}
use Rattle.std.proofs.Common.{lit<, true≢false, inl, inr, ◌⊎◌}
use Rattle.std.specs.Prelude.{◌==◌, decimal}
use Rattle.std.specs.List.{AllByRecursion, list_all}
use Rattle.std.specs.Option.{option_and_then, option_map}
use Rattle.std.specs.Str.{bytes_eq}
use Rattle.std.proofs.lemmas.Bool.{eqb-true}
use Rattle.std.proofs.lemmas.Fmt.{digits_decimal}
use Rattle.std.proofs.lemmas.Slice.Eq.{bytes_eq-Decides}
use Rattle.mem_base.specs.declared.limits.TheConstants.{MAX_LINE}
use Rattle.mem_base.specs.declared.trace.Rule.{Rule}
use Rattle.mem_base.specs.declared.trace.Rule.TheVariants.{File, Domain}
use Rattle.trace_model.specs.Operands.{◌>>=◌, is_between, is_file, max_domain, number_in}
use Rattle.trace_model.specs.Rules.{comma, file_word, domain_word, scope_word, or_star, rule_word, IsUpTo, FitsRule}
use Rattle.trace_model.specs.Rules.{Cut, after_byte, cut_at, if_read, star_or, scope_in, file_rule_in}
use Rattle.trace_model.specs.Rules.{domain_rule_in, rule_behind, or_bad, rule_at, rules_at}
use Rattle.trace_model.specs.declared.cause.TraceCause.{TraceCause}
use Rattle.trace_model.proofs.OperandLaws.{are_digits, own, both, bind_ok, ok_is, ranged_takes, ranged_again}
use Rattle.trace_model.proofs.WordLaws.{is_word, number_word, file_word as file_is_word, all_append, has_some}

-- ---- what is there

abbrev there : {A : Type 0} → A → Option A
there x = Some x

some_is : {A : Type 0} (x y : A) → there x ≡ there y → x ≡ y
some_is x y e = cc

and_then_is : {A B : Type 0} (f : A → Option B) (o : Option A) (y : B) → option_and_then f o ≡ Some y
    → (x : A) × (o ≡ Some x) × (f x ≡ Some y)
and_then_is f None y e = absurd cc
and_then_is f (Some x) y e = (x, refl, e)

map_is : {A B : Type 0} (f : A → B) (o : Option A) (y : B) → option_map f o ≡ Some y
    → (x : A) × (o ≡ Some x) × (f x ≡ y)
map_is f None y e = absurd cc
map_is f (Some x) y e = (x, refl, some_is (f x) y e)

read_is : {A : Type 0} (r : Result A TraceCause) (x : A) → if_read r ≡ Some x → r ≡ Ok x
read_is (Ok y) x e = ap (λ o. Ok o) (some_is y x e)
read_is (Err c) x e = absurd cc

-- a test that something passed
test_is : {A : Type 0} (b : Bool) (x y : A) → cond b (Some x) None ≡ Some y → (b ≡ true) × (x ≡ y)
test_is true x y e = (refl, some_is x y e)
test_is false x y e = absurd cc

-- one of several texts, and what is read where it is this one
text_or : {A : Type 0} (w text : List ℕ) (here rest : Option A) (y : A) → cond (bytes_eq w text) here rest ≡ Some y
    → ((w ≡ text) × (here ≡ Some y)) ⊎ (rest ≡ Some y)
text_or {A} w text here rest y e = by (bytes_eq w text) refl e
  where
    by : (b : Bool) → bytes_eq w text ≡ b → cond b here rest ≡ Some y → ((w ≡ text) × (here ≡ Some y)) ⊎ (rest ≡ Some y)
    by true is h = inl ((bytes_eq-Decides w text).0 is, h)
    by false is h = inr h

-- ---- commas

-- the bytes before a comma, the comma, and those behind it
abbrev joined : List ℕ → List ℕ → List ℕ
joined front behind = front ++ comma ∷ behind

abbrev whole : Cut → List ℕ
whole c = joined c.front c.behind

cut_takes : (w : List ℕ) (c : Cut) → cut_at w ≡ Some c → w ≡ whole c
cut_takes [] c e = absurd cc
cut_takes (b ∷ bs) c e = by (b == comma) refl e (cut_takes bs)
  where
    by : (v : Bool) → (b == comma) ≡ v
        → cond v (Some (record { front = []; behind = bs })) (option_map (after_byte b) (cut_at bs)) ≡ Some c
        → ((d : Cut) → cut_at bs ≡ Some d → bs ≡ whole d) → b ∷ bs ≡ whole c
    by true is h behind =
        let first : Cut = record { front = []; behind = bs } in
        (λ i. eqb-true b comma is i ∷ bs) ∙ ap (λ (x : Cut). whole x) (some_is first c h)
    by false is h behind =
        let m = map_is (after_byte b) (cut_at bs) c h in
        ap (λ (l : List ℕ). b ∷ l) (behind m.0 m.1) ∙ ap (λ (x : Cut). whole x) m.2

abbrev has_no_comma : List ℕ → Bool
has_no_comma w = list_all (λ b. not (b == comma)) w

is_false : (b : Bool) → not b ≡ true → b ≡ false
is_false true e = sym e
is_false false e = refl

cut_again : (front behind : List ℕ) → has_no_comma front ≡ true
    → cut_at (joined front behind) ≡ Some (record { front = front; behind = behind })
cut_again [] behind free = refl
cut_again (b ∷ bs) behind free =
    let t = both (not (b == comma)) (has_no_comma bs) free in
    let rest = joined bs behind in
    ap (λ (v : Bool). cond v (Some (record { front = []; behind = rest })) (option_map (after_byte b) (cut_at rest)))
    (is_false (b == comma) t.0)
    ∙ ap (option_map (after_byte b)) (cut_again bs behind t.1)

-- ---- a part and what follows it

-- the part in front of the first comma is read, and then what stands behind it
abbrev part_in : {X : Type 0} → (List ℕ → Option X) → (X → List ℕ → Option Rule) → List ℕ → Option Rule
part_in read next w =
    option_and_then (λ cut. option_and_then (λ x. next x cut.behind) (read cut.front)) (cut_at w)

-- a part that was read, what it says, and that what stands behind it was read
record Part (X : Type 0) (read : List ℕ → Option X) (next : X → List ℕ → Option Rule) (w : List ℕ) (r : Rule) : Type 0 where
  front : List ℕ
  behind : List ℕ
  value : X
  spelt : w ≡ joined front behind
  said : read front ≡ Some value
  then : next value behind ≡ Some r

part_takes : {X : Type 0} (read : List ℕ → Option X) (next : X → List ℕ → Option Rule) (w : List ℕ) (r : Rule)
    → part_in read next w ≡ Some r → Part X read next w r
part_takes {X} read next w r e =
    let c = and_then_is (λ (cut : Cut). option_and_then (λ x. next x cut.behind) (read cut.front)) (cut_at w) r e in
    let x = and_then_is (λ (x : X). next x c.0.behind) (read c.0.front) r c.2 in
    record {
      front = c.0.front;
      behind = c.0.behind;
      value = x.0;
      spelt = cut_takes w c.0 c.1;
      said = x.1;
      then = x.2;
    }

part_again : {X : Type 0} (read : List ℕ → Option X) (next : X → List ℕ → Option Rule) (front behind : List ℕ) (x : X)
    → has_no_comma front ≡ true → read front ≡ Some x → part_in read next (joined front behind) ≡ next x behind
part_again {X} read next front behind x free said =
    ap (λ (o : Option Cut). option_and_then (λ cut. option_and_then (λ x. next x cut.behind) (read cut.front)) o)
    (cut_again front behind free)
    ∙ ap (λ (o : Option X). option_and_then (λ x. next x behind) o) said

-- ---- scopes, and numbers or stars

scope_takes : (w : List ℕ) (all : Bool) → scope_in w ≡ Some all → w ≡ scope_word all
scope_takes w all e = elim (text_or w (scope_word true) (Some true) _ all e) [
  | inl h ↦ h.0 ∙ ap scope_word (some_is true all h.1)
  | inr e1 ↦ elim (text_or w (scope_word false) (Some false) None all e1) [
    | inl h ↦ h.0 ∙ ap scope_word (some_is false all h.1)
    | inr e2 ↦ absurd cc
  ]
]

scope_again : (all : Bool) → scope_in (scope_word all) ≡ Some all
scope_again true = refl
scope_again false = refl

scope_free : (all : Bool) → has_no_comma (scope_word all) ≡ true
scope_free true = refl
scope_free false = refl

scope_prints : (all : Bool) → list_all (is_between 33 126) (scope_word all) ≡ true
scope_prints true = refl
scope_prints false = refl

star_takes : (most : ℕ) (w : List ℕ) (o : Option ℕ) → star_or most w ≡ Some o → (w ≡ or_star o) × IsUpTo most o
star_takes most w o e = elim (text_or w (or_star None) (Some None) _ o e) [
  | inl h ↦ subst (λ (x : Option ℕ). (w ≡ or_star x) × IsUpTo most x) (some_is None o h.1) (h.0, tt)
  | inr rest ↦
      let m = map_is Some (if_read (number_in 0 most w)) o rest in
      let t = ranged_takes 0 most w m.0 (read_is (number_in 0 most w) m.0 m.1) in
      subst (λ (x : Option ℕ). (w ≡ or_star x) × IsUpTo most x) m.2 (t.0, t.2)
]

-- digits are no star, and no comma stands among them
not_star : (w : List ℕ) → are_digits w ≡ true → bytes_eq w (or_star None) ≡ false
not_star w are = by (bytes_eq w (or_star None)) refl
  where
    by : (v : Bool) → bytes_eq w (or_star None) ≡ v → v ≡ false
    by true is = absurd (true≢false (sym are ∙ ap are_digits ((bytes_eq-Decides w (or_star None)).0 is)))
    by false is = refl

no_comma : (b : ℕ) → is_between 48 57 b ≡ true → not (b == comma) ≡ true
no_comma b digit = by (b == comma) refl
  where
    by : (v : Bool) → (b == comma) ≡ v → not v ≡ true
    by true is = absurd (true≢false (sym digit ∙ ap (is_between 48 57) (eqb-true b comma is)))
    by false is = refl

digits_free : (w : List ℕ) → are_digits w ≡ true → has_no_comma w ≡ true
digits_free [] are = refl
digits_free (b ∷ bs) are =
    let t = both (is_between 48 57 b) (are_digits bs) are in
    (λ i. no_comma b t.0 i && digits_free bs t.1 i)

number_digits : (most n : ℕ) → most < 2 ^ 64 → n ≤ most → are_digits (decimal n) ≡ true
number_digits most n small few = digits_decimal own n (omega (arith, small, few))

star_again : (most : ℕ) (o : Option ℕ) → most < 2 ^ 64 → IsUpTo most o → star_or most (or_star o) ≡ Some o
star_again most None small few = refl
star_again most (Some n) small few =
    ap (λ (b : Bool). cond b (Some None) (option_map Some (if_read (number_in 0 most (decimal n)))))
    (not_star (decimal n) (number_digits most n small few))
    ∙ ap (λ (r : Result ℕ TraceCause). option_map Some (if_read r)) (ranged_again 0 most n small (omega arith) few)

star_free : (most : ℕ) (o : Option ℕ) → most < 2 ^ 64 → IsUpTo most o → has_no_comma (or_star o) ≡ true
star_free most None small few = refl
star_free most (Some n) small few = digits_free (decimal n) (number_digits most n small few)

prints : (w : List ℕ) → is_word w ≡ true → list_all (is_between 33 126) w ≡ true
prints w is = (both (has_some w) (list_all (is_between 33 126) w) is).1

number_prints : (most n : ℕ) → most < 2 ^ 64 → n ≤ most → list_all (is_between 33 126) (decimal n) ≡ true
number_prints most n small few = prints (decimal n) (number_word n (omega (arith, small, few)))

star_prints : (most : ℕ) (o : Option ℕ) → most < 2 ^ 64 → IsUpTo most o → list_all (is_between 33 126) (or_star o) ≡ true
star_prints most None small few = refl
star_prints most (Some n) small few = number_prints most n small few

-- ---- a rule that looks at files

module _ (inclusive : Bool) where
  abbrev by_pattern : Bool → Option ℕ → Option ℕ → List ℕ → Option Rule
  by_pattern all line domain p = cond (is_file p) (Some (File inclusive all line domain p)) None

  abbrev by_domain : Bool → Option ℕ → List ℕ → Option Rule
  by_domain all line = part_in (star_or max_domain) (by_pattern all line)

  abbrev by_line : Bool → List ℕ → Option Rule
  by_line all = part_in (star_or MAX_LINE) (by_domain all)

  file_rule_takes : (w : List ℕ) (r : Rule) → file_rule_in inclusive w ≡ Some r
      → (joined (file_word inclusive) w ≡ rule_word r) × FitsRule r
  unfolding file_rule_in
  file_rule_takes w r e =
      let s = part_takes scope_in by_line w r e in
      let l = part_takes (star_or MAX_LINE) (by_domain s.value) s.behind r s.then in
      let d = part_takes (star_or max_domain) (by_pattern s.value l.value) l.behind r l.then in
      let file = File inclusive s.value l.value d.value d.behind in
      let p = test_is (is_file d.behind) file r d.then in
      let scope = scope_takes s.front s.value s.said in
      let line = star_takes MAX_LINE l.front l.value l.said in
      let domain = star_takes max_domain d.front d.value d.said in
      let spelt_domain = d.spelt ∙ ap (λ (f : List ℕ). joined f d.behind) domain.0 in
      let spelt_line = l.spelt ∙ (λ i. joined (line.0 i) (spelt_domain i)) in
      let spelt = s.spelt ∙ (λ i. joined (scope i) (spelt_line i)) in
      subst (λ (x : Rule). (joined (file_word inclusive) w ≡ rule_word x) × FitsRule x) p.1
      (ap (joined (file_word inclusive)) spelt, (line.1, domain.1, p.0))

  -- what stands behind the first part of its word
  abbrev file_tail : Bool → Option ℕ → Option ℕ → List ℕ → List ℕ
  file_tail all line domain p = joined (scope_word all) (joined (or_star line) (joined (or_star domain) p))

  file_rule_again : (all : Bool) (line domain : Option ℕ) (p : List ℕ) → FitsRule (File inclusive all line domain p)
      → file_rule_in inclusive (file_tail all line domain p) ≡ Some (File inclusive all line domain p)
  unfolding file_rule_in
  file_rule_again all line domain p fits =
      part_again scope_in by_line (scope_word all) (joined (or_star line) (joined (or_star domain) p)) all
      (scope_free all) (scope_again all)
      ∙ part_again (star_or MAX_LINE) (by_domain all) (or_star line) (joined (or_star domain) p) line
      (star_free MAX_LINE line (lit< tt) fits.0) (star_again MAX_LINE line (lit< tt) fits.0)
      ∙ part_again (star_or max_domain) (by_pattern all line) (or_star domain) p domain
      (star_free max_domain domain (lit< tt) fits.1) (star_again max_domain domain (lit< tt) fits.1)
      ∙ ap (λ (b : Bool). cond b (Some (File inclusive all line domain p)) None) fits.2

  file_tail_prints : (all : Bool) (line domain : Option ℕ) (p : List ℕ) → FitsRule (File inclusive all line domain p)
      → list_all (is_between 33 126) (file_tail all line domain p) ≡ true
  file_tail_prints all line domain p fits =
      all_append (is_between 33 126) (scope_word all) (comma ∷ joined (or_star line) (joined (or_star domain) p))
      (scope_prints all)
      (all_append (is_between 33 126) (or_star line) (comma ∷ joined (or_star domain) p)
      (star_prints MAX_LINE line (lit< tt) fits.0)
      (all_append (is_between 33 126) (or_star domain) (comma ∷ p)
      (star_prints max_domain domain (lit< tt) fits.1) (prints p (file_is_word p fits.2))))

  -- ---- a rule that looks at domains

  domain_rule_takes : (w : List ℕ) (r : Rule) → domain_rule_in inclusive w ≡ Some r
      → (joined (domain_word inclusive) w ≡ rule_word r) × FitsRule r
  unfolding domain_rule_in
  domain_rule_takes w r e =
      let m = map_is (Domain inclusive) (if_read (number_in 0 max_domain w)) r e in
      let t = ranged_takes 0 max_domain w m.0 (read_is (number_in 0 max_domain w) m.0 m.1) in
      subst (λ (x : Rule). (joined (domain_word inclusive) w ≡ rule_word x) × FitsRule x) m.2
      (ap (joined (domain_word inclusive)) t.0, t.2)

  domain_rule_again : (n : ℕ) → n ≤ max_domain → domain_rule_in inclusive (decimal n) ≡ Some (Domain inclusive n)
  unfolding domain_rule_in
  domain_rule_again n few =
      ap (λ (r : Result ℕ TraceCause). option_map (Domain inclusive) (if_read r))
      (ranged_again 0 max_domain n (lit< tt) (omega arith) few)

-- ---- a rule

behind_takes : (c : Cut) (r : Rule) → rule_behind c ≡ Some r → (whole c ≡ rule_word r) × FitsRule r
unfolding rule_behind
behind_takes c r e =
    let front = λ (text : List ℕ) (is : c.front ≡ text). ap (λ (f : List ℕ). joined f c.behind) is in
    elim (text_or c.front (file_word true) (file_rule_in true c.behind) _ r e) [
      | inl h ↦ let t = file_rule_takes true c.behind r h.1 in (front (file_word true) h.0 ∙ t.0, t.1)
      | inr e1 ↦ elim (text_or c.front (file_word false) (file_rule_in false c.behind) _ r e1) [
        | inl h ↦ let t = file_rule_takes false c.behind r h.1 in (front (file_word false) h.0 ∙ t.0, t.1)
        | inr e2 ↦ elim (text_or c.front (domain_word true) (domain_rule_in true c.behind) _ r e2) [
          | inl h ↦ let t = domain_rule_takes true c.behind r h.1 in (front (domain_word true) h.0 ∙ t.0, t.1)
          | inr e3 ↦ elim (text_or c.front (domain_word false) (domain_rule_in false c.behind) None r e3) [
            | inl h ↦ let t = domain_rule_takes false c.behind r h.1 in (front (domain_word false) h.0 ∙ t.0, t.1)
            | inr e4 ↦ absurd cc
          ]
        ]
      ]
    ]

pub rule_takes : (w : List ℕ) (r : Rule) → rule_at w ≡ Ok r → (w ≡ rule_word r) × FitsRule r
unfolding rule_at
rule_takes w r e =
    let c = and_then_is rule_behind (cut_at w) r (by (option_and_then rule_behind (cut_at w)) e) in
    let t = behind_takes c.0 r c.2 in
    (cut_takes w c.0 c.1 ∙ t.0, t.1)
  where
    by : (o : Option Rule) → or_bad o ≡ Ok r → o ≡ Some r
    by None h = absurd cc
    by (Some x) h = ap Some (ok_is x r h)

pub rule_again : (r : Rule) → FitsRule r → rule_at (rule_word r) ≡ Ok r
unfolding rule_at rule_behind
rule_again (File true all line domain p) fits = ap or_bad (file_rule_again true all line domain p fits)
rule_again (File false all line domain p) fits = ap or_bad (file_rule_again false all line domain p fits)
rule_again (Domain true n) fits = ap or_bad (domain_rule_again true n fits)
rule_again (Domain false n) fits = ap or_bad (domain_rule_again false n fits)

pub rule_is_word : (r : Rule) → FitsRule r → is_word (rule_word r) ≡ true
rule_is_word (File true all line domain p) fits = file_tail_prints true all line domain p fits
rule_is_word (File false all line domain p) fits = file_tail_prints false all line domain p fits
rule_is_word (Domain true n) fits = number_prints max_domain n (lit< tt) fits
rule_is_word (Domain false n) fits = number_prints max_domain n (lit< tt) fits

-- ---- several rules

pub rules_take : (ws : List (List ℕ)) (rs : List Rule) → rules_at ws ≡ Ok rs
    → (ws ≡ map rule_word rs) × AllByRecursion FitsRule rs
rules_take [] rs e =
    subst (λ (xs : List Rule). ([] ≡ map rule_word xs) × AllByRecursion FitsRule xs) (ok_is [] rs e) (refl, tt)
rules_take (w ∷ ws) rs e =
    let r = bind_ok (rule_at w) (λ r. rules_at ws >>= λ rs. Ok (r ∷ rs)) rs e in
    let more = bind_ok (rules_at ws) (λ rs. Ok (r.0 ∷ rs)) rs r.2 in
    let one = rule_takes w r.0 r.1 in
    let rest = rules_take ws more.0 more.1 in
    subst (λ (xs : List Rule). (w ∷ ws ≡ map rule_word xs) × AllByRecursion FitsRule xs)
    (ok_is (r.0 ∷ more.0) rs more.2) ((λ i. one.0 i ∷ rest.0 i), (one.1, rest.1))

pub rules_again : (rs : List Rule) → AllByRecursion FitsRule rs → rules_at (map rule_word rs) ≡ Ok rs
rules_again [] fits = refl
rules_again (r ∷ rs) fits =
    ap (λ (x : Result Rule TraceCause). x >>= λ r. rules_at (map rule_word rs) >>= λ rs. Ok (r ∷ rs)) (rule_again r fits.0)
    ∙ ap (λ (x : Result (List Rule) TraceCause). x >>= λ rs. Ok (r ∷ rs)) (rules_again rs fits.1)

pub rules_are_words : (rs : List Rule) → AllByRecursion FitsRule rs
    → AllByRecursion (λ w. is_word w ≡ true) (map rule_word rs)
rules_are_words [] fits = tt
rules_are_words (r ∷ rs) fits = (rule_is_word r fits.0, rules_are_words rs fits.1)
