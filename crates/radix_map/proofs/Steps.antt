-- What a tree marks after its entries were written.
use Rattle.std.proofs.Common.{◌≡◌, ℕ, ◌+◌, ◌*◌, ◌/◌, ◌%◌, ◌<◌, ◌≤◌, inl, inr, List, [], Option, Some, None, Result, Ok, Err, false, true, MatchOption, MatchResult, refl, sym, ap, subst, ◌∙◌, arith}
use Rattle.extents.specs.Sums.{Inserted}
use Rattle.layout_model.specs.Geometry.{Site}
use Rattle.radix_map.specs.declared.entry.Part.{Part}
use Rattle.radix_map.specs.declared.entry.Entry.{Entry}
use Rattle.radix_map.specs.Entry.{Sees, SeesNone}
use Rattle.radix_map.specs.Tree.{nothing, entry_of, HasSlot, Keeps, Sets}
use Rattle.radix_map.specs.Map.{HasArena, HasNone, IsFree, IsMarked, Unmarks, sites_below, marked, AreEntries, IsRadix}
use Rattle.radix_map.proofs.Slots.{has_slot}
use Rattle.std.specs.Result.{IsErr}
use Rattle.radix_map.proofs.Sites.{same_or, le_or, begun_has, same_sites, no_sites, one_more}
use Rattle.radix_map.proofs.Radix.{found, none_found, none_high, Turns, turned, nothing_first}

-- ---- what finds

pub finds : (t : List (List (List Entry))) (addr : ℕ) (e : Entry) (r : Option ℕ) → IsRadix t → e ≡ entry_of t (addr / 1048576)
    → MatchOption r (SeesNone e (addr % 1048576)) (Sees e (addr % 1048576)) → MatchOption r (HasNone addr (marked t)) (HasArena addr (marked t))
unfolding marked
finds t addr e None a is none =
    none_found (entry_of t) a addr (addr / 1048576) (addr % 1048576) (omega arith) (omega arith) (subst (λ x. SeesNone x (addr % 1048576)) is none)
finds t addr e (Some i) a is sees =
    found (entry_of t) a addr (addr / 1048576) (addr % 1048576) i (omega arith) (omega arith) (subst (λ x. Sees x (addr % 1048576) i) is sees)

pub finds_none_high : (t : List (List (List Entry))) (addr : ℕ) → IsRadix t → 281474976710656 ≤ addr → HasNone addr (marked t)
unfolding marked
finds_none_high t addr a high = none_high (entry_of t) a addr high

-- ---- trees that mark the same

pub record Same (t u : List (List (List Entry))) : Type 0 where
  pub radix : IsRadix u
  pub same : marked u ≡ marked t

kept_entries : (f g : ℕ → Entry) → AreEntries f → Keeps f g → AreEntries g
kept_entries f g a kept = record {
  low = λ q e. a.low q (sym (ap (λ (x : Entry). x.second) (kept.each 0)) ∙ e);
  back = λ k j q next e.
      let old = a.back k j q next (sym (ap (λ (x : Entry). x.second) (kept.each j)) ∙ e) in
      (ap (λ (x : Entry). x.first) (kept.each k) ∙ old.0, old.1);
  forth = λ k j q next e pos. ap (λ (x : Entry). x.second) (kept.each j) ∙ a.forth k j q next (sym (ap (λ (x : Entry). x.first) (kept.each k)) ∙ e) pos;
  begins = λ k q e. a.begins k q (sym (ap (λ (x : Entry). x.first) (kept.each k)) ∙ e);
}

pub same_tree : (t u : List (List (List Entry))) → IsRadix t → Keeps (entry_of t) (entry_of u) → Same t u
unfolding marked
same_tree t u a kept = record {
  radix = kept_entries (entry_of t) (entry_of u) a kept;
  same = same_sites (entry_of t) (entry_of u) 268435456 (λ k _. ap (λ (x : Entry). x.first) (kept.each k));
}

-- an entry was written, and then what was there before
pub put_back : (f h i g : ℕ → Entry) (at : ℕ) (e next : Entry) → Sets f at e h → Keeps h i → Sets i at next g → next ≡ f at → Keeps f g
put_back f h i g at e next one kept two is = record {
  each = λ k. elim (same_or k at) [
    | inl same ↦ subst (λ n. g n ≡ f n) (sym same) (two.here ∙ is)
    | inr other ↦ two.others k other ∙ (kept.each k ∙ one.others k other)
  ];
}

-- ---- no arena

empty_entries : (f : ℕ → Entry) → Keeps (λ _. nothing) f → AreEntries f
empty_entries f kept = record {
  low = λ q e. let n : (f 0).second ≡ None = ap (λ (x : Entry). x.second) (kept.each 0) in absurd (cc);
  back = λ k j q next e. let n : (f j).second ≡ None = ap (λ (x : Entry). x.second) (kept.each j) in absurd (cc);
  forth = λ k j q next e pos. let n : (f k).first ≡ None = ap (λ (x : Entry). x.first) (kept.each k) in absurd (cc);
  begins = λ k q e. let n : (f k).first ≡ None = ap (λ (x : Entry). x.first) (kept.each k) in absurd (cc);
}

pub empty_radix : (t : List (List (List Entry))) → Keeps (λ _. nothing) (entry_of t) → IsRadix t
empty_radix t kept = empty_entries (entry_of t) kept

pub empty_marks : (t : List (List (List Entry))) → Keeps (λ _. nothing) (entry_of t) → marked t ≡ []
unfolding marked
empty_marks t kept = no_sites (entry_of t) 268435456 (λ k. ap (λ (x : Entry). x.first) (kept.each k))

-- ---- one entry or two are written

pub turns_alone : (f g : ℕ → Entry) (m b : ℕ) (o : Option Part) (e : Entry) → b ≡ 0 → Sets f m e g → e.first ≡ o → e.second ≡ (f m).second → Turns f m b o g
turns_alone f g m b o e low s first second = record {
  first = ap (λ (x : Entry). x.first) s.here ∙ first;
  firsts = λ k other. ap (λ (x : Entry). x.first) (s.others k other);
  second = λ j next pos. absurd (omega (arith, low, pos));
  seconds = λ j _. elim (same_or j m) [
    | inl at ↦ subst (λ n. (g n).second ≡ (f n).second) (sym at) (ap (λ (x : Entry). x.second) s.here ∙ second)
    | inr other ↦ ap (λ (x : Entry). x.second) (s.others j other)
  ];
}

-- both entries are written
pub record Both (f : ℕ → Entry) (m : ℕ) (e next : Entry) (g : ℕ → Entry) : Type 0 where
  pub here : g m ≡ e
  pub behind : g (m + 1) ≡ next
  pub others : (k : ℕ) → (k ≡ m → ⊥) → (k ≡ m + 1 → ⊥) → g k ≡ f k

pub both_back : (f h g : ℕ → Entry) (m : ℕ) (e next : Entry) → Sets f (m + 1) next h → Sets h m e g → Both f m e next g
both_back f h g m e next one two = record {
  here = two.here;
  behind = two.others (m + 1) (λ x. omega (arith, x)) ∙ one.here;
  others = λ k a b. two.others k a ∙ one.others k b;
}

pub both_forth : (f h g : ℕ → Entry) (m : ℕ) (e next : Entry) → Sets f m e h → Sets h (m + 1) next g → Both f m e next g
both_forth f h g m e next one two = record {
  here = two.others m (λ x. omega (arith, x)) ∙ one.here;
  behind = two.here;
  others = λ k a b. two.others k b ∙ one.others k a;
}

pub turns_both : (f g : ℕ → Entry) (m b : ℕ) (o : Option Part) (e next : Entry) → 0 < b → Both f m e next g
    → e.first ≡ o → e.second ≡ (f m).second → next.first ≡ (f (m + 1)).first → next.second ≡ o → Turns f m b o g
turns_both f g m b o e next pos both first second next_first next_second = record {
  first = ap (λ (x : Entry). x.first) both.here ∙ first;
  firsts = λ k other. elim (same_or k (m + 1)) [
    | inl at ↦ subst (λ n. (g n).first ≡ (f n).first) (sym at) (ap (λ (x : Entry). x.first) both.behind ∙ next_first)
    | inr far ↦ ap (λ (x : Entry). x.first) (both.others k other far)
  ];
  second = λ j at _. subst (λ n. (g n).second ≡ o) (sym at) (ap (λ (x : Entry). x.second) both.behind ∙ next_second);
  seconds = λ j far. elim (same_or j m) [
    | inl at ↦ subst (λ n. (g n).second ≡ (f n).second) (sym at) (ap (λ (x : Entry). x.second) both.here ∙ second)
    | inr other ↦ ap (λ (x : Entry). x.second) (both.others j other (λ at. far at pos))
  ];
}

-- ---- a mark comes

pub record Marks (base index : ℕ) (t u : List (List (List Entry))) : Type 0 where
  pub radix : IsRadix u
  pub inserted : Inserted (record { arena = index; base = base }) (marked t) (marked u)

some_is : (p q : Part) → Some p ≡ Some q → q.bound ≡ p.bound
some_is p q e = let same : p ≡ q = cc in sym (ap (λ (x : Part). x.bound) same)

pub mark_tree : (t u : List (List (List Entry))) (base index : ℕ) → IsRadix t → base + 1048576 ≤ 281474976710656 → IsFree base (marked t)
    → Turns (entry_of t) (base / 1048576) (base % 1048576) (Some (record { bound = base % 1048576; index = index })) (entry_of u) → Marks base index t u
unfolding marked
mark_tree t u base index a below free turns =
    let m = base / 1048576 in
    let b = base % 1048576 in
    let p : Part = record { bound = b; index = index } in
    let split : base ≡ 1048576 * (base / 1048576) + base % 1048576 = omega arith in
    let small : base % 1048576 < 1048576 = omega arith in
    let fits : 1048576 * (base / 1048576) + base % 1048576 + 1048576 ≤ 281474976710656 = omega arith in
    let none = nothing_first (entry_of t) m b a small fits (subst (λ x. IsFree x (sites_below (entry_of t) 268435456)) split free) in
    record {
      radix = turned (entry_of t) (entry_of u) m b (Some p) a turns (λ q e. absurd (cc)) (λ q e. some_is p q e) small fits;
      inserted = subst (λ x. Inserted (record { arena = index; base = x }) (sites_below (entry_of t) 268435456) (sites_below (entry_of u) 268435456)) (sym split)
          (one_more (entry_of t) (entry_of u) m p 268435456 (omega (arith, below)) none turns.first turns.firsts);
    }

-- ---- a mark goes

-- the arena with the base begins in the MiB of the base
pub record Stands (base : ℕ) (t : List (List (List Entry))) : Type 0 where
  pub part : Part
  pub first : (entry_of t (base / 1048576)).first ≡ Some part
  pub bound : part.bound ≡ base % 1048576

pub stands : (t : List (List (List Entry))) (base : ℕ) → IsRadix t → IsMarked base (marked t) → Stands base t
unfolding marked
stands t base a is_marked =
    let b = begun_has (entry_of t) (record { arena = is_marked.index; base = base }) 268435456 is_marked.there in
    let c = a.begins b.at b.part b.first in
    let is : base ≡ 1048576 * b.at + b.part.bound = ap (λ (x : Site). x.base) b.site in
    let at : b.at ≡ base / 1048576 = omega (arith, is, c.0) in
    record {
      part = b.part;
      first = subst (λ n. (entry_of t n).first ≡ Some b.part) at b.first;
      bound = omega (arith, is, c.0);
    }

pub slot_here : (t : List (List (List Entry))) (base : ℕ) → Stands base t → HasSlot t (base / 1048576)
slot_here t base s = has_slot t (base / 1048576) (λ e. let n : (entry_of t (base / 1048576)).first ≡ None = ap (λ (x : Entry). x.first) e in let i = s.first in absurd (cc))

pub slot_behind : (t u : List (List (List Entry))) (base : ℕ) (e : Entry) → IsRadix t → Stands base t → 0 < base % 1048576 → Sets (entry_of t) (base / 1048576) e (entry_of u) → HasSlot u (base / 1048576 + 1)
slot_behind t u base e a s pos sets =
    let i : (entry_of t (base / 1048576 + 1)).second ≡ Some s.part = a.forth (base / 1048576) (base / 1048576 + 1) s.part refl s.first (omega (arith, s.bound, pos)) in
    let k : entry_of u (base / 1048576 + 1) ≡ entry_of t (base / 1048576 + 1) = sets.others (base / 1048576 + 1) (λ x. omega (arith, x)) in
    has_slot u (base / 1048576 + 1) (λ z. let n : (entry_of t (base / 1048576 + 1)).second ≡ None = ap (λ (x : Entry). x.second) (sym k ∙ z) in absurd (cc))

pub record Goes (base : ℕ) (t u : List (List (List Entry))) : Type 0 where
  pub radix : IsRadix u
  pub unmarks : Unmarks base (marked t) (marked u)

pub unmark_tree : (t u : List (List (List Entry))) (base : ℕ) → IsRadix t → Stands base t
    → Turns (entry_of t) (base / 1048576) (base % 1048576) None (entry_of u) → Goes base t u
unfolding marked
unmark_tree t u base a s turns =
    let m = base / 1048576 in
    let b = base % 1048576 in
    let c = a.begins (base / 1048576) s.part s.first in
    let split : 1048576 * (base / 1048576) + s.part.bound ≡ base = omega (arith, s.bound) in
    record {
      radix = turned (entry_of t) (entry_of u) m b None a turns (λ q e. some_is s.part q (sym s.first ∙ e) ∙ s.bound) (λ q e. absurd (cc)) (omega arith) (omega (arith, c.1, s.bound));
      unmarks = record {
        index = s.part.index;
        removed = subst (λ x. Inserted (record { arena = s.part.index; base = x }) (sites_below (entry_of u) 268435456) (sites_below (entry_of t) 268435456)) split
            (one_more (entry_of u) (entry_of t) m s.part 268435456 (omega (arith, c.1)) turns.first s.first (λ k other. sym (turns.firsts k other)));
      };
    }

pub goes_alone : (t u : List (List (List Entry))) (base : ℕ) (x : Entry) → IsRadix t → IsMarked base (marked t) → x ≡ entry_of t (base / 1048576) → base % 1048576 ≡ 0
    → Sets (entry_of t) (base / 1048576) (record { first = None; second = x.second }) (entry_of u) → Goes base t u
goes_alone t u base x a is_marked is low sets =
    unmark_tree t u base a (stands t base a is_marked)
    (turns_alone (entry_of t) (entry_of u) (base / 1048576) (base % 1048576) None (record { first = None; second = x.second }) low sets refl (ap (λ (x : Entry). x.second) is))

pub goes_both : (t h u : List (List (List Entry))) (base : ℕ) (x y : Entry) → IsRadix t → IsMarked base (marked t) → x ≡ entry_of t (base / 1048576) → y ≡ entry_of h (base / 1048576 + 1) → 0 < base % 1048576
    → Sets (entry_of t) (base / 1048576) (record { first = None; second = x.second }) (entry_of h)
    → Sets (entry_of h) (base / 1048576 + 1) (record { first = y.first; second = None }) (entry_of u) → Goes base t u
goes_both t h u base x y a is_marked x_is y_is pos one two =
    let m = base / 1048576 in
    let e : Entry = record { first = None; second = x.second } in
    let next : Entry = record { first = y.first; second = None } in
    unmark_tree t u base a (stands t base a is_marked)
    (turns_both (entry_of t) (entry_of u) m (base % 1048576) None e next pos (both_forth (entry_of t) (entry_of h) (entry_of u) m e next one two) refl (ap (λ (x : Entry). x.second) x_is)
    (ap (λ (x : Entry). x.first) (y_is ∙ one.others (m + 1) (λ z. omega (arith, z)))) refl)

-- what a call that may lack memory leaves
pub record Leaves {A B : Type 0} (base index : ℕ) (old : List Site) (u : List (List (List Entry))) (r : Result A B) : Type 0 where
  pub radix : IsRadix u
  pub result : MatchResult r (λ _. Inserted (record { arena = index; base = base }) old (marked u)) (λ _. marked u ≡ old)

pub marks_alone : {A B : Type 0} (r : Result A B) (t u : List (List (List Entry))) (base index : ℕ) (x : Entry) → IsRadix t → base + 1048576 ≤ 281474976710656 → IsFree base (marked t)
    → x ≡ entry_of t (base / 1048576) → base % 1048576 ≡ 0
    → MatchResult r (λ _. Sets (entry_of t) (base / 1048576) (record { first = Some (record { bound = base % 1048576; index = index }); second = x.second }) (entry_of u)) (λ _. Keeps (entry_of t) (entry_of u))
    → Leaves base index (marked t) u r
marks_alone (Ok v) t u base index x a below free is low sets =
    let p : Option Part = Some (record { bound = base % 1048576; index = index }) in
    let marks = mark_tree t u base index a below free
    (turns_alone (entry_of t) (entry_of u) (base / 1048576) (base % 1048576) p (record { first = p; second = x.second }) low sets refl (ap (λ (x : Entry). x.second) is)) in
    record { radix = marks.radix; result = marks.inserted }
marks_alone (Err v) t u base index x a below free is low keeps =
    let same = same_tree t u a keeps in record { radix = same.radix; result = same.same }

pub marks_both : (t h u : List (List (List Entry))) (base index : ℕ) (x y : Entry) → IsRadix t → base + 1048576 ≤ 281474976710656 → IsFree base (marked t)
    → x ≡ entry_of t (base / 1048576) → y ≡ entry_of t (base / 1048576 + 1) → 0 < base % 1048576
    → Sets (entry_of t) (base / 1048576 + 1) (record { first = y.first; second = Some (record { bound = base % 1048576; index = index }) }) (entry_of h)
    → Sets (entry_of h) (base / 1048576) (record { first = Some (record { bound = base % 1048576; index = index }); second = x.second }) (entry_of u)
    → Marks base index t u
marks_both t h u base index x y a below free x_is y_is pos one two =
    let m = base / 1048576 in
    let p : Option Part = Some (record { bound = base % 1048576; index = index }) in
    let e : Entry = record { first = p; second = x.second } in
    let next : Entry = record { first = y.first; second = p } in
    mark_tree t u base index a below free
    (turns_both (entry_of t) (entry_of u) m (base % 1048576) p e next pos (both_back (entry_of t) (entry_of h) (entry_of u) m e next one two) refl (ap (λ (x : Entry). x.second) x_is)
    (ap (λ (x : Entry). x.first) y_is) refl)

-- ---- a result that is an error

pub of_error : {A B : Type 0} (r : Result A B) (P : A → Type 0) (Q : B → Type 0) → IsErr r → ((b : B) → Q b) → MatchResult r P Q
of_error (Ok v) P Q e q = let h : false ≡ true = e in absurd (cc)
of_error (Err v) P Q e q = q v

-- ---- a base whose two ends no arena has

pub free_ends : (base : ℕ) (sites : List Site) → HasNone base sites → HasNone (base + 1048575) sites → IsFree base sites
free_ends base sites low high addr inside s there has =
    elim (le_or s.base base) [
      | inl le ↦ low s there (le, omega (arith, inside.0, has.1))
      | inr gt ↦ high s there (omega (arith, inside.1, has.0), omega (arith, gt))
    ]

pub not_free : (base addr index : ℕ) (sites : List Site) → base ≤ addr → addr < base + 1048576 → HasArena addr sites index → IsFree base sites → ⊥
not_free base addr index sites low high has free = free addr (low, high) (record { arena = index; base = has.base }) has.there has.has
