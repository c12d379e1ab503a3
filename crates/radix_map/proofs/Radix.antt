-- Entries that find, and entries after a mark came or went.
use Rattle.std.proofs.Common.{◌≡◌, ℕ, zero, suc, ◌+◌, ◌*◌, ◌<◌, ◌≤◌, inl, inr, Option, Some, None, refl, sym, ap, subst, ◌∙◌, arith}
use Rattle.extents.specs.Sums.{Has}
use Rattle.layout_model.specs.Geometry.{Site}
use Rattle.radix_map.specs.declared.entry.Part.{Part}
use Rattle.radix_map.specs.declared.entry.Entry.{Entry}
use Rattle.radix_map.specs.Entry.{Sees, SeesNone}
use Rattle.radix_map.specs.Map.{HasArena, HasNone, IsFree, site_at, sites_below, AreEntries}
use Rattle.radix_map.proofs.Sites.{same_or, le_or, has_begun, begun_has}

-- ---- what finds

found_here : (f : ℕ → Entry) → AreEntries f → (addr m off index : ℕ) (p : Part) → (f m).first ≡ Some p → p.index ≡ index
    → 1048576 * m + p.bound ≤ addr → addr < 1048576 * m + p.bound + 1048576 → HasArena addr (sites_below f 268435456) index
found_here f a addr m off index p is number low high =
    let b = a.begins m p is in
    record {
      base = 1048576 * m + p.bound;
      there = subst (λ i. Has (record { arena = i; base = 1048576 * m + p.bound }) (sites_below f 268435456)) number (has_begun f m p 268435456 (omega (arith, b.0, b.1)) is);
      has = (low, high);
    }

found_behind : (f : ℕ → Entry) → AreEntries f → (addr m off index : ℕ) (p : Part) → addr ≡ 1048576 * m + off → off < p.bound → (f m).second ≡ Some p → p.index ≡ index
    → HasArena addr (sites_below f 268435456) index
found_behind f a addr zero off index p is less second number = absurd (a.low p second)
found_behind f a addr (suc k) off index p is less second number =
    let b = a.back k (suc k) p (omega arith) second in
    let c = a.begins k p b.0 in
    found_here f a addr k off index p b.0 number (omega (arith, is, c.0)) (omega (arith, is, less))

pub found : (f : ℕ → Entry) → AreEntries f → (addr m off index : ℕ) → addr ≡ 1048576 * m + off → off < 1048576 → Sees (f m) off index → HasArena addr (sites_below f 268435456) index
found f a addr m off index is small s =
    elim s.here [
      | inl h ↦ found_here f a addr m off index s.part h.0 s.number (omega (arith, is, h.1)) (omega (arith, is, small))
      | inr h ↦ found_behind f a addr m off index s.part is h.1 h.0 s.number
    ]

pub none_found : (f : ℕ → Entry) → AreEntries f → (addr m off : ℕ) → addr ≡ 1048576 * m + off → off < 1048576 → SeesNone (f m) off → HasNone addr (sites_below f 268435456)
none_found f a addr m off is small none s has covers =
    let b = begun_has f s 268435456 has in
    let c = a.begins b.at b.part b.first in
    let base : s.base ≡ 1048576 * b.at + b.part.bound = ap (λ (x : Site). x.base) b.site in
    elim (same_or m b.at) [
      | inl e ↦ let l = none.first b.part (subst (λ k. (f k).first ≡ Some b.part) (sym e) b.first) in omega (arith, is, small, e, base, covers.0, l)
      | inr other ↦ elim (same_or m (b.at + 1)) [
        | inl e ↦
            let pos : 0 < b.part.bound = omega (arith, is, small, e, base, covers.1) in
            let l = none.second b.part (a.forth b.at m b.part e b.first pos) in omega (arith, is, small, e, base, covers.1, l)
        | inr far ↦ elim (le_or m b.at) [
          | inl le ↦ other (omega (arith, is, small, base, covers.0, covers.1, c.0, le))
          | inr gt ↦ far (omega (arith, is, small, base, covers.0, covers.1, c.0, gt))
        ]
      ]
    ]

pub none_high : (f : ℕ → Entry) → AreEntries f → (addr : ℕ) → 281474976710656 ≤ addr → HasNone addr (sites_below f 268435456)
none_high f a addr high s has covers =
    let b = begun_has f s 268435456 has in
    let c = a.begins b.at b.part b.first in
    let base : s.base ≡ 1048576 * b.at + b.part.bound = ap (λ (x : Site). x.base) b.site in
    omega (arith, high, base, covers.1, c.1)

-- ---- what changes

-- at m the first part is o, and behind it the second part is o where the bound b is not 0
pub record Turns (f : ℕ → Entry) (m b : ℕ) (o : Option Part) (g : ℕ → Entry) : Type 0 where
  pub first : (g m).first ≡ o
  pub firsts : (k : ℕ) → (k ≡ m → ⊥) → (g k).first ≡ (f k).first
  pub second : (j : ℕ) → j ≡ m + 1 → 0 < b → (g j).second ≡ o
  pub seconds : (j : ℕ) → (j ≡ m + 1 → 0 < b → ⊥) → (g j).second ≡ (f j).second

pub turned : (f g : ℕ → Entry) (m b : ℕ) (o : Option Part) → AreEntries f → Turns f m b o g → ((q : Part) → (f m).first ≡ Some q → q.bound ≡ b)
    → ((q : Part) → o ≡ Some q → q.bound ≡ b) → b < 1048576 → 1048576 * m + b + 1048576 ≤ 281474976710656 → AreEntries g
turned f g m b o a t was is small below = record {
  low = λ q e. a.low q (sym (t.seconds 0 (λ z p. omega (arith, z))) ∙ e);
  back = λ k j q next e. elim (same_or k m) [
    | inl at ↦ elim (le_or b 0) [
      | inl zero_b ↦
          let old = a.back k j q next (sym (t.seconds j (λ z p. omega (arith, p, zero_b))) ∙ e) in
          let w = was q (subst (λ n. (f n).first ≡ Some q) at old.0) in
          absurd (omega (arith, old.1, w, zero_b))
      | inr pos ↦
          let o_is : o ≡ Some q = sym (t.second j (omega (arith, next, at)) pos) ∙ e in
          let w = is q o_is in
          (subst (λ n. (g n).first ≡ Some q) (sym at) (t.first ∙ o_is), omega (arith, w, pos))
    ]
    | inr other ↦
        let old = a.back k j q next (sym (t.seconds j (λ z p. other (omega (arith, z, next)))) ∙ e) in
        (t.firsts k other ∙ old.0, old.1)
  ];
  forth = λ k j q next e pos. elim (same_or k m) [
    | inl at ↦
        let o_is : o ≡ Some q = sym t.first ∙ subst (λ n. (g n).first ≡ Some q) at e in
        let w = is q o_is in
        t.second j (omega (arith, next, at)) (omega (arith, w, pos)) ∙ o_is
    | inr other ↦ t.seconds j (λ z p. other (omega (arith, z, next))) ∙ a.forth k j q next (sym (t.firsts k other) ∙ e) pos
  ];
  begins = λ k q e. elim (same_or k m) [
    | inl at ↦
        let o_is : o ≡ Some q = sym t.first ∙ subst (λ n. (g n).first ≡ Some q) at e in
        let w = is q o_is in
        (omega (arith, w, small), omega (arith, w, below, at))
    | inr other ↦ a.begins k q (sym (t.firsts k other) ∙ e)
  ];
}

-- ---- a base that is free

free_first : (f : ℕ → Entry) (m b : ℕ) (o : Option Part) → AreEntries f → b < 1048576 → 1048576 * m + b + 1048576 ≤ 281474976710656
    → IsFree (1048576 * m + b) (sites_below f 268435456) → (f m).first ≡ o → o ≡ None
free_first f m b None a small below free is = refl
free_first f m b (Some q) a small below free is =
    let c = a.begins m q is in
    let has = has_begun f m q 268435456 (omega (arith, below)) is in
    elim (le_or q.bound b) [
      | inl le ↦ absurd (free (1048576 * m + b) (omega arith, omega arith) (site_at m q) has (omega (arith, le), omega (arith, c.0)))
      | inr gt ↦ absurd (free (1048576 * m + q.bound) (omega (arith, gt), omega (arith, c.0)) (site_at m q) has (omega arith, omega arith))
    ]

pub nothing_first : (f : ℕ → Entry) (m b : ℕ) → AreEntries f → b < 1048576 → 1048576 * m + b + 1048576 ≤ 281474976710656
    → IsFree (1048576 * m + b) (sites_below f 268435456) → (f m).first ≡ None
nothing_first f m b a small below free = free_first f m b (f m).first a small below free refl
