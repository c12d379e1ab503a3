-- What stands at a name's place, and what one more snapshot leaves.
use Rattle.std.proofs.Common.{◌≡◌, ◌≢◌, ℕ, suc, ◌<◌, Bool, true, false, cond, [], ◌∷◌, ◌++◌, length, get_or}
use Rattle.std.proofs.Common.{set, nat_lt, Option, Some, None, refl, sym, ap, subst, ◌∙◌, arith}
use Rattle.std.specs.Prelude.{◌==◌}
use Rattle.std.specs.List.{position, position_or_len}
use Rattle.std.proofs.lemmas.Bool.Decides.{Decides-eqb}
use Rattle.std.proofs.lemmas.Grind.{common_steps}
use Rattle.std.proofs.lemmas.List.Quantifiers.{position-Some}
use Rattle.std.proofs.lemmas.List.Recursion.{is_position_or_len}
use Rattle.mem_base.specs.declared.texts.TextId.{TextId}
use Rattle.trace_table.specs.declared.snapshot.Snapshot.{Snapshot}
use Rattle.snap_store.specs.Stand.{SnapshotsView, Keeps, is_of, snapshot_at}
use Rattle.snap_store.specs.declared.store.Named.{Named}

-- the place of the name, or the length
abbrev first : TextId → SnapshotsView → ℕ
first name [] = 0
first name (n ∷ all) = cond (is_of name n) 0 (suc (first name all))

first_is : (name : TextId) (all : SnapshotsView) → first name all ≡ position_or_len (is_of name) all
first_is name all =
    is_position_or_len (first name) (is_of name) refl
    (λ n rest. ap (λ (k : ℕ). cond (is_of name n) 0 k) (omega arith)) all

-- a place that is found is that one
placed : (name : TextId) (all : SnapshotsView) (i : ℕ) → position (is_of name) all ≡ Some i
    → (first name all ≡ i) × (i < length all)
placed name [] i is = let none : None ≡ Some i = is in absurd cc
placed name (n ∷ all) i is = (
  first_is name (n ∷ all) ∙ by (is_of name) (nat_lt (position_or_len (is_of name) (n ∷ all)) (length (n ∷ all))) is,
  (position-Some (is_of name) (n ∷ all) i n is).0,
)
  where
    by : (p : Named → Bool) (b : Bool) → cond b (Some (position_or_len p (n ∷ all))) None ≡ Some i → position_or_len p (n ∷ all) ≡ i
    by p true is = cc
    by p false is = let none : None ≡ Some i = is in absurd cc

-- a name without a place has no snapshot
pub none_there : (name : TextId) (all : SnapshotsView) → position (is_of name) all ≡ None → snapshot_at all name ≡ None
none_there name [] none = refl
none_there name (n ∷ all) none = by (n.name.0 == name.0) refl (none_there name all)
  where
    by : (b : Bool) → (n.name.0 == name.0) ≡ b → (position (is_of name) all ≡ None → snapshot_at all name ≡ None)
        → cond (n.name.0 == name.0) (Some n.snapshot) (snapshot_at all name) ≡ None
    by true e later = absurd (grind (arith, common_steps))
    by false e later = ap (λ (b : Bool). cond b (Some n.snapshot) (snapshot_at all name)) e
        ∙ later (grind (arith, common_steps))

module _ (name : TextId) (d : Named) where
  found_at : (all : SnapshotsView) → first name all < length all
      → snapshot_at all name ≡ Some (get_or all (first name all) d).snapshot
  found_at [] lt = absurd (omega (arith, lt))
  found_at (n ∷ all) lt = by (n.name.0 == name.0) (found_at all) lt
    where
      by : (b : Bool)
          → (first name all < length all → snapshot_at all name ≡ Some (get_or all (first name all) d).snapshot) → cond b 0 (suc (first name all)) < suc (length all)
          → cond b (Some n.snapshot) (snapshot_at all name) ≡ Some (get_or (n ∷ all) (cond b 0 (suc (first name all))) d).snapshot
      by true later lt = refl
      by false later lt = later (omega (arith, lt))

  -- the snapshot at a name's place is the name's
  pub there : (all : SnapshotsView) (i : ℕ) → position (is_of name) all ≡ Some i
      → snapshot_at all name ≡ Some (get_or all i d).snapshot
  there all i is =
      let p = placed name all i is in
      found_at all (omega (arith, p.0, p.1)) ∙ ap (λ (j : ℕ). Some (get_or all j d).snapshot) p.0

-- two names are the same or not, as a test says
tells_not : (m n : ℕ) → m ≢ n → (m == n) ≡ false
tells_not m n ne = by (m == n) refl
  where
    by : (b : Bool) → (m == n) ≡ b → b ≡ false
    by true e = absurd (ne ((Decides-eqb m n).0 e))
    by false e = refl

module _ (name : TextId) (s : Snapshot) where
  abbrev more : Named
  more = record { name = name; snapshot = s }

  pushed_its : (all : SnapshotsView) → snapshot_at all name ≡ None → snapshot_at (all ++ more ∷ []) name ≡ Some s
  pushed_its [] none = ap (λ (b : Bool). cond b (Some s) None) ((Decides-eqb name.0 name.0).1 refl)
  pushed_its (n ∷ all) none = by (n.name.0 == name.0) (pushed_its all) none
    where
      by : (b : Bool) → (snapshot_at all name ≡ None → snapshot_at (all ++ more ∷ []) name ≡ Some s)
          → cond b (Some n.snapshot) (snapshot_at all name) ≡ None
          → cond b (Some n.snapshot) (snapshot_at (all ++ more ∷ []) name) ≡ Some s
      by true later none = let some : Some n.snapshot ≡ None = none in absurd cc
      by false later none = later none

  pushed_others : (all : SnapshotsView) (other : TextId) → other.0 ≢ name.0
      → snapshot_at (all ++ more ∷ []) other ≡ snapshot_at all other
  pushed_others [] other ne =
      ap (λ (b : Bool). cond b (Some s) None) (tells_not name.0 other.0 (λ e. ne (sym e)))
  pushed_others (n ∷ all) other ne =
      ap (λ (o : Option Snapshot). cond (n.name.0 == other.0) (Some n.snapshot) o) (pushed_others all other ne)

  -- a name that had no snapshot gets one
  pub push_keeps : (all new : SnapshotsView) → position (is_of name) all ≡ None → new ≡ all ++ more ∷ []
      → Keeps name s all new
  push_keeps all new none is =
      subst (Keeps name s all) (sym is)
      (record { its = pushed_its all (none_there name all none); others = λ other ne. pushed_others all other ne })

  module _ (d : Named) where
    abbrev then_list : SnapshotsView → SnapshotsView
    then_list all = set all (first name all) (record (get_or all (first name all) d) { snapshot = s })

    set_its : (all : SnapshotsView) → first name all < length all → snapshot_at (then_list all) name ≡ Some s
    set_its [] lt = absurd (omega (arith, lt))
    set_its (n ∷ all) lt = by (n.name.0 == name.0) refl (set_its all) lt
      where
        by : (b : Bool) → (n.name.0 == name.0) ≡ b
            → (first name all < length all → snapshot_at (then_list all) name ≡ Some s) → cond b 0 (suc (first name all)) < suc (length all)
            → snapshot_at (set (n ∷ all) (cond b 0 (suc (first name all)))
            (record (get_or (n ∷ all) (cond b 0 (suc (first name all))) d) { snapshot = s })) name ≡ Some s
        by true e later lt = ap (λ (b : Bool). cond b (Some s) (snapshot_at all name)) e
        by false e later lt =
            ap (λ (b : Bool). cond b (Some n.snapshot) (snapshot_at (then_list all) name)) e
            ∙ later (omega (arith, lt))

    set_others : (all : SnapshotsView) → first name all < length all → (other : TextId) → other.0 ≢ name.0
        → snapshot_at (then_list all) other ≡ snapshot_at all other
    set_others [] lt other ne = absurd (omega (arith, lt))
    set_others (n ∷ all) lt other ne = by (n.name.0 == name.0) refl (λ lt. set_others all lt other ne) lt
      where
        by : (b : Bool) → (n.name.0 == name.0) ≡ b
            → (first name all < length all → snapshot_at (then_list all) other ≡ snapshot_at all other) → cond b 0 (suc (first name all)) < suc (length all)
            → snapshot_at (set (n ∷ all) (cond b 0 (suc (first name all)))
            (record (get_or (n ∷ all) (cond b 0 (suc (first name all))) d) { snapshot = s })) other
            ≡ cond (n.name.0 == other.0) (Some n.snapshot) (snapshot_at all other)
        by true e later lt =
            let here : n.name.0 ≡ name.0 = (Decides-eqb n.name.0 name.0).0 e in
            let away : (n.name.0 == other.0) ≡ false = tells_not n.name.0 other.0 (λ same. ne (sym same ∙ here)) in
            ap (λ (b : Bool). cond b (Some s) (snapshot_at all other)) away
            ∙ sym (ap (λ (b : Bool). cond b (Some n.snapshot) (snapshot_at all other)) away)
        by false e later lt =
            ap (λ (o : Option Snapshot). cond (n.name.0 == other.0) (Some n.snapshot) o) (later (omega (arith, lt)))

    -- a name that had a snapshot gets another
    pub set_keeps : (all new : SnapshotsView) (i : ℕ) → position (is_of name) all ≡ Some i
        → new ≡ set all i (record (get_or all i d) { snapshot = s }) → Keeps name s all new
    set_keeps all new i at is =
        let p = placed name all i at in
        let lt : first name all < length all = omega (arith, p.0, p.1) in
        subst (Keeps name s all) (ap (λ (j : ℕ). set all j (record (get_or all j d) { snapshot = s })) p.0 ∙ sym is)
        (record { its = set_its all lt; others = λ other ne. set_others all lt other ne })
