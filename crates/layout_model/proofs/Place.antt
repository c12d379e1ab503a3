-- A placed block keeps a layout sound.
use Rattle.std.proofs.Common.{◌≡◌, ℕ, ◌+◌, ◌-◌, ◌*◌, ◌<◌, ◌≤◌, ◌≢◌, inl, inr, ◌&&◌, cond, eqb, List, [], ◌∷◌, ◌++◌, length, get_or, set, Some, None, refl, sym, subst, arith}
use Rattle.std.proofs.lemmas.List.{get_or-set_same, get_or-set_other, length-set, length-append}
use Rattle.std.proofs.lemmas.Bool.Decides.{eqb_tells}
use Rattle.std.proofs.Math.Nat.{le-div_iff_mul-le}
use Rattle.std.proofs.lemmas.List.{get_or_past}
use Rattle.mem_base.specs.declared.history.Grant.{Grant}
use Rattle.mem_base.specs.declared.history.Grant.TheVariants.{NotAsked, Refused, Granted}
use Rattle.extents.specs.Sums.{tally}
use Rattle.extents.proofs.CallerLemmas.{tally-set, tally-append}
use Rattle.layout_model.specs.Layout.{Layout, Usable, Used, Full}
use Rattle.layout_model.specs.Sizes.{capacity}
use Rattle.layout_model.specs.Sound.{one_if, dry_times, is_pool, has_arena, full_arena, full_times, is_arena, free_in, total_in, total_or, pool_times, pools_of, AreUsable, Lives, HasSomeClass, HasTotal, IsSound}
use Rattle.layout_model.specs.Place.{place_used, place_new, new_arena, granted, place_by, place}
use Rattle.layout_model.specs.Place.{pools_of_class}
use Rattle.layout_model.specs.Asks.{is_empty, was_asked, HasPools, FitsClass}
use Rattle.layout_model.proofs.Tallies.{tally_or, swapped, lives_set, get_or_more, only_none, only_none_total, one_if_same, held_set, held_more, starts_less}

-- a pool of used is known, and is not full
pub pool_in : (l : Layout) (c : ℕ) (p : Used) (ps : List Used) → IsSound l → get_or l.used c [] ≡ p ∷ ps → (p.pool < length l.full) × (get_or l.full p.pool None ≡ None)
pool_in l c p ps s e =
    let here : tally (is_pool p.pool) (get_or l.used c []) ≤ pool_times p.pool l.used = tally_or (tally (is_pool p.pool)) l.used c [] refl in
    let here2 : tally (is_pool p.pool) (p ∷ ps) ≤ pool_times p.pool l.used = subst (λ w. tally (is_pool p.pool) w ≤ pool_times p.pool l.used) e here in
    let one : one_if (eqb p.pool p.pool) ≡ 1 = one_if_same p.pool in
    let once = s.pools_once p.pool in
    let known = s.pools_known p.pool in
    (grind arith, only_none _ (omega arith))

one_more : (l : Layout) (c : ℕ) (p : Used) (ps : List Used) → c < 32 → IsSound l → get_or l.used c [] ≡ p ∷ ps → p.live + 1 ≢ capacity c → IsSound (record l { used = set l.used c (record p { live = p.live + 1 } ∷ ps) })
one_more l c p ps small s e below =
    let inside : c < length l.used = omega (arith, s.classes) in
    let q : Used = record p { live = p.live + 1 } in
    let live : Lives (capacity c) (p ∷ ps) = subst (Lives (capacity c)) e (s.lives c small) in
    let times : (k : ℕ) → pool_times k (set l.used c (q ∷ ps)) ≡ pool_times k l.used = λ k. let w = swapped (is_pool k) l.used c _ (q ∷ ps) inside e in omega arith in
    let arenas : (a : ℕ) → tally (tally (has_arena a)) (set l.used c (q ∷ ps)) ≡ tally (tally (has_arena a)) l.used = λ a. let w = swapped (has_arena a) l.used c _ (q ∷ ps) inside e in omega arith in
    record {
      classes = rw length-set s.classes;
      lives = lives_set l.used c (q ∷ ps) inside s.lives (omega arith, omega arith, live.2);
      usable = s.usable;
      full = s.full;
      dry = s.dry;
      pools_once = λ k. let w = s.pools_once k in let t = times k in omega arith;
      pools_known = λ k h. let w = s.pools_known k h in let t = times k in omega arith;
      arenas_once = s.arenas_once;
      arenas_known = s.arenas_known;
      arenas_numbered = s.arenas_numbered;
      adds_up = λ a. let w = s.adds_up a in let t = arenas a in omega arith;
      out = s.out;
      most = s.most;
    }

last_one : (l : Layout) (c : ℕ) (p : Used) (ps : List Used) → c < 32 → IsSound l → get_or l.used c [] ≡ p ∷ ps → IsSound (record l { used = set l.used c ps; full = set l.full p.pool (Some (record { class = c; arena = p.arena })) })
last_one l c p ps small s e =
    let inside : c < length l.used = omega (arith, s.classes) in
    let live : Lives (capacity c) (p ∷ ps) = subst (Lives (capacity c)) e (s.lives c small) in
    let known = pool_in l c p ps s e in
    let f : Full = record { class = c; arena = p.arena } in
    let times : (k : ℕ) → pool_times k (set l.used c ps) + is_pool k p ≡ pool_times k l.used = λ k. let w = swapped (is_pool k) l.used c _ ps inside e in omega arith in
    let arenas : (a : ℕ) → tally (tally (has_arena a)) (set l.used c ps) + has_arena a p ≡ tally (tally (has_arena a)) l.used = λ a. let w = swapped (has_arena a) l.used c _ ps inside e in omega arith in
    let fulls : (a : ℕ) → tally (full_arena a) (set l.full p.pool (Some f)) ≡ tally (full_arena a) l.full + one_if (eqb p.arena a) =
    λ a. let w : tally (full_arena a) (set l.full p.pool (Some f)) + full_arena a None ≡ tally (full_arena a) l.full + one_if (eqb p.arena a) = rw known.1 at (tally-set (full_arena a) l.full p.pool (Some f) None known.0) in omega arith in
    record {
      classes = rw length-set s.classes;
      lives = lives_set l.used c ps inside s.lives live.2;
      usable = s.usable;
      full = held_set HasSomeClass l.full p.pool (Some f) s.full small known.0;
      dry = s.dry;
      pools_once = λ k. let w = s.pools_once k in let t = times k in
          elim (eqb_tells k p.pool) [
            | inl same ↦ subst (λ x. pool_times x (set l.used c ps) + full_times (get_or (set l.full p.pool (Some f)) x None) ≤ 1) (sym same.1)
                (rw (get_or-set_same l.full p.pool (Some f) None known.0) (let one = one_if_same p.pool in let v = times p.pool in let u = s.pools_once p.pool in omega arith))
            | inr other ↦ rw (get_or-set_other l.full p.pool k (Some f) None other.1) (omega arith)
          ];
      pools_known = λ k h. let h2 : length l.full ≤ k = rw length-set at h in let w = s.pools_known k h2 in let t = times k in omega arith;
      arenas_once = s.arenas_once;
      arenas_known = s.arenas_known;
      arenas_numbered = s.arenas_numbered;
      adds_up = λ a. let w = s.adds_up a in let t = arenas a in let v = fulls a in omega arith;
      out = s.out;
      most = s.most;
    }

pub many : (c : ℕ) → c < 32 → 31 ≤ capacity c
many c small = let w = le-div_iff_mul-le {k = 16 * (c + 1)} {x = 31} {y = 16336} (omega arith) in w.1 (omega arith)

place_used_keeps : (l : Layout) (c : ℕ) (p : Used) (ps : List Used) → c < 32 → IsSound l → get_or l.used c [] ≡ p ∷ ps → IsSound (place_used l c p ps)
place_used_keeps l c p ps small s e =
    elim (eqb_tells (p.live + 1) (capacity c)) [
      | inl w ↦ rw w.0 (last_one l c p ps small s e)
      | inr w ↦ rw w.0 (one_more l c p ps small s e w.1)
    ]

pub granted_keeps : (l : Layout) (t : ℕ) → 63 ≤ t → t ≤ 64 → IsSound l → l.usable ≡ [] → IsSound (granted l t)
granted_keeps l t low high s none =
    let numbered = s.arenas_numbered in
    let fresh : get_or l.dry (l.given + 1) None ≡ None = get_or_past l.dry (l.given + 1) None (omega arith) in
    let dry_held : (a : ℕ) → get_or (l.dry ++ None ∷ []) a None ≡ get_or l.dry a None = get_or_more l.dry in
    let others : (a : ℕ) → pools_of a l ≡ total_or (get_or l.dry a None) = λ a. let w = rw none at (s.adds_up a) in omega arith in
    record {
      classes = s.classes;
      lives = s.lives;
      usable = (low, high, omega arith, omega arith, tt, tt);
      full = s.full;
      dry = λ a. rw (dry_held a) (s.dry a);
      pools_once = s.pools_once;
      pools_known = s.pools_known;
      arenas_once = λ a. rw (dry_held a) (elim (eqb_tells (l.given + 1) a) [
        | inl w ↦ rw w.0 (rw (← w.1) (rw fresh (omega arith)))
        | inr w ↦ rw w.0 (let v = s.arenas_once a in omega arith)
      ]);
      arenas_known = λ a h. elim (eqb_tells (l.given + 1) a) [ inl w ↦ absurd (omega arith) | inr w ↦ rw w.0 refl ];
      arenas_numbered = (rw length-append (omega arith), rw (dry_held 0) numbered.1, elim (eqb_tells (l.given + 1) 0) [ inl w ↦ absurd (omega arith) | inr w ↦ rw w.0 refl ]);
      adds_up = λ a. rw (dry_held a) (let o = others a in elim (eqb_tells (l.given + 1) a) [
        | inl w ↦ rw w.0 (omega arith)
        | inr w ↦ rw w.0 (omega arith)
      ]);
      out = let w = rw none at s.out in rw (tally-append dry_times l.dry (None ∷ [])) (omega arith);
      most = let w = rw none at s.out in let v = rw none at s.most in rw (tally-append dry_times l.dry (None ∷ [])) (omega arith);
    }

-- what a new pool in the list of its class changes
record Opened (l : Layout) (c : ℕ) (n : ℕ) : Type 0 where
  lives : (d : ℕ) → d < 32 → Lives (capacity d) (get_or (set l.used c (record { pool = length l.full; arena = n; live = 1 } ∷ [])) d [])
  full : (k : ℕ) → HasSomeClass (get_or (l.full ++ None ∷ []) k None)
  pools_once : (k : ℕ) → pool_times k (set l.used c (record { pool = length l.full; arena = n; live = 1 } ∷ [])) + full_times (get_or (l.full ++ None ∷ []) k None) ≤ 1
  pools_known : (k : ℕ) → length (l.full ++ None ∷ []) ≤ k → pool_times k (set l.used c (record { pool = length l.full; arena = n; live = 1 } ∷ [])) ≡ 0
  pools : (a : ℕ) → tally (tally (has_arena a)) (set l.used c (record { pool = length l.full; arena = n; live = 1 } ∷ [])) + tally (full_arena a) (l.full ++ None ∷ []) ≡ pools_of a l + one_if (eqb n a)

opened : (l : Layout) (c n : ℕ) → c < 32 → IsSound l → get_or l.used c [] ≡ [] → Opened l c n
opened l c n small s e =
    let inside : c < length l.used = omega (arith, s.classes) in
    let q : Used = record { pool = length l.full; arena = n; live = 1 } in
    let times : (k : ℕ) → pool_times k (set l.used c (q ∷ [])) ≡ pool_times k l.used + one_if (eqb (length l.full) k) = λ k. let w = swapped (is_pool k) l.used c _ (q ∷ []) inside e in omega arith in
    let room = many c small in
    record {
      lives = lives_set l.used c (q ∷ []) inside s.lives (omega arith, omega arith, tt);
      full = λ k. rw (get_or_more l.full k) (s.full k);
      pools_once = λ k. rw (get_or_more l.full k) (rw (times k) (elim (eqb_tells (length l.full) k) [
        | inl w ↦ rw w.0 (rw (get_or_past l.full k None (omega arith)) (let v = s.pools_known k (omega arith) in omega arith))
        | inr w ↦ rw w.0 (let v = s.pools_once k in omega arith)
      ]));
      pools_known = λ k h. let h2 : length l.full + 1 ≤ k = rw (length-append l.full (None ∷ [])) at h in rw (times k) (elim (eqb_tells (length l.full) k) [
        | inl w ↦ absurd (omega arith)
        | inr w ↦ rw w.0 (let v = s.pools_known k (omega arith) in omega arith)
      ]);
      pools = λ a. let w = swapped (has_arena a) l.used c _ (q ∷ []) inside e in let v = tally-append (full_arena a) l.full (None ∷ []) in omega arith;
    }

-- the last free pool of an arena is taken
place_dry : (l : Layout) (c : ℕ) (u : Usable) (us : List Usable) → c < 32 → IsSound l → get_or l.used c [] ≡ [] → l.usable ≡ u ∷ us → u.free ≡ 1 →
    IsSound (record l { usable = us; dry = set l.dry u.arena (Some u.total); used = set l.used c (record { pool = length l.full; arena = u.arena; live = 1 } ∷ []); full = l.full ++ None ∷ [] })
place_dry l c u us small s e first one =
    let o = opened l c u.arena small s e in
    let same = one_if_same u.arena in
    let usable : AreUsable (u ∷ us) = rw first at s.usable in
    let arenas_once : (a : ℕ) → is_arena a u + tally (is_arena a) us + dry_times (get_or l.dry a None) ≤ 1 = λ a. rw first at (s.arenas_once a) in
    let arenas_known : (a : ℕ) → l.given < a → is_arena a u + tally (is_arena a) us ≡ 0 = λ a h. rw first at (s.arenas_known a h) in
    let zeroth : is_arena 0 u + tally (is_arena 0) us ≡ 0 = rw first at s.arenas_numbered.2 in
    let adds : (a : ℕ) → free_in a u + tally (free_in a) us + pools_of a l ≡ total_in a u + tally (total_in a) us + total_or (get_or l.dry a None) = λ a. rw first at (s.adds_up a) in
    let counted : 1 + length us + tally dry_times l.dry + l.back ≡ l.given = let w = rw first at s.out in omega arith in
    let bounded : 1 + length us + tally dry_times l.dry ≤ l.most = let w = rw first at s.most in omega arith in
    let wet : get_or l.dry u.arena None ≡ None = only_none_total _ (let w = arenas_once u.arena in omega arith) in
    let within : u.arena < length l.dry = let w = arenas_known u.arena in let v = s.arenas_numbered.0 in grind arith in
    let above : u.arena ≢ 0 = λ z. let w : is_arena u.arena u + tally (is_arena u.arena) us ≡ 0 = subst (λ x. is_arena x u + tally (is_arena x) us ≡ 0) (sym z) zeroth in absurd (omega arith) in
    let times : (a : ℕ) → dry_times (get_or (set l.dry u.arena (Some u.total)) a None) ≡ dry_times (get_or l.dry a None) + one_if (eqb u.arena a) = held_more dry_times l.dry u.arena (Some u.total) within (rw wet refl) in
    let totals : (a : ℕ) → total_or (get_or (set l.dry u.arena (Some u.total)) a None) ≡ total_or (get_or l.dry a None) + cond (eqb u.arena a) u.total 0 = held_more total_or l.dry u.arena (Some u.total) within (rw wet refl) in
    let dries : tally dry_times (set l.dry u.arena (Some u.total)) ≡ tally dry_times l.dry + 1 = let w = rw wet at (tally-set dry_times l.dry u.arena (Some u.total) None within) in omega arith in
    record {
      classes = rw length-set s.classes;
      lives = o.lives;
      usable = usable.5;
      full = o.full;
      dry = held_set HasTotal l.dry u.arena (Some u.total) s.dry (usable.0, usable.1) within;
      pools_once = o.pools_once;
      pools_known = o.pools_known;
      arenas_once = λ a. let w = times a in let v = arenas_once a in omega arith;
      arenas_known = λ a h. let w = arenas_known a h in omega arith;
      arenas_numbered = (rw length-set s.arenas_numbered.0, rw (get_or-set_other l.dry u.arena 0 (Some u.total) None (λ z. above (sym z))) s.arenas_numbered.1, omega arith);
      adds_up = λ a. let w = totals a in let v = adds a in let q = o.pools a in elim (eqb_tells u.arena a) [
        | inl y ↦ let w2 = rw y.0 at w in let v2 = rw (y.0, one) at v in let q2 = rw y.0 at q in omega arith
        | inr y ↦ let w2 = rw y.0 at w in let v2 = rw y.0 at v in let q2 = rw y.0 at q in omega arith
      ];
      out = omega arith;
      most = omega arith;
    }

place_open : (l : Layout) (c : ℕ) (u : Usable) (us : List Usable) → c < 32 → IsSound l → get_or l.used c [] ≡ [] → l.usable ≡ u ∷ us → u.free ≢ 1 →
    IsSound (record l { usable = record u { free = u.free - 1 } ∷ us; used = set l.used c (record { pool = length l.full; arena = u.arena; live = 1 } ∷ []); full = l.full ++ None ∷ [] })
place_open l c u us small s e first more =
    let o = opened l c u.arena small s e in
    let usable : AreUsable (u ∷ us) = rw first at s.usable in
    let adds : (a : ℕ) → free_in a u + tally (free_in a) us + pools_of a l ≡ total_in a u + tally (total_in a) us + total_or (get_or l.dry a None) = λ a. rw first at (s.adds_up a) in
    record {
      classes = rw length-set s.classes;
      lives = o.lives;
      usable = (usable.0, usable.1, omega arith, omega arith, starts_less u.free (u.free - 1) us (omega arith) usable.4, usable.5);
      full = o.full;
      dry = s.dry;
      pools_once = o.pools_once;
      pools_known = o.pools_known;
      arenas_once = λ a. rw first at (s.arenas_once a);
      arenas_known = λ a h. rw first at (s.arenas_known a h);
      arenas_numbered = (s.arenas_numbered.0, s.arenas_numbered.1, rw first at s.arenas_numbered.2);
      adds_up = λ a. let v = adds a in let q = o.pools a in elim (eqb_tells u.arena a) [
        | inl y ↦ let v2 = rw y.0 at v in let q2 = rw y.0 at q in rw y.0 (omega arith)
        | inr y ↦ let v2 = rw y.0 at v in let q2 = rw y.0 at q in rw y.0 (omega arith)
      ];
      out = rw first at s.out;
      most = rw first at s.most;
    }

place_new_keeps : (l : Layout) (c : ℕ) (u : Usable) (us : List Usable) → c < 32 → IsSound l → get_or l.used c [] ≡ [] → l.usable ≡ u ∷ us → IsSound (place_new l c u us)
place_new_keeps l c u us small s e first =
    elim (eqb_tells u.free 1) [
      | inl w ↦ rw w.0 (place_dry l c u us small s e first w.1)
      | inr w ↦ rw w.0 (place_open l c u us small s e first w.1)
    ]

place_by_keeps : (l : Layout) (c : ℕ) (g : Grant) (ps : List Used) (us : List Usable) → c < 32 → IsSound l → pools_of_class l c ≡ ps → l.usable ≡ us → was_asked g ≡ (is_empty ps && is_empty us) → HasPools g → IsSound (place_by l c g ps us).layout
place_by_keeps l c g (p ∷ ps) us small s e f a h = place_used_keeps l c p ps small s e
place_by_keeps l c g [] (u ∷ us) small s e f a h = place_new_keeps l c u us small s e f
place_by_keeps l c (Granted t) [] [] small s e f a h = place_new_keeps (granted l t) c (new_arena l t) [] small (granted_keeps l t h.0 h.1 s f) e refl
place_by_keeps l c Refused [] [] small s e f a h = s
place_by_keeps l c NotAsked [] [] small s e f a h = cc

pub place_keeps : (l : Layout) (c : ℕ) (g : Grant) → c < 32 → FitsClass l c g → IsSound l → IsSound (place l c g).layout
place_keeps l c g small a s = place_by_keeps l c g _ _ small s refl refl a.asked a.pools
