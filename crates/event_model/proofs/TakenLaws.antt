-- No more arenas are granted and no more pools taken than there are events.
use Rattle.std.proofs.Common.{ℕ, ◌+◌, ◌≤◌, Bool, true, false, cond, not, ◌&&◌, eqb, List, [], ◌∷◌, length}
use Rattle.std.proofs.Common.{get_or, set, Option, Some, None, arith}
use Rattle.std.proofs.lemmas.List.{length-set, length-append}
use Rattle.mem_base.specs.declared.history.Grant.{Grant}
use Rattle.mem_base.specs.declared.history.Grant.TheVariants.{NotAsked, Refused, Granted}
use Rattle.mem_base.specs.declared.history.Entry.{Entry}
use Rattle.trace_model.specs.Plain.{PlainTrack}
use Rattle.layout_model.specs.Layout.{Layout, Usable, Used, Full}
use Rattle.layout_model.specs.Place.{place_by, pools_of_class}
use Rattle.layout_model.specs.Sizes.{capacity, class_of}
use Rattle.layout_model.specs.Unplace.{find_class, find_pool, find_arena, is_last, lowered, without_pool}
use Rattle.layout_model.specs.Unplace.{without_arena, put_arena, pool_back, arena_back_by, arena_back}
use Rattle.layout_model.specs.Unplace.{unplace_used, unplace_by}
use Rattle.event_model.specs.Events.{event}
use Rattle.event_model.specs.History.{opening, state_after}
use Rattle.event_model.specs.Laws.{FewAreTaken}
use Rattle.event_model.specs.State.{State}
use Rattle.event_model.proofs.EventLaws.{event_holds}

-- at most so many more arenas and pools than a layout has
record HasAtMost (l : Layout) (more : ℕ) (now : Layout) : Type 0 where
  pub given : now.given ≤ l.given + more
  pub full : length now.full ≤ length l.full + more

either_most : (l : Layout) (more : ℕ) (x y : Layout) (b : Bool) → HasAtMost l more x → HasAtMost l more y
    → HasAtMost l more (cond b x y)
either_most l more x y true h k = h
either_most l more x y false h k = k

-- ---- one more block

place_most : (l : Layout) (c : ℕ) (g : Grant) (ps : List Used) (us : List Usable) → HasAtMost l 1 (place_by l c g ps us).layout
place_most l c g (p ∷ ps) us =
    either_most l 1
    (record l { used = set l.used c ps; full = set l.full p.pool (Some (record { class = c; arena = p.arena })) })
    (record l { used = set l.used c (record p { live = p.live + 1 } ∷ ps) })
    (eqb (p.live + 1) (capacity c))
    (record { given = omega arith; full = omega (arith, length-set l.full p.pool (Some (record { class = c; arena = p.arena }))) })
    (record { given = omega arith; full = omega arith })
place_most l c g [] (u ∷ us) = record { given = omega arith; full = omega (arith, length-append l.full (None ∷ [])) }
place_most l c (Granted total) [] [] = record { given = omega arith; full = omega (arith, length-append l.full (None ∷ [])) }
place_most l c Refused [] [] = record { given = omega arith; full = omega arith }
place_most l c NotAsked [] [] = record { given = omega arith; full = omega arith }

-- ---- one block less

back_most : (l : Layout) (u : Usable) → HasAtMost l 0 (pool_back l u)
back_most l u =
    either_most l 0
    (record l { usable = without_arena u.arena l.usable; back = l.back + 1 })
    (record l { usable = put_arena (record u { free = u.free + 1 }) (without_arena u.arena l.usable) })
    (eqb (u.free + 1) u.total && not (is_last u.arena l.usable))
    (record { given = omega arith; full = omega arith })
    (record { given = omega arith; full = omega arith })

arena_most : (l : Layout) (a : ℕ) (o : Option ℕ) (u : Option Usable) → HasAtMost l 0 (arena_back_by l a o u)
arena_most l a (Some total) u = record { given = omega arith; full = omega arith }
arena_most l a None (Some u) = back_most l u
arena_most l a None None = record { given = omega arith; full = omega arith }

used_most : (l : Layout) (k c : ℕ) (o : Option Used) → HasAtMost l 0 (unplace_used l k c o)
used_most l k c None = record { given = omega arith; full = omega arith }
used_most l k c (Some p) =
    let less : Layout = record l { used = set l.used c (without_pool k (pools_of_class l c)) } in
    let most = arena_most less p.arena (get_or less.dry p.arena None) (find_arena p.arena less.usable) in
    either_most l 0 (arena_back less p.arena)
    (record l { used = set l.used c (lowered k (pools_of_class l c)) })
    (eqb p.live 1)
    (record { given = most.given; full = most.full })
    (record { given = omega arith; full = omega arith })

unplace_most : (l : Layout) (k : ℕ) (o : Option Full) → HasAtMost l 0 (unplace_by l k o)
unplace_most l k (Some f) = record { given = omega arith; full = omega (arith, length-set l.full k None) }
unplace_most l k None =
    let c = find_class k l.used in
    used_most l k c (find_pool k (pools_of_class l c))

-- ---- events

event_most : (tracks : List PlainTrack) (s : State) (e : Entry) → HasAtMost s.held.layout 1 (event tracks s e).0.held.layout
event_most tracks s e =
    let l = s.held.layout in
    event_holds (HasAtMost l 1) tracks s e
    (record { given = omega arith; full = omega arith })
    (λ m is small. place_most l (class_of m) e.arena (pools_of_class l (class_of m)) l.usable)
    (λ now k here.
    let most = unplace_most now k (get_or now.full k None) in
    record { given = omega (arith, most.given, here.given); full = omega (arith, most.full, here.full) })

after_most : (tracks : List PlainTrack) (s : State) (es : List Entry)
    → HasAtMost s.held.layout (length es) (state_after tracks s es).held.layout
after_most tracks s [] = record { given = omega arith; full = omega arith }
after_most tracks s (e ∷ es) =
    let one = event_most tracks s e in
    let rest = after_most tracks (event tracks s e).0 es in
    record { given = omega (arith, one.given, rest.given); full = omega (arith, one.full, rest.full) }

pub few_taken : FewAreTaken
few_taken tracks es =
    let most = after_most tracks (opening tracks) es in
    (omega (arith, most.given), omega (arith, most.full))
