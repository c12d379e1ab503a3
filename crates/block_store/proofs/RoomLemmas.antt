-- Where a request leads, by the answers that fit it.
use Rattle.std.proofs.Common.{◌≡◌, ℕ, Bool, true, false, cond, Option, Some, None, refl, sym, ap, ◌∙◌, true≢false}
use Rattle.std.specs.Prelude.{◌&&◌, ◌||◌, not, IsNone}
use Rattle.mem_base.specs.declared.history.Ask.{Ask}
use Rattle.mem_base.specs.declared.history.Grant.{Grant}
use Rattle.mem_base.specs.declared.history.Grant.TheVariants as grant
use Rattle.mem_base.specs.declared.trace.Letter.{Letter}
use Rattle.mem_base.specs.declared.trace.Letter.TheVariants.{Raw, Mem, Obj}
use Rattle.layout_model.specs.Asks.{FitsClass, FitsRequest, class_asks, is_refused, raw_was_asked}
use Rattle.layout_model.specs.Asks.Request.{FromPools}
use Rattle.layout_model.specs.Layout.{Layout}
use Rattle.layout_model.specs.Place.{place}
use Rattle.layout_model.specs.Sizes.{class_of, is_small, need}
use Rattle.layout_model.proofs.CallerLemmas.{only_refusals_place_nothing}
use Rattle.event_model.specs.Blocks.{in_pool}
use Rattle.request_model.specs.Decision.{request}
use Rattle.event_model.specs.Memory.{Room, room_for, pool_home, raw_home}

is_none : {X : Type 0} (o : Option X) → IsNone o → o ≡ None
is_none None h = refl
is_none (Some x) h = absurd (true≢false h)

refused_is : (g : Grant) → is_refused g ≡ true → g ≡ grant.Refused
refused_is grant.NotAsked h = absurd (true≢false (sym h))
refused_is grant.Refused h = refl
refused_is (grant.Granted pools) h = absurd (true≢false (sym h))

-- ---- of the pools

abbrev pool_room : Layout → ℕ → Grant → Ask → Room
pool_room l m arena raw = record { home = pool_home (place l (class_of m) arena).pool raw; layout = (place l (class_of m) arena).layout }

abbrev raw_room : Layout → Ask → Room
raw_room l raw = record { home = raw_home raw; layout = l }

-- a pool gave the block
pools_gave : (l : Layout) (m : ℕ) (arena : Grant) (raw : Ask) (k : ℕ) → FitsRequest l (FromPools m) arena raw → raw_was_asked raw ≡ false → (place l (class_of m) arena).pool ≡ Some k
    → room_for l (FromPools m) arena raw ≡ record { home = Some (in_pool k); layout = (place l (class_of m) arena).layout }
pools_gave l m arena raw k fits quiet gave = by (is_small m) refl
  where
    by : (b : Bool) → is_small m ≡ b → cond b (pool_room l m arena raw) (raw_room l raw) ≡ record { home = Some (in_pool k); layout = (place l (class_of m) arena).layout }
    by true e = ap (λ (o : Option ℕ). record { home = pool_home o raw; layout = (place l (class_of m) arena).layout }) gave
    by false e = absurd (true≢false (sym (sym quiet ∙ fits.raw_asked ∙ ap (λ (b : Bool). not b || is_refused arena) e)))

-- the raw source was asked
raw_came : (l : Layout) (m : ℕ) (arena : Grant) (raw : Ask) → FitsRequest l (FromPools m) arena raw → raw_was_asked raw ≡ true → room_for l (FromPools m) arena raw ≡ raw_room l raw
raw_came l m arena raw fits asked = by (is_small m) refl
  where
    by : (b : Bool) → is_small m ≡ b → cond b (pool_room l m arena raw) (raw_room l raw) ≡ raw_room l raw
    by true e =
        let refused : arena ≡ grant.Refused = refused_is arena (sym (ap (λ (b : Bool). not b || is_refused arena) e) ∙ sym fits.raw_asked ∙ asked) in
        let class : FitsClass l (class_of m) arena = record { asked = fits.arena_asked ∙ ap (λ (b : Bool). b && class_asks l (class_of m)) e; pools = fits.pools } in
        let nothing = only_refusals_place_nothing l (class_of m) arena class in
        let none : (place l (class_of m) arena).pool ≡ None = is_none (place l (class_of m) arena).pool (nothing.0.1 refused) in
        λ i. record { home = pool_home (none i) raw; layout = nothing.1 refused i }
    by false e = refl

-- ---- of a block

pub room_in_pool : (l : Layout) (v : Letter) (n : ℕ) (arena : Grant) (raw : Ask) (k : ℕ) → FitsRequest l (request v n) arena raw → raw_was_asked raw ≡ false → (place l (class_of (need n)) arena).pool ≡ Some k
    → room_for l (request v n) arena raw ≡ record { home = Some (in_pool k); layout = (place l (class_of (need n)) arena).layout }
room_in_pool l Raw n arena raw k fits quiet gave = absurd (true≢false (sym (sym quiet ∙ fits.raw_asked)))
room_in_pool l Mem n arena raw k fits quiet gave = pools_gave l (need n) arena raw k fits quiet gave
room_in_pool l Obj n arena raw k fits quiet gave = pools_gave l (need n) arena raw k fits quiet gave

pub room_in_raw : (l : Layout) (v : Letter) (n : ℕ) (arena : Grant) (raw : Ask) → FitsRequest l (request v n) arena raw → raw_was_asked raw ≡ true → room_for l (request v n) arena raw ≡ record { home = raw_home raw; layout = l }
room_in_raw l Raw n arena raw fits asked = refl
room_in_raw l Mem n arena raw fits asked = raw_came l (need n) arena raw fits asked
room_in_raw l Obj n arena raw fits asked = raw_came l (need n) arena raw fits asked
