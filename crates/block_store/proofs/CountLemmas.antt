-- How many blocks there are, how many bytes they have, and how many lie in pools and in raw regions.
use Rattle.std.proofs.Common.{◌≡◌, ℕ, ◌+◌, ◌-◌, List, [], ◌∷◌, length, Option, Some, None, refl, sym, ap, ◌∙◌}
use Rattle.std.proofs.Common.{arith, inl, inr}
use Rattle.std.specs.Prelude.{sum_by}
use Rattle.std.proofs.lemmas.List.Sums.{sum_by-cons}
use Rattle.mem_base.specs.declared.reply.Counts.{Counts}
use Rattle.extents.specs.Extent.{Extent}
use Rattle.extents.specs.Sums.{tally, Has}
use Rattle.extents.proofs.CallerLemmas.{has_left, tally-append, tally_zero}
use Rattle.debug_guard.specs.Guard.{Guard}
use Rattle.layout_model.specs.View.{shape_of}
use Rattle.event_model.specs.Blocks.{Block, Home, in_pool, pool_times, raw_times}
use Rattle.domain_api.specs.Domains.{view_of_both}
use Rattle.domain_api.specs.Held.{DomainsView, HasCounts}
use Rattle.block_store.specs.Homes.{Places, home_at}
use Rattle.block_store.specs.Slots.{IsStore, block_in, block_of, blocks_in, blocks_of, data_in, extents_of, loans_of}
use Rattle.block_store.specs.Store.{counts_in, live_in, pooled_in, raw_in, shape_in, size_in, view_of}
use Rattle.block_store.proofs.HomeLemmas.{its_pool}
use Rattle.block_store.proofs.StoredLemmas.{stored_long}

-- ---- a measure of homes, over the blocks and over their memory

module _ (f : Home → ℕ) (of : Option Block → ℕ) (none : of None ≡ 0) (some : (b : Block) → of (Some b) ≡ f b.home) where
  by_extents : (places : Places) (slots : List (Option Guard)) → sum_by of (blocks_of places slots) ≡ tally (λ e. f (home_at places e.place)) (extents_of slots)
  by_extents places [] = refl
  by_extents places (None ∷ ss) = omega (arith, none, by_extents places ss, sum_by-cons of None (blocks_of places ss))
  by_extents places (Some g ∷ ss) =
      omega (arith, some (block_of places g), by_extents places ss, sum_by-cons of (block_in places (Some g)) (blocks_of places ss))

-- a measure that is 1 at each item of a list
tally_same : (f : Extent → ℕ) (es : List Extent) → ((e : Extent) → Has e es → f e ≡ 1) → tally f es ≡ length es
tally_same f [] is = refl
tally_same f (e ∷ es) is = omega (arith, is e (inl refl), tally_same f es (λ d has. is d (inr has)))

-- ---- blocks in pools and in raw regions

module _ (slots : List (Option Guard)) (d : DomainsView) (store : IsStore slots d) where
  abbrev places : Places
  places = d.heap.places

  abbrev at_home : (Home → ℕ) → Extent → ℕ
  at_home f e = f (home_at places e.place)

  all_homes : (f : Home → ℕ) → tally (at_home f) (extents_of slots) ≡ tally (at_home f) d.heap.loans + tally (at_home f) d.raws
  all_homes f = store.stored.all (at_home f) ∙ tally-append (at_home f) d.heap.loans d.raws

  pooled_home : (e : Extent) → Has e d.heap.loans → (k : ℕ) × (home_at places e.place ≡ in_pool k)
  pooled_home e has =
      let p = its_pool d.heap e store.sound.heap_is has (stored_long slots (loans_of d) e store.stored (has_left e d.heap.loans d.raws has)) in
      (p.pool, p.home)

  pooled_is : sum_by pooled_in (blocks_of places slots) ≡ length d.heap.loans
  pooled_is =
      let pooled : tally (at_home pool_times) d.heap.loans ≡ length d.heap.loans = tally_same (at_home pool_times) d.heap.loans (λ e has. ap pool_times (pooled_home e has).1) in
      let none : tally (at_home pool_times) d.raws ≡ 0 = tally_zero (at_home pool_times) d.raws (λ e has. ap pool_times (store.raw_homes e has)) in
      omega (arith, by_extents pool_times pooled_in refl (λ b. refl) places slots, all_homes pool_times, pooled, none)

  raws_are : sum_by raw_in (blocks_of places slots) ≡ length d.raws
  raws_are =
      let none : tally (at_home raw_times) d.heap.loans ≡ 0 = tally_zero (at_home raw_times) d.heap.loans (λ e has. ap raw_times (pooled_home e has).1) in
      let raws : tally (at_home raw_times) d.raws ≡ length d.raws = tally_same (at_home raw_times) d.raws (λ e has. ap raw_times (store.raw_homes e has)) in
      omega (arith, by_extents raw_times raw_in refl (λ b. refl) places slots, all_homes raw_times, none, raws)

  -- the shape that the domains show is that of the blocks
  pub shape_is : view_of_both d ≡ shape_in (view_of slots d)
  shape_is = λ i. shape_of (sym pooled_is i) (sym raws_are i) d.heap.layout

  -- so are the counts
  pub counts_are : (c : Counts) → HasCounts d c → c ≡ counts_in (view_of slots d)
  counts_are c has =
      let out : c.out ≡ d.heap.layout.given - d.heap.layout.back = omega (arith, has.out, store.sound.heap_is.out) in
      λ i. record {
        given = has.given i;
        back = has.back i;
        out = out i;
        most = has.most i;
        pooled = (has.pooled ∙ sym pooled_is) i;
      }

-- ---- sums over slots and over their blocks

pub live_is : (places : Places) (slots : List (Option Guard)) → sum_by blocks_in slots ≡ sum_by live_in (blocks_of places slots)
live_is places [] = refl
live_is places (None ∷ ss) = omega (arith, live_is places ss, sum_by-cons blocks_in None ss, sum_by-cons live_in None (blocks_of places ss))
live_is places (Some g ∷ ss) = omega (arith, live_is places ss, sum_by-cons blocks_in (Some g) ss, sum_by-cons live_in (block_in places (Some g)) (blocks_of places ss))

pub size_is : (places : Places) (slots : List (Option Guard)) → sum_by data_in slots ≡ sum_by size_in (blocks_of places slots)
size_is places [] = refl
size_is places (None ∷ ss) = omega (arith, size_is places ss, sum_by-cons data_in None ss, sum_by-cons size_in None (blocks_of places ss))
size_is places (Some g ∷ ss) = omega (arith, size_is places ss, sum_by-cons data_in (Some g) ss, sum_by-cons size_in (block_in places (Some g)) (blocks_of places ss))
