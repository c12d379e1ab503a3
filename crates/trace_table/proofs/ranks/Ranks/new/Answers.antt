use Rattle.std.proofs.Common.{List, ℕ, ◌≢◌, sym, subst}
use Rattle.std.specs.List.{AllPairs}
use Rattle.trace_table.specs.Ranks.{ArePlaces}
use Rattle.trace_table.proofs.RankLemmas.{order_differs, places_are_ranks}
use Rattle.trace_table.proofs.ranks.Ranks.new.Goals as goal

pub places_of-requires-clause-apart : goal.places_of-requires-clause-apart
places_of-requires-clause-apart c =
    subst (λ (order : List ℕ). AllPairs (λ m n. m ≢ n) order) (sym c.deref.ensures.value)
    (order_differs c.args.texts.now c.in_ok-order.order.items c.in_ok-order.ensures)

pub returns : goal.returns
returns c =
    let places = c.in_ok-places.places.items in
    places_are_ranks c.args.texts.now c.in_ok-order.order.items places c.in_ok-order.ensures
    (subst (λ (order : List ℕ). ArePlaces order places) c.deref.ensures.value c.in_ok-places.ensures)
