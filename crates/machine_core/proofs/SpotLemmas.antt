-- The spots of a machine's blocks are those of its store.
use Rattle.std.proofs.Common.{◌≡◌, ℕ, ◌<◌, cond, List, get_or, Option, None, refl, sym, ap, subst, ◌∙◌, arith}
use Rattle.std.specs.Prelude.{is_some}
use Rattle.mem_base.specs.declared.history.Entry.{Entry}
use Rattle.mem_base.specs.declared.texts.TextId.{TextId}
use Rattle.mem_base.specs.declared.trace.Trace.{Trace}
use Rattle.trace_model.specs.Plain.{plain}
use Rattle.raw_region.specs.Region.{PieceView}
use Rattle.extents.specs.Extent.{piece_extent}
use Rattle.event_model.specs.Blocks.{Block}
use Rattle.event_model.specs.History.{last_state}
use Rattle.block_store.specs.Spots.{AreSpots, LiesInOne, Living, living}
use Rattle.block_store.specs.declared.spot.Spot.{Spot}
use Rattle.machine_core.specs.Spots.{living_in}
use Rattle.machine_core.specs.Stands.{Stands}
use Rattle.machine_core.specs.View.{MachineView}
use Rattle.machine_core.specs.declared.held.Held.{Held as Holding}
use Rattle.machine_core.specs.declared.progress.Progress.{Progress}
use Rattle.machine_core.proofs.NameLemmas.{name_holds}

-- spots of the same blocks, where a number's block is told otherwise
same_spots : (a b : Living) (spots : List Spot) → b.count ≡ a.count → b.pieces ≡ a.pieces → b.regions ≡ a.regions
    → ((name : TextId) → name.0 < a.count → b.block_of name ≡ a.block_of name) → AreSpots a spots → AreSpots b spots
same_spots a b spots many pieces regions same are = record {
  each = λ spot has.
      let s = are.each spot has in
      record {
        known = omega (arith, many, s.known);
        piece = s.piece;
        memory = ap (λ (l : List (Option PieceView)). get_or l spot.name.0 None) pieces ∙ s.memory;
        place = s.place;
        len = s.len;
        aligned = s.aligned;
        held = subst (LiesInOne (piece_extent s.piece)) (sym regions) s.held;
        block = s.block;
        live = same spot.name s.known ∙ s.live;
        room = s.room;
        image = s.image;
      };
  one = λ name lt.
      let known : name.0 < a.count = omega (arith, lt, many) in
      are.one name known ∙ ap (λ (o : Option Block). cond (is_some o) 1 0) (sym (same name known));
  apart = are.apart;
  ordered = are.ordered;
}

-- what contracts see of these fields
abbrev pub view_of : Trace → List Entry → List ℕ → Holding → MachineView
view_of trace es picks now =
    record {
      trace = trace;
      entries = es;
      picks = picks;
      arenas = now.store.arenas;
      raws = now.store.raws;
      pieces = now.store.pieces;
    }

pub spots_are : (picks : List ℕ) (trace : Trace) (es : List Entry) (now : Holding) (progress : Progress)
    (faulted : _) → Stands trace es now progress faulted → (spots : List Spot) → AreSpots (living now.store) spots
    → AreSpots (living_in (view_of trace es picks now)) spots
spots_are picks trace es now progress faulted stands spots are =
    same_spots (living now.store) (living_in (view_of trace es picks now)) spots (sym stands.held.blocks.size) refl refl
    (λ name lt. name_holds trace.texts now.store.blocks (last_state (plain trace).tracks es).held.blocks name
    stands.held.blocks lt) are
