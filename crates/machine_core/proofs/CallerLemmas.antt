-- What proofs of other crates may cite: the operations of a trace, as their actions.
use Rattle.std.proofs.Common.{◌≡◌, ℕ, List, slice_get, Option, Some, None, refl, ap, ◌∙◌}
use Rattle.std.specs.Option.{option_map, option_and_then}
use Rattle.std.proofs.lemmas.Option.{slice_get-map}
use Rattle.mem_base.specs.Name.{Name}
use Rattle.mem_base.specs.declared.trace.Track.{Track}
use Rattle.trace_model.specs.Plain.{track_of, tracks_of, action_of}
use Rattle.event_model.specs.Events.{action_after}

-- the next action is the next operation, with its name written out
pub action_is : (texts : List Name) (ts : List Track) (t at : ℕ)
    → action_after (tracks_of texts ts) t at ≡ option_map (action_of texts)
    (option_and_then (λ track. slice_get track.ops at) (slice_get ts t))
action_is texts ts t at =
    ap (option_and_then (λ track. slice_get track.actions at)) (slice_get-map (track_of texts) ts t)
    ∙ by (slice_get ts t)
  where
    by : (o : Option Track) → option_and_then (λ track. slice_get track.actions at) (option_map (track_of texts) o)
        ≡ option_map (action_of texts) (option_and_then (λ track. slice_get track.ops at) o)
    by None = refl
    by (Some track) = slice_get-map (action_of texts) track.ops at
