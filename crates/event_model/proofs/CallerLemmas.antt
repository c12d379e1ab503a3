-- What proofs of other crates may cite.
pub use Rattle.event_model.proofs.DeedLaws.{effect_keeps_tracing, act_answers, act_blocks, act_frames, act_layout}
pub use Rattle.event_model.proofs.DeedLaws.{act_owner, act_snapshots, act_traces}
pub use Rattle.event_model.proofs.FaultLaws.{ends_in_fault}
pub use Rattle.event_model.proofs.HistoryLaws.{state_push, legal_push}
pub use Rattle.event_model.proofs.LeftLaws.{leaves_less, legal_short}
pub use Rattle.event_model.proofs.PlanLaws.{planned_more, heeds_more}
pub use Rattle.event_model.proofs.TakenLaws.{few_taken}
pub use Rattle.event_model.proofs.ScheduleLaws.{follows_push, takes_ready}
