pub mod CallerLemmas
mod OperandLaws
mod WordLaws
mod RuleLaws
mod ActionLaws
mod LineLaws
mod LineSteps
mod NameLaws
mod TrackLaws
mod TraceLaws
mod TableLaws
mod SnapshotLaws
mod CauseLaws
mod StopLaws
