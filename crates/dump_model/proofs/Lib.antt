pub mod CallerLemmas
mod OperandLaws
mod OrderLaws
mod LineSteps
mod LineLaws
mod LinesAgain
mod DumpLaws
