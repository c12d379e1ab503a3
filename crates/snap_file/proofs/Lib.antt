mod Cuts
mod Growth
mod Joins
mod LineSteps
mod PushSteps
mod RowSteps
mod WordSteps
