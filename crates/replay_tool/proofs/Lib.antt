mod Ends
mod Kept
mod Promises
mod RunLemmas
mod ServedLaws
mod Texts
