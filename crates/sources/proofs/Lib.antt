pub mod CallerLemmas
mod Plans
mod Rows
mod Slots
mod BitLaws
mod Bitmap
