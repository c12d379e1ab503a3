pub mod CallerLemmas
pub mod Groups
pub mod Keeping
pub mod Order
pub mod Rising
pub mod Snapping
