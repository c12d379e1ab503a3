pub mod Order
pub mod Snapshots
pub mod Rules
pub mod Occurrences
pub mod Stats
pub mod Compared
pub mod Laws
