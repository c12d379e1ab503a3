pub mod Homes
pub mod Slots
pub mod Store
pub mod Replies
pub mod Sources
pub mod Spots
