pub mod CallerLemmas
pub mod Addresses
pub mod Lists
pub mod Trees
