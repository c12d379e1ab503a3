pub mod CallerLemmas
mod Tallies
mod Lists
mod Place
mod Unplace
mod Empty
mod Classes
mod Geometry
mod Asks
mod Examples
