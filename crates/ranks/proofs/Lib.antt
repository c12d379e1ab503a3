mod Lists
mod Moves
mod Growing
