mod Slots
mod Sites
mod Radix
mod Steps
