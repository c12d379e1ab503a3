mod Blocks
mod Got
