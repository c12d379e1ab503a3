mod Decimals
mod Parts
