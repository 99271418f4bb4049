mod Counting
mod Sizes
mod Putting
mod Generations
