pub mod Passes
mod Matching
mod Rows
mod Taken
