-- What a table is, how it is read from its text, and what its rows say to what is asked.
pub mod Bounds
pub mod Absent
pub mod Row
pub mod Index
pub mod Setting
pub mod Zone
pub mod Table
pub mod FirstMatch
pub mod Reach
pub mod Section
pub mod Fault
pub mod Tree
pub mod Part
pub mod TableText
