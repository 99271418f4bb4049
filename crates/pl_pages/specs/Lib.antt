pub mod Page
pub mod State
pub mod Kept
pub mod Index
pub mod Replay
pub mod Codes
pub mod Ends
pub mod Laws
