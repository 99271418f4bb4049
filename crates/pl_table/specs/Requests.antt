-- What a request is, and what rows look at in it.
pub mod Bounds
pub mod Ops
pub mod Request
pub mod Acts
pub mod Asking
