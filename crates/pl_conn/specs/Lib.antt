pub mod Solo
pub mod Desks
pub mod Materialising
pub mod Conversation
pub mod Resting
-- used by the code alone: replies that are not yet written, and workers
pub mod Gathering
pub mod Serving
pub mod Workers
pub mod Lines
