pub mod Lines
pub mod Text
pub mod FaultText
pub mod Admin
pub mod AnswerText
pub mod Answering
pub mod Start
pub mod Played
