pub mod Line
pub mod Session
pub mod Start
