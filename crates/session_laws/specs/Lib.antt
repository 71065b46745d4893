pub mod Session
pub mod Output
pub mod Played
