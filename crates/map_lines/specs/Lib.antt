pub mod Limit
pub mod Points
pub mod Line
pub mod OpenTurns
