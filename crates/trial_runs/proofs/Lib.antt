pub mod Sides
pub mod Worlds
pub mod Steering
pub mod Noting
pub mod OneTurn
pub mod Joins
pub mod Answers
