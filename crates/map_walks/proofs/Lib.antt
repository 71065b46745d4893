pub mod Clear
pub mod Ways
pub mod Straight
pub mod Stuck
