pub mod Cases
pub mod Intervals
