pub mod Records
pub mod Ways
pub mod Shown
pub mod Readings
pub mod Refused
