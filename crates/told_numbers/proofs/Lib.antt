pub mod Records
pub mod Seated
pub mod Ways
pub mod Shown
pub mod Readings
pub mod Refused
