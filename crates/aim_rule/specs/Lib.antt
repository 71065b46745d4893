pub mod Angle
pub mod Search
pub mod Scan
