pub mod Placed
pub mod Held
pub mod Gathered
pub mod Seat
pub mod Refused
pub mod Scan
