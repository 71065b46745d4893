pub mod Power
pub mod Ramp
