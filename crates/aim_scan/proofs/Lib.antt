pub mod Below
pub mod Difference
pub mod Upright
pub mod Starts
