pub mod Calls
pub mod Parts
