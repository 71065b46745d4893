pub mod Rows
pub mod Wraps
pub mod Adding
