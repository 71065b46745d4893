pub mod Rows
pub mod Hooks
pub mod Actions
pub mod Calls
pub mod LateNumbers
