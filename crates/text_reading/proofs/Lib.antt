pub mod Calls
mod Codes
pub mod EveryCall
