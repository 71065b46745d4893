pub mod Area
pub mod Calls
pub mod Laws
pub mod Integers
