pub mod Copies
pub mod Passing
pub mod Reading
