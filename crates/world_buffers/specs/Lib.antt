pub mod Buffers
pub mod Leaving
pub mod Stepping
pub mod Following
pub mod Readers
