pub mod Direction
pub mod Inputs
