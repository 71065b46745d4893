pub mod Sizes
pub mod Unrecorded
mod Rows
mod Signs
