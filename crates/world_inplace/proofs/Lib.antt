pub mod Read
pub mod Rows
pub mod Speeds
pub mod Ticked
pub mod Moved
pub mod Advanced
