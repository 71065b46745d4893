pub mod Sums
pub mod Tables
pub mod Areas
pub mod Numbers
pub mod Counts
pub mod Changes
pub mod Integers
