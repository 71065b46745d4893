pub mod Reading
pub mod Unique
pub mod Every
pub mod Example
pub mod SoFar
pub mod Whole
pub mod Ends
pub mod Within
