pub mod Stretch
pub mod Largest
pub mod Search
pub mod Cases
pub mod Quarters
pub mod Entries
