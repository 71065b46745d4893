pub mod Ways
pub mod Search
pub mod Laws
pub mod Worked
