pub mod Equal
pub mod Filled
pub mod Messages
pub mod Removals
pub mod Accepted
