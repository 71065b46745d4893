pub mod Variants
pub mod States
pub mod Unchanged
pub mod Cases
pub mod Hold
