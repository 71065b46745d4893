pub mod Loop
pub mod Kept
pub mod Last
pub mod Mapped
pub mod Parts
pub mod Own
pub mod Tests
pub mod Each
