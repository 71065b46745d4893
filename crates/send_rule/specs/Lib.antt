pub mod Send
pub mod Link
pub mod Shown
pub mod Sparing
pub mod Along
pub mod Foreseen
pub mod Quiet
