mod Kept
pub mod Listed
