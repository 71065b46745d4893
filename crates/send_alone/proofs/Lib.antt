pub mod Only
pub mod Lonely
pub mod Alone
pub mod Copies
