pub mod Digits
pub mod Scan
pub mod Exact
pub mod Places
pub mod Told
pub mod Lines
pub mod Every
mod Minus
