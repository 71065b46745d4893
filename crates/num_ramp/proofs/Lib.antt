pub mod Exact
pub mod Bits
pub mod Cases
