pub mod Reach
pub mod Gap
pub mod Crossing
pub mod Corner
pub mod Quantized
pub mod Cases
