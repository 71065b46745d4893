pub mod Maps
pub mod Corners
pub mod Quantized
pub mod Edges
pub mod Counts
