pub mod Packed
pub mod Unpacked
pub mod Laws
pub mod Lent
pub mod Writing
