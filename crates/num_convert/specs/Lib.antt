pub mod Whole
pub mod Convert
pub mod Near
pub mod Casts
pub mod Number
