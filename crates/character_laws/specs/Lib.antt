pub mod Representable
pub mod Faithful
