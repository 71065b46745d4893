pub mod Holding
pub mod Proved
