mod Rows
mod Heads
pub mod Maps
pub mod EveryMap
