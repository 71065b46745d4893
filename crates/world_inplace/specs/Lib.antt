pub mod Bodies
pub mod Ticks
pub mod Moves
pub mod Advance
