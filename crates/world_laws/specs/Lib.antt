pub mod Spikes
pub mod Walks
pub mod Holding
pub mod Records
pub mod Start
pub mod Reading
pub mod Flight
pub mod Order
