pub mod Near
pub mod Soonest
