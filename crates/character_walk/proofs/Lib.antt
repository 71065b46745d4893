pub mod Far
pub mod Apart
pub mod Mixed
pub mod Unmet
pub mod Interval
