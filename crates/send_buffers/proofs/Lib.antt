pub mod Kept
pub mod Taken
pub mod Fit
pub mod KnownIds
pub mod Arrivals
pub mod Reached
