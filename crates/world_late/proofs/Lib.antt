pub mod Changes
pub mod Subjects
pub mod Seatwise
pub mod Actions
pub mod Calls
pub mod Late
pub mod Arrival
pub mod Worked
