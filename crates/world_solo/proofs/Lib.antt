pub mod Free
pub mod Seat
pub mod Step
pub mod Calls
pub mod Seatless
pub mod Solo
pub mod Computed
pub mod Worked
