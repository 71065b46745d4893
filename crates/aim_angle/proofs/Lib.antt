pub mod Values
pub mod Close
